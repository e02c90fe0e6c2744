use Rattle.std.proofs.Common.{arith, refl}
use Rattle.page_set.proofs.Entries.{uncached_loads}
use Rattle.page_set.proofs.entry.uncached_load_4.Goals as goal

pub returns-in-Ok : goal.returns-in-Ok
returns-in-Ok c = uncached_loads 4 c.args.entries.now c.args.leaves.now.items c.args.addr c.in-Ok.word (c.if-not-is_uncached.ensures refl) (omega arith) (omega arith) c.in-Ok.ensures
