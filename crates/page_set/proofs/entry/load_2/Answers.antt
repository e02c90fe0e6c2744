use Rattle.std.proofs.Common.{arith}
use Rattle.page_set.proofs.Entries.{cached_loads}
use Rattle.page_set.proofs.entry.load_2.Goals as goal

pub returns-in-Some : goal.returns-in-Some
returns-in-Some c = cached_loads 2 c.args.entries.now c.args.leaves.now.items c.args.addr c.in-Some.frame.now c.number_2.result c.in-Some.ensures.found (omega arith) (omega (arith, c.in-Some.ensures.within)) c.number_2.ensures
