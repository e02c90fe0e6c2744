use Rattle.std.proofs.Common.{refl}
use Rattle.page_set.proofs.Entries.{fetched}
use Rattle.page_set.proofs.entry.fetch.Goals as goal

pub returns-in-Some : goal.returns-in-Some
returns-in-Some c = fetched c.args.page c.args.entries.now c.put_back.new.entries _ c.args.leaves.now.items c.put_back.new.leaves.items c.take_out.new.leaves.items c.in-Some.entry c.requires.page c.put_back.ensures c.in-Some.ensures refl
