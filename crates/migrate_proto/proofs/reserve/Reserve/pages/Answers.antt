use Rattle.migrate_proto.proofs.KeptLemmas.{total_is}
use Rattle.migrate_proto.proofs.reserve.Reserve.pages.Goals as goal

pub returns : goal.returns
returns c = total_is c.self.inside.entries.items c.args.self.now _ c.self.inside.total c.self.view_is c.self.invariant
