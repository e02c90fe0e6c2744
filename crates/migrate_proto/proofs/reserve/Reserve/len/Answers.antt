use Rattle.std.proofs.Common.{sym, ◌∙◌}
use Rattle.migrate_proto.proofs.KeptLemmas.{len_is}
use Rattle.migrate_proto.proofs.reserve.Reserve.len.Goals as goal

pub returns-clause-count : goal.returns-clause-count
returns-clause-count c = c.len.ensures ∙ (c.self.inside.entries.ok.0 ∙ sym (len_is c.self.inside.entries.items c.args.self.now _ c.self.inside.total c.self.view_is c.self.invariant))
