use Rattle.std.proofs.Common.{◌==◌, sym, ap, ◌∙◌}
use Rattle.std.specs.List.{position}
use Rattle.migrate_proto.proofs.KeptLemmas.{placed_is}
use Rattle.migrate_proto.proofs.reserve.Reserve.has.Goals as goal

pub returns : goal.returns
returns c =
    let at = c.place_of.ensures ∙ ap (position (λ e. e.0 == c.args.pid)) c.deref.ensures.value in
    let e = c.is_some.ensures ∙ placed_is c.self.inside.entries.items c.args.self.now _ c.self.inside.total c.self.view_is c.self.invariant c.args.pid c.place_of.result at in
    (λ t. sym e ∙ t, λ t. e ∙ t)
