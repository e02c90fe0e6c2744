use Rattle.std.proofs.Common.{sym, ◌∙◌}
use Rattle.remote_ctx.proofs.Turning.{leaves_as}
use Rattle.remote_ctx.proofs.hosted.Hosted.depart.Goals as goal

pub returns-in-Some : goal.returns-in-Some
returns-in-Some c = leaves_as _ _ _ _ (sym c.is_asking.ensures ∙ c.if-not-is_asking.false) c.in-Some.ensures
