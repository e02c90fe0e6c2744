use Rattle.remote_ctx.proofs.Turning.{keeps_as}
use Rattle.remote_ctx.proofs.hosted.Hosted.keep.Goals as goal

pub returns-in-Some : goal.returns-in-Some
returns-in-Some c = keeps_as _ _ _ _ _ _ _ c.in-Some.ensures c.keeping.ensures c.turn_to.ensures
