use Rattle.remote_ctx.proofs.Turning.{stands_as}
use Rattle.remote_ctx.proofs.hosted.Hosted.turn_to.Goals as goal

pub returns : goal.returns
returns c = stands_as _ _ _ _ _ c.is_poked-poked.ensures c.stand.ensures
