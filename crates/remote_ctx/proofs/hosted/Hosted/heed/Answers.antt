use Rattle.remote_ctx.proofs.Turning.{heeds_as}
use Rattle.remote_ctx.proofs.hosted.Hosted.heed.Goals as goal

pub returns-clause-ok : goal.returns-clause-ok
returns-clause-ok c = heeds_as _ _ _ _ _ c.has_room-room.ensures c.stand.ensures c.in_ok-mail.ensures
