use Rattle.remote_ctx.proofs.Turning.{pokes_as}
use Rattle.remote_ctx.proofs.hosted.Hosted.note_poke.Goals as goal

pub returns-in-Some : goal.returns-in-Some
returns-in-Some c = pokes_as _ _ _ _ c.in-Some.ensures c.stand.ensures
