use Rattle.remote_ctx.proofs.Turning.{ends_by, goes_on}
use Rattle.remote_ctx.proofs.hosted.Hosted.finish.Goals as goal

pub returns-then-done : goal.returns-then-done
returns-then-done c = ends_by _ _ _ _ _ _ c.requires c.if-done.true c.take_out-context.ensures

pub returns-else-done : goal.returns-else-done
returns-else-done c = goes_on _ _ _ _ _ c.if-done.false c.resume.ensures
