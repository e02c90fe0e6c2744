use Rattle.remote_ctx.proofs.Turning.{resumes_as}
use Rattle.remote_ctx.proofs.hosted.Hosted.resume.Goals as goal

pub returns : goal.returns
returns c = resumes_as _ _ _ _ c.args.kept c.args.done.now _ c.resumed.ensures c.reply.ensures c.stand.ensures
