use Rattle.user_ctx.proofs.Single.{one_step}
use Rattle.user_ctx.proofs.user.User.step.Goals as goal

pub returns : goal.returns
returns c = one_step c.run-stop.result.1 c.run-stop.result.0 c.args.self.now c.run-stop.new.self c.run-stop.ensures.went c.run-stop.ensures.whole c.run-stop.ensures.short c.run-stop.ensures.stop
