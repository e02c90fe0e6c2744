use Rattle.user_ctx.proofs.Running.{ran_on}
use Rattle.user_ctx.proofs.steps.run.Goals as goal

pub returns-in-Done-clause-went : goal.returns-in-Done-clause-went
returns-in-Done-clause-went c = ran_on _ _ _ _ _ c.run_plain-went.ensures.went c.run_ready-more.ensures.went
