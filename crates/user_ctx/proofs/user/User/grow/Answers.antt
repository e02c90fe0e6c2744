use Rattle.user_ctx.proofs.Calls.{grown}
use Rattle.user_ctx.proofs.user.User.grow.Goals as goal

pub returns-in-Ok-clause-ok : goal.returns-in-Ok-clause-ok
returns-in-Ok-clause-ok c = grown _ _ _ _ _ c.requires c.wanted_break-a.ensures c.in-Ok.ensures.ok c.take_break.ensures.is c.finish_break.ensures
