use Rattle.user_ctx.proofs.Asking.{asks_call}
use Rattle.user_ctx.proofs.user.User.request.Goals as goal

pub returns-in_ok-call_request-in-None : goal.returns-in_ok-call_request-in-None
returns-in_ok-call_request-in-None c = asks_call c.args.self.now _ c.in-None.ensures c.in_ok-call_request-in-None.ensures
