use Rattle.user_ctx.proofs.Asking.{call_is}
use Rattle.user_ctx.proofs.user.User.call_request.Goals as goal

pub returns : goal.returns
returns c = call_is c.args.self.now _ _ _ _ c.number.ensures c.asked_args.ensures c.in_ok-bytes.ensures c.returned_room.ensures
