use Rattle.std.proofs.Common.{sym}
use Rattle.user_spec.specs.Advance.{advance}
use Rattle.user_ctx.proofs.Asking.{at_call_by}
use Rattle.user_ctx.proofs.user.User.call.Goals as goal

pub returns : goal.returns
returns c = (at_call_by (advance c.args.self.now) (sym c.if-not-is_at_call.ensures.at), c.in_ok-request.ensures)
