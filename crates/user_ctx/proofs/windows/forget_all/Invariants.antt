use Rattle.user_ctx.proofs.Made.{Forgot}
use Rattle.user_ctx.proofs.windows.forget_all.Given as goal

abbrev pub invariant-loop-i : goal.invariant-loop-i
invariant-loop-i l = Forgot l.addr l.i l.pages l.low l.end l.slots
