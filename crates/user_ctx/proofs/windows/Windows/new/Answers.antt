use Rattle.std.proofs.Common.{arith}
use Rattle.user_ctx.proofs.Made.{ready_new}
use Rattle.user_ctx.proofs.windows.Windows.new.Goals as goal

pub returns : goal.returns
returns c = λ pages. record {
  ready = ready_new pages _ c.new-window.result (c.new-window.ensures.is pages) c.new-window.ensures.base;
  end = omega arith;
  next = omega arith;
}
