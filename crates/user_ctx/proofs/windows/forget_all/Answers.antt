use Rattle.std.proofs.Common.{refl}
use Rattle.user_ctx.proofs.Made.{but_at, forgot_one, forgot_all}
use Rattle.user_ctx.proofs.windows.forget_all.Goals as goal

pub forget-requires : goal.forget-requires
forget-requires c = (but_at c.args.addr c.loop-i.i c.args.pages.now c.args.low c.args.end c.loop-i.slots c.index-slots-i.result c.loop-i.invariant c.loop-i-test.true).page

pub loop-i-preserved : goal.loop-i-preserved
loop-i-preserved c = forgot_one _ _ _ _ _ _ _ _ c.index-slots-i.result c.loop-i.invariant c.loop-i-test.true c.forget.ensures.is c.forget.ensures.base refl

pub returns : goal.returns
returns c = forgot_all c.args.addr c.loop-i.i c.args.pages.now c.args.low c.args.end c.loop-i.slots c.loop-i.invariant c.loop-i-test.false
