use Rattle.std.proofs.Common.{sym, refl, arith}
use Rattle.user_ctx.proofs.Made.{learned}
use Rattle.user_ctx.proofs.window.Window.learn.Goals as goal

pub returns-in-Some-clause-is : goal.returns-in-Some-clause-is
returns-in-Some-clause-is c = learned _ _ _ _ _ _ _ _ _ c.requires (omega (arith, c.if-at-ne0.false)) (omega (arith, c.if-at-self.false)) refl c.in-Ok.ensures (sym c.in-Some.ensures.value) c.op_of-op.ensures refl
