use Rattle.std.proofs.Common.{arith, refl}
use Rattle.user_ctx.proofs.Frames.{words_all, words_one}
use Rattle.user_ctx.proofs.frame.write_frame.Goals as goal

pub loop-i-init : goal.loop-i-init
loop-i-init c = refl

pub loop-i-preserved : goal.loop-i-preserved
loop-i-preserved c = words_one _ _ _ _ _ _ _ _ _ _ (omega arith) c.told-x c.pushed_word.ensures c.write_word.ensures c.loop-i.invariant

pub returns : goal.returns
returns c = words_all _ _ _ _ _ _ _ _ (omega arith) (omega arith) c.told-x c.loop-i.invariant
