use Rattle.std.proofs.Common.{arith, refl, ◌∙◌}
use Rattle.std.proofs.Math.ListN.{length-set}
use Rattle.user_ctx.proofs.Frames.{loaded_none, loaded_one, loaded_all}
use Rattle.user_ctx.proofs.frame.load_registers.Goals as goal

pub loop-i-init : goal.loop-i-init
loop-i-init c = record {
  len = c.told-x;
  loaded = loaded_none c.args.x.now c.args.pages.now c.args.at 1 c.requires refl;
}

pub returns : goal.returns
returns c = loaded_all c.loop-i.x c.args.pages.now c.args.at c.loop-i.i (omega arith) c.loop-i.invariant.len c.loop-i.invariant.loaded

pub loop-i-preserved : goal.loop-i-preserved
loop-i-preserved c = record {
  len = length-set c.loop-i.x c.loop-i.i c.frame_word.result ∙ c.loop-i.invariant.len;
  loaded = loaded_one c.loop-i.x _ c.args.pages.now c.args.at c.loop-i.i c.frame_word.result (omega arith) (omega arith) c.loop-i.invariant.loaded c.frame_word.ensures refl;
}
