use Rattle.std.proofs.Common.{arith, refl}
use Rattle.fs_memory.proofs.BlockLemmas.{next_part, length-flat}
use Rattle.fs_memory.proofs.blocks.write.Goals as goal

pub loop-done-preserved : goal.loop-done-preserved
loop-done-preserved c = record {
  within = omega arith;
  same_len = omega arith;
  is = next_part c.args.blocks.now.items c.loop-done.blocks.items c.write_part.new.blocks.items c.args.bytes.now _ c.args.at c.loop-done.done c.min-count.result (omega (arith, length-flat c.args.blocks.now.items)) (omega arith) c.loop-done.invariant.is refl c.write_part.ensures.is;
}
