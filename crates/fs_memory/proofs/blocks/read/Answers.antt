use Rattle.std.proofs.Common.{arith}
use Rattle.fs_memory.proofs.BlockLemmas.{next_read}
use Rattle.fs_memory.proofs.blocks.read.Goals as goal

pub loop-done-preserved : goal.loop-done-preserved
loop-done-preserved c = record {
  within = omega arith;
  is = next_read c.args.blocks.now c.loop-done.out.items c.append_part.new.out.items c.args.at c.loop-done.done c.min-count.result c.loop-done.invariant.is c.in_ok-append_part.ensures;
}
