use Rattle.fs_memory.proofs.BlockLemmas.{grown_none, grown_more}
use Rattle.fs_memory.proofs.blocks.grow.Goals as goal

pub growing-preserved : goal.growing-preserved
growing-preserved c = grown_more c.args.blocks.now.items c.growing.blocks.items c.push.new.self.items c.in_ok-block.block c.growing.invariant c.in_ok-block.ensures c.in_ok-push.ensures.items
