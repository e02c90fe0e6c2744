use Rattle.mem_usher.proofs.Bests.{largest_more}
use Rattle.mem_usher.proofs.best.largest.Goals as goal

pub loop-process-preserved : goal.loop-process-preserved
loop-process-preserved c = largest_more c.args.movable.now c.loop-process.process-index _ c.loop-process.best c.larger-best.result c.larger-best.ensures c.loop-process-test.true c.loop-process.invariant
