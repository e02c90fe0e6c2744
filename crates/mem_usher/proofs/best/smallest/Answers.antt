use Rattle.mem_usher.proofs.Bests.{smallest_more}
use Rattle.mem_usher.proofs.best.smallest.Goals as goal

pub loop-process-preserved : goal.loop-process-preserved
loop-process-preserved c = smallest_more c.args.shortage c.args.movable.now c.loop-process.process-index _ c.loop-process.best c.smaller-best.result c.smaller-best.ensures c.loop-process-test.true c.loop-process.invariant
