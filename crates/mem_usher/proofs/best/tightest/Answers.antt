use Rattle.mem_usher.proofs.Bests.{tightest_more}
use Rattle.mem_usher.proofs.best.tightest.Goals as goal

pub loop-entry-preserved : goal.loop-entry-preserved
loop-entry-preserved c = tightest_more c.args.pages c.args.reserve c.args.known.now c.loop-entry.entry-index _ c.loop-entry.best c.tighter-best.result c.tighter-best.ensures c.loop-entry-test.true c.loop-entry.invariant
