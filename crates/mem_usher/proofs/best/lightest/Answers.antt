use Rattle.mem_usher.proofs.Bests.{lightest_more}
use Rattle.mem_usher.proofs.best.lightest.Goals as goal

pub loop-entry-preserved : goal.loop-entry-preserved
loop-entry-preserved c = lightest_more c.args.known.now c.loop-entry.entry-index _ c.loop-entry.best c.lighter-best.result c.lighter-best.ensures c.loop-entry-test.true c.loop-entry.invariant
