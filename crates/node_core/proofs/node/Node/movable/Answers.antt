use Rattle.node_core.proofs.Seeing.{all_movable}
use Rattle.node_core.proofs.node.Node.movable.Goals as goal

-- src/sight.rt
pub returns-clause-is : goal.returns-clause-is
returns-clause-is c = all_movable c.args.self.now.hosted c.running-pid-items.result.now c.loop-pid.pid-index c.loop-pid.movable c.running-pid-items.ensures.rising c.running-pid-items.ensures.is c.loop-pid-test.false c.loop-pid.invariant.each
