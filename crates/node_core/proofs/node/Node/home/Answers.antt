use Rattle.node_core.proofs.Starting.{new_suits_ok}
use Rattle.node_core.proofs.node.Node.home.Goals as goal

-- src/node.rt:95:5
pub returns-clause-suits : goal.returns-clause-suits
returns-clause-suits c = new_suits_ok 0 c.args.shape c.args.plan.script c.args.plan.users c.new.result c.new.ensures
