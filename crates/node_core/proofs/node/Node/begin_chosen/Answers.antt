use Rattle.node_core.proofs.Doing.{chosen_begun}
use Rattle.node_core.proofs.node.Node.begin_chosen.Goals as goal

-- src/halves.rt
pub returns : goal.returns
returns c = chosen_begun c.args.choice c.args.self.now c.begin.new.self c.args.mail c.push.new.self c.unwrap_or-need.result c.need.result c.begin.ensures c.need.ensures c.unwrap_or-need.ensures c.in_ok-push.ensures.ok
