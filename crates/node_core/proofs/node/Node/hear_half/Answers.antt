use Rattle.node_core.proofs.Doing.{half_heard}
use Rattle.node_core.proofs.node.Node.hear_half.Goals as goal

-- src/halves.rt
pub returns : goal.returns
returns g c = half_heard (g.C.Chooser.answers c.args.policy.now) c.args.stamp c.args.from c.args.places.now c.args.self.now c.act_on_choice.new.self c.own_entry-own.result c.heard.new.self c.new.result c.in_ok-decided.decided.mail c.in_ok-decided.decided.choice c.told_heard.result c.own_entry-own.ensures.counted c.own_entry-own.ensures.is c.heard.ensures c.new.ensures c.in_ok-decided.ensures c.told_heard.ensures
