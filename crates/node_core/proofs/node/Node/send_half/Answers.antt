use Rattle.node_core.proofs.Doing.{half_sent}
use Rattle.node_core.proofs.node.Node.send_half.Goals as goal

-- src/halves.rt
pub returns : goal.returns
returns g c = half_sent (g.C.Chooser.answers c.args.policy.now) c.args.stamp c.args.self.now c.next_target-other.new.self c.act_on_choice.new.self c.own_entry-own.result c.next_target-other.result c.told.new.self c.half-places.result c.in_ok-first.first c.in_ok-decided.decided.mail c.in_ok-decided.decided.choice c.told_half.result c.own_entry-own.ensures.counted c.own_entry-own.ensures.is c.next_target-other.ensures.is c.next_target-other.ensures.rest c.told.ensures c.half-places.ensures c.in_ok-first.ensures c.in_ok-decided.ensures c.told_half.ensures
