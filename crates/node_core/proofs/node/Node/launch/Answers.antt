use Rattle.node_core.proofs.Doing.{launched_is}
use Rattle.node_core.proofs.node.Node.launch.Goals as goal

-- src/lines.rt:153:5
pub returns : goal.returns
returns c = launched_is c.args.line c.in-Some.pid c.in-Some-pop.user c.pop.new.self c.in_ok-pid.field-0 c.args.self.now c.launch.new.self c.place.new.hosted c.advance.new.self c.push.new.self c.new.result c.launch.ensures.each c.in_ok-pid.ensures.ok c.in-Some.is c.in-Some-pop.ensures.some c.in_ok-place.ensures c.new.ensures c.in_ok-push.ensures.ok c.advance.ensures
