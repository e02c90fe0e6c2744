use Rattle.std.proofs.Common.{inl}
use Rattle.node_core.proofs.Doing.{steps_went}
use Rattle.node_core.proofs.node.Node.go.Goals as goal

-- src/kinds.rt:57:5
pub returns-in-Steps : goal.returns-in-Steps
returns-in-Steps c = inl (c.in-Steps.k, steps_went c.in-Steps.k c.args.pid c.max-quantum.result c.in_ok-k.field-0 c.args.self.now c.count_steps.new.self c.run.new.self c.new.result c.in_ok-k.ensures.ok c.in-Steps.is c.max-quantum.ensures c.new.ensures c.count_steps.ensures)
