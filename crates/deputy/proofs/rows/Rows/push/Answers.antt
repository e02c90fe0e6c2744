use Rattle.std.proofs.Common.{◌∙◌, sym, ap}
use Rattle.deputy.specs.Rows.{held_pids}
use Rattle.deputy.proofs.Waiting.{push_pids}
use Rattle.deputy.proofs.rows.Rows.push.Goals as goal

pub invariant_of-self : goal.invariant_of-self
invariant_of-self c = rw c.push_reserved.ensures.items (c.self.invariant ∙ sym (push_pids c.self.inside.list.items c.args.place))
