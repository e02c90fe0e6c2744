use Rattle.deputy.proofs.Keeping.{input_home}
use Rattle.deputy.proofs.deputies.Deputies.end_input.Goals as goal

pub invariant_of-self : goal.invariant_of-self
invariant_of-self c = rw c.end_input.ensures (input_home c.self.inside.kernel _ c.self.inside.rows.list c.self.inside.settled c.self.invariant)
