use Rattle.pipe_table.proofs.Places.{limits_take}
use Rattle.pipe_table.proofs.pipes.Pipes.take_back.Goals as goal

pub invariant_of-self : goal.invariant_of-self
invariant_of-self c = rw c.truncate.ensures.items (limits_take c.args.places c.self.inside.slots.items c.self.invariant)

pub returns-clause-limits : goal.returns-clause-limits
returns-clause-limits c = rw c.truncate.ensures.items (limits_take c.args.places c.self.inside.slots.items c.self.invariant)
