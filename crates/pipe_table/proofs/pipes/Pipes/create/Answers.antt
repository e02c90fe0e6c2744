use Rattle.std.proofs.Common.{◌≡◌, ◌∙◌, ap, sym, Some}
use Rattle.pipe_table.specs.Table.{free_id, IsWithinLimits}
use Rattle.pipe_table.proofs.Places.{limits_created}
use Rattle.pipe_table.proofs.pipes.Pipes.create.Goals as goal

within : (c : goal.In_ok-add) → IsWithinLimits c.add.new.slots.items
within c =
    let given : free_id c.self.inside.slots.items ≡ Some c.in-Some.id = ap free_id (sym c.deref.ensures.value) ∙ sym c.in-Some.ensures in
    limits_created _ _ c.in-Some.id c.self.invariant given c.in_ok-add.ensures.ok

pub invariant_of-self-2 : goal.invariant_of-self-2
invariant_of-self-2 c = within c

pub returns-clause-limits : goal.returns-clause-limits
returns-clause-limits c = within c
