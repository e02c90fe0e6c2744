use Rattle.std.proofs.Common.{◌≡◌, drop}
use Rattle.proc_tree.specs.Steps.{parted_each}
use Rattle.proc_tree.proofs.rows.part_each.Given as goal

abbrev pub invariant-loop-child : goal.invariant-loop-child
invariant-loop-child l =
    parted_each l.pid l.processes.items (drop l.child-index l.present) ≡ parted_each l.pid l.initial.processes.items l.present
