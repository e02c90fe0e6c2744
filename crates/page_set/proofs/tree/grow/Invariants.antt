use Rattle.std.proofs.Common.{ℕ, ◌≡◌, ◌+◌, ◌-◌}
use Rattle.std.specs.Prelude.{vec_len}
use Rattle.page_set.specs.Tree.{frame_at}
use Rattle.page_set.proofs.tree.grow.Given as goal

abbrev pub invariant-loop-leaves : goal.invariant-loop-leaves
invariant-loop-leaves l = (q : ℕ) → frame_at l.leaves.items q ≡ frame_at l.fn.leaves.items q

abbrev pub decreases-loop-leaves : goal.decreases-loop-leaves
decreases-loop-leaves l = l.first + 1 - vec_len l.leaves
