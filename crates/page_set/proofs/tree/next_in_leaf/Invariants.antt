use Rattle.std.proofs.Common.{ℕ, ◌≡◌, ◌<◌, ◌≤◌, Some, None}
use Rattle.page_set.specs.Tree.{frame_in}
use Rattle.page_set.proofs.tree.next_in_leaf.Given as goal

abbrev pub invariant-loop-i : goal.invariant-loop-i
invariant-loop-i l = (j : ℕ) → l.from ≤ j → j < l.i → frame_in (Some l.leaf) j ≡ None
