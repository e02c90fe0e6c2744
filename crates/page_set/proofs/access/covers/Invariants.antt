use Rattle.std.proofs.Common.{◌≡◌}
use Rattle.page_set.specs.Pages.{flat_at, refusal}
use Rattle.page_set.specs.Tree.{pages_of}
use Rattle.page_set.proofs.access.covers.Given as goal

-- what is left tells as much as the whole
abbrev pub invariant-loop-left : goal.invariant-loop-left
invariant-loop-left l = refusal (flat_at (pages_of l.leaves.items) l.right l.addr l.len) ≡ refusal (flat_at (pages_of l.leaves.items) l.right l.at l.left)

abbrev pub decreases-loop-left : goal.decreases-loop-left
decreases-loop-left l = l.left
