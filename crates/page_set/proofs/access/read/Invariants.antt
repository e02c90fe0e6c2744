use Rattle.std.proofs.Common.{◌≡◌, ◌≤◌, ◌-◌, ◌+◌, take, None}
use Rattle.page_set.specs.Pages.{flat_at, refusal, behind}
use Rattle.page_set.specs.Tree.{pages_of}
use Rattle.page_set.proofs.access.read.Given as goal

-- what is read so far, and what is left
abbrev pub invariant-loop-done : goal.invariant-loop-done
invariant-loop-done l = record {
  within : l.done ≤ l.len;
  here : l.at ≡ l.addr + l.done;
  left : refusal (flat_at (pages_of l.leaves.items) l.right l.at (l.len - l.done)) ≡ None;
  same : flat_at (pages_of l.leaves.items) l.right l.addr l.len ≡ behind (take l.done l.into) (flat_at (pages_of l.leaves.items) l.right l.at (l.len - l.done));
}

abbrev pub decreases-loop-done : goal.decreases-loop-done
decreases-loop-done l = l.len - l.done
