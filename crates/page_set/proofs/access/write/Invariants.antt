use Rattle.std.proofs.Common.{◌≡◌, ◌≤◌, ◌-◌, length, drop}
use Rattle.page_set.specs.Pages.{with_bytes}
use Rattle.page_set.specs.Tree.{pages_of}
use Rattle.page_set.proofs.access.write.Given as goal

-- what the rest of the bytes makes of the pages is what all make of those at the start
abbrev pub invariant-loop-done : goal.invariant-loop-done
invariant-loop-done l = record {
  within : l.done ≤ length l.bytes;
  same : with_bytes (pages_of l.leaves.items) l.at (drop l.done l.bytes) ≡ with_bytes (pages_of l.fn.leaves.items) l.addr l.bytes;
}

abbrev pub decreases-loop-done : goal.decreases-loop-done
decreases-loop-done l = length l.bytes - l.done
