use Rattle.std.proofs.Common.{◌≤◌, ◌-◌}
use Rattle.page_set.specs.Tree.{pages_of, NoPageIn}
use Rattle.page_set.proofs.tree.next_page.Given as goal

abbrev pub invariant-loop-at : goal.invariant-loop-at
invariant-loop-at l = record {
  above : l.from ≤ l.at;
  none : NoPageIn (pages_of l.leaves.items) l.from l.at;
}

abbrev pub decreases-loop-at : goal.decreases-loop-at
decreases-loop-at l = 1048576 - l.at
