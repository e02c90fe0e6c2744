use Rattle.page_set.proofs.Copies.{IsFrontTree}
use Rattle.page_set.proofs.copy.copy.Given as goal

abbrev pub invariant-loop-i : goal.invariant-loop-i
invariant-loop-i l = IsFrontTree l.leaves.items l.new.items l.i
