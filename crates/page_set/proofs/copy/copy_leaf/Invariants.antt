use Rattle.page_set.proofs.Copies.{IsFront}
use Rattle.page_set.proofs.copy.copy_leaf.Given as goal

abbrev pub invariant-loop-i : goal.invariant-loop-i
invariant-loop-i l = IsFront l.leaf l.new.value l.i
