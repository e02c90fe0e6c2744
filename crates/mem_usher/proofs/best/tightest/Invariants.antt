use Rattle.std.proofs.Common.{take}
use Rattle.mem_usher.specs.Best.{IsBestOf, is_tighter, roomy}
use Rattle.mem_usher.proofs.best.tightest.Given as goal

abbrev pub invariant-loop-entry : goal.invariant-loop-entry
invariant-loop-entry l = IsBestOf is_tighter (roomy l.pages l.reserve (take l.entry-index l.known)) l.best
