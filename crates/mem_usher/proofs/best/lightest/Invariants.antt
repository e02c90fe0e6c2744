use Rattle.std.proofs.Common.{take}
use Rattle.mem_usher.specs.Best.{IsBestOf, is_lighter}
use Rattle.mem_usher.proofs.best.lightest.Given as goal

abbrev pub invariant-loop-entry : goal.invariant-loop-entry
invariant-loop-entry l = IsBestOf is_lighter (take l.entry-index l.known) l.best
