use Rattle.std.proofs.Common.{take}
use Rattle.mem_usher.specs.Best.{IsBestOf, is_larger}
use Rattle.mem_usher.proofs.best.largest.Given as goal

abbrev pub invariant-loop-process : goal.invariant-loop-process
invariant-loop-process l = IsBestOf is_larger (take l.process-index l.movable) l.best
