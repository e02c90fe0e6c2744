use Rattle.std.proofs.Common.{take}
use Rattle.mem_usher.specs.Best.{IsBestOf, is_smaller, covering}
use Rattle.mem_usher.proofs.best.smallest.Given as goal

abbrev pub invariant-loop-process : goal.invariant-loop-process
invariant-loop-process l = IsBestOf is_smaller (covering l.shortage (take l.process-index l.movable)) l.best
