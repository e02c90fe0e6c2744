use Rattle.cluster_run.specs.Shifting.{NoneStopped}
use Rattle.cluster_run.proofs.shift.first_stopped.Given as goal

abbrev pub invariant-loop-at : goal.invariant-loop-at
invariant-loop-at g l = NoneStopped l.at l.seats
