use Rattle.node_machine.specs.Policy.{given_by}
use Rattle.cluster_run.proofs.Asking.{SoFar}
use Rattle.cluster_run.proofs.full.first_full.Given as goal

abbrev pub invariant-loop-at : goal.invariant-loop-at
invariant-loop-at g l = SoFar (given_by (g.P.Chooser.answers l.policy)) g.C.Carrier.puts g.C.Carrier.gives g.C.Carrier.pair l.node l.at l.fn.seats l.seats
