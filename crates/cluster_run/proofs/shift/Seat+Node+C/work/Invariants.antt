use Rattle.node_machine.specs.Policy.{given_by}
use Rattle.cluster_run.proofs.Shifts.{Works}
use Rattle.cluster_run.proofs.shift.Seat+Node+C.work.Given as goal

abbrev pub invariant-loop : goal.invariant-loop
invariant-loop g l = Works (given_by (g.P.Chooser.answers l.policy)) g.C.Carrier.puts g.C.Carrier.gives g.C.Carrier.pair l.fn.self l.self
