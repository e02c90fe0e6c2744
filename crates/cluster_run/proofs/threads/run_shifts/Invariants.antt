use Rattle.node_machine.specs.Policy.{given_by}
use Rattle.cluster_run.specs.declared.pass.Passed.TheVariants as passed
use Rattle.cluster_run.specs.Passing.{PassedAs}
use Rattle.cluster_run.proofs.threads.run_shifts.Given as goal

abbrev pub invariant-loop : goal.invariant-loop
invariant-loop g l = PassedAs (given_by (g.P.Chooser.answers l.policy)) g.C.Carrier.puts g.C.Carrier.gives g.C.Carrier.pair l.nodes passed.Whole l.fn.seats l.seats
