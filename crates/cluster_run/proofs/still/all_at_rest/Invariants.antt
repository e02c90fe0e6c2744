use Rattle.std.proofs.Common.{true}
use Rattle.cluster_run.specs.Passing.{LookedAll}
use Rattle.cluster_run.proofs.still.all_at_rest.Given as goal

abbrev pub invariant-loop-at : goal.invariant-loop-at
invariant-loop-at g l = LookedAll g.C.Carrier.puts g.C.Carrier.gives g.C.Carrier.pair l.at true l.fn.seats l.seats
