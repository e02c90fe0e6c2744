use Rattle.cluster_run.proofs.Awaited.{AwaitedTo}
use Rattle.cluster_run.proofs.full.first_awaited.Given as goal

abbrev pub invariant-loop-at : goal.invariant-loop-at
invariant-loop-at g l = AwaitedTo g.C.Carrier.puts g.C.Carrier.gives g.C.Carrier.pair l.nodes l.at l.fn.seats l.seats
