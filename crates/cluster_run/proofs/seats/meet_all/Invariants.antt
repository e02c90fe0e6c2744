use Rattle.cluster_run.specs.Standing.{AllMet}
use Rattle.cluster_run.proofs.seats.meet_all.Given as goal

abbrev pub invariant-loop-a : goal.invariant-loop-a
invariant-loop-a g l = AllMet g.C.Carrier.puts g.C.Carrier.gives g.C.Carrier.pair l.none l.a l.nodes l.fn.seats l.seats
