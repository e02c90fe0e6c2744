use Rattle.std.proofs.Common.{None}
use Rattle.cluster_run.specs.Seats.{Step}
use Rattle.cluster_run.proofs.round.Seat+Node+C.take_one.Given as goal

abbrev pub invariant-loop : goal.invariant-loop
invariant-loop g l = Step g.C.Carrier.puts g.C.Carrier.gives g.C.Carrier.pair None l.fn.self l.self
