use Rattle.cluster_run.proofs.Awaited.{LookedTo}
use Rattle.cluster_run.proofs.full.Seat+Node+C.take_any.Given as goal

abbrev pub invariant-loop-source : goal.invariant-loop-source
invariant-loop-source g l = LookedTo g.C.Carrier.puts g.C.Carrier.gives g.C.Carrier.pair g.C.Carrier.known l.source l.fn.self l.self
