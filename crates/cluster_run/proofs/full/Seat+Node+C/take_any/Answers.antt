use Rattle.std.proofs.Common.{◌≡◌, ℕ, Option, Some, None, subst, arith}
use Rattle.call_forward.specs.declared.letter.Letter.{Letter}
use Rattle.cluster_run.specs.Seats.{Took}
use Rattle.cluster_run.proofs.Awaited.{LookedTo, looked_to_none, looked_to_more, took_some, took_none_any}
use Rattle.cluster_run.proofs.full.Seat+Node+C.take_any.Goals as goal

pub loop-source-init : goal.loop-source-init
loop-source-init g c = looked_to_none g.C.Carrier.puts g.C.Carrier.gives g.C.Carrier.pair g.C.Carrier.known c.args.self.now

pub returns-in-Some : goal.returns-in-Some
returns-in-Some g c = took_some g.C.Carrier.puts g.C.Carrier.gives g.C.Carrier.pair g.C.Carrier.known c.loop-source.source c.args.self.now c.loop-source.self c.take_from.new.self c.loop-source.invariant c.in-Some.letter c.args.nodes
    (subst (λ (o : Option Letter). Took g.C.Carrier.puts g.C.Carrier.gives g.C.Carrier.pair g.C.Carrier.known c.loop-source.source o c.loop-source.self c.take_from.new.self) c.in-Some.is c.in_ok-came.ensures)
