use Rattle.std.proofs.Common.{Option, Some, None, subst}
use Rattle.call_forward.specs.declared.letter.Letter.{Letter}
use Rattle.cluster_run.specs.Seats.{Step}
use Rattle.cluster_run.proofs.Rounds.{step_then}
use Rattle.cluster_run.proofs.round.Seat+Node+C.take_one.Goals as goal

pub returns-in-Some : goal.returns-in-Some
returns-in-Some g c = step_then g.C.Carrier.puts g.C.Carrier.gives g.C.Carrier.pair (Some c.in-Some.letter) c.args.self.now c.loop.self c.take_from.new.self c.loop.invariant (subst (λ (o : Option Letter). Step g.C.Carrier.puts g.C.Carrier.gives g.C.Carrier.pair o c.loop.self c.take_from.new.self) c.in-Some.is c.in_ok-came.ensures.step)
