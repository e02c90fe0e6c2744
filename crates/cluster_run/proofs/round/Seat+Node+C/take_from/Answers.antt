use Rattle.std.proofs.Common.{Option, None, subst}
use Rattle.call_forward.specs.declared.letter.Letter.{Letter}
use Rattle.cluster_run.specs.Sides.{Looked, LookTells}
use Rattle.cluster_run.proofs.Rounds.{took_one, took_none}
use Rattle.cluster_run.proofs.round.Seat+Node+C.take_from.Goals as goal

pub returns-in-Some : goal.returns-in-Some
returns-in-Some g c = took_one g.C.Carrier.puts g.C.Carrier.gives g.C.Carrier.pair g.C.Carrier.known c.in-Some.letter c.args.self.now c.args.source c.look.new.side
    (subst (λ (o : Option Letter). Looked g.C.Carrier.puts g.C.Carrier.gives g.C.Carrier.pair c.args.source o c.args.self.now.side c.look.new.side) c.in-Some.is c.in_ok-came.ensures.looked)
    (subst (λ (o : Option Letter). LookTells g.C.Carrier.known c.args.source o c.args.self.now.side c.look.new.side) c.in-Some.is c.in_ok-came.ensures.tells)

pub returns-in-None : goal.returns-in-None
returns-in-None g c = took_none g.C.Carrier.puts g.C.Carrier.gives g.C.Carrier.pair g.C.Carrier.known c.args.self.now c.args.source c.look.new.side
    (subst (λ (o : Option Letter). Looked g.C.Carrier.puts g.C.Carrier.gives g.C.Carrier.pair c.args.source o c.args.self.now.side c.look.new.side) c.in-None.is c.in_ok-came.ensures.looked)
    (subst (λ (o : Option Letter). LookTells g.C.Carrier.known c.args.source o c.args.self.now.side c.look.new.side) c.in-None.is c.in_ok-came.ensures.tells)
