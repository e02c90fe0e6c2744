use Rattle.std.proofs.Common.{◌≡◌, ◌++◌, List, [], ◌∷◌, sym, ap, ◌∙◌, arith, length}
use Rattle.node_core.specs.declared.node.Node.{Node}
use Rattle.cluster_run.specs.declared.seat.Seat.{Seat}
use Rattle.cluster_run.specs.Seating.{seat_of, seats_of}
use Rattle.cluster_run.proofs.Seated.{popped, popped_none}
use Rattle.cluster_run.proofs.seating.seated.Goals as goal

pub loop-node-preserved-in-Continue-1 : goal.loop-node-preserved-in-Continue-1
loop-node-preserved-in-Continue-1 g c =
    let p = popped c.args.last c.loop-node.yielded c.in-Some.node c.args.carriers c.pop.new.self.items c.in-Some-pop.side (sym c.loop-node.invariant.sides ∙ c.in-Some-pop.ensures.items) in
    record { seats = c.in_ok-push.ensures.items ∙ (ap (λ (w : List (Seat Node g.row.C.Denot)). w ++ (c.seat_of.result ∷ [])) c.loop-node.invariant.seats ∙ (ap (λ (w : Seat Node g.row.C.Denot). seats_of c.args.last c.loop-node.yielded c.args.carriers ++ (w ∷ [])) c.seat_of.ensures ∙ sym p.0)); sides = p.1 }

pub loop-node-preserved : goal.loop-node-preserved
loop-node-preserved g c =
    let p = popped_none c.args.last c.loop-node.yielded c.in-Some.node c.args.carriers c.loop-node.sides.items c.pop.new.self.items c.loop-node.invariant.sides (omega (arith, c.loop-node.sides.ok.0, c.in_default.ensures.cases.0)) (omega (arith, c.pop.new.self.ok.0, c.in_default.ensures.cases.1)) in
    record { seats = c.loop-node.invariant.seats ∙ sym p.0; sides = p.1 }
