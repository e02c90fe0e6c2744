use Rattle.std.proofs.Common.{◌≡◌, ℕ, subst, arith}
use Rattle.node_machine.specs.Policy.{given_by}
use Rattle.cluster_run.specs.declared.seat.Rest.{Rest}
use Rattle.cluster_run.specs.Filling.{AskedAt}
use Rattle.cluster_run.proofs.Asking.{SoFar, asked_none, asked_full, asked_sides, asked_more, asked_all}
use Rattle.cluster_run.proofs.full.first_full.Goals as goal

pub loop-at-init : goal.loop-at-init
loop-at-init g c = asked_none (given_by (g.P.Chooser.answers c.args.policy.now)) g.C.Carrier.puts g.C.Carrier.gives g.C.Carrier.pair c.args.node c.args.seats.now

pub returns-in-Full : goal.returns-in-Full
returns-in-Full g c = record {
  found = asked_full (given_by (g.P.Chooser.answers c.args.policy.now)) g.C.Carrier.puts g.C.Carrier.gives g.C.Carrier.pair c.args.node c.loop-at.at (omega (arith, c.loop-at-test.true)) c.args.seats.now c.loop-at.seats c.ask_at.new.seats c.loop-at.invariant
      (subst (λ (a : Rest). AskedAt (given_by (g.P.Chooser.answers c.args.policy.now)) g.C.Carrier.puts g.C.Carrier.gives a c.loop-at.at c.loop-at.seats c.ask_at.new.seats) c.in-Full.is c.in_ok-ask_at.ensures);
  sides = asked_sides (given_by (g.P.Chooser.answers c.args.policy.now)) g.C.Carrier.puts g.C.Carrier.gives g.C.Carrier.pair c.args.node c.loop-at.at (omega (arith, c.loop-at-test.true)) c.args.seats.now c.loop-at.seats c.ask_at.new.seats c.loop-at.invariant c.in_ok-ask_at.field-0 c.in_ok-ask_at.ensures;
}

pub loop-at-preserved : goal.loop-at-preserved
loop-at-preserved g c = asked_more (given_by (g.P.Chooser.answers c.args.policy.now)) g.C.Carrier.puts g.C.Carrier.gives g.C.Carrier.pair c.args.node c.loop-at.at (omega (arith, c.loop-at-test.true)) c.args.seats.now c.loop-at.seats c.ask_at.new.seats c.loop-at.invariant c.in_ok-ask_at.field-0 c.in_default.not-Full c.in_ok-ask_at.ensures

pub returns : goal.returns
returns g c =
    let same : c.loop-at.at ≡ c.args.node = omega (arith, c.loop-at-test.false, c.loop-at.auto.at-end) in
    record {
      found = asked_all (given_by (g.P.Chooser.answers c.args.policy.now)) g.C.Carrier.puts g.C.Carrier.gives g.C.Carrier.pair c.args.node c.args.seats.now c.loop-at.seats (subst (λ (k : ℕ). SoFar (given_by (g.P.Chooser.answers c.args.policy.now)) g.C.Carrier.puts g.C.Carrier.gives g.C.Carrier.pair c.args.node k c.args.seats.now c.loop-at.seats) same c.loop-at.invariant);
      sides = c.loop-at.invariant.sides;
    }
