use Rattle.std.proofs.Common.{subst, arith}
use Rattle.node_machine.specs.Policy.{given_by}
use Rattle.cluster_run.specs.declared.seat.Rest.{Rest}
use Rattle.cluster_run.specs.Passing.{RoundAt}
use Rattle.cluster_run.proofs.Passing.{linked_sides, pass_none, pass_full, pass_on}
use Rattle.cluster_run.proofs.pass.pass.Goals as goal

pub turn_at-requires-clause-linked : goal.turn_at-requires-clause-linked
turn_at-requires-clause-linked g c = linked_sides g.C.Carrier.pair c.args.seats.now c.loop-at.seats c.loop-at.invariant.sides c.requires.linked

pub loop-at-init : goal.loop-at-init
loop-at-init g c = pass_none g.C.Carrier.puts g.C.Carrier.gives g.C.Carrier.pair (given_by (g.P.Chooser.answers c.args.policy.now)) c.args.nodes c.args.seats.now

pub returns-in-Full : goal.returns-in-Full
returns-in-Full g c = pass_full g.C.Carrier.puts g.C.Carrier.gives g.C.Carrier.pair (given_by (g.P.Chooser.answers c.args.policy.now)) c.args.nodes c.args.seats.now c.loop-at.seats c.turn_at.new.seats c.loop-at.invariant c.loop-at.at (omega (arith, c.loop-at-test.true))
    (subst (λ (a : Rest). RoundAt (given_by (g.P.Chooser.answers c.args.policy.now)) g.C.Carrier.puts g.C.Carrier.gives g.C.Carrier.pair a c.loop-at.at c.loop-at.seats c.turn_at.new.seats) c.in-Full.is c.in_ok-turn_at.ensures)

pub loop-at-preserved : goal.loop-at-preserved
loop-at-preserved g c = pass_on g.C.Carrier.puts g.C.Carrier.gives g.C.Carrier.pair (given_by (g.P.Chooser.answers c.args.policy.now)) c.args.nodes c.args.seats.now c.loop-at.seats c.turn_at.new.seats c.loop-at.invariant c.loop-at.at c.in_ok-turn_at.field-0 c.in_default.not-Full c.in_ok-turn_at.ensures
