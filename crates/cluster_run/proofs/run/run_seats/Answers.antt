use Rattle.std.proofs.Common.{Option, Some, None, subst}
use Rattle.node_machine.specs.Policy.{given_by}
use Rattle.cluster_run.specs.declared.over.OverWhy.{OverWhy}
use Rattle.cluster_run.specs.Running.{OverAfter}
use Rattle.cluster_run.proofs.Passing.{linked_sides, sides_then, pass_none}
use Rattle.cluster_run.proofs.Runs.{within_passed, over_then, goes_on}
use Rattle.cluster_run.proofs.run.run_seats.Goals as goal

pub loop-init : goal.loop-init
loop-init g c = pass_none g.C.Carrier.puts g.C.Carrier.gives g.C.Carrier.pair (given_by (g.P.Chooser.answers c.args.policy.now)) c.args.nodes c.args.seats.now

pub pass-requires-clause-linked : goal.pass-requires-clause-linked
pass-requires-clause-linked g c = linked_sides g.C.Carrier.pair c.args.seats.now c.loop.seats c.loop.invariant.sides c.requires.linked

pub over_after-requires-clause-within : goal.over_after-requires-clause-within
over_after-requires-clause-within g c = within_passed (given_by (g.P.Chooser.answers c.args.policy.now)) g.C.Carrier.puts g.C.Carrier.gives g.C.Carrier.pair c.args.nodes c.in_ok-passed.passed c.loop.seats c.pass.new.seats c.in_ok-passed.ensures

pub over_after-requires-clause-linked : goal.over_after-requires-clause-linked
over_after-requires-clause-linked g c = linked_sides g.C.Carrier.pair c.args.seats.now c.pass.new.seats (sides_then g.C.Carrier.pair c.args.seats.now c.loop.seats c.pass.new.seats c.loop.invariant.sides c.in_ok-passed.ensures.sides) c.requires.linked

pub returns-in-Some : goal.returns-in-Some
returns-in-Some g c = over_then (given_by (g.P.Chooser.answers c.args.policy.now)) g.C.Carrier.puts g.C.Carrier.gives g.C.Carrier.pair c.args.nodes c.in_ok-passed.passed c.args.seats.now c.loop.seats c.pass.new.seats c.over_after.new.seats c.loop.invariant c.in_ok-passed.ensures c.in-Some.why c.requires.nodes
    (subst (λ (o : Option OverWhy). OverAfter (given_by (g.P.Chooser.answers c.args.policy.now)) g.C.Carrier.puts g.C.Carrier.gives g.C.Carrier.pair c.args.nodes c.in_ok-passed.passed o c.pass.new.seats c.over_after.new.seats) c.in-Some.is c.in_ok-over.ensures)

pub loop-preserved : goal.loop-preserved
loop-preserved g c = goes_on (given_by (g.P.Chooser.answers c.args.policy.now)) g.C.Carrier.puts g.C.Carrier.gives g.C.Carrier.pair c.args.nodes c.in_ok-passed.passed c.args.seats.now c.loop.seats c.pass.new.seats c.over_after.new.seats c.loop.invariant c.in_ok-passed.ensures
    (subst (λ (o : Option OverWhy). OverAfter (given_by (g.P.Chooser.answers c.args.policy.now)) g.C.Carrier.puts g.C.Carrier.gives g.C.Carrier.pair c.args.nodes c.in_ok-passed.passed o c.pass.new.seats c.over_after.new.seats) c.in_default.is c.in_ok-over.ensures)
