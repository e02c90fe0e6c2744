use Rattle.std.proofs.Common.{ℕ, Option, subst}
use Rattle.node_machine.specs.Policy.{given_by}
use Rattle.cluster_run.specs.Filling.{FirstFound}
use Rattle.cluster_run.proofs.Passing.{linked_sides, sides_then}
use Rattle.cluster_run.proofs.Awaited.{sides_found}
use Rattle.cluster_run.proofs.Runs.{full_led}
use Rattle.cluster_run.proofs.run.why_full.Goals as goal

pub first_awaited-requires-clause-linked : goal.first_awaited-requires-clause-linked
first_awaited-requires-clause-linked g c = linked_sides g.C.Carrier.pair c.args.seats.now c.first_full.new.seats c.in_ok-first.ensures.sides c.requires.linked

pub meet_all-requires-clause-linked : goal.meet_all-requires-clause-linked
meet_all-requires-clause-linked g c = linked_sides g.C.Carrier.pair c.args.seats.now c.first_awaited.new.seats (sides_then g.C.Carrier.pair c.args.seats.now c.first_full.new.seats c.first_awaited.new.seats c.in_ok-first.ensures.sides (sides_found g.C.Carrier.puts g.C.Carrier.gives g.C.Carrier.pair c.args.nodes c.in_ok-first.first c.in_ok-least.least c.first_full.new.seats c.first_awaited.new.seats c.in_ok-least.ensures)) c.requires.linked

pub returns : goal.returns
returns g c = full_led (given_by (g.P.Chooser.answers c.args.policy.now)) g.C.Carrier.puts g.C.Carrier.gives g.C.Carrier.pair c.args.nodes c.args.node c.in_ok-first.first c.in_ok-least.least c.in_ok-_none._none c.args.seats.now c.first_full.new.seats c.first_awaited.new.seats c.meet_all.new.seats c.requires.nodes c.requires.within c.in_ok-first.ensures.sides
    c.in_ok-first.ensures.found c.in_ok-least.ensures c.in_ok-_none.ensures
