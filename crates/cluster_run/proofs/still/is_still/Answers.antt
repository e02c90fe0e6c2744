use Rattle.cluster_run.proofs.Passing.{linked_sides, sides_steps}
use Rattle.cluster_run.proofs.Runs.{not_still, stilled}
use Rattle.cluster_run.proofs.still.is_still.Goals as goal

pub meet_all-requires-clause-linked : goal.meet_all-requires-clause-linked
meet_all-requires-clause-linked g c = linked_sides g.C.Carrier.pair c.args.seats.now c.all_at_rest-rests.new.seats (sides_steps g.C.Carrier.puts g.C.Carrier.gives g.C.Carrier.pair c.args.seats.now c.all_at_rest-rests.new.seats c.all_at_rest-rests.ensures.steps) c.requires.linked

pub returns-in_ok-none : goal.returns-in_ok-none
returns-in_ok-none g c = stilled g.C.Carrier.puts g.C.Carrier.gives g.C.Carrier.pair c.args.nodes c.all_at_rest-rests.result c.in_ok-none.none c.args.seats.now c.all_at_rest-rests.new.seats c.meet_all.new.seats c.if-rests.true c.all_at_rest-rests.ensures c.in_ok-none.ensures

pub returns-else-rests : goal.returns-else-rests
returns-else-rests g c = not_still g.C.Carrier.puts g.C.Carrier.gives g.C.Carrier.pair c.args.nodes c.all_at_rest-rests.result c.args.seats.now c.all_at_rest-rests.new.seats c.all_at_rest-rests.ensures
