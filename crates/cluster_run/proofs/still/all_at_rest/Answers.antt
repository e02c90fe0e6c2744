use Rattle.cluster_run.proofs.Runs.{looked_none, looked_stop, looked_more}
use Rattle.cluster_run.proofs.still.all_at_rest.Goals as goal

pub loop-at-init : goal.loop-at-init
loop-at-init g c = looked_none g.C.Carrier.puts g.C.Carrier.gives g.C.Carrier.pair c.args.seats.now

pub returns-then-not-is_at_rest : goal.returns-then-not-is_at_rest
returns-then-not-is_at_rest g c = looked_stop g.C.Carrier.puts g.C.Carrier.gives g.C.Carrier.pair c.loop-at.at c.args.seats.now c.loop-at.seats c.is_at_rest.new.seats c.loop-at.invariant c.args.nodes c.is_at_rest.result c.is_at_rest.ensures

pub loop-at-preserved : goal.loop-at-preserved
loop-at-preserved g c = looked_more g.C.Carrier.puts g.C.Carrier.gives g.C.Carrier.pair c.loop-at.at c.args.seats.now c.loop-at.seats c.is_at_rest.new.seats c.loop-at.invariant c.is_at_rest.result c.if-not-is_at_rest.false c.is_at_rest.ensures
