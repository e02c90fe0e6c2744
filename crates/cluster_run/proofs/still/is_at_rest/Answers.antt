use Rattle.std.proofs.Common.{get_or}
use Rattle.cluster_run.proofs.Calming.{or_got}
use Rattle.cluster_run.proofs.Runs.{looked_at}
use Rattle.cluster_run.proofs.still.is_at_rest.Goals as goal

pub returns : goal.returns
returns g c = looked_at g.C.Carrier.puts g.C.Carrier.gives g.C.Carrier.pair c.args.at c.is_at_rest.result c.args.seats.now (get_or c.args.seats.now c.args.at c.index-seats-at.result) c.is_at_rest.new.self (or_got c.args.seats.now c.args.at c.index-seats-at.result c.requires.within) c.is_at_rest.ensures.step c.is_at_rest.ensures.rest
