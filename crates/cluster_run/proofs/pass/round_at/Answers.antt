use Rattle.std.proofs.Common.{get_or}
use Rattle.node_machine.specs.Policy.{given_by}
use Rattle.cluster_run.proofs.Calming.{or_got}
use Rattle.cluster_run.proofs.Passing.{round_set}
use Rattle.cluster_run.proofs.pass.round_at.Goals as goal

pub returns : goal.returns
returns g c = round_set g.C.Carrier.puts g.C.Carrier.gives g.C.Carrier.pair (given_by (g.P.Chooser.answers c.args.policy.now)) c.in_ok-rest.rest c.args.seats.now c.args.at (get_or c.args.seats.now c.args.at c.index-seats-at.result) c.round.new.self (or_got c.args.seats.now c.args.at c.index-seats-at.result c.requires.within) c.in_ok-rest.ensures
