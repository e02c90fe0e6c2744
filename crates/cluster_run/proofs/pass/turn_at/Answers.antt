use Rattle.node_machine.specs.Policy.{given_by}
use Rattle.cluster_run.proofs.Passing.{round_calm}
use Rattle.cluster_run.proofs.pass.turn_at.Goals as goal

pub returns : goal.returns
returns g c = round_calm g.C.Carrier.puts g.C.Carrier.gives g.C.Carrier.pair (given_by (g.P.Chooser.answers c.args.policy.now)) c.in_ok-rest.rest c.args.at c.args.seats.now c.meet_row.new.seats c.round_at.new.seats c.in_ok-meet_row.ensures.met.calm c.in_ok-rest.ensures
