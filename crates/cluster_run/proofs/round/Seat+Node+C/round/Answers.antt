use Rattle.node_machine.specs.Policy.{given_by}
use Rattle.cluster_run.proofs.Rounds.{went_round}
use Rattle.cluster_run.proofs.round.Seat+Node+C.round.Goals as goal

pub returns : goal.returns
returns g c = went_round g.C.Carrier.puts g.C.Carrier.gives g.C.Carrier.pair (given_by (g.P.Chooser.answers c.args.policy.now)) c.in_ok-rest.rest c.in_ok-inbox.inbox c.args.self.now c.send_out.new.self c.take_one.new.self c.make.new.self c.send_out.ensures c.in_ok-inbox.ensures c.in_ok-rest.ensures
