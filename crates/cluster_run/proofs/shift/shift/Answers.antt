use Rattle.std.proofs.Common.{arith}
use Rattle.node_machine.specs.Policy.{given_by}
use Rattle.cluster_run.proofs.Shifts.{all_shifted, shift_passed, passed_met}
use Rattle.cluster_run.proofs.shift.shift.Goals as goal

pub returns : goal.returns
returns g c =
    let met = c.in_ok-_none.ensures.calm in
    passed_met (given_by (g.P.Chooser.answers c.args.policy.now)) g.C.Carrier.puts g.C.Carrier.gives g.C.Carrier.pair c.args.nodes c.first_stopped.result c.args.seats.now c.meet_all.new.seats c.work_all.new.seats met
    (shift_passed (given_by (g.P.Chooser.answers c.args.policy.now)) g.C.Carrier.puts g.C.Carrier.gives g.C.Carrier.pair c.meet_all.new.seats c.work_all.new.seats
    (all_shifted (given_by (g.P.Chooser.answers c.args.policy.now)) g.C.Carrier.puts g.C.Carrier.gives g.C.Carrier.pair c.meet_all.new.seats c.work_all.new.seats (omega (arith, c.work_all.auto.seats)) (c.has_failed.ensures c.if-has_failed.false) c.work_all.ensures)
    c.args.nodes (let k = met.count in omega (arith, k, c.requires.nodes)) c.first_stopped.result c.first_stopped.ensures)
