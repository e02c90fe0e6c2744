use Rattle.node_machine.specs.Policy.{given_by}
use Rattle.cluster_run.proofs.Shifts.{works_none, shifted_works, works_more, shifted_full}
use Rattle.cluster_run.proofs.shift.Seat+Node+C.work.Goals as goal

pub loop-init : goal.loop-init
loop-init g c = works_none (given_by (g.P.Chooser.answers c.args.policy.now)) g.C.Carrier.puts g.C.Carrier.gives g.C.Carrier.pair c.args.self.now

pub returns-then-idle-ge-SHIFT_IDLE_TURNS : goal.returns-then-idle-ge-SHIFT_IDLE_TURNS
returns-then-idle-ge-SHIFT_IDLE_TURNS g c = shifted_works (given_by (g.P.Chooser.answers c.args.policy.now)) g.C.Carrier.puts g.C.Carrier.gives g.C.Carrier.pair c.args.self.now c.loop.self c.loop.invariant

pub returns-in-Full : goal.returns-in-Full
returns-in-Full g c = shifted_full (given_by (g.P.Chooser.answers c.args.policy.now)) g.C.Carrier.puts g.C.Carrier.gives g.C.Carrier.pair c.args.self.now c.loop.self c.round.new.self c.loop.invariant c.in_ok-rest.rest c.in-Full.is c.in_ok-rest.ensures

pub loop-preserved : goal.loop-preserved
loop-preserved g c = works_more (given_by (g.P.Chooser.answers c.args.policy.now)) g.C.Carrier.puts g.C.Carrier.gives g.C.Carrier.pair c.args.self.now c.loop.self c.round.new.self c.loop.invariant c.in_ok-rest.rest c.in_default.not-Full c.in_ok-rest.ensures

pub returns : goal.returns
returns g c = shifted_works (given_by (g.P.Chooser.answers c.args.policy.now)) g.C.Carrier.puts g.C.Carrier.gives g.C.Carrier.pair c.args.self.now c.loop.self c.loop.invariant
