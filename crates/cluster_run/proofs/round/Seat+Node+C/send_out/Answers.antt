use Rattle.std.proofs.Common.{None}
use Rattle.cluster_run.proofs.Rounds.{step_none, step_then}
use Rattle.cluster_run.proofs.round.Seat+Node+C.send_out.Goals as goal

pub returns-then-not-send_one : goal.returns-then-not-send_one
returns-then-not-send_one g c = step_then g.C.Carrier.puts g.C.Carrier.gives g.C.Carrier.pair None c.args.self.now c.loop.self c.send_one.new.self c.loop.invariant c.send_one.ensures
