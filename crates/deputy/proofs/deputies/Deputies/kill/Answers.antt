use Rattle.deputy.proofs.Keeping.{killed_home, unsettled}
use Rattle.deputy.proofs.deputies.Deputies.kill.Goals as goal

pub invariant_of-self : goal.invariant_of-self
invariant_of-self c = rw c.in_err-acted.ensures.err (unsettled c.self.inside.kernel c.self.inside.rows.list c.self.inside.settled c.self.invariant)

pub invariant_of-self-2 : goal.invariant_of-self-2
invariant_of-self-2 c = killed_home (record { kernel = c.self.inside.kernel; rows = c.self.inside.rows.list }) c.self.inside.settled c.args.pid c.args.signal c.args.line _ c.self.invariant c.in_ok-acted.ensures.ok
