use Rattle.deputy.proofs.Keeping.{told_home, unsettled}
use Rattle.deputy.proofs.deputies.Deputies.landed.Goals as goal

pub invariant_of-self : goal.invariant_of-self
invariant_of-self c = rw c.in_err-acted.ensures.err (unsettled c.self.inside.kernel c.self.inside.rows.list c.self.inside.settled c.self.invariant)

pub invariant_of-self-2 : goal.invariant_of-self-2
invariant_of-self-2 c = told_home (record { kernel = c.self.inside.kernel; rows = c.self.inside.rows.list }) c.self.inside.settled _ c.args.at c.args.pid c.args.source c.args.hops c.args.line _ c.self.invariant c.in_ok-acted.ensures.ok
