use Rattle.std.proofs.Common.{sym, ◌∙◌}
use Rattle.deputy.proofs.Keeping.{held_view, settled_home}
use Rattle.deputy.proofs.Retrying.{retried_home, retried_some}
use Rattle.deputy.proofs.deputies.Deputies.retry.Goals as goal

pub invariant_of-self : goal.invariant_of-self
invariant_of-self c = settled_home c.self.inside.kernel c.self.inside.rows.list c.self.inside.settled c.self.invariant (sym c.next_ready.ensures ∙ c.in_default.is)

pub invariant_of-self-2 : goal.invariant_of-self-2
invariant_of-self-2 c =
    rw c.if-self.false (retried_home (record { kernel = c.self.inside.kernel; rows = c.self.inside.rows.list }) c.self.inside.settled c.in-Some.pid _ c.self.invariant c.in_ok-acted.ensures.ok)

pub returns-then-self-clause-held : goal.returns-then-self-clause-held
returns-then-self-clause-held c = held_view c.args.self.now c.self.inside.kernel c.self.inside.rows.list c.self.inside.settled c.self.view_is c.self.invariant

pub returns-in_default-clause-held : goal.returns-in_default-clause-held
returns-in_default-clause-held c = held_view c.args.self.now c.self.inside.kernel c.self.inside.rows.list c.self.inside.settled c.self.view_is c.self.invariant

pub returns-in_err-acted-clause-held : goal.returns-in_err-acted-clause-held
returns-in_err-acted-clause-held c = held_view c.args.self.now c.self.inside.kernel c.self.inside.rows.list c.self.inside.settled c.self.view_is c.self.invariant

pub returns-clause-held : goal.returns-clause-held
returns-clause-held c = held_view c.args.self.now c.self.inside.kernel c.self.inside.rows.list c.self.inside.settled c.self.view_is c.self.invariant

pub returns-clause-some : goal.returns-clause-some
returns-clause-some c =
    retried_some (record { kernel = c.self.inside.kernel; rows = c.self.inside.rows.list }) c.args.self.now c.self.inside.settled c.in-Some.pid _ c.self.view_is c.self.invariant (sym c.next_ready.ensures ∙ c.in-Some.is) c.in_ok-acted.ensures.ok
