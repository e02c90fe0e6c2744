use Rattle.std.proofs.Common.{sym, ◌∙◌}
use Rattle.deputy.proofs.Keeping.{paused_home, unsettled}
use Rattle.deputy.proofs.deputies.Deputies.paused.Goals as goal

pub invariant_of-self : goal.invariant_of-self
invariant_of-self c = rw (c.in_err-acted.ensures.kernel, c.in_err-acted.ensures.rows) (unsettled c.self.inside.kernel c.self.inside.rows.list c.self.inside.settled c.self.invariant)

pub invariant_of-self-2 : goal.invariant_of-self-2
invariant_of-self-2 c =
    paused_home (record { kernel = c.self.inside.kernel; rows = c.self.inside.rows.list }) c.self.inside.settled c.args.from c.args.pid c.args.room _ c.self.invariant
    (sym c.may_ask.ensures ∙ c.if-not-may_ask.false) c.in_ok-acted.ensures.ok
