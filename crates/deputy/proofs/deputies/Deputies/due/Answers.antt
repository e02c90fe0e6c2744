use Rattle.deputy.proofs.Keeping.{held_view}
use Rattle.deputy.proofs.deputies.Deputies.due.Goals as goal

pub returns-then-not-self-clause-held : goal.returns-then-not-self-clause-held
returns-then-not-self-clause-held c = held_view c.args.self.now c.self.inside.kernel c.self.inside.rows.list c.self.inside.settled c.self.view_is c.self.invariant

pub returns-else-not-self-clause-held : goal.returns-else-not-self-clause-held
returns-else-not-self-clause-held c = held_view c.args.self.now c.self.inside.kernel c.self.inside.rows.list c.self.inside.settled c.self.view_is c.self.invariant
