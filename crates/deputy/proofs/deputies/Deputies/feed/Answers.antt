use Rattle.deputy.proofs.Keeping.{input_home, unsettled}
use Rattle.deputy.proofs.deputies.Deputies.feed.Goals as goal

pub invariant_of-self : goal.invariant_of-self
invariant_of-self c = rw c.in_err-feed.ensures.err (unsettled c.self.inside.kernel c.self.inside.rows.list c.self.inside.settled c.self.invariant)

pub invariant_of-self-2 : goal.invariant_of-self-2
invariant_of-self-2 c = rw c.in_ok-feed.ensures.ok (input_home c.self.inside.kernel _ c.self.inside.rows.list c.self.inside.settled c.self.invariant)
