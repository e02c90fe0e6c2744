use Rattle.signal_set.proofs.Settled.{kill_deliverable}
use Rattle.signal_set.proofs.signals.Signals.deliverable.Goals as goal

pub returns-clause-kill : goal.returns-clause-kill
returns-clause-kill c = rw (c.lowest.ensures.lowest, ← c.self.view_is) (kill_deliverable _ c.self.invariant)
