use Rattle.signal_set.proofs.Settled.{settled_taken}
use Rattle.signal_set.proofs.signals.Signals.forget.Goals as goal

pub invariant_of-self : goal.invariant_of-self
invariant_of-self c = rw c.write.ensures (settled_taken _ _ _ c.self.invariant c.self.invariant.kept)
