use Rattle.signal_set.proofs.Settled.{settled_taken, kept_after}
use Rattle.signal_set.proofs.signals.Signals.take.Goals as goal

pub invariant_of-self : goal.invariant_of-self
invariant_of-self c = rw (c.write.ensures, c.mask_after-self-inside.ensures) (settled_taken _ _ _ c.self.invariant (kept_after _ _ _ c.self.invariant.kept))
