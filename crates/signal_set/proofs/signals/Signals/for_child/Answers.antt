use Rattle.signal_set.proofs.Settled.{settled_none}
use Rattle.signal_set.proofs.signals.Signals.for_child.Goals as goal

pub invariant_of-result : goal.invariant_of-result
invariant_of-result c = settled_none _ _ c.self.invariant.kept
