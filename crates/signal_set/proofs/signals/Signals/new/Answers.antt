use Rattle.std.proofs.Common.{refl}
use Rattle.signal_set.proofs.Settled.{settled_none}
use Rattle.signal_set.proofs.signals.Signals.new.Goals as goal

pub invariant_of-result : goal.invariant_of-result
invariant_of-result c = settled_none _ _ refl
