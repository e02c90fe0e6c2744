use Rattle.signal_set.proofs.Settled.{kept_twice, small_mask}
use Rattle.signal_set.proofs.signals.Signals.set_mask.Goals as goal

pub invariant_of-self : goal.invariant_of-self
invariant_of-self c = record { heeded = c.self.invariant.heeded; kept = kept_twice c.args.new }

pub returns-clause-small : goal.returns-clause-small
returns-clause-small c = small_mask c.self.inside.mask c.self.invariant.kept
