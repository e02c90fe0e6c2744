use Rattle.kernel_spec.proofs.AboveFacts.{none_lives, none_ended, none_takes, none_ends, none_raised, none_killed}
use Rattle.kernel_spec.proofs.laws.none_above.Goals as goal

pub returns-clause-live : goal.returns-clause-live
returns-clause-live c = none_lives

pub returns-clause-ended : goal.returns-clause-ended
returns-clause-ended c = none_ended

pub returns-clause-signals : goal.returns-clause-signals
returns-clause-signals c = none_takes

pub returns-clause-ends : goal.returns-clause-ends
returns-clause-ends c = none_ends

pub returns-clause-raises : goal.returns-clause-raises
returns-clause-raises c = none_raised

pub returns-clause-kills : goal.returns-clause-kills
returns-clause-kills c = none_killed
