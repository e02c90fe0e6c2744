use Rattle.std.proofs.Common.{refl}
use Rattle.kernel_spec.proofs.BlockFacts.{blocks_as_it_waits}
use Rattle.kernel_spec.proofs.WaitFacts.{awaited_kept, call_brings, end_waiting, take_waiting, raise_waiting}
use Rattle.kernel_spec.proofs.laws.blocks_until_it_comes.Goals as goal

pub returns-clause-exactly : goal.returns-clause-exactly
returns-clause-exactly c = blocks_as_it_waits

pub returns-clause-calls : goal.returns-clause-calls
returns-clause-calls c = λ k p q asked other called waiting live ne e h. awaited_kept k called.kernel p asked waiting (call_brings k p q other called live ne e).waiting h

pub returns-clause-ends : goal.returns-clause-ends
returns-clause-ends c = λ k p q asked e waiting live ne h. awaited_kept k _ p asked waiting (end_waiting k p q e live ne) h

pub returns-clause-takes : goal.returns-clause-takes
returns-clause-takes c = λ k p q asked room after waiting live ne e h. awaited_kept k after.kernel p asked waiting (take_waiting k p q room after live ne e) h

pub returns-clause-raises : goal.returns-clause-raises
returns-clause-raises c = λ k p q signal asked waiting h. awaited_kept k _ p asked waiting (raise_waiting k p q signal) h

pub returns-clause-input : goal.returns-clause-input
returns-clause-input c = λ k p input asked. refl
