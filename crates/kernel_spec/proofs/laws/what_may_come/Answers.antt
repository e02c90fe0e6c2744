use Rattle.kernel_spec.proofs.WaitFacts.{call_brings, end_no_child, end_no_input, raise_no_waiting, typed_no_waiting}
use Rattle.kernel_spec.proofs.laws.what_may_come.Goals as goal

pub returns-clause-calls : goal.returns-clause-calls
returns-clause-calls c = λ k p q other called waiting live ne e here bring h. (call_brings k p q other called live ne e).come waiting here bring h

pub returns-clause-children : goal.returns-clause-children
returns-clause-children c = end_no_child

pub returns-clause-typed : goal.returns-clause-typed
returns-clause-typed c = end_no_input

pub returns-clause-raises : goal.returns-clause-raises
returns-clause-raises c = raise_no_waiting

pub returns-clause-input : goal.returns-clause-input
returns-clause-input c = typed_no_waiting
