use Rattle.kernel_spec.proofs.CallFacts.{call_leaves, end_leaves}
use Rattle.kernel_spec.proofs.KernelFacts.{take_leaves, input_leaves, dead_after_end}
use Rattle.kernel_spec.proofs.laws.others_stay.Goals as goal

pub returns-clause-calls : goal.returns-clause-calls
returns-clause-calls c = call_leaves

pub returns-clause-ends : goal.returns-clause-ends
returns-clause-ends c = end_leaves

pub returns-clause-takes : goal.returns-clause-takes
returns-clause-takes c = take_leaves

pub returns-clause-input : goal.returns-clause-input
returns-clause-input c = input_leaves

pub returns-clause-dead : goal.returns-clause-dead
returns-clause-dead c = dead_after_end
