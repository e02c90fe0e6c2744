use Rattle.std.proofs.Common.{ap, length, List}
use Rattle.proc_tree.specs.declared.process.Process.{Process}
use Rattle.kernel_spec.proofs.GivenLemmas.{call_gives, given_end, tree_raised}
use Rattle.kernel_spec.proofs.laws.pids_only_grow.Goals as goal

pub returns-clause-calls : goal.returns-clause-calls
returns-clause-calls c = call_gives

pub returns-clause-ends : goal.returns-clause-ends
returns-clause-ends c = given_end

pub returns-clause-signals : goal.returns-clause-signals
returns-clause-signals c = λ k pid signal. ap (λ (t : List Process). length t) (tree_raised k.processes pid signal)
