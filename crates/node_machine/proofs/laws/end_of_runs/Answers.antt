use Rattle.node_machine.specs.Machine.{machine}
use Rattle.node_machine.specs.Policy.{given_by}
use Rattle.node_machine.proofs.Policies.{fitting}
use Rattle.node_machine.proofs.Sound.{sound}
use Rattle.node_machine.proofs.Lawful.{letters, ends}
use Rattle.node_machine.proofs.laws.end_of_runs.Goals as goal

pub returns-clause-letters : goal.returns-clause-letters
returns-clause-letters c = λ start choose plan fit is. let policy = given_by (c.C.Chooser.answers choose) in letters (machine policy plan) (sound policy (fitting (c.C.Chooser.answers choose) fit) plan is)

pub returns-clause-ends : goal.returns-clause-ends
returns-clause-ends c = λ start choose plan fit is. let policy = given_by (c.C.Chooser.answers choose) in ends (machine policy plan) (sound policy (fitting (c.C.Chooser.answers choose) fit) plan is)
