use Rattle.node_machine.specs.Machine.{machine}
use Rattle.node_machine.specs.Policy.{given_by}
use Rattle.node_machine.proofs.Policies.{fitting}
use Rattle.node_machine.proofs.Sound.{sound}
use Rattle.node_machine.proofs.Lawful.{journals_end}
use Rattle.node_machine.proofs.laws.end_of_journals.Goals as goal

pub returns : goal.returns
returns c = λ start choose plan fit is. let policy = given_by (c.C.Chooser.answers choose) in journals_end (machine policy plan) (sound policy (fitting (c.C.Chooser.answers choose) fit) plan is)
