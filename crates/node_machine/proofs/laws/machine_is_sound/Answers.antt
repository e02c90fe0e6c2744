use Rattle.node_machine.specs.Policy.{given_by}
use Rattle.node_machine.proofs.Policies.{fitting}
use Rattle.node_machine.proofs.Sound.{sound}
use Rattle.node_machine.proofs.laws.machine_is_sound.Goals as goal

pub returns : goal.returns
returns c = λ start choose plan fit is. sound (given_by (c.C.Chooser.answers choose)) (fitting (c.C.Chooser.answers choose) fit) plan is
