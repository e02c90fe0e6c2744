use Rattle.node_machine.specs.Policy.{given_by}
use Rattle.node_machine.proofs.Policies.{answered}
use Rattle.node_machine.proofs.Sound.{able}
use Rattle.node_machine.proofs.laws.machine_is_able.Goals as goal

pub returns : goal.returns
returns c = λ start choose plan has is. able (given_by (c.C.Chooser.answers choose)) (answered (c.C.Chooser.answers choose) has) plan is
