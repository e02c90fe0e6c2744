use Rattle.node_machine.specs.Policy.{given_by, never}
use Rattle.same_machine.proofs.Playing.{plays_same}
use Rattle.same_machine.proofs.laws.one_machine.Goals as goal

pub returns-clause-chosen : goal.returns-clause-chosen
returns-clause-chosen c = λ start choose plan. plays_same (given_by (c.C.Chooser.answers choose)) plan

pub returns-clause-never : goal.returns-clause-never
returns-clause-never c = λ start plan. plays_same never plan
