use Rattle.protocol.specs.Deeds.{all_noted}
use Rattle.run_laws.specs.Histories.{mover}
use Rattle.run_laws.proofs.Did.{did_holds}
use Rattle.run_laws.proofs.Stories.{mover_sound}
use Rattle.run_laws.proofs.laws_of_journals.Goals as goal

pub returns : goal.returns
returns c = λ turns w es did sorted own. did_holds mover mover_sound turns w (all_noted mover.script es) did sorted own
