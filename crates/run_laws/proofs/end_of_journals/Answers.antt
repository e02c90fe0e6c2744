use Rattle.protocol.specs.Deeds.{all_noted}
use Rattle.run_laws.specs.Histories.{mover}
use Rattle.run_laws.proofs.Ending.{end_of_journals}
use Rattle.run_laws.proofs.Stories.{mover_sound}
use Rattle.run_laws.proofs.end_of_journals.Goals as goal

pub returns : goal.returns
returns c = λ turns w es did sorted own. end_of_journals mover mover_sound turns w (all_noted mover.script es) did sorted own
