use Rattle.protocol.specs.Deeds.{all_noted}
use Rattle.run_laws.specs.Histories.{mover}
use Rattle.run_laws.proofs.Skipping.{none_skipped}
use Rattle.run_laws.proofs.Stories.{mover_sound}
use Rattle.run_laws.proofs.none_skipped.Goals as goal

pub returns : goal.returns
returns c = λ acts w es did sorted own few n. none_skipped mover mover_sound acts w (all_noted mover.script es) did sorted own few n
