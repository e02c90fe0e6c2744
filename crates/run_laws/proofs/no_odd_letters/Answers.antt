use Rattle.run_laws.specs.Histories.{mover}
use Rattle.run_laws.proofs.Odd.{not_odd}
use Rattle.run_laws.proofs.Stories.{mover_sound}
use Rattle.run_laws.proofs.no_odd_letters.Goals as goal

pub returns : goal.returns
returns c = λ h w run a n l rest timed few below is odd. not_odd mover mover_sound h w run timed few a n l rest below is odd
