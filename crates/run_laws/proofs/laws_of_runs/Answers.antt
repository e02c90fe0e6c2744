use Rattle.std.proofs.Common.{sym, subst, List}
use Rattle.protocol.specs.Deeds.{Noted}
use Rattle.run_laws.specs.Whole.{Holds}
use Rattle.run_laws.specs.Carried.{CarriedRun, NoneStrange}
use Rattle.run_laws.specs.Histories.{mover}
use Rattle.run_laws.proofs.Did.{runs_hold}
use Rattle.run_laws.proofs.Stories.{mover_sound}
use Rattle.run_laws.proofs.laws_of_runs.Goals as goal

pub returns : goal.returns
returns c = λ h w es r e. subst (λ (k : List Noted). Holds mover k w × CarriedRun mover k w × NoneStrange mover h) (sym e) (runs_hold mover mover_sound h w r)
