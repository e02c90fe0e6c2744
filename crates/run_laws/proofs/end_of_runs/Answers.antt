use Rattle.std.proofs.Common.{sym, subst, List}
use Rattle.protocol.specs.Deeds.{Noted}
use Rattle.run_laws.specs.Ending.{Ending}
use Rattle.run_laws.specs.Histories.{mover}
use Rattle.run_laws.proofs.Awaiting.{awaits_untaken}
use Rattle.run_laws.proofs.Ending.{end_of_runs}
use Rattle.run_laws.proofs.SmallAble.{mover_able}
use Rattle.run_laws.proofs.Stories.{mover_sound}
use Rattle.run_laws.proofs.end_of_runs.Goals as goal

pub returns-clause-able : goal.returns-clause-able
returns-clause-able c = mover_able

pub returns-clause-letters : goal.returns-clause-letters
returns-clause-letters c = λ h w r n. awaits_untaken mover h w r n

pub returns-clause-ends : goal.returns-clause-ends
returns-clause-ends c = λ h w es r e. subst (λ (k : List Noted). Ending mover k w) (sym e) (end_of_runs mover mover_sound h w r)
