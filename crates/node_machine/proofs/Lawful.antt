-- The laws of a run, of any machine that is sound.
use Rattle.std.proofs.Common.{◌≡◌, sym, subst, List, ℕ}
use Rattle.protocol.specs.Ops.{Ops, Sound}
use Rattle.protocol.specs.Deeds.{Noted}
use Rattle.run_laws.specs.Whole.{Holds}
use Rattle.run_laws.specs.Carried.{CarriedRun, NoneStrange}
use Rattle.run_laws.specs.Ending.{Ending}
use Rattle.run_laws.proofs.Did.{runs_hold, did_holds}
use Rattle.run_laws.proofs.Odd.{not_odd}
use Rattle.run_laws.proofs.Skipping.{none_skipped}
use Rattle.run_laws.proofs.Awaiting.{awaits_untaken}
use Rattle.run_laws.proofs.Ending.{end_of_runs, end_of_journals}
use Rattle.run_laws.proofs.OneNode.{stays_home}
use Rattle.node_machine.specs.Laws.{as_read, RunsHold, JournalsHold, NoneOdd, NoneSkips, LettersLie, RunsEnd, JournalsEnd, StaysHome}

module _ (O : Ops) (S : Sound O) where
  pub runs : RunsHold O
  runs h w es r e = subst (λ (k : List Noted). Holds O k w × CarriedRun O k w × NoneStrange O h) (sym e) (runs_hold O S h w r)

  pub journals : JournalsHold O
  journals turns w es did merged = did_holds O S turns w (as_read O es) did merged.0 merged.1

  pub none_odd : NoneOdd O
  none_odd h w run a n l rest timed few below is odd = not_odd O S h w run timed few a n l rest below is odd

  pub none_skips : NoneSkips O
  none_skips acts w es did sorted own few n = none_skipped O S acts w (as_read O es) did sorted own few n

  pub letters : LettersLie O
  letters h w r n = awaits_untaken O h w r n

  pub ends : RunsEnd O
  ends h w es r e = subst (λ (k : List Noted). Ending O k w) (sym e) (end_of_runs O S h w r)

  pub journals_end : JournalsEnd O
  journals_end turns w es did merged = end_of_journals O S turns w (as_read O es) did merged.0 merged.1

  pub home : StaysHome O
  home one h w r = stays_home O S one h w r
