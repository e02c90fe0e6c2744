use Rattle.std.proofs.Common.{◌≡◌, drop}
use Rattle.shell_text.specs.Opens.{progress_from}
use Rattle.shell_text.specs.declared.open.Progress.TheVariants.{Unsent}
use Rattle.shell_text.proofs.open.progress_in.Given as goal

abbrev pub invariant-loop-event : goal.invariant-loop-event
invariant-loop-event l = progress_from l.number l.mover Unsent l.events ≡ progress_from l.number l.mover l.progress (drop l.event-index l.events)
