-- What is done at a signal.
use Rattle.std.specs.Prelude.{ℕ, Bool, true, false, ◌==◌}
use Rattle.call_table.specs.declared.signal.TheConstants.{SIGCHLD}
use Rattle.call_table.specs.declared.request.Taken.{Taken}
use Rattle.call_table.specs.declared.request.Taken.TheVariants.{Dies, Enters}
use Rattle.signal_set.specs.declared.act.Act.{Act}
use Rattle.signal_set.specs.declared.act.Act.TheVariants.{Default, Ignore, Handler}

-- whether a signal does nothing at a process that has this action for it: by default only 17
abbrev pub ignores : Act → ℕ → Bool
ignores Default signal = signal == SIGCHLD
ignores Ignore signal = true
ignores (Handler entry restorer) signal = false

-- how a signal is taken by its action, under the mask that stood before
abbrev pub taken_by : Act → ℕ → ℕ → Taken
taken_by Default signal mask = Dies signal
taken_by Ignore signal mask = Dies signal
taken_by (Handler entry restorer) signal mask = Enters signal entry restorer mask
