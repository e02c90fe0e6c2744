use Rattle.std.proofs.Common.{◌≡◌}
use Rattle.mosix_shell.specs.Left.{state_at, states_to}
use Rattle.mosix_shell.proofs.left.states_at.Given as goal

-- the states of the pids so far
abbrev pub invariant-loop-before : goal.invariant-loop-before
invariant-loop-before l = l.statuses ≡ states_to (state_at l.last l.home) l.before
