use Rattle.std.proofs.Common.{◌≡◌, ◌+◌, drop}
use Rattle.deputy.specs.Rows.{before}
use Rattle.deputy.proofs.rows.before.Given as goal

abbrev pub invariant-loop-i : goal.invariant-loop-i
invariant-loop-i l = before l.pid l.pids ≡ l.i + before l.pid (drop l.i l.pids)
