use Rattle.std.proofs.Common.{◌≡◌, drop}
use Rattle.std.specs.List.{find}
use Rattle.deputy.specs.Calls.{goes_on}
use Rattle.deputy.proofs.serving.next_ready.Given as goal

abbrev pub invariant-loop-pid : goal.invariant-loop-pid
invariant-loop-pid l =
    find (goes_on (record { kernel = l.kernel; rows = l.rows.list })) l.waiting ≡ find (goes_on (record { kernel = l.kernel; rows = l.rows.list })) (drop l.pid-index l.waiting)
