use Rattle.std.proofs.Common.{drop}
use Rattle.std.specs.List.{flat_map}
use Rattle.shell_text.specs.Report.{status_writes}
use Rattle.shell_text.proofs.Printed.{GoesOn}
use Rattle.shell_text.proofs.report.print_statuses.Given as goal

-- whatever comes of the rest comes of the whole
abbrev pub invariant-loop-status : goal.invariant-loop-status
invariant-loop-status g l = GoesOn g.O.Sink.written g.O.Sink.faults (flat_map status_writes l.statuses) l.fn.out (flat_map status_writes (drop l.status-index l.statuses)) l.out
