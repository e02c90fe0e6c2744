use Rattle.std.proofs.Common.{drop}
use Rattle.std.specs.List.{flat_map}
use Rattle.shell_text.specs.Report.{outcome_writes}
use Rattle.shell_text.proofs.Printed.{GoesOn}
use Rattle.shell_text.proofs.report.print_outcomes.Given as goal

-- whatever comes of the rest comes of the whole
abbrev pub invariant-loop-event : goal.invariant-loop-event
invariant-loop-event g l = GoesOn g.O.Sink.written g.O.Sink.faults (flat_map (outcome_writes l.script) l.events) l.fn.out (flat_map (outcome_writes l.script) (drop l.event-index l.events)) l.out
