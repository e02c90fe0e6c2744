use Rattle.std.proofs.Common.{drop}
use Rattle.std.specs.List.{flat_map}
use Rattle.shell_text.specs.Report.{event_writes}
use Rattle.shell_text.proofs.Printed.{GoesOn}
use Rattle.shell_text.proofs.report.print_events.Given as goal

-- whatever comes of the rest comes of the whole
abbrev pub invariant-loop-event : goal.invariant-loop-event
invariant-loop-event g l = GoesOn g.O.Sink.written g.O.Sink.faults (flat_map event_writes l.events) l.fn.out (flat_map event_writes (drop l.event-index l.events)) l.out
