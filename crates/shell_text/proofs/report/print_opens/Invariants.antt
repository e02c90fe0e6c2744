use Rattle.std.proofs.Common.{drop}
use Rattle.std.specs.List.{flat_map}
use Rattle.shell_text.specs.Report.{open_writes}
use Rattle.shell_text.proofs.Printed.{GoesOn}
use Rattle.shell_text.proofs.report.print_opens.Given as goal

-- whatever comes of the rest comes of the whole
abbrev pub invariant-loop-ordered : goal.invariant-loop-ordered
invariant-loop-ordered g l = GoesOn g.O.Sink.written g.O.Sink.faults (flat_map (open_writes l.events) l.script) l.fn.out (flat_map (open_writes l.events) (drop l.ordered-index l.script)) l.out
