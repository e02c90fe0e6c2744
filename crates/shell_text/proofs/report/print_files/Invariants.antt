use Rattle.std.proofs.Common.{drop}
use Rattle.std.specs.List.{flat_map}
use Rattle.shell_text.specs.Report.{file_writes}
use Rattle.shell_text.proofs.Printed.{GoesOn}
use Rattle.shell_text.proofs.report.print_files.Given as goal

-- whatever comes of the rest comes of the whole
abbrev pub invariant-loop-file : goal.invariant-loop-file
invariant-loop-file g l = GoesOn g.O.Sink.written g.O.Sink.faults (flat_map file_writes l.files) l.fn.out (flat_map file_writes (drop l.file-index l.files)) l.out
