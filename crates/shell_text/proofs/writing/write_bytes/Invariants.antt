use Rattle.std.proofs.Common.{length}
use Rattle.shell_text.specs.Report.{chunks_of}
use Rattle.shell_text.proofs.Printed.{GoesOn}
use Rattle.shell_text.proofs.writing.write_bytes.Given as goal

-- whatever comes of the rest comes of the whole
abbrev pub invariant-loop-rest : goal.invariant-loop-rest
invariant-loop-rest g l = GoesOn g.O.Sink.written g.O.Sink.faults (chunks_of l.bytes) l.fn.out (chunks_of l.rest) l.out

abbrev pub decreases-loop-rest : goal.decreases-loop-rest
decreases-loop-rest g l = length l.rest
