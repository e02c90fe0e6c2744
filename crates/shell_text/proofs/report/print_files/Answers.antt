use Rattle.std.proofs.Common.{List, ℕ, subst}
use Rattle.shell_text.specs.Printing.{AreWritten, StopsBy}
use Rattle.shell_text.specs.Report.{file_line, file_writes, block_writes}
use Rattle.std.specs.List.{flat_map}
use Rattle.shell_text.proofs.Printed.{loop_more, loop_stops}
use Rattle.shell_text.proofs.report.print_files.Goals as goal

pub returns-in-Err : goal.returns-in-Err
returns-in-Err g c =
    loop_stops g.O.Sink.written g.O.Sink.faults file_writes c.args.files.now (flat_map file_writes c.args.files.now) c.args.out.now c.loop-file.file-index c.file-item.result c.loop-file.out c.print_block.new.out c.in-Err.e
    c.loop-file-test.true c.file-item.is c.loop-file.invariant
    (subst (λ (bs : List ℕ). StopsBy g.O.Sink.written g.O.Sink.faults (block_writes (file_line c.file-item.result) bs) c.loop-file.out c.print_block.new.out c.in-Err.e) c.as_slice.ensures (c.in-Err.ensures (file_line c.file-item.result) c.file_line.ensures))

pub loop-file-preserved : goal.loop-file-preserved
loop-file-preserved g c =
    loop_more g.O.Sink.written g.O.Sink.faults file_writes c.args.files.now (flat_map file_writes c.args.files.now) c.args.out.now c.loop-file.file-index c.file-item.result c.loop-file.out c.print_block.new.out
    c.loop-file-test.true c.file-item.is c.loop-file.invariant
    (subst (λ (bs : List ℕ). AreWritten g.O.Sink.written g.O.Sink.faults (block_writes (file_line c.file-item.result) bs) c.loop-file.out c.print_block.new.out) c.as_slice.ensures (c.in-Ok.ensures (file_line c.file-item.result) c.file_line.ensures))
