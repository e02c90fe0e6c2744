use Rattle.std.proofs.Common.{List, ℕ, ◌++◌, Err, length, subst}
use Rattle.std.specs.List.{flat_map}
use Rattle.call_table.specs.declared.files.Named.{Named}
use Rattle.call_table.specs.declared.process.PidState.{PidState}
use Rattle.shell_text.specs.Printing.{AreWritten, StopsBy}
use Rattle.shell_text.specs.Report.{block_writes, terminal_line, status_writes, file_writes}
use Rattle.shell_text.proofs.Printed.{written_then, prints_then, prints_front}
use Rattle.shell_text.proofs.report.print_state.Goals as goal

pub returns-in-Err : goal.returns-in-Err
returns-in-Err g c =
    prints_front g.O.Sink.written g.O.Sink.faults (block_writes (terminal_line (length c.args.run.now.terminal)) c.args.run.now.terminal) (flat_map status_writes c.args.run.now.statuses ++ flat_map file_writes c.args.run.now.files) c.args.out.now c.print_block.new.out c.in-Err.e
    (subst (λ (bs : List ℕ). StopsBy g.O.Sink.written g.O.Sink.faults (block_writes (terminal_line (length bs)) bs) c.args.out.now c.print_block.new.out c.in-Err.e) c.as_slice-terminal.ensures (c.in-Err.ensures (terminal_line (length c.as_slice-terminal.result.now)) c.terminal_line.ensures))

pub returns-in-Err-print_statuses : goal.returns-in-Err-print_statuses
returns-in-Err-print_statuses g c =
    prints_then g.O.Sink.written g.O.Sink.faults (block_writes (terminal_line (length c.args.run.now.terminal)) c.args.run.now.terminal) (flat_map status_writes c.args.run.now.statuses ++ flat_map file_writes c.args.run.now.files) c.args.out.now c.print_block.new.out c.print_statuses.new.out (Err c.in-Err-print_statuses.e)
    (subst (λ (bs : List ℕ). AreWritten g.O.Sink.written g.O.Sink.faults (block_writes (terminal_line (length bs)) bs) c.args.out.now c.print_block.new.out) c.as_slice-terminal.ensures (c.in-Ok.ensures (terminal_line (length c.as_slice-terminal.result.now)) c.terminal_line.ensures))
    (prints_front g.O.Sink.written g.O.Sink.faults (flat_map status_writes c.args.run.now.statuses) (flat_map file_writes c.args.run.now.files) c.print_block.new.out c.print_statuses.new.out c.in-Err-print_statuses.e
    (subst (λ (xs : List (ℕ × PidState)). StopsBy g.O.Sink.written g.O.Sink.faults (flat_map status_writes xs) c.print_block.new.out c.print_statuses.new.out c.in-Err-print_statuses.e) c.as_slice-statuses.ensures c.in-Err-print_statuses.ensures))

pub returns-in-Ok-print_files : goal.returns-in-Ok-print_files
returns-in-Ok-print_files g c =
    written_then g.O.Sink.written g.O.Sink.faults (block_writes (terminal_line (length c.args.run.now.terminal)) c.args.run.now.terminal) (flat_map status_writes c.args.run.now.statuses ++ flat_map file_writes c.args.run.now.files) c.args.out.now c.print_block.new.out c.print_files.new.out
    (subst (λ (bs : List ℕ). AreWritten g.O.Sink.written g.O.Sink.faults (block_writes (terminal_line (length bs)) bs) c.args.out.now c.print_block.new.out) c.as_slice-terminal.ensures (c.in-Ok.ensures (terminal_line (length c.as_slice-terminal.result.now)) c.terminal_line.ensures))
    (written_then g.O.Sink.written g.O.Sink.faults (flat_map status_writes c.args.run.now.statuses) (flat_map file_writes c.args.run.now.files) c.print_block.new.out c.print_statuses.new.out c.print_files.new.out
    (subst (λ (xs : List (ℕ × PidState)). AreWritten g.O.Sink.written g.O.Sink.faults (flat_map status_writes xs) c.print_block.new.out c.print_statuses.new.out) c.as_slice-statuses.ensures c.in-Ok-print_statuses.ensures)
    (subst (λ (xs : List Named). AreWritten g.O.Sink.written g.O.Sink.faults (flat_map file_writes xs) c.print_statuses.new.out c.print_files.new.out) c.as_slice-files.ensures c.in-Ok-print_files.ensures))

pub returns-in-Err-print_files : goal.returns-in-Err-print_files
returns-in-Err-print_files g c =
    prints_then g.O.Sink.written g.O.Sink.faults (block_writes (terminal_line (length c.args.run.now.terminal)) c.args.run.now.terminal) (flat_map status_writes c.args.run.now.statuses ++ flat_map file_writes c.args.run.now.files) c.args.out.now c.print_block.new.out c.print_files.new.out (Err c.in-Err-print_files.e)
    (subst (λ (bs : List ℕ). AreWritten g.O.Sink.written g.O.Sink.faults (block_writes (terminal_line (length bs)) bs) c.args.out.now c.print_block.new.out) c.as_slice-terminal.ensures (c.in-Ok.ensures (terminal_line (length c.as_slice-terminal.result.now)) c.terminal_line.ensures))
    (prints_then g.O.Sink.written g.O.Sink.faults (flat_map status_writes c.args.run.now.statuses) (flat_map file_writes c.args.run.now.files) c.print_block.new.out c.print_statuses.new.out c.print_files.new.out (Err c.in-Err-print_files.e)
    (subst (λ (xs : List (ℕ × PidState)). AreWritten g.O.Sink.written g.O.Sink.faults (flat_map status_writes xs) c.print_block.new.out c.print_statuses.new.out) c.as_slice-statuses.ensures c.in-Ok-print_statuses.ensures)
    (subst (λ (xs : List Named). StopsBy g.O.Sink.written g.O.Sink.faults (flat_map file_writes xs) c.print_statuses.new.out c.print_files.new.out c.in-Err-print_files.e) c.as_slice-files.ensures c.in-Err-print_files.ensures))
