use Rattle.std.proofs.Common.{List, ℕ, ◌++◌, Err, length, subst}
use Rattle.call_table.specs.declared.process.PidState.{PidState}
use Rattle.node_event.specs.declared.event.Event.{Event}
use Rattle.shell_text.specs.Printing.{AreWritten, StopsBy}
use Rattle.shell_text.specs.Summary.{process_writes, output_writes, close_writes}
use Rattle.shell_text.proofs.Printed.{written_then, prints_then, prints_front}
use Rattle.shell_text.proofs.summary.print_summary.Goals as goal

pub returns-in-Err : goal.returns-in-Err
returns-in-Err g c =
    prints_front g.O.Sink.written g.O.Sink.faults (process_writes c.args.run.now.statuses) (output_writes (length c.args.run.now.terminal) (length c.args.run.now.files) ++ close_writes c.args.run.now.events c.args.run.now.last) c.args.out.now c.print_processes.new.out c.in-Err.e
    (subst (λ (xs : List (ℕ × PidState)). StopsBy g.O.Sink.written g.O.Sink.faults (process_writes xs) c.args.out.now c.print_processes.new.out c.in-Err.e) c.as_slice-statuses.ensures c.in-Err.ensures)

pub returns-in-Err-print_output : goal.returns-in-Err-print_output
returns-in-Err-print_output g c =
    prints_then g.O.Sink.written g.O.Sink.faults (process_writes c.args.run.now.statuses) (output_writes (length c.args.run.now.terminal) (length c.args.run.now.files) ++ close_writes c.args.run.now.events c.args.run.now.last) c.args.out.now c.print_processes.new.out c.print_output.new.out (Err c.in-Err-print_output.e)
    (subst (λ (xs : List (ℕ × PidState)). AreWritten g.O.Sink.written g.O.Sink.faults (process_writes xs) c.args.out.now c.print_processes.new.out) c.as_slice-statuses.ensures c.in-Ok.ensures)
    (prints_front g.O.Sink.written g.O.Sink.faults (output_writes (length c.args.run.now.terminal) (length c.args.run.now.files)) (close_writes c.args.run.now.events c.args.run.now.last) c.print_processes.new.out c.print_output.new.out c.in-Err-print_output.e c.in-Err-print_output.ensures)

pub returns-in-Ok-print_close : goal.returns-in-Ok-print_close
returns-in-Ok-print_close g c =
    written_then g.O.Sink.written g.O.Sink.faults (process_writes c.args.run.now.statuses) (output_writes (length c.args.run.now.terminal) (length c.args.run.now.files) ++ close_writes c.args.run.now.events c.args.run.now.last) c.args.out.now c.print_processes.new.out c.print_close.new.out
    (subst (λ (xs : List (ℕ × PidState)). AreWritten g.O.Sink.written g.O.Sink.faults (process_writes xs) c.args.out.now c.print_processes.new.out) c.as_slice-statuses.ensures c.in-Ok.ensures)
    (written_then g.O.Sink.written g.O.Sink.faults (output_writes (length c.args.run.now.terminal) (length c.args.run.now.files)) (close_writes c.args.run.now.events c.args.run.now.last) c.print_processes.new.out c.print_output.new.out c.print_close.new.out c.in-Ok-print_output.ensures
    (subst (λ (xs : List Event). AreWritten g.O.Sink.written g.O.Sink.faults (close_writes xs c.args.run.now.last) c.print_output.new.out c.print_close.new.out) c.as_slice-happened.ensures c.in-Ok-print_close.ensures))

pub returns-in-Err-print_close : goal.returns-in-Err-print_close
returns-in-Err-print_close g c =
    prints_then g.O.Sink.written g.O.Sink.faults (process_writes c.args.run.now.statuses) (output_writes (length c.args.run.now.terminal) (length c.args.run.now.files) ++ close_writes c.args.run.now.events c.args.run.now.last) c.args.out.now c.print_processes.new.out c.print_close.new.out (Err c.in-Err-print_close.e)
    (subst (λ (xs : List (ℕ × PidState)). AreWritten g.O.Sink.written g.O.Sink.faults (process_writes xs) c.args.out.now c.print_processes.new.out) c.as_slice-statuses.ensures c.in-Ok.ensures)
    (prints_then g.O.Sink.written g.O.Sink.faults (output_writes (length c.args.run.now.terminal) (length c.args.run.now.files)) (close_writes c.args.run.now.events c.args.run.now.last) c.print_processes.new.out c.print_output.new.out c.print_close.new.out (Err c.in-Err-print_close.e) c.in-Ok-print_output.ensures
    (subst (λ (xs : List Event). StopsBy g.O.Sink.written g.O.Sink.faults (close_writes xs c.args.run.now.last) c.print_output.new.out c.print_close.new.out c.in-Err-print_close.e) c.as_slice-happened.ensures c.in-Err-print_close.ensures))
