use Rattle.std.proofs.Common.{List, ◌++◌, Err, subst}
use Rattle.std.specs.List.{flat_map}
use Rattle.node_event.specs.declared.event.Event.{Event}
use Rattle.node_event.specs.declared.script.ScriptLine.{ScriptLine}
use Rattle.shell_text.specs.Printing.{AreWritten, StopsBy}
use Rattle.shell_text.specs.Report.{outcome_writes, open_writes, state_writes, move_writes, end_writes}
use Rattle.shell_text.proofs.Printed.{written_then, prints_then, prints_front}
use Rattle.shell_text.proofs.report.print_report.Goals as goal

pub returns-in-Err : goal.returns-in-Err
returns-in-Err g c = prints_front g.O.Sink.written g.O.Sink.faults (state_writes c.args.run.now) (move_writes c.args.run.now c.args.script.now ++ end_writes c.args.run.now c.args.events) c.args.out.now c.print_state.new.out c.in-Err.e c.in-Err.ensures

pub returns-in-Err-print_moves : goal.returns-in-Err-print_moves
returns-in-Err-print_moves g c =
    prints_then g.O.Sink.written g.O.Sink.faults (state_writes c.args.run.now) (move_writes c.args.run.now c.args.script.now ++ end_writes c.args.run.now c.args.events) c.args.out.now c.print_state.new.out c.print_moves.new.out (Err c.in-Err-print_moves.e) c.in-Ok.ensures
    (prints_front g.O.Sink.written g.O.Sink.faults (move_writes c.args.run.now c.args.script.now) (end_writes c.args.run.now c.args.events) c.print_state.new.out c.print_moves.new.out c.in-Err-print_moves.e
    (subst (λ (ss : List ScriptLine). StopsBy g.O.Sink.written g.O.Sink.faults (flat_map (outcome_writes ss) c.args.run.now.events ++ flat_map (open_writes c.args.run.now.events) ss) c.print_state.new.out c.print_moves.new.out c.in-Err-print_moves.e) c.as_slice-orders.ensures (subst (λ (es : List Event). StopsBy g.O.Sink.written g.O.Sink.faults (flat_map (outcome_writes c.as_slice-orders.result.now) es ++ flat_map (open_writes es) c.as_slice-orders.result.now) c.print_state.new.out c.print_moves.new.out c.in-Err-print_moves.e) c.as_slice-happened.ensures c.in-Err-print_moves.ensures)))

pub returns-in-Ok-print_end : goal.returns-in-Ok-print_end
returns-in-Ok-print_end g c =
    written_then g.O.Sink.written g.O.Sink.faults (state_writes c.args.run.now) (move_writes c.args.run.now c.args.script.now ++ end_writes c.args.run.now c.args.events) c.args.out.now c.print_state.new.out c.print_end.new.out c.in-Ok.ensures
    (written_then g.O.Sink.written g.O.Sink.faults (move_writes c.args.run.now c.args.script.now) (end_writes c.args.run.now c.args.events) c.print_state.new.out c.print_moves.new.out c.print_end.new.out
    (subst (λ (ss : List ScriptLine). AreWritten g.O.Sink.written g.O.Sink.faults (flat_map (outcome_writes ss) c.args.run.now.events ++ flat_map (open_writes c.args.run.now.events) ss) c.print_state.new.out c.print_moves.new.out) c.as_slice-orders.ensures (subst (λ (es : List Event). AreWritten g.O.Sink.written g.O.Sink.faults (flat_map (outcome_writes c.as_slice-orders.result.now) es ++ flat_map (open_writes es) c.as_slice-orders.result.now) c.print_state.new.out c.print_moves.new.out) c.as_slice-happened.ensures c.in-Ok-print_moves.ensures))
    c.in-Ok-print_end.ensures)

pub returns-in-Err-print_end : goal.returns-in-Err-print_end
returns-in-Err-print_end g c =
    prints_then g.O.Sink.written g.O.Sink.faults (state_writes c.args.run.now) (move_writes c.args.run.now c.args.script.now ++ end_writes c.args.run.now c.args.events) c.args.out.now c.print_state.new.out c.print_end.new.out (Err c.in-Err-print_end.e) c.in-Ok.ensures
    (prints_then g.O.Sink.written g.O.Sink.faults (move_writes c.args.run.now c.args.script.now) (end_writes c.args.run.now c.args.events) c.print_state.new.out c.print_moves.new.out c.print_end.new.out (Err c.in-Err-print_end.e)
    (subst (λ (ss : List ScriptLine). AreWritten g.O.Sink.written g.O.Sink.faults (flat_map (outcome_writes ss) c.args.run.now.events ++ flat_map (open_writes c.args.run.now.events) ss) c.print_state.new.out c.print_moves.new.out) c.as_slice-orders.ensures (subst (λ (es : List Event). AreWritten g.O.Sink.written g.O.Sink.faults (flat_map (outcome_writes c.as_slice-orders.result.now) es ++ flat_map (open_writes es) c.as_slice-orders.result.now) c.print_state.new.out c.print_moves.new.out) c.as_slice-happened.ensures c.in-Ok-print_moves.ensures))
    c.in-Err-print_end.ensures)
