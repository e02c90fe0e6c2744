use Rattle.std.proofs.Common.{[], ◌∷◌, Err, Bool, length, subst, sym}
use Rattle.std.specs.List.{flat_map}
use Rattle.shell_text.specs.Printing.{AreWritten, StopsBy}
use Rattle.shell_text.specs.Report.{events_line, event_writes, listing}
use Rattle.shell_text.proofs.Printed.{written_then, prints_then, prints_front}
use Rattle.shell_text.proofs.report.print_listing.Goals as goal

pub returns-in-Err : goal.returns-in-Err
returns-in-Err g c =
    subst (λ (t : Bool). StopsBy g.O.Sink.written g.O.Sink.faults (listing t c.args.events.now) c.args.out.now c.write_made.new.out c.in-Err.e) (sym c.if-not-is_asked.false)
    (prints_front g.O.Sink.written g.O.Sink.faults (events_line (length c.args.events.now) ∷ []) (flat_map event_writes c.args.events.now) c.args.out.now c.write_made.new.out c.in-Err.e (c.in-Err.ensures (events_line (length c.args.events.now)) c.events_line.ensures))

pub returns-in-Ok-print_events : goal.returns-in-Ok-print_events
returns-in-Ok-print_events g c =
    subst (λ (t : Bool). AreWritten g.O.Sink.written g.O.Sink.faults (listing t c.args.events.now) c.args.out.now c.print_events.new.out) (sym c.if-not-is_asked.false)
    (written_then g.O.Sink.written g.O.Sink.faults (events_line (length c.args.events.now) ∷ []) (flat_map event_writes c.args.events.now) c.args.out.now c.write_made.new.out c.print_events.new.out (c.in-Ok.ensures (events_line (length c.args.events.now)) c.events_line.ensures) c.in-Ok-print_events.ensures)

pub returns-in-Err-print_events : goal.returns-in-Err-print_events
returns-in-Err-print_events g c =
    subst (λ (t : Bool). StopsBy g.O.Sink.written g.O.Sink.faults (listing t c.args.events.now) c.args.out.now c.print_events.new.out c.in-Err-print_events.e) (sym c.if-not-is_asked.false)
    (prints_then g.O.Sink.written g.O.Sink.faults (events_line (length c.args.events.now) ∷ []) (flat_map event_writes c.args.events.now) c.args.out.now c.write_made.new.out c.print_events.new.out (Err c.in-Err-print_events.e) (c.in-Ok.ensures (events_line (length c.args.events.now)) c.events_line.ensures) c.in-Err-print_events.ensures)
