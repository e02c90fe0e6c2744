use Rattle.std.proofs.Common.{[], ◌∷◌, List, Err, subst}
use Rattle.node_event.specs.declared.event.Event.{Event}
use Rattle.shell_text.specs.Printing.{AreWritten, StopsBy}
use Rattle.shell_text.specs.Report.{last_line, listing}
use Rattle.shell_text.proofs.Printed.{written_then, prints_then, prints_front}
use Rattle.shell_text.proofs.report.print_end.Goals as goal

pub returns-in-Err : goal.returns-in-Err
returns-in-Err g c = prints_front g.O.Sink.written g.O.Sink.faults (last_line c.args.run.now.last ∷ []) (listing c.args.is_asked c.args.run.now.events) c.args.out.now c.write_made.new.out c.in-Err.e (c.in-Err.ensures (last_line c.args.run.now.last) c.last_line.ensures)

pub returns-in-Ok-print_listing : goal.returns-in-Ok-print_listing
returns-in-Ok-print_listing g c =
    written_then g.O.Sink.written g.O.Sink.faults (last_line c.args.run.now.last ∷ []) (listing c.args.is_asked c.args.run.now.events) c.args.out.now c.write_made.new.out c.print_listing.new.out (c.in-Ok.ensures (last_line c.args.run.now.last) c.last_line.ensures)
    (subst (λ (es : List Event). AreWritten g.O.Sink.written g.O.Sink.faults (listing c.args.is_asked es) c.write_made.new.out c.print_listing.new.out) c.as_slice-happened.ensures c.in-Ok-print_listing.ensures)

pub returns-in-Err-print_listing : goal.returns-in-Err-print_listing
returns-in-Err-print_listing g c =
    prints_then g.O.Sink.written g.O.Sink.faults (last_line c.args.run.now.last ∷ []) (listing c.args.is_asked c.args.run.now.events) c.args.out.now c.write_made.new.out c.print_listing.new.out (Err c.in-Err-print_listing.e) (c.in-Ok.ensures (last_line c.args.run.now.last) c.last_line.ensures)
    (subst (λ (es : List Event). StopsBy g.O.Sink.written g.O.Sink.faults (listing c.args.is_asked es) c.write_made.new.out c.print_listing.new.out c.in-Err-print_listing.e) c.as_slice-happened.ensures c.in-Err-print_listing.ensures)
