-- What comes of an item and of the rest comes of all.
use Rattle.std.proofs.Common.{get_or, None}
use Rattle.std.specs.List.{flat_map}
use Rattle.std.proofs.lemmas.List.{get_or_default}
use Rattle.node_event.specs.declared.event.Event.{Event}
use Rattle.node_event.specs.declared.event.What.TheVariants.{Command}
use Rattle.shell_text.specs.Report.{event_writes, line_of_event}
use Rattle.shell_text.proofs.Printed.{loop_more, loop_stops}
use Rattle.shell_text.proofs.report.print_events.Goals as goal

abbrev blank : Event
blank = record { stamp = 0; node = 0; what = Command 0 None None None }

pub returns-in-Err : goal.returns-in-Err
returns-in-Err g c =
    let x = get_or c.args.events.now c.loop-event.event-index blank in
    loop_stops g.O.Sink.written g.O.Sink.faults event_writes c.args.events.now (flat_map event_writes c.args.events.now) c.args.out.now c.loop-event.event-index x c.loop-event.out c.write_made.new.out c.in-Err.e
    c.loop-event-test.true (get_or_default c.args.events.now c.loop-event.event-index blank x c.loop-event-test.true) c.loop-event.invariant (c.in-Err.ensures (line_of_event x) c.line_of_event.ensures)

pub loop-event-preserved : goal.loop-event-preserved
loop-event-preserved g c =
    let x = get_or c.args.events.now c.loop-event.event-index blank in
    loop_more g.O.Sink.written g.O.Sink.faults event_writes c.args.events.now (flat_map event_writes c.args.events.now) c.args.out.now c.loop-event.event-index x c.loop-event.out c.write_made.new.out
    c.loop-event-test.true (get_or_default c.args.events.now c.loop-event.event-index blank x c.loop-event-test.true) c.loop-event.invariant (c.in-Ok.ensures (line_of_event x) c.line_of_event.ensures)
