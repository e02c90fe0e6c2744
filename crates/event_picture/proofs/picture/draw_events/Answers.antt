use Rattle.std.proofs.Common.{Ok, Err}
use Rattle.event_picture.proofs.Drawings.{draws_then}
use Rattle.event_picture.proofs.picture.draw_events.Goals as goal

pub returns-in-Err : goal.returns-in-Err
returns-in-Err g c = draws_then g.O.Sink.written g.O.Sink.faults c.args.out.now c.loop-event.out c.draw_marks.new.out (Err c.in-Err.e) c.loop-event.invariant c.in-Err.ensures

pub loop-event-preserved : goal.loop-event-preserved
loop-event-preserved g c = draws_then g.O.Sink.written g.O.Sink.faults c.args.out.now c.loop-event.out c.draw_marks.new.out (Ok tt) c.loop-event.invariant c.in-Ok.ensures
