use Rattle.std.proofs.Common.{Ok, Err}
use Rattle.event_picture.proofs.Drawings.{draws_then}
use Rattle.event_picture.proofs.picture.draw_listing.Goals as goal

pub returns-in-Err-draw_events : goal.returns-in-Err-draw_events
returns-in-Err-draw_events g c = draws_then g.O.Sink.written g.O.Sink.faults c.args.out.now c.write_text.new.out c.draw_events.new.out (Err c.in-Err-draw_events.e) c.in-Ok-write_text.ensures c.in-Err-draw_events.ensures

pub returns-in-Ok-write_text-2 : goal.returns-in-Ok-write_text-2
returns-in-Ok-write_text-2 g c =
    draws_then g.O.Sink.written g.O.Sink.faults c.args.out.now c.draw_events.new.out c.write_text-2.new.out (Ok tt)
    (draws_then g.O.Sink.written g.O.Sink.faults c.args.out.now c.write_text.new.out c.draw_events.new.out (Ok tt) c.in-Ok-write_text.ensures c.in-Ok-draw_events.ensures) c.in-Ok-write_text-2.ensures

pub returns : goal.returns
returns g c =
    draws_then g.O.Sink.written g.O.Sink.faults c.args.out.now c.draw_events.new.out c.write_text-2.new.out (Err c.in-Err-write_text-2.e)
    (draws_then g.O.Sink.written g.O.Sink.faults c.args.out.now c.write_text.new.out c.draw_events.new.out (Ok tt) c.in-Ok-write_text.ensures c.in-Ok-draw_events.ensures) c.in-Err-write_text-2.ensures
