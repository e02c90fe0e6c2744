use Rattle.std.proofs.Common.{Ok}
use Rattle.event_picture.specs.Drawn.{Draws}
use Rattle.event_picture.proofs.picture.draw_events.Given as goal

-- the events so far are drawn
abbrev pub invariant-loop-event : goal.invariant-loop-event
invariant-loop-event g l = Draws g.O.Sink.written g.O.Sink.faults l.fn.out l.out (Ok tt)
