use Rattle.std.proofs.Common.{subst, sym}
use Rattle.event_picture.specs.Drawn.{Ends}
use Rattle.event_picture.specs.declared.ended.Ended.{Ended}
use Rattle.event_picture.proofs.Drawings.{stops}
use Rattle.event_picture.proofs.picture.draw_whole.Goals as goal

pub returns-in-Err-clause-ends : goal.returns-in-Err-clause-ends
returns-in-Err-clause-ends g c =
    subst (λ (e : Ended). Ends g.O.Sink.written g.O.Sink.faults c.args.out.now c.draw_listing.new.out e) (sym c.ended_by.ensures.is)
    (stops g.O.Sink.written g.O.Sink.faults c.args.out.now c.draw_listing.new.out c.in-Err.fault c.in-Err.ensures)
