use Rattle.event_picture.proofs.Drawings.{writes_line}
use Rattle.event_picture.proofs.picture.refuse.Goals as goal

pub returns-in-Ok-write_bytes-clause-ends : goal.returns-in-Ok-write_bytes-clause-ends
returns-in-Ok-write_bytes-clause-ends g c =
    writes_line g.O.Sink.written g.O.Sink.faults c.args.line c.in-Ok.text c.as_slice.result.now c.args.out.now c.write_bytes.new.out c.in-Ok.ensures c.as_slice.ensures c.in-Ok-write_bytes.ensures.prints
