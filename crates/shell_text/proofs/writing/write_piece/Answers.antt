use Rattle.shell_text.proofs.Printed.{one_failed}
use Rattle.shell_text.proofs.writing.write_piece.Goals as goal

pub returns-in-Err-clause-prints : goal.returns-in-Err-clause-prints
returns-in-Err-clause-prints g c = one_failed g.O.Sink.written g.O.Sink.faults c.args.piece.now c.args.out.now c.write_all.new.self c.in-Err.field-0 (c.in-Err.ensures.bytes, c.in-Err.ensures.cause)
