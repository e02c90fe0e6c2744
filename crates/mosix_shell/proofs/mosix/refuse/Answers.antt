use Rattle.std.proofs.Common.{◌∙◌, sym, Ok, Err}
use Rattle.mosix_shell.specs.Told.{seen}
use Rattle.mosix_shell.proofs.Answering.{line_written}
use Rattle.mosix_shell.proofs.mosix.refuse.Goals as goal

pub returns-in-Ok-clause-written : goal.returns-in-Ok-clause-written
returns-in-Ok-clause-written g c =
    line_written (seen g.O.Sink.written g.O.Sink.faults c.args.out.now c.write_all.new.self) c.answer-in-Ok.result _ c.args.why c.in-Ok-Some.line c.as_slice.result.now (Ok c.in-Ok.field-0) c.answer-in-Ok.ensures
    (sym c.in-Ok-Some.ensures ∙ c.in-Ok-Some.field-0-is) c.as_slice.ensures (c.in-Ok.ensures.bytes, c.in-Ok.ensures.cause)

pub returns-clause-written : goal.returns-clause-written
returns-clause-written g c =
    line_written (seen g.O.Sink.written g.O.Sink.faults c.args.out.now c.write_all.new.self) c.answer-in-Err-write_all.result _ c.args.why c.in-Ok-Some.line c.as_slice.result.now (Err c.in-Err-write_all.field-0)
    c.answer-in-Err-write_all.ensures (sym c.in-Ok-Some.ensures ∙ c.in-Ok-Some.field-0-is) c.as_slice.ensures (c.in-Err-write_all.ensures.bytes, c.in-Err-write_all.ensures.cause)
