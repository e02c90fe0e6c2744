use Rattle.std.proofs.Common.{refl}
use Rattle.mosix_shell.specs.Told.{seen}
use Rattle.mosix_shell.proofs.Assemblies.{wrote, wrote_part}
use Rattle.mosix_shell.proofs.mosix.assemble_script.Goals as goal

pub returns-in-Ok-write_bytes-clause-answers : goal.returns-in-Ok-write_bytes-clause-answers
returns-in-Ok-write_bytes-clause-answers g c =
    wrote (seen g.S.Source.left g.S.Source.faults c.args.script.now c.assemble_source.new.source) (seen g.I.Images.files g.I.Images.faults c.args.images.now c.args.images.now) (seen g.O.Sink.written g.O.Sink.faults c.args.out.now c.write_bytes.new.out)
    c.answer.result _ c.in-Ok.file c.as_slice.result.now refl c.answer.ensures c.in-Ok.ensures.made c.in-Ok.ensures.reads c.as_slice.ensures c.in-Ok-write_bytes.ensures.prints

pub returns-clause-answers : goal.returns-clause-answers
returns-clause-answers g c =
    wrote_part (seen g.S.Source.left g.S.Source.faults c.args.script.now c.assemble_source.new.source) (seen g.I.Images.files g.I.Images.faults c.args.images.now c.args.images.now) (seen g.O.Sink.written g.O.Sink.faults c.args.out.now c.write_bytes.new.out)
    c.answer-in-Err-write_bytes.result _ c.in-Ok.file c.as_slice.result.now c.in-Err-write_bytes.field-0 refl c.answer-in-Err-write_bytes.ensures c.in-Ok.ensures.made c.in-Ok.ensures.reads c.as_slice.ensures
    c.in-Err-write_bytes.ensures.failed c.in-Err-write_bytes.ensures.prints
