use Rattle.std.proofs.Common.{[], ◌∷◌, ◌++◌, Err, codes}
use Rattle.shell_text.specs.Report.{chunks_of}
use Rattle.shell_text.proofs.Printed.{written_then, prints_then, prints_front}
use Rattle.shell_text.proofs.report.print_block.Goals as goal

pub returns-in-Err : goal.returns-in-Err
returns-in-Err g c = λ text made. prints_front g.O.Sink.written g.O.Sink.faults (text ∷ []) (chunks_of c.args.bytes.now ++ (codes "\n" ∷ [])) c.args.out.now c.write_made.new.out c.in-Err.e (c.in-Err.ensures text made)

pub returns-in-Err-write_bytes : goal.returns-in-Err-write_bytes
returns-in-Err-write_bytes g c = λ text made.
    prints_then g.O.Sink.written g.O.Sink.faults (text ∷ []) (chunks_of c.args.bytes.now ++ (codes "\n" ∷ [])) c.args.out.now c.write_made.new.out c.write_bytes.new.out (Err c.in-Err-write_bytes.e) (c.in-Ok.ensures text made)
    (prints_front g.O.Sink.written g.O.Sink.faults (chunks_of c.args.bytes.now) (codes "\n" ∷ []) c.write_made.new.out c.write_bytes.new.out c.in-Err-write_bytes.e c.in-Err-write_bytes.ensures.prints)

pub returns-in-Ok-write_piece : goal.returns-in-Ok-write_piece
returns-in-Ok-write_piece g c = λ text made.
    written_then g.O.Sink.written g.O.Sink.faults (text ∷ []) (chunks_of c.args.bytes.now ++ (codes "\n" ∷ [])) c.args.out.now c.write_made.new.out c.write_piece.new.out (c.in-Ok.ensures text made)
    (written_then g.O.Sink.written g.O.Sink.faults (chunks_of c.args.bytes.now) (codes "\n" ∷ []) c.write_made.new.out c.write_bytes.new.out c.write_piece.new.out c.in-Ok-write_bytes.ensures.prints c.in-Ok-write_piece.ensures.prints)

pub returns-in-Err-write_piece : goal.returns-in-Err-write_piece
returns-in-Err-write_piece g c = λ text made.
    prints_then g.O.Sink.written g.O.Sink.faults (text ∷ []) (chunks_of c.args.bytes.now ++ (codes "\n" ∷ [])) c.args.out.now c.write_made.new.out c.write_piece.new.out (Err c.in-Err-write_piece.e) (c.in-Ok.ensures text made)
    (prints_then g.O.Sink.written g.O.Sink.faults (chunks_of c.args.bytes.now) (codes "\n" ∷ []) c.write_made.new.out c.write_bytes.new.out c.write_piece.new.out (Err c.in-Err-write_piece.e) c.in-Ok-write_bytes.ensures.prints c.in-Err-write_piece.ensures.prints)
