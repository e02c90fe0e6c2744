use Rattle.std.proofs.Common.{◌<◌, length, List, ℕ, [], ◌∷◌, Err, subst, sym, arith}
use Rattle.std.proofs.lemmas.Bool.Decides.{nat_tests}
use Rattle.shell_text.specs.Printing.{StopsBy, Prints}
use Rattle.shell_text.specs.Report.{chunks_of}
use Rattle.shell_text.proofs.Chunks.{chunk_then}
use Rattle.shell_text.proofs.Printed.{prints_then, prints_front}
use Rattle.shell_text.proofs.writing.write_bytes.Goals as goal

pub returns-in-Err-clause-prints : goal.returns-in-Err-clause-prints
returns-in-Err-clause-prints g c =
    let some : 0 < length c.loop-rest.rest.now = grind (arith, nat_tests, c.is_empty.ensures, c.loop-rest-test.true) in
    let chunk = chunk_then c.loop-rest.rest.now c.split_at.result.0.now c.split_at.result.1.now c.min.result some (omega (arith, c.min.ensures)) c.split_at.ensures.front c.split_at.ensures.back in
    c.loop-rest.invariant c.write_piece.new.out (Err c.in-Err.e) (subst (λ (ps : List (List ℕ)). StopsBy g.O.Sink.written g.O.Sink.faults ps c.loop-rest.out c.write_piece.new.out c.in-Err.e) (sym chunk)
    (prints_front g.O.Sink.written g.O.Sink.faults (c.split_at.result.0.now ∷ []) (chunks_of c.split_at.result.1.now) c.loop-rest.out c.write_piece.new.out c.in-Err.e c.in-Err.ensures.prints))

pub loop-rest-preserved : goal.loop-rest-preserved
loop-rest-preserved g c =
    let some : 0 < length c.loop-rest.rest.now = grind (arith, nat_tests, c.is_empty.ensures, c.loop-rest-test.true) in
    let chunk = chunk_then c.loop-rest.rest.now c.split_at.result.0.now c.split_at.result.1.now c.min.result some (omega (arith, c.min.ensures)) c.split_at.ensures.front c.split_at.ensures.back in
    λ new r more. c.loop-rest.invariant new r (subst (λ (ps : List (List ℕ)). Prints g.O.Sink.written g.O.Sink.faults ps c.loop-rest.out new r) (sym chunk)
    (prints_then g.O.Sink.written g.O.Sink.faults (c.split_at.result.0.now ∷ []) (chunks_of c.split_at.result.1.now) c.loop-rest.out c.write_piece.new.out new r c.in-Ok.ensures.prints more))
