use Rattle.std.proofs.Common.{[], ◌∷◌, Err}
use Rattle.shell_text.proofs.Printed.{written_then, prints_then, prints_front}
use Rattle.shell_text.proofs.summary.print_two.Goals as goal

pub returns-in-Err : goal.returns-in-Err
returns-in-Err g c = λ one two made made_too. prints_front g.O.Sink.written g.O.Sink.faults (one ∷ []) (two ∷ []) c.args.out.now c.write_made.new.out c.in-Err.e (c.in-Err.ensures one made)

pub returns-in-Ok-write_made : goal.returns-in-Ok-write_made
returns-in-Ok-write_made g c = λ one two made made_too.
    written_then g.O.Sink.written g.O.Sink.faults (one ∷ []) (two ∷ []) c.args.out.now c.write_made.new.out c.write_made-2.new.out (c.in-Ok.ensures one made) (c.in-Ok-write_made.ensures two made_too)

pub returns-in-Err-write_made : goal.returns-in-Err-write_made
returns-in-Err-write_made g c = λ one two made made_too.
    prints_then g.O.Sink.written g.O.Sink.faults (one ∷ []) (two ∷ []) c.args.out.now c.write_made.new.out c.write_made-2.new.out (Err c.in-Err-write_made.e) (c.in-Ok.ensures one made) (c.in-Err-write_made.ensures two made_too)
