-- The first piece ends at the first comma.
use Rattle.rv_asm.proofs.Pieces.{cut_at}
use Rattle.rv_asm.proofs.lexing.cut.Goals as goal

pub returns-in-Some-clause-value : goal.returns-in-Some-clause-value
returns-in-Some-clause-value c = cut_at c.args.bytes.now c.behind.result.now c.in-Some.comma c.in-Some.ensures.value c.behind.ensures.value
