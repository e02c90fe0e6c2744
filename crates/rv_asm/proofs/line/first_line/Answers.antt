-- The first line ends at the first newline.
use Rattle.rv_asm.proofs.LineLemmas.{split_none, split_at_newline}
use Rattle.rv_asm.proofs.line.first_line.Goals as goal

pub returns-in-Some-clause-value : goal.returns-in-Some-clause-value
returns-in-Some-clause-value c = split_at_newline c.args.bytes.now c.behind.result.now c.in-Some.newline c.in-Some.ensures.value c.behind.ensures.value

pub returns-in-None-clause-value : goal.returns-in-None-clause-value
returns-in-None-clause-value c = split_none c.args.bytes.now c.in-None.ensures.value
