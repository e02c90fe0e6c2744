use Rattle.shell_text.proofs.LineLemmas.{line_then, line_alone}
use Rattle.shell_text.proofs.lexing.next_line.Goals as goal

pub returns-in-Some-clause-some : goal.returns-in-Some-clause-some
returns-in-Some-clause-some c = line_then c.args.bytes.now c.without_return.result.now c.behind.result.now c.in-Some.newline c.in-Some.ensures.value c.without_return.ensures c.behind.ensures.value

pub returns-in-None-clause-some : goal.returns-in-None-clause-some
returns-in-None-clause-some c = line_alone c.args.bytes.now _ c.is_empty.ensures c.if-is_empty.false c.in-None.ensures.value
