use Rattle.shell_text.proofs.TextLemmas.{text_utf8}
use Rattle.shell_text.proofs.order.text_of.Goals as goal

pub returns-in-Err : goal.returns-in-Err
returns-in-Err c = absurd (c.in-Err.ensures.cases.0 (text_utf8 c.args.word.now c.requires))
