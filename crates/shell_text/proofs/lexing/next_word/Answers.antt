use Rattle.shell_text.proofs.WordLemmas.{next_some, next_none, next_shorter, next_text}
use Rattle.shell_text.proofs.lexing.next_word.Goals as goal

pub returns-then-is_empty-clause-none : goal.returns-then-is_empty-clause-none
returns-then-is_empty-clause-none c = next_none c.args.bytes.now c.past_blanks-front.result.now _ c.past_blanks-front.ensures c.is_empty.ensures c.if-is_empty.true

pub returns-clause-some : goal.returns-clause-some
returns-clause-some c =
    next_some c.args.bytes.now c.past_blanks-front.result.now c.split_at.result.0.now c.split_at.result.1.now c.word_end.result _
    c.past_blanks-front.ensures c.is_empty.ensures c.if-is_empty.false c.word_end.ensures.value c.split_at.ensures.front c.split_at.ensures.back

pub returns-clause-text : goal.returns-clause-text
returns-clause-text c =
    next_text c.args.bytes.now c.past_blanks-front.result.now c.split_at.result.0.now c.split_at.result.1.now c.word_end.result
    c.past_blanks-front.ensures c.split_at.ensures.front c.split_at.ensures.back

pub returns-clause-shorter : goal.returns-clause-shorter
returns-clause-shorter c =
    next_shorter c.args.bytes.now c.past_blanks-front.result.now c.split_at.result.1.now c.word_end.result _
    c.past_blanks-front.ensures c.is_empty.ensures c.if-is_empty.false c.word_end.ensures.value c.split_at.ensures.back_len
