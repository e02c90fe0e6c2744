use Rattle.std.proofs.Common.{◌≡◌, ◌++◌, length, true}
use Rattle.std.specs.List.{list_all}
use Rattle.shell_text.specs.Lexing.{is_text_byte, words_of}
use Rattle.shell_text.proofs.order.all_words.Given as goal

-- the words so far and those of the rest are all words
abbrev pub invariant-loop-word : goal.invariant-loop-word
invariant-loop-word l = record {
  all : words_of l.args ≡ l.words ++ words_of l.rest;
  text : list_all is_text_byte l.rest ≡ true;
}

abbrev pub decreases-loop-word : goal.decreases-loop-word
decreases-loop-word l = length l.rest
