use Rattle.std.proofs.Common.{◌≡◌, take}
use Rattle.mosix_shell.proofs.copying.copied_words.Given as goal

-- the words so far
abbrev pub invariant-loop-word : goal.invariant-loop-word
invariant-loop-word l = l.copy ≡ take l.word-index l.words
