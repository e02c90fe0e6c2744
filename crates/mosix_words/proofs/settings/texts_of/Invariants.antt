use Rattle.std.proofs.Common.{◌≡◌, take, map}
use Rattle.mosix_words.proofs.settings.texts_of.Given as goal

-- the texts of the words so far
abbrev pub invariant-loop-word : goal.invariant-loop-word
invariant-loop-word l = map (λ t. t.now) l.texts.items ≡ take l.word-index l.words
