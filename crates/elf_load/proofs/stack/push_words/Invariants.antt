use Rattle.std.proofs.Common.{◌≡◌, ◌++◌, drop}
use Rattle.elf_load.specs.Image.{words_bytes}
use Rattle.elf_load.proofs.stack.push_words.Given as goal

abbrev pub invariant-loop-word : goal.invariant-loop-word
invariant-loop-word l = l.bytes.items ++ words_bytes (drop l.word-index l.words) ≡ l.fn.bytes.items ++ words_bytes l.words
