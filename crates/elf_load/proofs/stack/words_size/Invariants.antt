use Rattle.std.proofs.Common.{◌≡◌, ◌+◌, length, drop}
use Rattle.elf_load.specs.Image.{words_bytes}
use Rattle.elf_load.proofs.stack.words_size.Given as goal

abbrev pub invariant-loop-word : goal.invariant-loop-word
invariant-loop-word l = l.size + length (words_bytes (drop l.word-index l.words)) ≡ length (words_bytes l.words)
