use Rattle.std.proofs.Common.{◌≡◌, ◌+◌, ◌++◌, length, drop}
use Rattle.elf_load.specs.Image.{words_bytes, address_table}
use Rattle.elf_load.proofs.stack.address_table.Given as goal

abbrev pub invariant-loop-word : goal.invariant-loop-word
invariant-loop-word l = record {
  rest : l.table.items ++ address_table l.addr (drop l.word-index l.words) ≡ address_table l.start l.words;
  place : l.addr + length (words_bytes (drop l.word-index l.words)) ≡ l.start + length (words_bytes l.words);
}
