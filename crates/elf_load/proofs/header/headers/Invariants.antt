use Rattle.std.proofs.Common.{◌≡◌, vec_len}
use Rattle.elf_load.specs.Image.{headers_from}
use Rattle.elf_load.proofs.header.headers.Given as goal

abbrev pub invariant-loop-i : goal.invariant-loop-i
invariant-loop-i l = l.headers.items ≡ headers_from l.file l.first l.i
