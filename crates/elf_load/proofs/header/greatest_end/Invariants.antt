use Rattle.std.proofs.Common.{◌≡◌, ◌<◌, ◌^◌, drop}
use Rattle.elf_load.specs.Image.{greatest_end}
use Rattle.elf_load.proofs.header.greatest_end.Given as goal

abbrev pub invariant-loop-h : goal.invariant-loop-h
invariant-loop-h l = record {
  rest : greatest_end (drop l.h-index l.headers) l.most ≡ greatest_end l.headers 0;
  small : l.most < 2 ^ 33;
}
