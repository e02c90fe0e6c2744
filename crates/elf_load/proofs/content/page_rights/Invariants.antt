use Rattle.std.proofs.Common.{◌≡◌, ◌<◌, drop}
use Rattle.elf_load.specs.Image.{page_rights, stack_rights}
use Rattle.elf_load.proofs.content.page_rights.Given as goal

abbrev pub invariant-loop-h : goal.invariant-loop-h
invariant-loop-h l = record {
  rest : page_rights (drop l.h-index l.headers) l.page l.rights ≡ page_rights l.headers l.page (stack_rights l.page);
  small : l.rights < 8;
}
