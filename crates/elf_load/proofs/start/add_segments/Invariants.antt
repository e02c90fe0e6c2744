use Rattle.std.proofs.Common.{take}
use Rattle.elf_load.specs.Image.{start_page, touched}
use Rattle.elf_load.specs.Parts.{byte_from, Added}
use Rattle.elf_load.proofs.start.add_segments.Given as goal

abbrev pub invariant-loop-h : goal.invariant-loop-h
invariant-loop-h l = Added (start_page l.file l.headers (byte_from l.table l.stack)) (touched (take l.h-index l.headers)) l.fn.pages l.pages
