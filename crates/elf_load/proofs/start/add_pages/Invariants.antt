use Rattle.elf_load.specs.Image.{start_page}
use Rattle.elf_load.specs.Parts.{byte_from, from_to, Added}
use Rattle.elf_load.proofs.start.add_pages.Given as goal

abbrev pub invariant-loop-page : goal.invariant-loop-page
invariant-loop-page l = Added (start_page l.file l.headers (byte_from l.table l.stack)) (from_to l.first l.page) l.fn.pages l.pages
