use Rattle.elf_load.proofs.Segmented.{empty_part}
use Rattle.elf_load.proofs.start.start_pages.Goals as goal

pub add_pages-requires-clause-part : goal.add_pages-requires-clause-part
add_pages-requires-clause-part c = empty_part _ c.new-pages.result c.new-pages.ensures
