use Rattle.std.proofs.Common.{sym}
use Rattle.elf_load.proofs.Loaded.{loads_on}
use Rattle.elf_load.proofs.loader.load.Goals as goal

pub returns-in-Ok : goal.returns-in-Ok
returns-in-Ok c = loads_on c.load_segments.result _ _ _ (sym c.in-None.ensures.is) c.load_segments.ensures
