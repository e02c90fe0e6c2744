use Rattle.fs_memory.proofs.FileLemmas.{table_released}
use Rattle.fs_memory.proofs.files.Files.release.Goals as goal

pub invariant_of-self : goal.invariant_of-self
invariant_of-self c = rw c.release.ensures (table_released c.self.inside.files c.args.id c.self.invariant (rw (← c.self.view_is) at c.requires.there))
