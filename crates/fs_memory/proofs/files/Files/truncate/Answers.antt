use Rattle.fs_memory.proofs.FileLemmas.{table_emptied}
use Rattle.fs_memory.proofs.files.Files.truncate.Goals as goal

pub invariant_of-self : goal.invariant_of-self
invariant_of-self c = rw c.truncate.ensures (table_emptied c.self.inside.files c.args.id c.self.invariant (rw (← c.self.view_is) at c.requires))
