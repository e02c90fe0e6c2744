use Rattle.fs_memory.proofs.BackLemmas.{table_taken_back}
use Rattle.fs_memory.proofs.files.Files.take_back.Goals as goal

pub invariant_of-self : goal.invariant_of-self
invariant_of-self c = rw c.take_back-file.ensures.new (table_taken_back c.self.inside.files c.args.id c.args.places c.self.invariant (rw (← c.self.view_is) at c.requires))
