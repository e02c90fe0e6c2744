use Rattle.fs_memory.proofs.FileLemmas.{table_written}
use Rattle.fs_memory.proofs.files.Files.write_at.Goals as goal

pub invariant_of-self : goal.invariant_of-self
invariant_of-self c = table_written c.self.inside.files c.write.new.files c.args.id c.args.at c.args.bytes.now c.write.result c.self.invariant (rw (← c.self.view_is) at c.requires.there) c.requires.within c.write.ensures.ok c.write.ensures.err
