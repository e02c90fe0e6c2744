use Rattle.fs_memory.proofs.FileLemmas.{found_there}
use Rattle.fs_memory.proofs.files.Files.find.Goals as goal

pub returns-clause-there : goal.returns-clause-there
returns-clause-there c = rw (← c.self.view_is) (found_there c.args.name.now c.self.inside.files c.find.result c.find.ensures)
