use Rattle.std.proofs.Common.{◌≡◌, Some, sym, ◌∙◌}
use Rattle.fs_memory.proofs.FileLemmas.{table_unlinked}
use Rattle.fs_memory.proofs.SearchLemmas.{found_is_there}
use Rattle.fs_memory.proofs.files.Files.unlink.Goals as goal

pub unlink-requires : goal.unlink-requires
unlink-requires c = found_is_there c.args.name.now c.self.inside.files c.in-Some.id (sym c.in-Some.ensures)

pub invariant_of-self : goal.invariant_of-self
invariant_of-self c = rw c.unlink.ensures (table_unlinked c.self.inside.files c.in-Some.id c.self.invariant (found_is_there c.args.name.now c.self.inside.files c.in-Some.id (sym c.in-Some.ensures)))
