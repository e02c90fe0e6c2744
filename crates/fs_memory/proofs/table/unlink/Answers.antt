use Rattle.std.proofs.Common.{None, refl}
use Rattle.fs_memory.specs.Files.{unlinked}
use Rattle.fs_memory.proofs.TableLemmas.{edited_after}
use Rattle.fs_memory.proofs.table.unlink.Goals as goal

pub returns : goal.returns
returns c = edited_after c.args.files.now c.drop_unheld.new.files c.args.id c.value_mut-file.result.now (record c.value_mut-file.result.now { name = None }) unlinked c.value_mut-file.ensures.value refl c.drop_unheld.ensures
