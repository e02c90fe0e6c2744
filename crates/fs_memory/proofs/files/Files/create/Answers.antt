use Rattle.std.proofs.Common.{arith, ap, ◌∙◌, sym}
use Rattle.id_table.specs.Places.{filled}
use Rattle.fs_memory.specs.declared.file.File.{File}
use Rattle.id_table.proofs.PlaceLemmas.{at_filled}
use Rattle.fs_memory.specs.Files.{new_file}
use Rattle.fs_memory.proofs.FileLemmas.{table_created}
use Rattle.fs_memory.proofs.files.Files.create.Goals as goal

pub invariant_of-self-2 : goal.invariant_of-self-2
invariant_of-self-2 c =
    rw (c.in_ok-id.ensures.ok, c.in_ok-file.ensures) (table_created c.self.inside.files c.args.name.now c.self.invariant (rw (← c.self.view_is) at c.requires) (omega (arith, c.count_named.ensures)))

pub returns-clause-here : goal.returns-clause-here
returns-clause-here c = rw (c.in_ok-id.ensures.id, c.in_ok-id.ensures.ok, c.in_ok-file.ensures) (at_filled c.self.inside.files (new_file c.args.name.now))
