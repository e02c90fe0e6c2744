use Rattle.std.proofs.Common.{◌≡◌, drop}
use Rattle.fs_memory.specs.Files.{named_files}
use Rattle.fs_memory.proofs.files.Files.named.Given as goal

abbrev pub invariant-loop-id : goal.invariant-loop-id
invariant-loop-id l = l.list.items ≡ named_files (drop l.id l.self-inside.files)
