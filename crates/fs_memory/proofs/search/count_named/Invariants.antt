use Rattle.std.proofs.Common.{◌≡◌, take}
use Rattle.fs_memory.specs.Files.{named_count}
use Rattle.fs_memory.proofs.search.count_named.Given as goal

abbrev pub invariant-loop-id : goal.invariant-loop-id
invariant-loop-id l = l.count ≡ named_count (take l.id l.files)
