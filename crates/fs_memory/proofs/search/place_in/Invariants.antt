use Rattle.std.proofs.Common.{◌≡◌, ℕ, ◌<◌, true, get_or}
use Rattle.call_table.specs.declared.files.Named.{Named}
use Rattle.fs_memory.specs.Files.{comes_before}
use Rattle.fs_memory.proofs.search.place_in.Given as goal

abbrev pub invariant-loop-i : goal.invariant-loop-i
invariant-loop-i l = (k : ℕ) (d : Named) → k < l.i → comes_before l.name (get_or l.list k d) ≡ true
