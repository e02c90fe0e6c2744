use Rattle.std.proofs.Common.{◌≡◌, ℕ, ◌<◌, false}
use Rattle.id_table.specs.Places.{at_id}
use Rattle.fs_memory.specs.Files.{is_called}
use Rattle.fs_memory.proofs.search.find.Given as goal

abbrev pub invariant-loop-id : goal.invariant-loop-id
invariant-loop-id l = (k : ℕ) → k < l.id → is_called l.name (at_id l.files k) ≡ false
