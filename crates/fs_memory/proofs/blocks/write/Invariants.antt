use Rattle.std.proofs.Common.{◌≡◌, ◌≤◌, ◌-◌, ℕ, List, length, take}
use Rattle.fs_memory.specs.Blocks.{Blocks, flat, spliced}
use Rattle.fs_memory.proofs.blocks.write.Given as goal

pub record IsWritten (old new : Blocks) (at : ℕ) (bytes : List ℕ) (done : ℕ) : Type 0 where
  pub within : done ≤ length bytes
  pub same_len : length new ≡ length old
  pub is : flat new ≡ spliced (flat old) at (take done bytes)

abbrev pub invariant-loop-done : goal.invariant-loop-done
invariant-loop-done l = IsWritten l.initial.blocks.items l.blocks.items l.at l.bytes l.done

abbrev pub decreases-loop-done : goal.decreases-loop-done
decreases-loop-done l = length l.bytes - l.done
