use Rattle.std.proofs.Common.{◌≡◌, ◌≤◌, ◌-◌, ℕ, List, length, take, drop}
use Rattle.fs_memory.specs.Blocks.{Blocks, flat}
use Rattle.fs_memory.proofs.blocks.read.Given as goal

pub record IsRead (blocks : Blocks) (out : List ℕ) (at len done : ℕ) : Type 0 where
  pub within : done ≤ len
  pub is : out ≡ take done (drop at (flat blocks))

abbrev pub invariant-loop-done : goal.invariant-loop-done
invariant-loop-done l = IsRead l.blocks l.out.items l.at l.len l.done

abbrev pub decreases-loop-done : goal.decreases-loop-done
decreases-loop-done l = l.len - l.done
