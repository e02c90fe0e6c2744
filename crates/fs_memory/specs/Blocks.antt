-- The bytes of a file in blocks.
use Rattle.std.specs.Prelude.{ℕ, ◌≡◌, ◌+◌, ◌-◌, ◌≤◌, List, [], ◌∷◌, ◌++◌, length, take, drop, replicate}
use Rattle.std.specs.declared.boxed.Box.{Box}
use Rattle.std.specs.declared.alloc.Global.{Global}
use Rattle.fs_memory.specs.declared.block.Block.{Block}

abbrev pub Blocks : Type 0
Blocks = List (Box Block Global)

-- the bytes of all blocks, one after the other
abbrev pub flat : Blocks → List ℕ
flat [] = []
flat (block ∷ blocks) = block.value.bytes ++ flat blocks

-- a list with some items written over those from a place on
abbrev pub spliced : List ℕ → ℕ → List ℕ → List ℕ
spliced items at part = take at items ++ (part ++ drop (at + length part) items)

abbrev pub zeros : ℕ → List ℕ
zeros count = replicate count 0

-- the file's length is within the blocks, and zeros follow its bytes
pub record IsContent (blocks : Blocks) (len : ℕ) : Type 0 where
  pub fits : len ≤ length (flat blocks)
  pub clear : drop len (flat blocks) ≡ zeros (length (flat blocks) - len)

-- blocks of zeros were added at the end
pub record IsGrown (old new : Blocks) : Type 0 where
  pub more : length old ≤ length new
  pub is : flat new ≡ flat old ++ zeros (length (flat new) - length (flat old))

-- the bytes of a file after a write at a place, with zeros in a gap; a write of nothing changes nothing
abbrev pub written : List ℕ → ℕ → List ℕ → List ℕ
written bytes at [] = bytes
written bytes at (b ∷ part) = spliced (bytes ++ zeros (at - length bytes)) at (b ∷ part)
