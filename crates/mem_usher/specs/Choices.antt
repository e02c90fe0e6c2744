-- Which process moves, and to which node.
use Rattle.std.specs.Prelude.{◌≡◌, ℕ, ◌+◌, ◌-◌, ◌≤◌, ◌⊎◌, nat_lt, List, [], Option, Some, None}
use Rattle.std.specs.Int.{div_ceil}
use Rattle.std.specs.Bool.{MatchBool}
use Rattle.call_table.specs.declared.process.Entry.{Entry}
use Rattle.mem_usher.specs.declared.sight.Sight.{Sight}
use Rattle.mem_usher.specs.declared.sight.Choice.{Choice}
use Rattle.mem_usher.specs.Best.{IsBest, Movable, is_smaller, is_larger, is_tighter, is_lighter, covering, roomy}

-- the pages that a node keeps free: a sixteenth of its pages, rounded up
abbrev pub reserve_of : Sight → ℕ
reserve_of sight = div_ceil sight.cap 16

-- the pages that it lacks of them
abbrev pub shortage_of : Sight → ℕ
shortage_of sight = reserve_of sight - sight.free

-- the process that leaves at a shortage: the smallest of those that cover it, and where none does the largest
abbrev pub IsLeaving : ℕ → List Movable → Movable → Type 0
IsLeaving shortage movable p =
    IsBest is_smaller (covering shortage movable) p
    ⊎ ((covering shortage movable ≡ []) × IsBest is_larger movable p)

-- there is one such choice, or none
abbrev pub Answers : (Choice → Type 0) → Option Choice → Type 0
Answers P None = (choice : Choice) → P choice → ⊥
Answers P (Some choice) = P choice

-- the choice at a shortage: the node is the one with least free of those with room for the process
pub record IsUshering (sight : Sight) (choice : Choice) : Type 0 where
  pub process : Movable
  pub target : Entry
  pub leaves : IsLeaving (shortage_of sight) sight.movable process
  pub takes : IsBest is_tighter (roomy process.1 (reserve_of sight) sight.known) target
  pub is : choice ≡ record { pid = process.0; to = target.node }

-- the choice without one: the smallest process goes to the node of least load, where that has two less at least, and room
pub record IsBalancing (sight : Sight) (choice : Choice) : Type 0 where
  pub process : Movable
  pub target : Entry
  pub leaves : IsBest is_smaller sight.movable process
  pub takes : IsBest is_lighter sight.known target
  pub lighter : target.load + 2 ≤ sight.load
  pub room : process.1 + reserve_of sight ≤ target.free
  pub is : choice ≡ record { pid = process.0; to = target.node }

-- the best choice on a sight
abbrev pub IsBestChoice : Sight → Choice → Type 0
IsBestChoice sight choice = MatchBool (nat_lt sight.free (reserve_of sight)) (IsUshering sight choice) (IsBalancing sight choice)
