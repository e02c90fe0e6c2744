-- The best members of lists.
use Rattle.std.specs.Prelude.{◌≡◌, ℕ, ◌+◌, ◌<◌, Bool, true, false, ◌||◌, ◌&&◌, nat_eq, nat_lt, nat_le, if◌then◌else◌, List, [], Option, Some, None, MatchOption, slice_get, filter}
use Rattle.call_table.specs.declared.process.Entry.{Entry}

-- x stands in the list, no member is better, and none before it is as good
pub record IsBest {X : Type 0} (better : X → X → Bool) (xs : List X) (x : X) : Type 0 where
  pub at : ℕ
  pub stands : slice_get xs at ≡ Some x
  pub best : (k : ℕ) (y : X) → slice_get xs k ≡ Some y → better y x ≡ false
  pub first : (k : ℕ) (y : X) → k < at → slice_get xs k ≡ Some y → better x y ≡ true

-- what was found is the best of the list, and nothing where the list is empty
abbrev pub IsBestOf : {X : Type 0} → (X → X → Bool) → List X → Option X → Type 0
IsBestOf better xs found = MatchOption found (xs ≡ []) (IsBest better xs)

-- the better of the best so far and one more, where that one counts
abbrev pub kept : {X : Type 0} → Bool → (X → X → Bool) → Option X → X → Option X
kept false better found x = found
kept true better None x = Some x
kept true better (Some y) x = if better x y then Some x else Some y

-- the lower of two numbers goes first, and where they are equal the lower of two others
abbrev pub is_before : ℕ → ℕ → ℕ → ℕ → Bool
is_before a c b d = nat_lt a c || (nat_eq a c && nat_lt b d)

-- a process that may move: its pid and its pages
abbrev pub Movable : Type 0
Movable = ℕ × ℕ

-- fewer pages, then the lower pid
abbrev pub is_smaller : Movable → Movable → Bool
is_smaller p q = is_before p.1 q.1 p.0 q.0

-- more pages, then the lower pid
abbrev pub is_larger : Movable → Movable → Bool
is_larger p q = is_before q.1 p.1 p.0 q.0

-- less free, then the lower node
abbrev pub is_tighter : Entry → Entry → Bool
is_tighter a b = is_before a.free b.free a.node b.node

-- less load, then the lower node
abbrev pub is_lighter : Entry → Entry → Bool
is_lighter a b = is_before a.load b.load a.node b.node

-- the processes with at least so many pages
abbrev pub covering : ℕ → List Movable → List Movable
covering shortage movable = filter (λ p. nat_le shortage p.1) movable

-- the nodes that keep the reserve free where so many pages come
abbrev pub roomy : ℕ → ℕ → List Entry → List Entry
roomy pages reserve known = filter (λ e. nat_le (pages + reserve) e.free) known
