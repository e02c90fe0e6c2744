-- The load vector of a node: eight places, each with an entry or without one.
use Rattle.std.specs.Prelude.{◌≡◌, ◌≢◌, ℕ, ◌<◌, ◌≤◌, nat_lt, nat_eq, if◌then◌else◌, List, [], ◌∷◌, Option, Some, None, slice_get, slice_set}
use Rattle.call_table.specs.declared.process.Entry.{Entry}

abbrev pub no_places : List (Option Entry)
no_places = None ∷ None ∷ None ∷ None ∷ None ∷ None ∷ None ∷ None ∷ []

-- the own entry at place 0
abbrev pub renewed : Entry → List (Option Entry) → List (Option Entry)
renewed own places = slice_set places 0 (Some own)

-- one of the first, one of the second, and so on
abbrev pub merged : List (Option Entry) → List (Option Entry) → List (Option Entry)
merged (x ∷ xs) (y ∷ ys) = x ∷ y ∷ merged xs ys
merged _ _ = []

-- this entry stands at this place
abbrev pub StandsAt : List (Option Entry) → ℕ → Entry → Type 0
StandsAt places k entry = slice_get places k ≡ Some (Some entry)

-- the entry has the greatest stamp of those of the node, and of those with its stamp it stands at the lowest place
pub record IsNewest (node : ℕ) (places : List (Option Entry)) (entry : Entry) : Type 0 where
  pub at : ℕ
  pub stands : StandsAt places at entry
  pub own : entry.node ≡ node
  pub newest : (k : ℕ) (other : Entry) → StandsAt places k other → other.node ≡ node → other.stamp ≤ entry.stamp
  pub lowest : (k : ℕ) (other : Entry) → k < at → StandsAt places k other → other.node ≡ node → other.stamp < entry.stamp

-- no entry of the node stands
abbrev pub HasNone : ℕ → List (Option Entry) → Type 0
HasNone node places = (k : ℕ) (other : Entry) → StandsAt places k other → other.node ≢ node

-- ---- the same as a function

-- the entry of a place, where it is of the node
abbrev pub entry_of : ℕ → Option Entry → Option Entry
entry_of node None = None
entry_of node (Some entry) = if nat_eq entry.node node then Some entry else None

-- the one with the greater stamp, and the first where they are equal
abbrev pub newer : Option Entry → Option Entry → Option Entry
newer None later = later
newer (Some first) None = Some first
newer (Some first) (Some later) = if nat_lt first.stamp later.stamp then Some later else Some first

abbrev pub newest_of : ℕ → List (Option Entry) → Option Entry
newest_of node [] = None
newest_of node (place ∷ places) = newer (entry_of node place) (newest_of node places)
