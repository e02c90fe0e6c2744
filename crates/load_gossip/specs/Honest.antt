-- What is told of a node, and whether it was so.
use Rattle.std.specs.Prelude.{◌≡◌, ℕ, List, Option, Some, take}
use Rattle.call_table.specs.declared.process.Entry.{Entry}
use Rattle.load_gossip.specs.Vectors.{no_places, renewed, merged, StandsAt}

-- the load and the free pages of each node right after its event of each stamp, where it had one
abbrev pub Usage : Type 0
Usage = ℕ → ℕ → Option (ℕ × ℕ)

abbrev pub IsHonest : Usage → Entry → Type 0
IsHonest usage entry = usage entry.node entry.stamp ≡ Some (entry.load, entry.free)

abbrev pub AreHonest : Usage → List (Option Entry) → Type 0
AreHonest usage places = (k : ℕ) (entry : Entry) → StandsAt places k entry → IsHonest usage entry

-- the vectors that come of empty ones, where each own entry was honest as it was written and each half that was heard is one of such a vector
pub data IsMade (usage : Usage) : List (Option Entry) → Type 0 where
  fresh : IsMade usage no_places
  renews : (own : Entry) (places : List (Option Entry)) → IsHonest usage own → IsMade usage places → IsMade usage (renewed own places)
  hears : (places other : List (Option Entry)) → IsMade usage places → IsMade usage other → IsMade usage (merged (take 4 places) (take 4 other))
