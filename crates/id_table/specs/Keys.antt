-- How a table is stored: for each number the key of its value in a slab.
use Rattle.std.specs.Prelude.{ℕ, ◌≡◌, ◌≤◌, ◌^◌, length, List, Option, Some, None, map}
use Rattle.slab.specs.Slab.{Slab, get, ContainsKey}
use Rattle.id_table.specs.Places.{at_id}

module _ {T : Type 0} where
  abbrev pub value_under : Slab T → Option ℕ → Option T
  value_under slots None = None
  value_under slots (Some key) = get slots key

  abbrev pub values_under : Slab T → List (Option ℕ) → List (Option T)
  values_under slots keys = map (value_under slots) keys

  -- each key has a value, no two numbers have the same key, and each number is below 2^32
  pub record IsKeyed (slots : Slab T) (keys : List (Option ℕ)) : Type 0 where
    pub present : (id key : ℕ) → at_id keys id ≡ Some key → ContainsKey slots key
    pub distinct : (id other key : ℕ) → at_id keys id ≡ Some key → at_id keys other ≡ Some key → id ≡ other
    pub few : length keys ≤ 2 ^ 32
