-- How far a source is read.
use Rattle.std.specs.Prelude.{◌≡◌, ◌≤◌, ℕ, ◌<◌, List, ◌++◌, length, take, drop, Bool, true, false, Option, Some, None, Result, Ok, Err}
use Rattle.std.specs.Option.{option_map}

-- what was read of a source, where it tells: all of it, or more than the limit
abbrev pub IsReadPast : ℕ → Option (List ℕ) → List ℕ → Type 0
IsReadPast limit None bytes = Unit {0}
IsReadPast limit (Some left) bytes = (length left ≤ limit → bytes ≡ left) × (limit < length left → limit < length bytes)

-- the next bytes were read, to the end or so many of them
abbrev pub IsReadTo : ℕ → Option (List ℕ) → Option (List ℕ) → List ℕ → Type 0
IsReadTo most None now bytes = now ≡ None
IsReadTo most (Some left) now bytes = (bytes ≡ take most left) × (now ≡ Some (drop most left))

-- these bytes were read, and this is left
abbrev pub IsFront : List ℕ → List ℕ → Option (List ℕ) → Type 0
IsFront left bytes None = ⊥
IsFront left bytes (Some rest) = left ≡ bytes ++ rest

abbrev pub IsReadOn : Option (List ℕ) → List ℕ → Option (List ℕ) → Type 0
IsReadOn None bytes now = now ≡ None
IsReadOn (Some left) bytes now = IsFront left bytes now

-- so many bytes were taken from a source, to its end where it has fewer: at most as many as were wanted, and all of them unless that was cut short
pub record Reads (most : ℕ) (left now : Option (List ℕ)) (is_cut : Bool) : Type 0 where
  pub taken : ℕ
  pub few : taken ≤ most
  pub rest : now ≡ option_map (drop taken) left
  pub whole : is_cut ≡ false → taken ≡ most

-- no result, which cuts a reading short
abbrev pub is_failed : {T E : Type 0} → Result T E → Bool
is_failed (Ok x) = false
is_failed (Err e) = true
