-- A table as a list with a place for each number, empty where the number is free.
use Rattle.std.specs.Prelude.{ℕ, zero, suc, ◌+◌, ◌-◌, ◌++◌, length, replicate, List, [], ◌∷◌, Option, Some, None, slice_index_or, slice_set}
use Rattle.std.specs.Option.{option_map, option_and_then}

module _ {T : Type 0} where
  -- what stands under a number, if anything does
  abbrev pub at_id : List (Option T) → ℕ → Option T
  at_id places id = slice_index_or places id None

  -- the lowest number under which nothing stands
  abbrev pub lowest_free : List (Option T) → ℕ
  lowest_free [] = zero
  lowest_free (None ∷ places) = zero
  lowest_free (Some _ ∷ places) = suc (lowest_free places)

  -- the table with a value under that number
  abbrev pub filled : List (Option T) → T → List (Option T)
  filled [] value = Some value ∷ []
  filled (None ∷ places) value = Some value ∷ places
  filled (Some other ∷ places) value = Some other ∷ filled places value

  -- the table with a value under a number
  abbrev pub with_value : List (Option T) → ℕ → T → List (Option T)
  with_value places id value = slice_set places id (Some value)

  -- the table with nothing under a number
  abbrev pub without : List (Option T) → ℕ → List (Option T)
  without places id = slice_set places id None

  -- the table with the value under a number edited, where there is one
  abbrev pub changed : List (Option T) → ℕ → (T → T) → List (Option T)
  changed places id edit = slice_set places id (option_map edit (at_id places id))

  -- the same, where the edit may leave nothing
  abbrev pub edited : List (Option T) → ℕ → (T → Option T) → List (Option T)
  edited places id edit = slice_set places id (option_and_then edit (at_id places id))

  -- the table with a value under a number, after it was made long enough
  abbrev pub put_under : List (Option T) → ℕ → T → List (Option T)
  put_under places id value = with_value (places ++ replicate (id + 1 - length places) None) id value
