-- Lemmas on a table's places, for this crate and its callers.
use Rattle.std.proofs.Common.{◌≡◌, ◌≢◌, ◌⊎◌, inl, inr, ℕ, zero, suc, ◌+◌, ◌<◌, ◌≤◌, Bool, true, false, cond, not, List, [], ◌∷◌, ◌++◌, length, get_or, set, Option, Some, None, is_some, is_none, IsSome, nat_lt, refl, sym, ap, ◌∙◌, arith}
use Rattle.std.proofs.lemmas.Bool.{cases_eq, cases_Bool, lt-ltb, ltb-true, ltb-false}
use Rattle.std.proofs.lemmas.List.{get_or-set_same, get_or-set_other, get_or_past}
use Rattle.std.proofs.lemmas.List.Sums.{sum_by-cons}
use Rattle.std.specs.List.{position_or_len, position, prefix_len, count_by}
use Rattle.std.specs.Option.{option_map, option_and_then}
use Rattle.id_table.specs.Places.{at_id, lowest_free, filled, with_value, without, changed, edited}

module _ {T : Type 0} where
  pub lowest_free_le : (places : List (Option T)) → lowest_free places ≤ length places
  lowest_free_le [] = omega arith
  lowest_free_le (None ∷ places) = omega arith
  lowest_free_le (Some x ∷ places) = omega (arith, lowest_free_le places)

  lowest_free_place : (places : List (Option T)) → position_or_len is_none places ≡ lowest_free places
  lowest_free_place [] = refl
  lowest_free_place (None ∷ places) = refl
  lowest_free_place (Some x ∷ places) = omega (arith, lowest_free_place places)

  pub lowest_free_found : (places : List (Option T)) (place : ℕ) → Some place ≡ position is_none places → place ≡ lowest_free places
  lowest_free_found places place e =
      let p = lowest_free_place places in
      elim (cases_Bool (nat_lt (position_or_len is_none places) (length places))) [
        | inl t ↦ let f : ◌≡◌ {A = Option ℕ} (Some place) (Some (position_or_len is_none places)) = e ∙ rw t refl in cc
        | inr t ↦ let f : ◌≡◌ {A = Option ℕ} (Some place) None = e ∙ rw t refl in absurd (cc)
      ]

  pub lowest_free_missed : (places : List (Option T)) → None ≡ position is_none places → length places ≡ lowest_free places
  lowest_free_missed places e =
      elim (cases_Bool (nat_lt (position_or_len is_none places) (length places))) [
        | inl t ↦ let f : ◌≡◌ {A = Option ℕ} None (Some (position_or_len is_none places)) = e ∙ rw t refl in absurd (cc)
        | inr t ↦ omega (arith, ltb-false _ _ t, lowest_free_place places, lowest_free_le places)
      ]

  -- as many values stand below the lowest free number
  pub lowest_free_count : (places : List (Option T)) → lowest_free places ≤ count_by is_some places
  lowest_free_count [] = omega arith
  lowest_free_count (None ∷ places) = omega arith
  lowest_free_count (Some x ∷ places) = omega (arith, lowest_free_count places, sum_by-cons (λ o. cond (is_some o) 1 0) (Some x) places)

  -- nothing stands under the lowest free number
  pub at_lowest_free : (places : List (Option T)) → at_id places (lowest_free places) ≡ None
  at_lowest_free [] = refl
  at_lowest_free (None ∷ places) = refl
  at_lowest_free (Some x ∷ places) = at_lowest_free places

  -- the table with one value more
  pub filled_past : (places : List (Option T)) (value : T) → lowest_free places ≡ length places → places ++ Some value ∷ [] ≡ filled places value
  filled_past [] value e = refl
  filled_past (None ∷ places) value e = absurd (omega arith)
  filled_past (Some x ∷ places) value e = ap (λ xs. Some x ∷ xs) (filled_past places value (omega arith))

  pub filled_within : (places : List (Option T)) (value : T) → lowest_free places < length places → set places (lowest_free places) (Some value) ≡ filled places value
  filled_within [] value l = absurd (omega arith)
  filled_within (None ∷ places) value l = refl
  filled_within (Some x ∷ places) value l = ap (λ xs. Some x ∷ xs) (filled_within places value (omega arith))

  pub length_filled_le : (places : List (Option T)) (value : T) (most : ℕ) → length places ≤ most → lowest_free places < most → length (filled places value) ≤ most
  length_filled_le [] value most l f = f
  length_filled_le (None ∷ places) value most l f = l
  length_filled_le (Some x ∷ places) value zero l f = absurd (omega arith)
  length_filled_le (Some x ∷ places) value (suc most) l f = let h = length_filled_le places value most (omega arith) (omega arith) in omega arith

  pub at_filled : (places : List (Option T)) (value : T) → at_id (filled places value) (lowest_free places) ≡ Some value
  at_filled [] value = refl
  at_filled (None ∷ places) value = refl
  at_filled (Some x ∷ places) value = at_filled places value

  pub at_filled_other : (places : List (Option T)) (value : T) (id : ℕ) → id ≢ lowest_free places → at_id (filled places value) id ≡ at_id places id
  at_filled_other [] value zero ne = absurd (ne refl)
  at_filled_other [] value (suc id) ne = refl
  at_filled_other (None ∷ places) value zero ne = absurd (ne refl)
  at_filled_other (None ∷ places) value (suc id) ne = refl
  at_filled_other (Some x ∷ places) value zero ne = refl
  at_filled_other (Some x ∷ places) value (suc id) ne = at_filled_other places value id (λ e. ne (ap suc e))

  -- something stands under a number, so it is within the table
  pub id_within : (places : List (Option T)) (id : ℕ) → IsSome (at_id places id) → id < length places
  id_within places id present = grind (arith, get_or_past)

  pub id_within_some : (places : List (Option T)) (id : ℕ) (value : T) → at_id places id ≡ Some value → id < length places
  id_within_some places id value present = grind (arith, get_or_past)

  pub at_with_value : (places : List (Option T)) (id : ℕ) (value : T) → id < length places → at_id (with_value places id value) id ≡ Some value
  at_with_value places id value l = get_or-set_same places id (Some value) None l

  pub at_with_value_other : (places : List (Option T)) (id other : ℕ) (value : T) → other ≢ id → at_id (with_value places id value) other ≡ at_id places other
  at_with_value_other places id other value ne = get_or-set_other places id other (Some value) None ne

  pub at_without : (places : List (Option T)) (id : ℕ) → id < length places → at_id (without places id) id ≡ None
  at_without places id l = get_or-set_same places id None None l

  pub at_without_other : (places : List (Option T)) (id other : ℕ) → other ≢ id → at_id (without places id) other ≡ at_id places other
  at_without_other places id other ne = get_or-set_other places id other None None ne

  -- an edit of a value that is there
  pub changed_is : (places : List (Option T)) (id : ℕ) (value : T) (edit : T → T) → at_id places id ≡ Some value → with_value places id (edit value) ≡ changed places id edit
  changed_is places id value edit e = ap (λ o. set places id (option_map edit o)) (sym e)

  pub edited_to : (places : List (Option T)) (id : ℕ) (value new : T) (edit : T → Option T) → at_id places id ≡ Some value → edit value ≡ Some new → with_value places id new ≡ edited places id edit
  edited_to places id value new edit e f = ap (set places id) (sym f) ∙ ap (λ o. set places id (option_and_then edit o)) (sym e)

  pub edited_away : (places : List (Option T)) (id : ℕ) (value : T) (edit : T → Option T) → at_id places id ≡ Some value → edit value ≡ None → without places id ≡ edited places id edit
  edited_away places id value edit e f = ap (set places id) (sym f) ∙ ap (λ o. set places id (option_and_then edit o)) (sym e)
