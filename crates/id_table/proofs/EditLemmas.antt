-- What stands under each number after an edit of a table.
use Rattle.std.proofs.Common.{◌≡◌, ◌≢◌, ◌⊎◌, inl, inr, ℕ, zero, suc, ◌+◌, ◌-◌, ◌<◌, ◌≤◌, Bool, true, false, List, [], ◌∷◌, ◌++◌, length, get_or, set, replicate, Option, Some, None, is_some, IsSome, refl, sym, ap, ◌∙◌, arith, length-append}
use Rattle.std.proofs.lemmas.Bool.{cases_eq, cases_lt}
use Rattle.std.proofs.lemmas.List.{get_or-set_same, get_or-set_other, get_or_past, get_or_append_left, get_or-append_right, length-set, length-replicate}
use Rattle.std.specs.Option.{option_map, option_and_then}
use Rattle.id_table.specs.Places.{at_id, lowest_free, filled, without, changed, edited, put_under}
use Rattle.id_table.proofs.PlaceLemmas.{at_filled, at_filled_other, at_lowest_free}

module _ {T : Type 0} where
  -- a place written with nothing where nothing was
  at_set : (places : List (Option T)) (id : ℕ) (place : Option T) → (at_id places id ≡ None → place ≡ None) → at_id (set places id place) id ≡ place
  at_set places id place none =
      elim (cases_lt id (length places)) [
        | inl within ↦ get_or-set_same places id place None within
        | inr past ↦ get_or_past (set places id place) id None (omega (arith, length-set places id place)) ∙ sym (none (get_or_past places id None past))
      ]

  -- ---- one value edited

  pub at_changed : (places : List (Option T)) (id : ℕ) (edit : T → T) → at_id (changed places id edit) id ≡ option_map edit (at_id places id)
  at_changed places id edit = at_set places id (option_map edit (at_id places id)) (ap (option_map edit))

  pub at_changed_other : (places : List (Option T)) (id : ℕ) (edit : T → T) (other : ℕ) → other ≢ id → at_id (changed places id edit) other ≡ at_id places other
  at_changed_other places id edit other ne = get_or-set_other places id other (option_map edit (at_id places id)) None ne

  pub at_edited : (places : List (Option T)) (id : ℕ) (edit : T → Option T) → at_id (edited places id edit) id ≡ option_and_then edit (at_id places id)
  at_edited places id edit = at_set places id (option_and_then edit (at_id places id)) (ap (option_and_then edit))

  pub at_edited_other : (places : List (Option T)) (id : ℕ) (edit : T → Option T) (other : ℕ) → other ≢ id → at_id (edited places id edit) other ≡ at_id places other
  at_edited_other places id edit other ne = get_or-set_other places id other (option_and_then edit (at_id places id)) None ne

  -- a table without a number has nothing there, also where the number lies past its end
  pub at_gone : (places : List (Option T)) (id : ℕ) → at_id (without places id) id ≡ None
  at_gone places id = at_set places id None (λ e. refl)

  some_mapped : (place : Option T) (edit : T → T) → is_some (option_map edit place) ≡ is_some place
  some_mapped None edit = refl
  some_mapped (Some value) edit = refl

  -- a value changed in place leaves each number used or free as it was
  pub some_changed : (places : List (Option T)) (id : ℕ) (edit : T → T) (other : ℕ) → is_some (at_id (changed places id edit) other) ≡ is_some (at_id places other)
  some_changed places id edit other =
      elim (cases_eq other id) [
        | inl same ↦
            ap (λ k. is_some (at_id (changed places id edit) k)) same ∙ ap is_some (at_changed places id edit)
            ∙ some_mapped (at_id places id) edit ∙ sym (ap (λ k. is_some (at_id places k)) same)
        | inr ne ↦ ap is_some (at_changed_other places id edit other ne)
      ]

  -- ---- a value added

  pub filled_cases : (places : List (Option T)) (value : T) (id : ℕ) → ((id ≡ lowest_free places) × (at_id (filled places value) id ≡ Some value)) ⊎ ((id ≢ lowest_free places) × (at_id (filled places value) id ≡ at_id places id))
  filled_cases places value id =
      elim (cases_eq id (lowest_free places)) [
        | inl e ↦ inl (e, ap (at_id (filled places value)) e ∙ at_filled places value)
        | inr ne ↦ inr (ne, at_filled_other places value id ne)
      ]

  -- what was there stays
  pub filled_kept : (places : List (Option T)) (value old : T) (id : ℕ) → at_id places id ≡ Some old → at_id (filled places value) id ≡ Some old
  filled_kept places value old id e =
      elim (filled_cases places value id) [
        | inl p ↦ let f : ◌≡◌ {A = Option T} None (Some old) = sym (ap (at_id places) p.0 ∙ at_lowest_free places) ∙ e in absurd (cc)
        | inr p ↦ p.1 ∙ e
      ]

  pub filled_some : (places : List (Option T)) (value : T) (id : ℕ) → IsSome (at_id places id) → IsSome (at_id (filled places value) id)
  filled_some places value id there =
      elim (filled_cases places value id) [
        | inl p ↦ ap is_some p.1
        | inr p ↦ ap is_some p.1 ∙ there
      ]

  -- ---- a value put under a number

  none_in : (n k : ℕ) → at_id (replicate {A = Option T} n None) k ≡ None
  none_in zero k = refl
  none_in (suc n) zero = refl
  none_in (suc n) (suc k) = none_in n k

  pub at_padded : (places : List (Option T)) (n id : ℕ) → at_id (places ++ replicate n None) id ≡ at_id places id
  at_padded places n id =
      elim (cases_lt id (length places)) [
        | inl within ↦ get_or_append_left places (replicate n None) None id within
        | inr past ↦ get_or-append_right places (replicate n None) (length places) id None refl past ∙ none_in n (id - length places) ∙ sym (get_or_past places id None past)
      ]

  length-padded : (places : List (Option T)) (id : ℕ) → length (places ++ replicate {A = Option T} (id + 1 - length places) None) ≡ length places + (id + 1 - length places)
  length-padded places id = length-append places (replicate (id + 1 - length places) None) ∙ ap (λ n. length places + n) (length-replicate {A = Option T} (id + 1 - length places) None)

  pub at_put : (places : List (Option T)) (id : ℕ) (value : T) → at_id (put_under places id value) id ≡ Some value
  at_put places id value =
      get_or-set_same (places ++ replicate {A = Option T} (id + 1 - length places) None) id (Some value) None (omega (arith, length-padded places id))

  pub at_put_other : (places : List (Option T)) (id : ℕ) (value : T) (other : ℕ) → other ≢ id → at_id (put_under places id value) other ≡ at_id places other
  at_put_other places id value other ne =
      get_or-set_other (places ++ replicate {A = Option T} (id + 1 - length places) None) id other (Some value) None ne
      ∙ at_padded places (id + 1 - length places) other

  -- the table grows to hold the number, where it is shorter
  pub length-put : (places : List (Option T)) (id : ℕ) (value : T) → length (put_under places id value) ≡ length places + (id + 1 - length places)
  length-put places id value = length-set (places ++ replicate {A = Option T} (id + 1 - length places) None) id (Some value) ∙ length-padded places id
