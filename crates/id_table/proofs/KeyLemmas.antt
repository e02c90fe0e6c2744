-- What a table's values are after an edit of its slab and its keys.
use Rattle.std.proofs.Common.{◌≡◌, ◌≢◌, ◌⊎◌, inl, inr, ℕ, zero, suc, ◌+◌, ◌^◌, ◌<◌, ◌≤◌, List, [], ◌∷◌, ◌++◌, length, get_or, set, map, Option, Some, None, is_some, is_none, IsSome, refl, sym, ap, subst, ◌∙◌, arith}
use Rattle.std.proofs.lemmas.Bool.{cases_eq}
use Rattle.std.proofs.lemmas.List.{get_or-set_same, get_or-set_other, get_or_past, length-set, length-map, map-set, map-append, set-set, get_or-map, get_or_default, same_lists, get_or_append_left, get_or_push, length_push}
use Rattle.slab.specs.Slab.{Slab, get, ContainsKey, Updates}
use Rattle.slab.specs.Slab as slab
use Rattle.slab.proofs.SlabLemmas.{Updates-with_value}
use Rattle.id_table.specs.Places.{at_id, lowest_free, filled, with_value, without}
use Rattle.id_table.specs.Keys.{value_under, values_under, IsKeyed}
use Rattle.id_table.proofs.PlaceLemmas.{lowest_free_le, at_lowest_free, filled_past, filled_within, id_within_some, length_filled_le}

-- keys alone
kept_place : (keys : List (Option ℕ)) (id other k : ℕ) → at_id (set keys id None) other ≡ Some k → (other ≢ id) × (at_id keys other ≡ Some k)
kept_place keys id other k e =
    elim (cases_eq other id) [
      | inl same ↦ absurd (emptied keys id k (ap (at_id (set keys id None)) (sym same) ∙ e))
      | inr ne ↦ (ne, sym (get_or-set_other keys id other None None ne) ∙ e)
    ]
  where
    emptied : (keys : List (Option ℕ)) (id k : ℕ) → at_id (set keys id None) id ≡ Some k → ⊥
    emptied [] id k e = cc
    emptied (x ∷ keys) zero k e = cc
    emptied (x ∷ keys) (suc id) k e = emptied keys id k e

at_filled_keys : (keys : List (Option ℕ)) (key id k : ℕ) → at_id (filled keys key) id ≡ Some k → ((id ≡ lowest_free keys) × (k ≡ key)) ⊎ ((id ≢ lowest_free keys) × (at_id keys id ≡ Some k))
at_filled_keys [] key zero k e = inl (refl, cc)
at_filled_keys [] key (suc id) k e = absurd (cc)
at_filled_keys (None ∷ keys) key zero k e = inl (refl, cc)
at_filled_keys (None ∷ keys) key (suc id) k e = inr (omega arith, e)
at_filled_keys (Some x ∷ keys) key zero k e = inr (omega arith, e)
at_filled_keys (Some x ∷ keys) key (suc id) k e =
    elim (at_filled_keys keys key id k e) [
      | inl p ↦ inl (ap suc p.0, p.1)
      | inr p ↦ inr (omega (arith, p.0), p.1)
    ]

module _ {T : Type 0} where
  -- a place's value, at any list of keys
  pub at_values : (slots : Slab T) (keys : List (Option ℕ)) (id : ℕ) → at_id (values_under slots keys) id ≡ value_under slots (at_id keys id)
  at_values slots [] id = refl
  at_values slots (key ∷ keys) zero = refl
  at_values slots (key ∷ keys) (suc id) = at_values slots keys id

  some_key : (slots : Slab T) (o : Option ℕ) → IsSome (value_under slots o) → (key : ℕ) × (o ≡ Some key) × ContainsKey slots key
  some_key slots None h = absurd (cc)
  some_key slots (Some key) h = (key, refl, h)

  pub key_of : (slots : Slab T) (keys : List (Option ℕ)) (id : ℕ) → IsSome (at_id (values_under slots keys) id) → (key : ℕ) × (at_id keys id ≡ Some key) × ContainsKey slots key
  key_of slots keys id h = some_key slots (at_id keys id) (rw at_values at h)

  -- two slabs that agree at each key
  same_values : (old new : Slab T) (keys : List (Option ℕ)) → ((id : ℕ) → value_under new (at_id keys id) ≡ value_under old (at_id keys id)) → values_under new keys ≡ values_under old keys
  same_values old new [] h = refl
  same_values old new (key ∷ keys) h = λ i. h 0 i ∷ same_values old new keys (λ id. h (suc id)) i

  -- the key of no number was changed
  apart : (old new : Slab T) (key : ℕ) (slot : Option T) → Updates old new key slot → (o : Option ℕ) → ((k : ℕ) → o ≡ Some k → k ≢ key) → value_under new o ≡ value_under old o
  apart old new key slot u None h = refl
  apart old new key slot u (Some k) h = u.others k (h k refl)

  kept_key : (slots : Slab T) (keys : List (Option ℕ)) (key id k : ℕ) → IsKeyed slots keys → get slots key ≡ None → at_id keys id ≡ Some k → k ≢ key
  kept_key slots keys key id k keyed vacant e same = let h : IsSome (get slots k) = keyed.present id k e in grind arith

  pub values_apart : (old new : Slab T) (keys : List (Option ℕ)) (key : ℕ) (slot : Option T) → IsKeyed old keys → get old key ≡ None → Updates old new key slot → values_under new keys ≡ values_under old keys
  values_apart old new keys key slot keyed vacant u = same_values old new keys (λ id. apart old new key slot u (at_id keys id) (λ k e. kept_key old keys key id k keyed vacant e))

  -- the value of one number was changed
  changed_place : (old new : Slab T) (keys : List (Option ℕ)) (id key : ℕ) (slot : Option T) → IsKeyed old keys → at_id keys id ≡ Some key → Updates old new key slot → (other : ℕ) → at_id (values_under new keys) other ≡ at_id (set (values_under old keys) id slot) other
  changed_place old new keys id key slot keyed is u other =
      elim (cases_eq other id) [
        | inl e ↦
            let l : id < length (values_under old keys) = omega (arith, id_within_some keys id key is, length-map keys (value_under old)) in
            at_values new keys other ∙ ap (λ k. value_under new (at_id keys k)) e ∙ ap (value_under new) is ∙ u.changed ∙ sym (ap (λ k. get_or (set (values_under old keys) id slot) k None) e ∙ get_or-set_same (values_under old keys) id slot None l)
        | inr ne ↦
            at_values new keys other
            ∙ apart old new key slot u (at_id keys other) (λ k e same. ne (keyed.distinct other id key (e ∙ ap (λ (n : ℕ). Some n) same) is))
            ∙ sym (at_values old keys other)
            ∙ sym (get_or-set_other (values_under old keys) id other slot None ne)
      ]

  same_places : (xs ys : List (Option T)) → length xs ≡ length ys → ((id : ℕ) → at_id xs id ≡ at_id ys id) → xs ≡ ys
  same_places xs ys l h = same_lists xs ys l (λ k d le. get_or_default xs k d None le ∙ h k ∙ get_or_default ys k None d (omega arith))

  pub values_changed : (old new : Slab T) (keys : List (Option ℕ)) (id key : ℕ) (slot : Option T) → IsKeyed old keys → at_id keys id ≡ Some key → Updates old new key slot → values_under new keys ≡ set (values_under old keys) id slot
  values_changed old new keys id key slot keyed is u =
      same_places _ _ (simp (length-set, length-map)) (changed_place old new keys id key slot keyed is u)

  pub values_written : (slots : Slab T) (keys : List (Option ℕ)) (id key : ℕ) (value : T) → IsKeyed slots keys → at_id keys id ≡ Some key → values_under (slab.with_value slots key value) keys ≡ with_value (values_under slots keys) id value
  values_written slots keys id key value keyed is =
      values_changed slots (slab.with_value slots key value) keys id key (Some value) keyed is (Updates-with_value slots key value (keyed.present id key is))

  pub keyed_written : (slots : Slab T) (keys : List (Option ℕ)) (id key : ℕ) (value : T) → IsKeyed slots keys → at_id keys id ≡ Some key → IsKeyed (slab.with_value slots key value) keys
  keyed_written slots keys id key value keyed is =
      let u = Updates-with_value slots key value (keyed.present id key is) in
      record {
        present = λ other k e. elim (cases_eq k key) [
          | inl same ↦ rw (same, u.changed) refl
          | inr ne ↦ rw (u.others k ne) (keyed.present other k e)
        ];
        distinct = keyed.distinct;
        few = keyed.few;
      }

  -- the value of one number was taken out
  pub values_removed : (old new : Slab T) (keys : List (Option ℕ)) (id key : ℕ) → IsKeyed old keys → at_id keys id ≡ Some key → Updates old new key None → values_under new (set keys id None) ≡ without (values_under old keys) id
  values_removed old new keys id key keyed is u =
      map-set (value_under new) keys id None ∙ ap (λ xs. set xs id None) (values_changed old new keys id key None keyed is u) ∙ set-set (values_under old keys) id None None

  pub keyed_removed : (old new : Slab T) (keys : List (Option ℕ)) (id key : ℕ) → IsKeyed old keys → at_id keys id ≡ Some key → Updates old new key None → IsKeyed new (set keys id None)
  keyed_removed old new keys id key keyed is u =
      record {
        present = λ other k e.
            let p = kept_place keys id other k e in
            rw (u.others k (λ same. p.0 (keyed.distinct other id key (p.1 ∙ ap (λ (n : ℕ). Some n) same) is))) (keyed.present other k p.1);
        distinct = λ one other k e f. keyed.distinct one other k (kept_place keys id one k e).1 (kept_place keys id other k f).1;
        few = omega (arith, length-set keys id None, keyed.few);
      }

  -- a value was added under a vacant key
  lowest_values : (slots : Slab T) (keys : List (Option ℕ)) → ((id key : ℕ) → at_id keys id ≡ Some key → ContainsKey slots key) → lowest_free (values_under slots keys) ≡ lowest_free keys
  lowest_values slots [] h = refl
  lowest_values slots (None ∷ keys) h = refl
  lowest_values slots (Some key ∷ keys) h = first (get slots key) (h 0 key refl) (lowest_values slots keys (λ id. h (suc id)))
    where
      first : (o : Option T) → IsSome o → lowest_free (values_under slots keys) ≡ lowest_free keys → lowest_free (o ∷ values_under slots keys) ≡ lowest_free (Some key ∷ keys)
      first None p e = absurd (cc)
      first (Some x) p e = ap suc e

  pub lowest_of_keys : (slots : Slab T) (keys : List (Option ℕ)) → IsKeyed slots keys → lowest_free (values_under slots keys) ≡ lowest_free keys
  lowest_of_keys slots keys keyed = lowest_values slots keys keyed.present

  pub keyed_added : (old new : Slab T) (keys : List (Option ℕ)) (key : ℕ) (value : T) → IsKeyed old keys → get old key ≡ None → Updates old new key (Some value) → lowest_free keys < 2 ^ 32 → IsKeyed new (filled keys key)
  keyed_added old new keys key value keyed vacant u low =
      record {
        present = λ id k e. elim (at_filled_keys keys key id k e) [
          | inl p ↦ rw (p.1, u.changed) refl
          | inr p ↦ rw (u.others k (kept_key old keys key id k keyed vacant p.1)) (keyed.present id k p.1)
        ];
        distinct = λ id other k e f. elim (at_filled_keys keys key id k e) [
          | inl p ↦ elim (at_filled_keys keys key other k f) [
            | inl q ↦ p.0 ∙ sym q.0
            | inr q ↦ absurd (kept_key old keys key other k keyed vacant q.1 p.1)
          ]
          | inr p ↦ elim (at_filled_keys keys key other k f) [
            | inl q ↦ absurd (kept_key old keys key id k keyed vacant p.1 q.1)
            | inr q ↦ keyed.distinct id other k p.1 q.1
          ]
        ];
        few = length_filled_le keys key (2 ^ 32) keyed.few low;
      }

  filled_values : (slots : Slab T) (keys : List (Option ℕ)) (key : ℕ) (value : T) → get slots key ≡ Some value → ((id key : ℕ) → at_id keys id ≡ Some key → ContainsKey slots key) → values_under slots (filled keys key) ≡ filled (values_under slots keys) value
  filled_values slots [] key value is h = λ i. is i ∷ []
  filled_values slots (None ∷ keys) key value is h = λ i. is i ∷ values_under slots keys
  filled_values slots (Some k ∷ keys) key value is h = first (get slots k) (h 0 k refl) (filled_values slots keys key value is (λ id. h (suc id)))
    where
      first : (o : Option T) → IsSome o → values_under slots (filled keys key) ≡ filled (values_under slots keys) value → o ∷ values_under slots (filled keys key) ≡ filled (o ∷ values_under slots keys) value
      first None p e = absurd (cc)
      first (Some x) p e = ap (λ xs. Some x ∷ xs) e

  pub values_added : (old new : Slab T) (keys : List (Option ℕ)) (key : ℕ) (value : T) → IsKeyed old keys → get old key ≡ None → Updates old new key (Some value) → values_under new (filled keys key) ≡ filled (values_under old keys) value
  values_added old new keys key value keyed vacant u =
      filled_values new keys key value u.changed (λ id k e. rw (u.others k (kept_key old keys key id k keyed vacant e)) (keyed.present id k e))
      ∙ ap (λ xs. filled xs value) (values_apart old new keys key (Some value) keyed vacant u)

  -- room for more does not change the values
  roomier : (slots : Slab T) (capacity : ℕ) (keys : List (Option ℕ)) → values_under (record slots { capacity = capacity }) keys ≡ values_under slots keys
  roomier slots capacity [] = refl
  roomier slots capacity (None ∷ keys) = ap (λ xs. None ∷ xs) (roomier slots capacity keys)
  roomier slots capacity (Some key ∷ keys) = ap (λ xs. get slots key ∷ xs) (roomier slots capacity keys)

  keyed_roomier : (slots : Slab T) (capacity : ℕ) (keys : List (Option ℕ)) → IsKeyed slots keys → IsKeyed (record slots { capacity = capacity }) keys
  keyed_roomier slots capacity keys keyed = record { present = keyed.present; distinct = keyed.distinct; few = keyed.few }

  -- the same, after room was made
  pub added_after : (old mid new : Slab T) (keys keys' : List (Option ℕ)) (key stored : ℕ) (value : T) → mid ≡ record old { capacity = mid.capacity } → IsKeyed old keys → key ≡ mid.vacant_key → stored ≡ mid.vacant_key → get mid key ≡ None → Updates mid new stored (Some value) → keys' ≡ filled keys key → lowest_free keys < 2 ^ 32 → IsKeyed new keys' × (values_under new keys' ≡ filled (values_under old keys) value)
  added_after old mid new keys keys' key stored value same keyed is stored_is vacant u filled_is low =
      let at : stored ≡ key = stored_is ∙ sym is in
      let updates : Updates mid new key (Some value) = subst (λ k. Updates mid new k (Some value)) at u in
      let kept : IsKeyed mid keys = subst (λ (s : Slab T). IsKeyed s keys) (sym same) (keyed_roomier old mid.capacity keys keyed) in (
        rw filled_is (keyed_added mid new keys key value kept vacant updates low),
        rw filled_is (values_added mid new keys key value kept vacant updates ∙ ap (λ (s : Slab T). filled (values_under s keys) value) same ∙ ap (λ xs. filled xs value) (roomier old mid.capacity keys)),
      )

  pub id_added : (old : Slab T) (keys : List (Option ℕ)) (id place : ℕ) → IsKeyed old keys → id ≡ place → place ≡ lowest_free keys → id ≡ lowest_free (values_under old keys)
  id_added old keys id place keyed e f = e ∙ f ∙ sym (lowest_of_keys old keys keyed)
