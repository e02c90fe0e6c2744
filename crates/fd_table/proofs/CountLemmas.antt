-- How many descriptors a description has, after each edit of the descriptors.
use Rattle.std.proofs.Common.{◌≡◌, ◌≢◌, ◌⊎◌, inl, inr, ℕ, zero, suc, ◌+◌, ◌*◌, ◌-◌, ◌<◌, ◌≤◌, Bool, true, false, cond, [], ◌∷◌, ◌++◌, length, get_or, set, replicate, Option, Some, None, is_none, nat_eq, refl, sym, ap, ◌∙◌, arith, length-append}
use Rattle.std.proofs.lemmas.Bool.{cases_eq, cases_lt, eq-eqb, eqb-true}
use Rattle.std.proofs.lemmas.List.{get_or-set_same, get_or-set_other, get_or_past, get_or_append_left, get_or-append_right, length-set, length-replicate}
use Rattle.std.proofs.lemmas.List.Sums.{sum_by-set, sum_by-cons, sum_by-append, count_by-le-length}
use Rattle.id_table.specs.Places.{at_id, lowest_free, put_under}
use Rattle.id_table.proofs.PlaceLemmas.{id_within_some}
use Rattle.fd_table.specs.Descriptors.{Slots, Processes, slots_of, slots_at, is_for, slot_count, holder_count, with_slot, free_count}

-- one where the descriptor has the description
abbrev pub one_for : ℕ → Option ℕ → ℕ
one_for id slot = cond (is_for id slot) 1 0

abbrev pub count_at : ℕ → Option Slots → ℕ
count_at id place = slot_count id (slots_of place)

pub one_same : (id : ℕ) → ◌≡◌ {A = ℕ} (one_for id (Some id)) 1
one_same id = let one : ℕ = 1 in ap (λ b. cond b one 0) (eq-eqb id id refl)

pub one_other : (id other : ℕ) → other ≢ id → ◌≡◌ {A = ℕ} (one_for id (Some other)) 0
one_other id other ne = by_test (nat_eq other id) refl
  where
    by_test : (b : Bool) → nat_eq other id ≡ b → ◌≡◌ {A = ℕ} (cond b 1 0) 0
    by_test true e = absurd (ne (eqb-true other id e))
    by_test false e = refl

pub one_most : (id : ℕ) (slot : Option ℕ) → one_for id slot ≤ 1
one_most id slot = by_test (is_for id slot)
  where
    by_test : (b : Bool) → cond b 1 0 ≤ 1
    by_test true = omega arith
    by_test false = omega arith

-- ---- one descriptor

pub with_slot_is : (processes : Processes) (pid fd : ℕ) (slot : Option ℕ) (slots : Slots) → at_id processes pid ≡ Some slots → with_slot processes pid fd slot ≡ set processes pid (Some (set slots fd slot))
with_slot_is processes pid fd slot slots e = ap (λ o. set processes pid (Some (set (slots_of o) fd slot))) e

pub count_with_slot : (processes : Processes) (pid fd : ℕ) (slot : Option ℕ) (slots : Slots) (id : ℕ) → at_id processes pid ≡ Some slots → fd < length slots → holder_count id (with_slot processes pid fd slot) + one_for id (at_id slots fd) ≡ holder_count id processes + one_for id slot
count_with_slot processes pid fd slot slots id e within =
    let inner = sum_by-set (one_for id) slots fd slot None within in
    let outer = sum_by-set (count_at id) processes pid (Some (set slots fd slot)) None (id_within_some processes pid slots e) in
    let was : count_at id (at_id processes pid) ≡ slot_count id slots = ap (count_at id) e in
    let is : holder_count id (with_slot processes pid fd slot) ≡ holder_count id (set processes pid (Some (set slots fd slot))) = ap (holder_count id) (with_slot_is processes pid fd slot slots e) in
    omega arith

pub slot_cases : (processes : Processes) (pid fd : ℕ) (slot : Option ℕ) (slots : Slots) → at_id processes pid ≡ Some slots → fd < length slots → (p f : ℕ) → ((p ≡ pid) × (f ≡ fd) × (at_id (slots_at (with_slot processes pid fd slot) p) f ≡ slot)) ⊎ (at_id (slots_at (with_slot processes pid fd slot) p) f ≡ at_id (slots_at processes p) f)
slot_cases processes pid fd slot slots e within p f =
    let new = set processes pid (Some (set slots fd slot)) in
    let is : with_slot processes pid fd slot ≡ new = with_slot_is processes pid fd slot slots e in
    let lies = id_within_some processes pid slots e in
    elim (cases_eq p pid) [
      | inl same ↦
          let here : slots_at new p ≡ set slots fd slot = ap (λ k. slots_of (get_or new k None)) same ∙ ap slots_of (get_or-set_same processes pid (Some (set slots fd slot)) None lies) in
          let was : slots_at processes p ≡ slots = ap (slots_at processes) same ∙ ap slots_of e in
          elim (cases_eq f fd) [
            | inl at ↦ inl (same, at, ap (λ ps. at_id (slots_at ps p) f) is ∙ ap (λ xs. at_id xs f) here ∙ ap (at_id (set slots fd slot)) at ∙ get_or-set_same slots fd slot None within)
            | inr ne ↦ inr (ap (λ ps. at_id (slots_at ps p) f) is ∙ ap (λ xs. at_id xs f) here ∙ get_or-set_other slots fd f slot None ne ∙ sym (ap (λ xs. at_id xs f) was))
          ]
      | inr ne ↦ inr (ap (λ ps. at_id (slots_at ps p) f) is ∙ ap (λ o. at_id (slots_of o) f) (get_or-set_other processes pid p (Some (set slots fd slot)) None ne))
    ]

pub whole_with_slot : (processes : Processes) (pid fd : ℕ) (slot : Option ℕ) (slots : Slots) → at_id processes pid ≡ Some slots → ((p : ℕ) (xs : Slots) → at_id processes p ≡ Some xs → length xs ≡ 16) → (p : ℕ) (xs : Slots) → at_id (with_slot processes pid fd slot) p ≡ Some xs → length xs ≡ 16
whole_with_slot processes pid fd slot slots e whole p xs is =
    let new = set processes pid (Some (set slots fd slot)) in
    let at : at_id new p ≡ Some xs = sym (ap (λ ps. at_id ps p) (with_slot_is processes pid fd slot slots e)) ∙ is in
    elim (cases_eq p pid) [
      | inl same ↦
          let here : ◌≡◌ {A = Option Slots} (Some (set slots fd slot)) (Some xs) = sym (ap (λ k. get_or new k None) same ∙ get_or-set_same processes pid (Some (set slots fd slot)) None (id_within_some processes pid slots e)) ∙ at in
          let shown : set slots fd slot ≡ xs = cc in
          ap length (sym shown) ∙ length-set slots fd slot ∙ whole pid slots e
      | inr ne ↦ whole p xs (sym (get_or-set_other processes pid p (Some (set slots fd slot)) None ne) ∙ at)
    ]

pub length-with_slot : (processes : Processes) (pid fd : ℕ) (slot : Option ℕ) → length (with_slot processes pid fd slot) ≡ length processes
length-with_slot processes pid fd slot = length-set processes pid (Some (set (slots_at processes pid) fd slot))

-- ---- a new process

at_padded : (processes : Processes) (n k : ℕ) → at_id (processes ++ replicate n None) k ≡ at_id processes k
at_padded processes n k =
    elim (cases_lt k (length processes)) [
      | inl lt ↦ get_or_append_left processes (replicate n None) None k lt
      | inr le ↦ get_or-append_right processes (replicate n None) (length processes) k None refl le ∙ none n (k - length processes) ∙ sym (get_or_past processes k None le)
    ]
  where
    none : (n k : ℕ) → at_id (replicate {A = Option Slots} n None) k ≡ None
    none zero k = refl
    none (suc n) zero = refl
    none (suc n) (suc k) = none n k

padded_len : (processes : Processes) (pid : ℕ) → length (processes ++ replicate {A = Option Slots} (pid + 1 - length processes) None) ≡ length processes + (pid + 1 - length processes)
padded_len processes pid = length-append processes (replicate (pid + 1 - length processes) None) ∙ ap (λ n. length processes + n) (length-replicate {A = Option Slots} (pid + 1 - length processes) None)

pub put_cases : (processes : Processes) (pid : ℕ) (slots : Slots) (p : ℕ) → ((p ≡ pid) × (at_id (put_under processes pid slots) p ≡ Some slots)) ⊎ ((p ≢ pid) × (at_id (put_under processes pid slots) p ≡ at_id processes p))
put_cases processes pid slots p =
    let padded = processes ++ replicate {A = Option Slots} (pid + 1 - length processes) None in
    elim (cases_eq p pid) [
      | inl same ↦ inl (same, ap (at_id (put_under processes pid slots)) same ∙ get_or-set_same padded pid (Some slots) None (omega (arith, padded_len processes pid)))
      | inr ne ↦ inr (ne, get_or-set_other padded pid p (Some slots) None ne ∙ at_padded processes (pid + 1 - length processes) p)
    ]

none_counted : (id n : ℕ) → holder_count id (replicate {A = Option Slots} n None) ≡ 0
none_counted id zero = refl
none_counted id (suc n) = omega (arith, sum_by-cons (count_at id) None (replicate {A = Option Slots} n None), none_counted id n)

pub count_put : (processes : Processes) (pid : ℕ) (slots : Slots) (id : ℕ) → at_id processes pid ≡ None → holder_count id (put_under processes pid slots) ≡ holder_count id processes + slot_count id slots
count_put processes pid slots id vacant =
    let n = pid + 1 - length processes in
    let padded = processes ++ replicate {A = Option Slots} n None in
    let within : pid < length padded = omega (arith, padded_len processes pid) in
    let was : count_at id (at_id padded pid) ≡ 0 = ap (count_at id) (at_padded processes n pid ∙ vacant) in
    let same : holder_count id padded ≡ holder_count id processes + 0 = sum_by-append (count_at id) processes (replicate n None) ∙ ap (λ k. holder_count id processes + k) (none_counted id n) in
    omega (arith, sum_by-set (count_at id) padded pid (Some slots) None within)

pub length-put : (processes : Processes) (pid most : ℕ) (slots : Slots) → length processes ≤ most → pid < most → length (put_under processes pid slots) ≤ most
length-put processes pid most slots le lt = omega (arith, length-set (processes ++ replicate (pid + 1 - length processes) None) pid (Some slots), padded_len processes pid)

-- ---- bounds

first_most : (id : ℕ) (place : Option Slots) → ((xs : Slots) → place ≡ Some xs → length xs ≡ 16) → count_at id place ≤ 16
first_most id None h = omega arith
first_most id (Some xs) h = omega (arith, count_by-le-length (is_for id) xs, h xs refl)

pub count_most : (id : ℕ) (processes : Processes) → ((p : ℕ) (xs : Slots) → at_id processes p ≡ Some xs → length xs ≡ 16) → holder_count id processes ≤ 16 * length processes
count_most id [] h = omega arith
count_most id (place ∷ processes) h = omega (arith, sum_by-cons (count_at id) place processes, first_most id place (h 0), count_most id processes (λ p. h (suc p)))

-- ---- a description that is counted has a descriptor, and the other way

pub slot_found : (id : ℕ) (slots : Slots) → 1 ≤ slot_count id slots → (fd : ℕ) × (at_id slots fd ≡ Some id)
slot_found id [] h = absurd (omega arith)
slot_found id (None ∷ slots) h = let p = slot_found id slots (omega (arith, sum_by-cons (one_for id) None slots)) in (suc p.0, p.1)
slot_found id (Some other ∷ slots) h =
    elim (cases_eq other id) [
      | inl same ↦ (0, ap (λ (k : ℕ). Some k) same)
      | inr ne ↦ let p = slot_found id slots (omega (arith, sum_by-cons (one_for id) (Some other) slots, one_other id other ne)) in (suc p.0, p.1)
    ]

pub holder_found : (id : ℕ) (processes : Processes) → 1 ≤ holder_count id processes → (p : ℕ) × (f : ℕ) × (at_id (slots_at processes p) f ≡ Some id)
holder_found id [] h = absurd (omega arith)
holder_found id (place ∷ processes) h =
    elim (cases_lt 0 (count_at id place)) [
      | inl lt ↦ let p = slot_found id (slots_of place) lt in (0, p.0, p.1)
      | inr le ↦ let p = holder_found id processes (omega (arith, sum_by-cons (count_at id) place processes)) in (suc p.0, p.1, p.2)
    ]

slot_counts : (id fd : ℕ) (slots : Slots) → at_id slots fd ≡ Some id → 1 ≤ slot_count id slots
slot_counts id fd [] e = absurd (cc)
slot_counts id zero (slot ∷ slots) e = omega (arith, sum_by-cons (one_for id) slot slots, ap (one_for id) e, one_same id)
slot_counts id (suc fd) (slot ∷ slots) e = omega (arith, sum_by-cons (one_for id) slot slots, slot_counts id fd slots e)

pub holder_counts : (id p f : ℕ) (processes : Processes) → at_id (slots_at processes p) f ≡ Some id → 1 ≤ holder_count id processes
holder_counts id p f [] e = absurd (cc)
holder_counts id zero f (place ∷ processes) e = omega (arith, sum_by-cons (count_at id) place processes, slot_counts id f (slots_of place) e)
holder_counts id (suc p) f (place ∷ processes) e = omega (arith, sum_by-cons (count_at id) place processes, holder_counts id p f processes e)

-- ---- free descriptors

pub free_is_lowest : (slots : Slots) → 1 ≤ free_count slots → lowest_free slots < length slots
free_is_lowest [] h = absurd (omega arith)
free_is_lowest (None ∷ slots) h = omega arith
free_is_lowest (Some x ∷ slots) h = omega (arith, sum_by-cons (λ s. cond (is_none s) 1 0) (Some x) slots, free_is_lowest slots (omega (arith, sum_by-cons (λ s. cond (is_none s) 1 0) (Some x) slots)))

pub none_is_lowest : (slots : Slots) → free_count slots ≡ 0 → lowest_free slots ≡ length slots
none_is_lowest [] h = refl
none_is_lowest (None ∷ slots) h = absurd (omega (arith, sum_by-cons (λ s. cond (is_none s) 1 0) None slots))
none_is_lowest (Some x ∷ slots) h = ap suc (none_is_lowest slots (omega (arith, sum_by-cons (λ s. cond (is_none s) 1 0) (Some x) slots)))

pub lowest_is_free : (slots : Slots) → lowest_free slots < length slots → 1 ≤ free_count slots
lowest_is_free [] h = absurd (omega arith)
lowest_is_free (None ∷ slots) h = omega (arith, sum_by-cons (λ s. cond (is_none s) 1 0) None slots)
lowest_is_free (Some x ∷ slots) h = omega (arith, sum_by-cons (λ s. cond (is_none s) 1 0) (Some x) slots, lowest_is_free slots (omega arith))
