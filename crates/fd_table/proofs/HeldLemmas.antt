-- What holds of every table still holds after each edit.
use Rattle.std.proofs.Common.{◌≡◌, ◌≢◌, ◌⊎◌, inl, inr, ℕ, zero, suc, ◌+◌, ◌-◌, ◌^◌, ◌<◌, ◌≤◌, Bool, true, false, cond, List, [], ◌∷◌, length, take, drop, set, replicate, Option, Some, None, is_some, IsSome, IfSome, OnSome, nat_eq, nat_lt, refl, sym, ap, subst, ◌∙◌, arith}
use Rattle.std.proofs.lemmas.Bool.{cases_eq, cases_lt, eqb-true, eqb-false, le-ltb, ltb-false}
use Rattle.std.proofs.lemmas.List.{get_or-set_same, get_or-set_other, length-set, length-map, map-set, set-get_or, drop-map}
use Rattle.std.proofs.lemmas.List.Sums.{sum_by-set, sum_by-cons, sum_by_more, count_by-le-length}
use Rattle.std.specs.List.{count_by}
use Rattle.std.specs.Option.{option_map}
use Rattle.id_table.specs.Places.{at_id, lowest_free, filled, changed, without, put_under}
use Rattle.id_table.proofs.PlaceLemmas.{id_within_some, id_within, at_filled, at_filled_other, at_lowest_free}
use Rattle.fd_table.specs.declared.description.Look.{Look}
use Rattle.fd_table.specs.declared.description.Target.{Target}
use Rattle.fd_table.specs.declared.description.Description.{Description}
use Rattle.fd_table.specs.Descriptors.{Slots, Processes, slots_of, slots_at, look_up, look_at, is_for, holder_count, with_slot, with_offset, seek_in, sought, added, duplicated, closed, last_target, unless_held, is_unheld, is_dropped, drop_in, counted, end_count, is_end_of, free_count}
use Rattle.fd_table.specs.Held.{HeldList, look_of, looks, more_held, less_held, moved_to, once_held, held_slot, holders_of, table_of, IsHeldTable, IsHeldBy, AreThere, is_dropped_at, after_let_go, target_left, is_end_held}
use Rattle.fd_table.proofs.CountLemmas.{one_for, one_same, one_other, count_with_slot, slot_cases, whole_with_slot, length-with_slot, put_cases, count_put, length-put, count_most, holder_found, holder_counts, free_is_lowest, lowest_is_free}

some_of : {A : Type 0} (o : Option A) → IsSome o → (x : A) × (o ≡ Some x)
some_of None h = absurd (cc)
some_of (Some x) h = (x, refl)

is_there : {A : Type 0} (o : Option A) (x : A) → o ≡ Some x → IsSome o
is_there o x e = ap is_some e

-- ---- looks

pub at_looks : (list : HeldList) (id : ℕ) → at_id (looks list) id ≡ option_map look_of (at_id list id)
at_looks [] id = refl
at_looks (place ∷ list) zero = refl
at_looks (place ∷ list) (suc id) = at_looks list id

some_look : (place : Option Description) → is_some (option_map look_of place) ≡ is_some place
some_look None = refl
some_look (Some description) = refl

pub there_in_looks : (list : HeldList) (id : ℕ) → IsSome (at_id list id) → IsSome (at_id (looks list) id)
there_in_looks list id h = ap is_some (at_looks list id) ∙ some_look (at_id list id) ∙ h

pub there_in_list : (list : HeldList) (id : ℕ) → IsSome (at_id (looks list) id) → IsSome (at_id list id)
there_in_list list id h = sym (some_look (at_id list id)) ∙ sym (ap is_some (at_looks list id)) ∙ h

one_some : (place : Option Description) → ◌≡◌ {A = ℕ} (cond (is_some (option_map look_of place)) 1 0) (cond (is_some place) 1 0)
one_some None = refl
one_some (Some description) = refl

count_looks : (list : HeldList) → count_by is_some (looks list) ≡ count_by is_some list
count_looks [] = refl
count_looks (place ∷ list) = omega (arith, sum_by-cons (λ o. cond (is_some o) 1 0) (option_map look_of place) (looks list), sum_by-cons (λ o. cond (is_some o) 1 0) place list, one_some place, count_looks list)

pub counted_looks : (list : HeldList) → counted (looks list) ≡ count_by is_some (drop 2 list)
counted_looks list = ap (count_by is_some) (drop-map (option_map look_of) 2 list) ∙ count_looks (drop 2 list)

one_end : (target : Target) (place : Option Description) → ◌≡◌ {A = ℕ} (cond (is_end_of target (option_map look_of place)) 1 0) (cond (is_end_held target place) 1 0)
one_end target None = refl
one_end target (Some description) = refl

pub end_looks : (target : Target) (list : HeldList) → count_by (is_end_held target) list ≡ end_count target (looks list)
end_looks target [] = refl
end_looks target (place ∷ list) = omega (arith, sum_by-cons (λ o. cond (is_end_of target o) 1 0) (option_map look_of place) (looks list), sum_by-cons (λ o. cond (is_end_held target o) 1 0) place list, one_end target place, end_looks target list)

one_end_most : (target : Target) (place : Option Description) → cond (is_end_held target place) 1 0 ≤ cond (is_some place) 1 0
one_end_most target None = omega arith
one_end_most target (Some description) = by_test (is_end_held target (Some description))
  where
    by_test : (b : Bool) → cond b 1 0 ≤ 1
    by_test true = omega arith
    by_test false = omega arith

end_most : (target : Target) (list : HeldList) → count_by (is_end_held target) list ≤ count_by is_some list
end_most target [] = omega arith
end_most target (place ∷ list) = omega (arith, sum_by-cons (λ o. cond (is_some o) 1 0) place list, sum_by-cons (λ o. cond (is_end_held target o) 1 0) place list, one_end_most target place, end_most target list)

drop_two : (list : HeldList) → count_by is_some list ≤ count_by is_some (drop 2 list) + 2
drop_two [] = omega arith
drop_two (a ∷ []) = omega (arith, sum_by-cons (λ o. cond (is_some o) 1 0) a [], one_bound a)
  where
    one_bound : (place : Option Description) → cond (is_some place) 1 0 ≤ 1
    one_bound None = omega arith
    one_bound (Some x) = omega arith
drop_two (a ∷ b ∷ list) = omega (arith, sum_by-cons (λ o. cond (is_some o) 1 0) a (b ∷ list), sum_by-cons (λ o. cond (is_some o) 1 0) b list, one_bound a, one_bound b)
  where
    one_bound : (place : Option Description) → cond (is_some place) 1 0 ≤ 1
    one_bound None = omega arith
    one_bound (Some x) = omega arith

pub ends_fit : (target : Target) (list : HeldList) (processes : Processes) → IsHeldTable list processes → count_by (is_end_held target) list < 2 ^ 32
ends_fit target list processes t = omega (arith, end_most target list, drop_two list, counted_looks list, t.table.few)

-- ---- what the table knows of one descriptor

pub slots_there : (processes : Processes) (pid fd id : ℕ) → at_id (slots_at processes pid) fd ≡ Some id → (slots : Slots) × (at_id processes pid ≡ Some slots) × (at_id slots fd ≡ Some id)
slots_there processes pid fd id e = by_place (at_id processes pid) refl
  where
    by_place : (place : Option Slots) → at_id processes pid ≡ place → (slots : Slots) × (at_id processes pid ≡ Some slots) × (at_id slots fd ≡ Some id)
    by_place None f = let g : ◌≡◌ {A = Option ℕ} None (Some id) = sym (ap (λ o. at_id (slots_of o) fd) f) ∙ e in absurd (cc)
    by_place (Some slots) f = (slots, f, sym (ap (λ o. at_id (slots_of o) fd) f) ∙ e)

pub held_there : (list : HeldList) (processes : Processes) (pid fd id : ℕ) → IsHeldTable list processes → at_id (slots_at processes pid) fd ≡ Some id → IsSome (at_id list id)
held_there list processes pid fd id t e = there_in_list list id (t.table.there pid fd id e)

holders_is : (list : HeldList) (processes : Processes) (id : ℕ) → IsHeldTable list processes → IsSome (at_id list id) → holders_of (at_id list id) ≡ holder_count id processes
holders_is list processes id t h = let p = some_of (at_id list id) h in ap holders_of p.1 ∙ t.holders id p.0 p.1

pub held_once : (list : HeldList) (processes : Processes) (pid fd id : ℕ) → IsHeldTable list processes → at_id (slots_at processes pid) fd ≡ Some id → 1 ≤ holders_of (at_id list id)
held_once list processes pid fd id t e = omega (arith, holders_is list processes id t (held_there list processes pid fd id t e), holder_counts id pid fd processes e)

pub few_holders : (list : HeldList) (processes : Processes) → IsHeldTable list processes → (id : ℕ) → holders_of (at_id list id) + 16 < 2 ^ 64
few_holders list processes t id = by_place (at_id list id) refl
  where
    by_place : (place : Option Description) → at_id list id ≡ place → holders_of place + 16 < 2 ^ 64
    by_place None e = omega arith
    by_place (Some description) e = omega (arith, t.holders id description e, count_most id processes t.table.whole, t.pids)

pub all_there : (list : HeldList) (processes : Processes) (pid : ℕ) (slots : Slots) → IsHeldTable list processes → at_id processes pid ≡ Some slots → AreThere list slots
all_there list processes pid slots t e = record { there = λ fd id f. held_there list processes pid fd id t (ap (λ o. at_id (slots_of o) fd) e ∙ f) }

-- the descriptor that was looked up
pub slot_here : (was processes : Processes) (pid fd id : ℕ) (slot : Option ℕ) → slot ≡ at_id (slots_at was pid) fd → was ≡ processes → slot ≡ Some id → at_id (slots_at processes pid) fd ≡ Some id
slot_here was processes pid fd id slot e f g = sym (ap (λ ps. at_id (slots_at ps pid) fd) f) ∙ sym e ∙ g

-- ---- descriptions held once more

looks_changed : (list : HeldList) (id : ℕ) (edit : Description → Description) → ((d : Description) → (edit d).look ≡ d.look) → looks (changed list id edit) ≡ looks list
looks_changed list id edit same =
    map-set (option_map look_of) list id (option_map edit (at_id list id))
    ∙ ap (set (looks list) id) (same_look (at_id list id) ∙ sym (at_looks list id))
    ∙ set-get_or (looks list) id None
  where
    same_look : (place : Option Description) → option_map look_of (option_map edit place) ≡ option_map look_of place
    same_look None = refl
    same_look (Some d) = ap (λ (l : Look). Some l) (same d)

changed_cases : (list : HeldList) (id : ℕ) (edit : Description → Description) → IsSome (at_id list id) → (k : ℕ) → ((k ≡ id) × (at_id (changed list id edit) k ≡ option_map edit (at_id list id))) ⊎ ((k ≢ id) × (at_id (changed list id edit) k ≡ at_id list k))
changed_cases list id edit h k =
    elim (cases_eq k id) [
      | inl same ↦ inl (same, ap (at_id (changed list id edit)) same ∙ get_or-set_same list id (option_map edit (at_id list id)) None (id_within list id h))
      | inr ne ↦ inr (ne, get_or-set_other list id k (option_map edit (at_id list id)) None ne)
    ]

pub held_none : (list : HeldList) → IsHeldBy list list []
held_none list = record { looks_stay = refl; more = λ id. omega arith }

one_held : (list : HeldList) (slot : Option ℕ) → IfSome slot (λ id. IsSome (at_id list id)) → (k : ℕ) → holders_of (at_id (held_slot list slot) k) ≡ holders_of (at_id list k) + one_for k slot
one_held list None h k = omega arith
one_held list (Some id) h k =
    elim (changed_cases list id more_held h k) [
      | inl p ↦
          let q = some_of (at_id list id) h in
          let was : holders_of (at_id list k) ≡ q.0.holders = ap (λ j. holders_of (at_id list j)) p.0 ∙ ap holders_of q.1 in
          let is : holders_of (at_id (changed list id more_held) k) ≡ q.0.holders + 1 = ap holders_of (p.1 ∙ ap (option_map more_held) q.1) in
          omega (arith, was, is, ap (λ j. one_for j (Some id)) p.0, one_same id)
      | inr p ↦ omega (arith, ap holders_of p.1, one_other k id (λ e. p.0 (sym e)))
    ]

looks_held : (list : HeldList) (slot : Option ℕ) → looks (held_slot list slot) ≡ looks list
looks_held list None = refl
looks_held list (Some id) = looks_changed list id more_held (λ d. refl)

same_there : (old new : HeldList) (id : ℕ) → looks new ≡ looks old → IsSome (at_id old id) → IsSome (at_id new id)
same_there old new id e h = there_in_list new id (ap (λ ls. is_some (at_id ls id)) e ∙ there_in_looks old id h)

slot_is_there : (list now : HeldList) (slots : Slots) (i : ℕ) → AreThere list slots → looks now ≡ looks list → IfSome (at_id slots i) (λ id. IsSome (at_id now id))
slot_is_there list now slots i there e = by_slot (at_id slots i) refl
  where
    by_slot : (slot : Option ℕ) → at_id slots i ≡ slot → IfSome slot (λ id. IsSome (at_id now id))
    by_slot None f = tt
    by_slot (Some id) f = same_there list now id e (there.there i id f)

pub next_there : (list now : HeldList) (slots done : Slots) (i : ℕ) → AreThere list slots → IsHeldBy list now done → IfSome (at_id slots i) (λ id. IsSome (at_id now id))
next_there list now slots done i there h = slot_is_there list now slots i there h.looks_stay

length-take_most : (n : ℕ) (xs : Slots) → length (take n xs) ≤ n
length-take_most zero xs = omega arith
length-take_most (suc n) [] = omega arith
length-take_most (suc n) (x ∷ xs) = let e = length-take_most n xs in omega arith

pub next_few : (list now : HeldList) (slots : Slots) (i : ℕ) → IsHeldBy list now (take i slots) → ((id : ℕ) → holders_of (at_id list id) + 16 < 2 ^ 64) → length slots ≡ 16 → i < 16 → IfSome (at_id slots i) (λ id. holders_of (at_id now id) + 1 < 2 ^ 64)
next_few list now slots i h few size lt = by_slot (at_id slots i)
  where
    by_slot : (slot : Option ℕ) → IfSome slot (λ id. holders_of (at_id now id) + 1 < 2 ^ 64)
    by_slot None = tt
    by_slot (Some id) = omega (arith, h.more id, few id, count_by-le-length (is_for id) (take i slots), length-take_most i slots)

pub next_held : (list now : HeldList) (slots : Slots) (i : ℕ) (new : HeldList) → IsHeldBy list now (take i slots) → AreThere list slots → i < length slots → new ≡ held_slot now (at_id slots i) → IsHeldBy list new (take (i + 1) slots)
next_held list now slots i new h there lt e =
    record {
      looks_stay = ap looks e ∙ looks_held now (at_id slots i) ∙ h.looks_stay;
      more = λ id. omega (arith, ap (λ l. holders_of (at_id l id)) e, one_held now (at_id slots i) (slot_is_there list now slots i there h.looks_stay) id, h.more id, sum_by_more (one_for id) slots i None lt);
    }

-- ---- a process that is added

shown_looks : (old new : HeldList) (id : ℕ) (description : Description) → looks new ≡ looks old → at_id new id ≡ Some description → (d : Description) × (at_id old id ≡ Some d)
shown_looks old new id description e f = some_of (at_id old id) (same_there new old id (sym e) (is_there (at_id new id) description f))

pub held_put : (list new : HeldList) (processes : Processes) (pid : ℕ) (slots : Slots) → IsHeldTable list processes → at_id processes pid ≡ None → length slots ≡ 16 → AreThere list slots → IsHeldBy list new slots → pid < 2 ^ 32 → IsHeldTable new (put_under processes pid slots)
held_put list new processes pid slots t vacant size there held small =
    let same : looks new ≡ looks list = held.looks_stay in
    record {
      table = record {
        whole = λ p xs e. elim (put_cases processes pid slots p) [
          | inl q ↦ let f : ◌≡◌ {A = Option Slots} (Some slots) (Some xs) = sym q.1 ∙ e in let g : slots ≡ xs = cc in ap length (sym g) ∙ size
          | inr q ↦ t.table.whole p xs (sym q.1 ∙ e)
        ];
        there = λ p f id e. ap (λ ls. is_some (at_id ls id)) same ∙ (elim (put_cases processes pid slots p) [
          | inl q ↦ there_in_looks list id (there.there f id (sym (ap (λ o. at_id (slots_of o) f) q.1) ∙ e))
          | inr q ↦ t.table.there p f id (sym (ap (λ o. at_id (slots_of o) f) q.1) ∙ e)
        ]);
        used = λ id le h. omega (arith, count_put processes pid slots id vacant, t.table.used id le (sym (ap (λ ls. is_some (at_id ls id)) same) ∙ h));
        terminals = (omega (arith, ap length same, t.table.terminals.0), ap (λ ls. is_some (at_id ls 0)) same ∙ t.table.terminals.1, ap (λ ls. is_some (at_id ls 1)) same ∙ t.table.terminals.2);
        few = omega (arith, ap counted same, t.table.few);
      };
      holders = λ id description e.
          let d = shown_looks list new id description same e in
          omega (arith, ap holders_of e, held.more id, ap holders_of d.1, t.holders id d.0 d.1, count_put processes pid slots id vacant);
      pids = length-put processes pid (2 ^ 32) slots t.pids small;
    }

pub table_put : (list new : HeldList) (processes : Processes) (pid : ℕ) (slots : Slots) → IsHeldBy list new slots → table_of new (put_under processes pid slots) ≡ record (table_of list processes) { processes = put_under processes pid slots }
table_put list new processes pid slots held = ap (λ (ls : List (Option Look)). record { descriptions = ls; processes = put_under processes pid slots }) held.looks_stay

nothing : (n fd id : ℕ) → at_id (replicate {A = Option ℕ} n None) fd ≡ Some id → ⊥
nothing zero fd id e = absurd (cc)
nothing (suc n) zero id e = absurd (cc)
nothing (suc n) (suc fd) id e = nothing n fd id e

pub first_there : (list : HeldList) (processes : Processes) → IsHeldTable list processes → AreThere list (Some 0 ∷ Some 1 ∷ Some 1 ∷ None ∷ None ∷ None ∷ None ∷ None ∷ None ∷ None ∷ None ∷ None ∷ None ∷ None ∷ None ∷ None ∷ [])
first_there list processes t =
    let input = there_in_list list 0 t.table.terminals.1 in
    let output = there_in_list list 1 t.table.terminals.2 in
    record { there = λ fd id e. by_fd fd id input output e }
  where
    number : (a b : ℕ) → ◌≡◌ {A = Option ℕ} (Some a) (Some b) → IsSome (at_id list a) → IsSome (at_id list b)
    number a b e h = let same : a ≡ b = cc in subst (λ k. IsSome (at_id list k)) same h

    by_fd : (fd id : ℕ) → IsSome (at_id list 0) → IsSome (at_id list 1) → at_id (Some 0 ∷ Some 1 ∷ Some 1 ∷ None ∷ None ∷ None ∷ None ∷ None ∷ None ∷ None ∷ None ∷ None ∷ None ∷ None ∷ None ∷ None ∷ []) fd ≡ Some id → IsSome (at_id list id)
    by_fd zero id input output e = number 0 id e input
    by_fd (suc zero) id input output e = number 1 id e output
    by_fd (suc (suc zero)) id input output e = number 1 id e output
    by_fd (suc (suc (suc fd))) id input output e = absurd (nothing 13 fd id e)

-- ---- a descriptor that gets a description

slot_shown : (id : ℕ) (slot : Option ℕ) (k : ℕ) → slot ≡ Some id → slot ≡ Some k → k ≡ id
slot_shown id slot k e f = let g : ◌≡◌ {A = Option ℕ} (Some id) (Some k) = sym e ∙ f in cc

pub held_taken : (list new : HeldList) (processes : Processes) (pid fd id : ℕ) (slots : Slots) → IsHeldTable list processes → at_id processes pid ≡ Some slots → fd < 16 → at_id slots fd ≡ None → ((k : ℕ) → IsSome (at_id list k) → IsSome (at_id new k)) → IsSome (at_id new id) → ((k : ℕ) (d : Description) → at_id new k ≡ Some d → d.holders ≡ holder_count k processes + one_for k (Some id)) → 2 ≤ length new → count_by is_some (drop 2 new) ≤ 256 → ((k : ℕ) (d : Description) → 2 ≤ k → at_id new k ≡ Some d → 1 ≤ d.holders) → IsHeldTable new (with_slot processes pid fd (Some id))
held_taken list new processes pid fd id slots t e lt vacant stays here holders long few used =
    let within : fd < length slots = omega (arith, t.table.whole pid slots e) in
    let count : (k : ℕ) → holder_count k (with_slot processes pid fd (Some id)) ≡ holder_count k processes + one_for k (Some id) =
    λ k. omega (arith, count_with_slot processes pid fd (Some id) slots k e within, ap (one_for k) vacant) in
    record {
      table = record {
        whole = whole_with_slot processes pid fd (Some id) slots e t.table.whole;
        there = λ p f k g. elim (slot_cases processes pid fd (Some id) slots e within p f) [
          | inl q ↦ let same : k ≡ id = slot_shown id _ k q.2 g in subst (λ j. IsSome (at_id (looks new) j)) (sym same) (there_in_looks new id here)
          | inr q ↦ there_in_looks new k (stays k (held_there list processes p f k t (sym q ∙ g)))
        ];
        used = λ k le h. let d = some_of (at_id new k) (there_in_list new k h) in omega (arith, count k, used k d.0 le d.1, holders k d.0 d.1);
        terminals = (omega (arith, length-map new (option_map look_of)), there_in_looks new 0 (stays 0 (there_in_list list 0 t.table.terminals.1)), there_in_looks new 1 (stays 1 (there_in_list list 1 t.table.terminals.2)));
        few = omega (arith, counted_looks new);
      };
      holders = λ k d g. omega (arith, holders k d g, count k);
      pids = omega (arith, length-with_slot processes pid fd (Some id), t.pids);
    }

length-changed : (list : HeldList) (id : ℕ) (edit : Description → Description) → length (changed list id edit) ≡ length list
length-changed list id edit = length-set list id (option_map edit (at_id list id))

long_list : (list : HeldList) (processes : Processes) → IsHeldTable list processes → 2 ≤ length list
long_list list processes t = omega (arith, length-map list (option_map look_of), t.table.terminals.0)

stays_changed : (list : HeldList) (id : ℕ) (edit : Description → Description) → IsSome (at_id list id) → (k : ℕ) → IsSome (at_id list k) → IsSome (at_id (changed list id edit) k)
stays_changed list id edit h k there =
    elim (changed_cases list id edit h k) [
      | inl p ↦ let q = some_of (at_id list id) h in is_there _ (edit q.0) (p.1 ∙ ap (option_map edit) q.1)
      | inr p ↦ ap is_some p.1 ∙ there
    ]

counted_changed : (list : HeldList) (id : ℕ) (edit : Description → Description) → ((d : Description) → (edit d).look ≡ d.look) → count_by is_some (drop 2 (changed list id edit)) ≡ count_by is_some (drop 2 list)
counted_changed list id edit same = sym (counted_looks (changed list id edit)) ∙ ap counted (looks_changed list id edit same) ∙ counted_looks list

-- the description of a changed place
shown_changed : (list : HeldList) (id : ℕ) (edit : Description → Description) → IsSome (at_id list id) → (k : ℕ) (d : Description) → at_id (changed list id edit) k ≡ Some d → (was : Description) × (at_id list k ≡ Some was) × (((k ≡ id) × (d ≡ edit was)) ⊎ ((k ≢ id) × (d ≡ was)))
shown_changed list id edit h k d e =
    elim (changed_cases list id edit h k) [
      | inl p ↦
          let q = some_of (at_id list id) h in
          let g : ◌≡◌ {A = Option Description} (Some (edit q.0)) (Some d) = sym (p.1 ∙ ap (option_map edit) q.1) ∙ e in
          let s : d ≡ edit q.0 = cc in
          (q.0, ap (at_id list) p.0 ∙ q.1, inl (p.0, s))
      | inr p ↦ (d, sym p.1 ∙ e, inr (p.0, refl))
    ]

held_more : (list : HeldList) (processes : Processes) (id k : ℕ) (d : Description) → IsHeldTable list processes → IsSome (at_id list id) → at_id (changed list id more_held) k ≡ Some d → d.holders ≡ holder_count k processes + one_for k (Some id)
held_more list processes id k d t h e =
    let w = shown_changed list id more_held h k d e in
    elim w.2 [
      | inl p ↦ omega (arith, ap (λ (x : Description). x.holders) p.1, t.holders k w.0 w.1, ap (λ j. one_for j (Some id)) p.0, one_same id)
      | inr p ↦ omega (arith, ap (λ (x : Description). x.holders) p.1, t.holders k w.0 w.1, one_other k id (λ f. p.0 (sym f)))
    ]

pub held_dup : (list : HeldList) (processes : Processes) (pid fd id : ℕ) (slots : Slots) → IsHeldTable list processes → at_id processes pid ≡ Some slots → fd < 16 → at_id slots fd ≡ None → IsSome (at_id list id) → IsHeldTable (changed list id more_held) (with_slot processes pid fd (Some id))
held_dup list processes pid fd id slots t e lt vacant h =
    held_taken list (changed list id more_held) processes pid fd id slots t e lt vacant (stays_changed list id more_held h) (stays_changed list id more_held h id h)
    (λ k d f. held_more list processes id k d t h f)
    (omega (arith, length-changed list id more_held, long_list list processes t))
    (omega (arith, counted_changed list id more_held (λ d. refl), counted_looks list, t.table.few))
    (λ k d le f. omega (arith, held_more list processes id k d t h f, used_before k d le f))
  where
    used_before : (k : ℕ) (d : Description) → 2 ≤ k → at_id (changed list id more_held) k ≡ Some d → 1 ≤ holder_count k processes
    used_before k d le f = let w = shown_changed list id more_held h k d f in t.table.used k le (there_in_looks list k (is_there (at_id list k) w.0 w.1))

pub table_dup : (list : HeldList) (processes : Processes) (pid fd new id : ℕ) → at_id (slots_at processes pid) fd ≡ Some id → new ≡ lowest_free (slots_at processes pid) → table_of (changed list id more_held) (with_slot processes pid new (Some id)) ≡ duplicated (table_of list processes) pid fd
table_dup list processes pid fd new id e n =
    ap (λ (ls : List (Option Look)). record { descriptions = ls; processes = with_slot processes pid new (Some id) }) (looks_changed list id more_held (λ d. refl))
    ∙ ap (λ (ps : Processes). record { descriptions = looks list; processes = ps }) (ap (λ j. with_slot processes pid j (Some id)) n ∙ ap (with_slot processes pid (lowest_free (slots_at processes pid))) (sym e))

-- ---- a description that is added

filled_cases : (list : HeldList) (d : Description) (k : ℕ) → ((k ≡ lowest_free list) × (at_id (filled list d) k ≡ Some d)) ⊎ ((k ≢ lowest_free list) × (at_id (filled list d) k ≡ at_id list k))
filled_cases list d k =
    elim (cases_eq k (lowest_free list)) [
      | inl e ↦ inl (e, ap (at_id (filled list d)) e ∙ at_filled list d)
      | inr ne ↦ inr (ne, at_filled_other list d k ne)
    ]

stays_filled : (list : HeldList) (d : Description) (k : ℕ) → IsSome (at_id list k) → IsSome (at_id (filled list d) k)
stays_filled list d k h =
    elim (filled_cases list d k) [
      | inl p ↦ is_there _ d p.1
      | inr p ↦ ap is_some p.1 ∙ h
    ]

no_holder : (list : HeldList) (processes : Processes) (id : ℕ) → IsHeldTable list processes → at_id list id ≡ None → holder_count id processes ≡ 0
no_holder list processes id t vacant =
    elim (cases_lt 0 (holder_count id processes)) [
      | inl lt ↦
          let p = holder_found id processes lt in
          let h : IsSome (at_id list id) = held_there list processes p.0 p.1 id t p.2 in
          let f : false ≡ true = sym (ap is_some vacant) ∙ h in
          absurd (cc)
      | inr le ↦ omega arith
    ]

held_new : (list : HeldList) (processes : Processes) (look : Look) (k : ℕ) (d : Description) → IsHeldTable list processes → at_id (filled list (once_held look)) k ≡ Some d → (d.holders ≡ holder_count k processes + one_for k (Some (lowest_free list))) × (2 ≤ k → 1 ≤ d.holders)
held_new list processes look k d t e =
    elim (filled_cases list (once_held look) k) [
      | inl p ↦
          let g : ◌≡◌ {A = Option Description} (Some (once_held look)) (Some d) = sym p.1 ∙ e in
          let s : once_held look ≡ d = cc in
          let n : 1 ≡ d.holders = ap (λ (x : Description). x.holders) s in
          (omega (arith, no_holder list processes (lowest_free list) t (at_lowest_free list), ap (λ j. holder_count j processes) p.0, ap (λ j. one_for j (Some (lowest_free list))) p.0, one_same (lowest_free list)), λ le. omega arith)
      | inr p ↦
          let was : at_id list k ≡ Some d = sym p.1 ∙ e in
          (omega (arith, t.holders k d was, one_other k (lowest_free list) (λ f. p.0 (sym f))), λ le. omega (arith, t.holders k d was, t.table.used k le (there_in_looks list k (is_there (at_id list k) d was))))
    ]

length-filled_long : (list : HeldList) (d : Description) → length list ≤ length (filled list d)
length-filled_long [] d = omega arith
length-filled_long (None ∷ list) d = omega arith
length-filled_long (Some x ∷ list) d = let h = length-filled_long list d in omega arith

count-filled : (list : HeldList) (d : Description) → count_by is_some (filled list d) ≡ count_by is_some list + 1
count-filled [] d = refl
count-filled (None ∷ list) d = omega (arith, sum_by-cons (λ o. cond (is_some o) 1 0) (Some d) list, sum_by-cons (λ o. cond (is_some o) 1 0) None list)
count-filled (Some x ∷ list) d = omega (arith, sum_by-cons (λ o. cond (is_some o) 1 0) (Some x) list, sum_by-cons (λ o. cond (is_some o) 1 0) (Some x) (filled list d), count-filled list d)

filled_past_two : (list : HeldList) (d : Description) → IsSome (at_id list 0) → IsSome (at_id list 1) → count_by is_some (drop 2 (filled list d)) ≡ count_by is_some (drop 2 list) + 1
filled_past_two [] d h k = absurd (cc)
filled_past_two (None ∷ list) d h k = absurd (cc)
filled_past_two (Some x ∷ []) d h k = absurd (cc)
filled_past_two (Some x ∷ None ∷ list) d h k = absurd (cc)
filled_past_two (Some x ∷ Some y ∷ list) d h k = count-filled list d

pub held_added : (list : HeldList) (processes : Processes) (pid fd : ℕ) (slots : Slots) (look : Look) → IsHeldTable list processes → at_id processes pid ≡ Some slots → fd < 16 → at_id slots fd ≡ None → counted (looks list) < 256 → IsHeldTable (filled list (once_held look)) (with_slot processes pid fd (Some (lowest_free list)))
held_added list processes pid fd slots look t e lt vacant few =
    held_taken list (filled list (once_held look)) processes pid fd (lowest_free list) slots t e lt vacant (stays_filled list (once_held look)) (is_there _ (once_held look) (at_filled list (once_held look)))
    (λ k d f. (held_new list processes look k d t f).0)
    (omega (arith, length-filled_long list (once_held look), long_list list processes t))
    (omega (arith, filled_past_two list (once_held look) (there_in_list list 0 t.table.terminals.1) (there_in_list list 1 t.table.terminals.2), counted_looks list))
    (λ k d le f. (held_new list processes look k d t f).1 le)

lowest_looks : (list : HeldList) → lowest_free (looks list) ≡ lowest_free list
lowest_looks [] = refl
lowest_looks (None ∷ list) = refl
lowest_looks (Some d ∷ list) = ap suc (lowest_looks list)

looks-filled : (list : HeldList) (d : Description) → looks (filled list d) ≡ filled (looks list) d.look
looks-filled [] d = refl
looks-filled (None ∷ list) d = refl
looks-filled (Some x ∷ list) d = ap (λ ls. Some x.look ∷ ls) (looks-filled list d)

pub table_added : (list : HeldList) (processes : Processes) (pid fd id rights : ℕ) (target : Target) → fd ≡ lowest_free (slots_at processes pid) → id ≡ lowest_free list → table_of (filled list (once_held (record { target = target; rights = rights; offset = 0 }))) (with_slot processes pid fd (Some id)) ≡ added (table_of list processes) pid target rights
table_added list processes pid fd id rights target e f =
    ap (λ (ls : List (Option Look)). record { descriptions = ls; processes = with_slot processes pid fd (Some id) }) (looks-filled list (once_held (record { target = target; rights = rights; offset = 0 })))
    ∙ ap (λ (ps : Processes). record { descriptions = filled (looks list) (record { target = target; rights = rights; offset = 0 }); processes = ps })
    (ap (λ j. with_slot processes pid j (Some id)) e ∙ ap (λ (k : ℕ). with_slot processes pid (lowest_free (slots_at processes pid)) (Some k)) (f ∙ sym (lowest_looks list)))

-- the lowest free descriptor
pub lowest_in : (list : HeldList) (processes : Processes) (pid : ℕ) → IsHeldTable list processes → IsSome (at_id processes pid) → 1 ≤ free_count (slots_at processes pid) → lowest_free (slots_at processes pid) < 16
lowest_in list processes pid t h free =
    let p = some_of (at_id processes pid) h in
    omega (arith, free_is_lowest (slots_at processes pid) free, ap (λ o. length (slots_of o)) p.1, t.table.whole pid p.0 p.1)

pub slots_shown : (processes : Processes) (pid : ℕ) → IsSome (at_id processes pid) → at_id processes pid ≡ Some (slots_at processes pid)
slots_shown processes pid h = let p = some_of (at_id processes pid) h in p.1 ∙ ap (λ (xs : Slots). Some xs) (sym (ap slots_of p.1))

-- ---- an offset that moves

looks_moved : (list : HeldList) (id offset : ℕ) → looks (changed list id (moved_to offset)) ≡ changed (looks list) id (with_offset offset)
looks_moved list id offset =
    map-set (option_map look_of) list id (option_map (moved_to offset) (at_id list id))
    ∙ ap (set (looks list) id) (moved (at_id list id) ∙ ap (option_map (with_offset offset)) (sym (at_looks list id)))
  where
    moved : (place : Option Description) → option_map look_of (option_map (moved_to offset) place) ≡ option_map (with_offset offset) (option_map look_of place)
    moved None = refl
    moved (Some d) = refl

count-set_there : (list : HeldList) (id : ℕ) (d : Description) → IsSome (at_id list id) → count_by is_some (set list id (Some d)) ≡ count_by is_some list
count-set_there list id d h = omega (arith, sum_by-set (λ o. cond (is_some o) 1 0) list id (Some d) None (id_within list id h), one_there (at_id list id) h)
  where
    one_there : (place : Option Description) → IsSome place → ◌≡◌ {A = ℕ} (cond (is_some place) 1 0) 1
    one_there None h = absurd (cc)
    one_there (Some x) h = refl

counted_there : (list : HeldList) (id : ℕ) (edit : Description → Description) → IsSome (at_id list id) → count_by is_some (drop 2 (changed list id edit)) ≡ count_by is_some (drop 2 list)
counted_there [] id edit h = absurd (cc)
counted_there (a ∷ []) zero edit h = refl
counted_there (a ∷ []) (suc id) edit h = absurd (cc)
counted_there (a ∷ b ∷ list) zero edit h = refl
counted_there (a ∷ b ∷ list) (suc zero) edit h = refl
counted_there (a ∷ b ∷ list) (suc (suc id)) edit h = let p = some_of (at_id list id) h in ap (λ o. count_by is_some (set list id (option_map edit o))) p.1 ∙ count-set_there list id (edit p.0) h

pub held_moved : (list : HeldList) (processes : Processes) (id offset : ℕ) → IsHeldTable list processes → IsSome (at_id list id) → IsHeldTable (changed list id (moved_to offset)) processes
held_moved list processes id offset t h =
    let new = changed list id (moved_to offset) in
    let stays = stays_changed list id (moved_to offset) h in
    record {
      table = record {
        whole = t.table.whole;
        there = λ p f k e. there_in_looks new k (stays k (held_there list processes p f k t e));
        used = λ k le g.
            let d = some_of (at_id new k) (there_in_list new k g) in
            let w = shown_changed list id (moved_to offset) h k d.0 d.1 in
            t.table.used k le (there_in_looks list k (is_there (at_id list k) w.0 w.1));
        terminals = (omega (arith, length-map new (option_map look_of), length-changed list id (moved_to offset), long_list list processes t), there_in_looks new 0 (stays 0 (there_in_list list 0 t.table.terminals.1)), there_in_looks new 1 (stays 1 (there_in_list list 1 t.table.terminals.2)));
        few = omega (arith, counted_looks new, counted_there list id (moved_to offset) h, counted_looks list, t.table.few);
      };
      holders = λ k d e.
          let w = shown_changed list id (moved_to offset) h k d e in
          elim w.2 [
            | inl p ↦ ap (λ (x : Description). x.holders) p.1 ∙ t.holders k w.0 w.1
            | inr p ↦ ap (λ (x : Description). x.holders) p.1 ∙ t.holders k w.0 w.1
          ];
      pids = t.pids;
    }

pub table_moved : (list : HeldList) (processes : Processes) (pid fd id offset : ℕ) → at_id (slots_at processes pid) fd ≡ Some id → table_of (changed list id (moved_to offset)) processes ≡ sought (table_of list processes) pid fd offset
table_moved list processes pid fd id offset e =
    ap (λ (ls : List (Option Look)). record { descriptions = ls; processes = processes })
    (looks_moved list id offset ∙ sym (ap (λ o. seek_in (looks list) o offset) e))

-- ---- a descriptor that is freed

holders_left : (list : HeldList) (processes : Processes) (pid fd id k : ℕ) (slots : Slots) → IsHeldTable list processes → at_id processes pid ≡ Some slots → at_id slots fd ≡ Some id → holder_count k (with_slot processes pid fd None) + one_for k (Some id) ≡ holder_count k processes
holders_left list processes pid fd id k slots t e is = omega (arith, count_with_slot processes pid fd None slots k e (id_within_some slots fd id is), ap (one_for k) is)

-- no descriptor has the description any more
none_left : (list : HeldList) (processes : Processes) (pid fd id : ℕ) (slots : Slots) → IsHeldTable list processes → at_id processes pid ≡ Some slots → at_id slots fd ≡ Some id → holders_of (at_id list id) - 1 ≡ holder_count id (with_slot processes pid fd None)
none_left list processes pid fd id slots t e is =
    let here : at_id (slots_at processes pid) fd ≡ Some id = ap (λ o. at_id (slots_of o) fd) e ∙ is in
    omega (arith, holders_left list processes pid fd id id slots t e is, one_same id, holders_is list processes id t (held_there list processes pid fd id t here))

still_there : (list : HeldList) (processes : Processes) (pid fd id : ℕ) (slots : Slots) → IsHeldTable list processes → at_id processes pid ≡ Some slots → at_id slots fd ≡ Some id → (p f k : ℕ) → at_id (slots_at (with_slot processes pid fd None) p) f ≡ Some k → IsSome (at_id list k)
still_there list processes pid fd id slots t e is p f k g =
    elim (slot_cases processes pid fd None slots e (id_within_some slots fd id is) p f) [
      | inl q ↦ let h : ◌≡◌ {A = Option ℕ} None (Some k) = sym q.2 ∙ g in absurd (cc)
      | inr q ↦ held_there list processes p f k t (sym q ∙ g)
    ]

held_less : (list : HeldList) (processes : Processes) (pid fd id : ℕ) (slots : Slots) → IsHeldTable list processes → at_id processes pid ≡ Some slots → at_id slots fd ≡ Some id → (2 ≤ id → 1 ≤ holder_count id (with_slot processes pid fd None)) → IsHeldTable (changed list id less_held) (with_slot processes pid fd None)
held_less list processes pid fd id slots t e is left =
    let new = changed list id less_held in
    let here : at_id (slots_at processes pid) fd ≡ Some id = ap (λ o. at_id (slots_of o) fd) e ∙ is in
    let h = held_there list processes pid fd id t here in
    let stays = stays_changed list id less_held h in
    record {
      table = record {
        whole = whole_with_slot processes pid fd None slots e t.table.whole;
        there = λ p f k g. there_in_looks new k (stays k (still_there list processes pid fd id slots t e is p f k g));
        used = λ k le g. elim (cases_eq k id) [
          | inl same ↦ subst (λ j. 1 ≤ holder_count j (with_slot processes pid fd None)) (sym same) (left (subst (λ j. 2 ≤ j) same le))
          | inr ne ↦
              let d = some_of (at_id new k) (there_in_list new k g) in
              let w = shown_changed list id less_held h k d.0 d.1 in
              omega (arith, holders_left list processes pid fd id k slots t e is, one_other k id (λ x. ne (sym x)), t.table.used k le (there_in_looks list k (is_there (at_id list k) w.0 w.1)))
        ];
        terminals = (omega (arith, length-map new (option_map look_of), length-changed list id less_held, long_list list processes t), there_in_looks new 0 (stays 0 (there_in_list list 0 t.table.terminals.1)), there_in_looks new 1 (stays 1 (there_in_list list 1 t.table.terminals.2)));
        few = omega (arith, counted_looks new, counted_changed list id less_held (λ d. refl), counted_looks list, t.table.few);
      };
      holders = λ k d g.
          let w = shown_changed list id less_held h k d g in
          elim w.2 [
            | inl p ↦ omega (arith, ap (λ (x : Description). x.holders) p.1, t.holders k w.0 w.1, holders_left list processes pid fd id k slots t e is, ap (λ j. one_for j (Some id)) p.0, one_same id)
            | inr p ↦ omega (arith, ap (λ (x : Description). x.holders) p.1, t.holders k w.0 w.1, holders_left list processes pid fd id k slots t e is, one_other k id (λ x. p.0 (sym x)))
          ];
      pids = omega (arith, length-with_slot processes pid fd None, t.pids);
    }

without_cases : (list : HeldList) (id : ℕ) → id < length list → (k : ℕ) → ((k ≡ id) × (at_id (without list id) k ≡ None)) ⊎ ((k ≢ id) × (at_id (without list id) k ≡ at_id list k))
without_cases list id within k =
    elim (cases_eq k id) [
      | inl same ↦ inl (same, ap (at_id (without list id)) same ∙ get_or-set_same list id None None within)
      | inr ne ↦ inr (ne, get_or-set_other list id k None None ne)
    ]

kept_without : (list : HeldList) (id : ℕ) → id < length list → (k : ℕ) → k ≢ id → IsSome (at_id list k) → IsSome (at_id (without list id) k)
kept_without list id within k ne h = ap is_some (get_or-set_other list id k None None ne) ∙ h

shown_without : (list : HeldList) (id : ℕ) → id < length list → (k : ℕ) (d : Description) → at_id (without list id) k ≡ Some d → (k ≢ id) × (at_id list k ≡ Some d)
shown_without list id within k d e =
    elim (without_cases list id within k) [
      | inl p ↦ let f : ◌≡◌ {A = Option Description} None (Some d) = sym p.1 ∙ e in absurd (cc)
      | inr p ↦ (p.0, sym p.1 ∙ e)
    ]

count-without : (list : HeldList) (id : ℕ) → count_by is_some (set list id None) ≤ count_by is_some list
count-without [] id = omega arith
count-without (x ∷ list) zero = omega (arith, sum_by-cons (λ o. cond (is_some o) 1 0) None list, sum_by-cons (λ o. cond (is_some o) 1 0) x list)
count-without (x ∷ list) (suc id) = omega (arith, sum_by-cons (λ o. cond (is_some o) 1 0) x (set list id None), sum_by-cons (λ o. cond (is_some o) 1 0) x list, count-without list id)

counted_without : (list : HeldList) (id : ℕ) → 2 ≤ id → count_by is_some (drop 2 (without list id)) ≤ count_by is_some (drop 2 list)
counted_without list zero le = absurd (omega arith)
counted_without list (suc zero) le = absurd (omega arith)
counted_without [] (suc (suc id)) le = omega arith
counted_without (a ∷ []) (suc (suc id)) le = omega arith
counted_without (a ∷ b ∷ list) (suc (suc id)) le = count-without list id

held_dropped : (list : HeldList) (processes : Processes) (pid fd id : ℕ) (slots : Slots) → IsHeldTable list processes → at_id processes pid ≡ Some slots → at_id slots fd ≡ Some id → 2 ≤ id → holder_count id (with_slot processes pid fd None) ≡ 0 → IsHeldTable (without list id) (with_slot processes pid fd None)
held_dropped list processes pid fd id slots t e is le gone =
    let new = without list id in
    let here : at_id (slots_at processes pid) fd ≡ Some id = ap (λ o. at_id (slots_of o) fd) e ∙ is in
    let within = id_within list id (held_there list processes pid fd id t here) in
    record {
      table = record {
        whole = whole_with_slot processes pid fd None slots e t.table.whole;
        there = λ p f k g.
            let some = holder_counts k p f (with_slot processes pid fd None) g in
            there_in_looks new k (kept_without list id within k (λ same. absurd (omega (arith, ap (λ j. holder_count j (with_slot processes pid fd None)) same))) (still_there list processes pid fd id slots t e is p f k g));
        used = λ k two g.
            let d = some_of (at_id new k) (there_in_list new k g) in
            let w = shown_without list id within k d.0 d.1 in
            omega (arith, holders_left list processes pid fd id k slots t e is, one_other k id (λ x. w.0 (sym x)), t.table.used k two (there_in_looks list k (is_there (at_id list k) d.0 w.1)));
        terminals = (omega (arith, length-map new (option_map look_of), length-set list id None, long_list list processes t), there_in_looks new 0 (kept_without list id within 0 (omega arith) (there_in_list list 0 t.table.terminals.1)), there_in_looks new 1 (kept_without list id within 1 (omega arith) (there_in_list list 1 t.table.terminals.2)));
        few = omega (arith, counted_looks new, counted_without list id le, counted_looks list, t.table.few);
      };
      holders = λ k d g.
          let w = shown_without list id within k d g in
          omega (arith, t.holders k d w.1, holders_left list processes pid fd id k slots t e is, one_other k id (λ x. w.0 (sym x)));
      pids = omega (arith, length-with_slot processes pid fd None, t.pids);
    }

looks_without : (list : HeldList) (id : ℕ) → looks (without list id) ≡ without (looks list) id
looks_without list id = map-set (option_map look_of) list id None

-- whether the description is dropped, by its count and by the descriptors
same_drop : (list : HeldList) (processes : Processes) (pid fd id : ℕ) (slots : Slots) → IsHeldTable list processes → at_id processes pid ≡ Some slots → at_id slots fd ≡ Some id → is_dropped_at id (at_id list id) ≡ is_dropped id (with_slot processes pid fd None)
same_drop list processes pid fd id slots t e is = ap (λ n. cond (nat_lt id 2) false (nat_eq n 0)) (none_left list processes pid fd id slots t e is)

pub held_closed : (list : HeldList) (processes : Processes) (pid fd id : ℕ) → IsHeldTable list processes → at_id (slots_at processes pid) fd ≡ Some id → IsHeldTable (after_let_go list id) (with_slot processes pid fd None)
held_closed list processes pid fd id t here =
    let s = slots_there processes pid fd id here in
    by_drop s.0 s.1 s.2 (is_dropped id (with_slot processes pid fd None)) refl
  where
    by_low : (slots : Slots) → at_id processes pid ≡ Some slots → at_id slots fd ≡ Some id → (low : Bool) → nat_lt id 2 ≡ low → is_dropped id (with_slot processes pid fd None) ≡ true → IsHeldTable (without list id) (with_slot processes pid fd None)
    by_low slots e is true f g = let h : false ≡ true = sym (ap (λ b. cond b false (is_unheld id (with_slot processes pid fd None))) f) ∙ g in absurd (cc)
    by_low slots e is false f g =
        held_dropped list processes pid fd id slots t e is (ltb-false id 2 f)
        (eqb-true (holder_count id (with_slot processes pid fd None)) 0 (sym (ap (λ b. cond b false (is_unheld id (with_slot processes pid fd None))) f) ∙ g))

    by_drop : (slots : Slots) → at_id processes pid ≡ Some slots → at_id slots fd ≡ Some id → (gone : Bool) → is_dropped id (with_slot processes pid fd None) ≡ gone → IsHeldTable (after_let_go list id) (with_slot processes pid fd None)
    by_drop slots e is true g =
        subst (λ (l : HeldList). IsHeldTable l (with_slot processes pid fd None)) (sym (ap (λ b. cond b (without list id) (changed list id less_held)) (same_drop list processes pid fd id slots t e is ∙ g)))
        (by_low slots e is (nat_lt id 2) refl g)
    by_drop slots e is false g =
        subst (λ (l : HeldList). IsHeldTable l (with_slot processes pid fd None)) (sym (ap (λ b. cond b (without list id) (changed list id less_held)) (same_drop list processes pid fd id slots t e is ∙ g)))
        (held_less list processes pid fd id slots t e is (λ le. left le))
      where
        left : 2 ≤ id → 1 ≤ holder_count id (with_slot processes pid fd None)
        left le =
            let low : nat_lt id 2 ≡ false = le-ltb id 2 le in
            let held : is_unheld id (with_slot processes pid fd None) ≡ false = sym (ap (λ b. cond b false (is_unheld id (with_slot processes pid fd None))) low) ∙ g in
            let ne = eqb-false (holder_count id (with_slot processes pid fd None)) 0 held in
            omega arith

pub table_closed : (list : HeldList) (processes : Processes) (pid fd id : ℕ) → IsHeldTable list processes → at_id (slots_at processes pid) fd ≡ Some id → table_of (after_let_go list id) (with_slot processes pid fd None) ≡ closed (table_of list processes) pid fd
table_closed list processes pid fd id t here =
    let s = slots_there processes pid fd id here in
    let after = with_slot processes pid fd None in
    ap (λ (ls : List (Option Look)). record { descriptions = ls; processes = after })
    (ap (λ b. looks (cond b (without list id) (changed list id less_held))) (same_drop list processes pid fd id s.0 t s.1 s.2)
    ∙ by_drop (is_dropped id after)
    ∙ sym (ap (λ o. drop_in (looks list) o after) here))
  where
    by_drop : (gone : Bool) → looks (cond gone (without list id) (changed list id less_held)) ≡ cond gone (without (looks list) id) (looks list)
    by_drop true = looks_without list id
    by_drop false = looks_changed list id less_held (λ d. refl)

no_target : (b : Bool) → ◌≡◌ {A = Option Target} None (cond b None None)
no_target true = refl
no_target false = refl

pub target_closed : (list : HeldList) (processes : Processes) (pid fd id : ℕ) → IsHeldTable list processes → at_id (slots_at processes pid) fd ≡ Some id → target_left (at_id list id) ≡ last_target (table_of list processes) pid fd
target_closed list processes pid fd id t here =
    let s = slots_there processes pid fd id here in
    let after = with_slot processes pid fd None in
    by_place (at_id list id) (none_left list processes pid fd id s.0 t s.1 s.2)
    ∙ sym (ap (λ o. unless_held (look_up (looks list) o) o after) here ∙ ap (λ l. unless_held l (Some id) after) (at_looks list id))
  where
    by_place : (place : Option Description) → holders_of place - 1 ≡ holder_count id (with_slot processes pid fd None) → target_left place ≡ unless_held (option_map look_of place) (Some id) (with_slot processes pid fd None)
    by_place None e = no_target (is_unheld id (with_slot processes pid fd None))
    by_place (Some d) e = ap (λ n. cond (nat_eq n 0) (Some d.look.target) None) e

-- ---- a look at a descriptor

pub look_there : (list : HeldList) (processes : Processes) (pid fd : ℕ) → OnSome (look_at (table_of list processes) pid fd) (IsSome (at_id (slots_at processes pid) fd))
look_there list processes pid fd = by_slot (at_id (slots_at processes pid) fd)
  where
    by_look : (look : Option Look) (id : ℕ) → OnSome look (IsSome (Some id))
    by_look None id = tt
    by_look (Some look) id = refl

    by_slot : (slot : Option ℕ) → OnSome (look_up (looks list) slot) (IsSome slot)
    by_slot None = tt
    by_slot (Some id) = by_look (at_id (looks list) id) id

pub look_process : (list : HeldList) (processes : Processes) (pid fd : ℕ) → OnSome (look_at (table_of list processes) pid fd) (IsSome (at_id processes pid))
look_process list processes pid fd = by_place (at_id processes pid)
  where
    by_look : (look : Option Look) (slots : Slots) → OnSome look (IsSome (Some slots))
    by_look None slots = tt
    by_look (Some look) slots = refl

    by_place : (place : Option Slots) → OnSome (look_up (looks list) (at_id (slots_of place) fd)) (IsSome place)
    by_place None = tt
    by_place (Some slots) = by_look (look_up (looks list) (at_id slots fd)) slots

-- ---- what the calls leave

pub slots_read : (was processes : Processes) (pid : ℕ) (slots : Slots) → Some slots ≡ at_id was pid → was ≡ processes → at_id processes pid ≡ Some slots
slots_read was processes pid slots e f = sym (ap (λ ps. at_id ps pid) f) ∙ sym e

pub lowest_read : (was processes : Processes) (pid fd : ℕ) → fd ≡ lowest_free (slots_at was pid) → was ≡ processes → fd ≡ lowest_free (slots_at processes pid)
lowest_read was processes pid fd e f = e ∙ ap (λ ps. lowest_free (slots_at ps pid)) f

pub none_free : (list : HeldList) (processes : Processes) (pid fd : ℕ) → IsHeldTable list processes → IsSome (at_id processes pid) → fd ≡ lowest_free (slots_at processes pid) → 16 ≤ fd → free_count (slots_at processes pid) ≡ 0
none_free list processes pid fd t h e le =
    elim (cases_lt 0 (free_count (slots_at processes pid))) [
      | inl lt ↦ absurd (omega (arith, lowest_in list processes pid t h lt))
      | inr most ↦ omega arith
    ]

pub add_done : (list new : HeldList) (processes after : Processes) (pid fd id rights : ℕ) (target : Target) → IsHeldTable list processes → IsSome (at_id processes pid) → 1 ≤ free_count (slots_at processes pid) → counted (looks list) < 256 → fd ≡ lowest_free (slots_at processes pid) → id ≡ lowest_free list → new ≡ filled list (once_held (record { target = target; rights = rights; offset = 0 })) → after ≡ with_slot processes pid fd (Some id) → IsHeldTable new after × (table_of new after ≡ added (table_of list processes) pid target rights)
add_done list new processes after pid fd id rights target t h free few e f n a =
    let lt : fd < 16 = omega (arith, lowest_in list processes pid t h free) in
    let vacant : at_id (slots_at processes pid) fd ≡ None = ap (at_id (slots_at processes pid)) e ∙ at_lowest_free (slots_at processes pid) in (
      rw (n, a, f) (held_added list processes pid fd (slots_at processes pid) (record { target = target; rights = rights; offset = 0 }) t (slots_shown processes pid h) lt vacant few),
      rw (n, a) (table_added list processes pid fd id rights target e f),
    )

pub dup_done : (list new : HeldList) (processes after : Processes) (pid fd free id : ℕ) → IsHeldTable list processes → at_id (slots_at processes pid) fd ≡ Some id → free ≡ lowest_free (slots_at processes pid) → free < 16 → new ≡ changed list id more_held → after ≡ with_slot processes pid free (Some id) → IsHeldTable new after × (table_of new after ≡ duplicated (table_of list processes) pid fd) × (1 ≤ free_count (slots_at processes pid))
dup_done list new processes after pid fd free id t here e lt n a =
    let s = slots_there processes pid fd id here in
    let same : slots_at processes pid ≡ s.0 = ap slots_of s.1 in
    let vacant : at_id s.0 free ≡ None = sym (ap (λ xs. at_id xs free) same) ∙ ap (at_id (slots_at processes pid)) e ∙ at_lowest_free (slots_at processes pid) in (
      rw (n, a) (held_dup list processes pid free id s.0 t s.1 lt vacant (held_there list processes pid fd id t here)),
      rw (n, a) (table_dup list processes pid fd free id here e),
      lowest_is_free (slots_at processes pid) (omega (arith, ap length same, t.table.whole pid s.0 s.1)),
    )

pub process_there : (processes : Processes) (pid fd id : ℕ) → at_id (slots_at processes pid) fd ≡ Some id → IsSome (at_id processes pid)
process_there processes pid fd id here = let s = slots_there processes pid fd id here in ap is_some s.1
