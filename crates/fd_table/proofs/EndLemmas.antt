-- How many descriptions have a target, and which are there, after each edit of the table.
use Rattle.std.proofs.Common.{◌≡◌, ◌≢◌, ◌⊎◌, inl, inr, ℕ, zero, suc, ◌+◌, ◌-◌, ◌<◌, ◌≤◌, Bool, true, false, cond, [], ◌∷◌, length, set, Option, Some, None, is_some, is_none, IsSome, nat_eq, nat_lt, refl, sym, ap, ◌∙◌, arith}
use Rattle.std.proofs.lemmas.Bool.{cases_eq, cases_lt, cases_Bool, eq-eqb, eqb-true, ltb-true, ltb-false}
use Rattle.std.proofs.lemmas.List.{get_or_past, set_past, set-get_or, get_or-set_same, get_or-set_other}
use Rattle.std.proofs.lemmas.List.Sums.{sum_by-set, sum_by-cons}
use Rattle.std.specs.List.{count_by}
use Rattle.std.specs.Option.{option_map}
use Rattle.id_table.specs.Places.{at_id, lowest_free, filled, changed, without}
use Rattle.id_table.proofs.PlaceLemmas.{id_within, at_filled, at_lowest_free}
use Rattle.id_table.proofs.EditLemmas.{at_changed, at_changed_other, some_changed, at_gone, filled_cases, filled_kept, at_put, at_put_other, length-put}
use Rattle.fd_table.specs.declared.description.Look.{Look}
use Rattle.fd_table.specs.declared.description.Target.{Target}
use Rattle.fd_table.specs.declared.description.Target.TheVariants.{TermIn, TermOut, File, ReadEnd, WriteEnd}
use Rattle.fd_table.specs.Descriptors.{Slots, Processes, Descriptions, FdTable, IsFdTable, slots_of, slots_at, description_of, look_up, look_at, free_count, counted, same_target, is_end_of, end_count, with_slot, first_slots, launched, forked, lowest_fd, added, with_offset, seek_in, sought, duplicated, is_unheld, is_dropped, drop_in, closed, target_of, unless_held, last_target, no_processes}
use Rattle.fd_table.proofs.CountLemmas.{length-with_slot, free_is_lowest}

-- ---- equal targets

pub same_target_self : (target : Target) → same_target target target ≡ true
same_target_self TermIn = refl
same_target_self TermOut = refl
same_target_self (File id) = eq-eqb id id refl
same_target_self (ReadEnd id) = eq-eqb id id refl
same_target_self (WriteEnd id) = eq-eqb id id refl

pub same_target_is : (a b : Target) → same_target a b ≡ true → a ≡ b
same_target_is TermIn TermIn e = refl
same_target_is TermOut TermOut e = refl
same_target_is (File a) (File b) e = ap (λ (id : ℕ). File id) (eqb-true a b e)
same_target_is (ReadEnd a) (ReadEnd b) e = ap (λ (id : ℕ). ReadEnd id) (eqb-true a b e)
same_target_is (WriteEnd a) (WriteEnd b) e = ap (λ (id : ℕ). WriteEnd id) (eqb-true a b e)
same_target_is TermIn TermOut e = absurd (cc)
same_target_is TermIn (File b) e = absurd (cc)
same_target_is TermIn (ReadEnd b) e = absurd (cc)
same_target_is TermIn (WriteEnd b) e = absurd (cc)
same_target_is TermOut TermIn e = absurd (cc)
same_target_is TermOut (File b) e = absurd (cc)
same_target_is TermOut (ReadEnd b) e = absurd (cc)
same_target_is TermOut (WriteEnd b) e = absurd (cc)
same_target_is (File a) TermIn e = absurd (cc)
same_target_is (File a) TermOut e = absurd (cc)
same_target_is (File a) (ReadEnd b) e = absurd (cc)
same_target_is (File a) (WriteEnd b) e = absurd (cc)
same_target_is (ReadEnd a) TermIn e = absurd (cc)
same_target_is (ReadEnd a) TermOut e = absurd (cc)
same_target_is (ReadEnd a) (File b) e = absurd (cc)
same_target_is (ReadEnd a) (WriteEnd b) e = absurd (cc)
same_target_is (WriteEnd a) TermIn e = absurd (cc)
same_target_is (WriteEnd a) TermOut e = absurd (cc)
same_target_is (WriteEnd a) (File b) e = absurd (cc)
same_target_is (WriteEnd a) (ReadEnd b) e = absurd (cc)

pub same_target_turned : (a b : Target) → same_target a b ≡ same_target b a
same_target_turned a b = by_tests (same_target a b) (same_target b a) refl refl
  where
    by_tests : (there back : Bool) → same_target a b ≡ there → same_target b a ≡ back → there ≡ back
    by_tests true true e f = refl
    by_tests false false e f = refl
    by_tests true false e f = let g : true ≡ false = sym (same_target_self a) ∙ ap (λ t. same_target t a) (same_target_is a b e) ∙ f in absurd (cc)
    by_tests false true e f = let g : true ≡ false = sym (same_target_self b) ∙ ap (λ t. same_target t b) (same_target_is b a f) ∙ e in absurd (cc)

pub same_target_files : (a b : ℕ) → same_target (File a) (File b) ≡ nat_eq a b
same_target_files a b = refl

-- ---- how much one place counts

-- one where the place has the target
abbrev pub ends_in : Target → Option Look → ℕ
ends_in target place = cond (is_end_of target place) 1 0

-- one where the target is the one that is gone
abbrev pub ends_gone : Target → Option Target → ℕ
ends_gone target None = 0
ends_gone target (Some gone) = cond (same_target gone target) 1 0

ends_in_most : (target : Target) (place : Option Look) → ends_in target place ≤ 1
ends_in_most target place = by_test (is_end_of target place)
  where
    by_test : (b : Bool) → cond b 1 0 ≤ 1
    by_test true = omega arith
    by_test false = omega arith

ends_in_some : (target : Target) (place : Option Look) → ends_in target place ≤ cond (is_some place) 1 0
ends_in_some target None = omega arith
ends_in_some target (Some look) = ends_in_most target (Some look)

pub ends_in_target : (target : Target) (place : Option Look) → ends_in target place ≡ ends_gone target (target_of place)
ends_in_target target None = refl
ends_in_target target (Some look) = refl

pub ends_in_self : (look : Look) → ◌≡◌ {A = ℕ} (ends_in look.target (Some look)) 1
ends_in_self look = let one : ℕ = 1 in ap (λ b. cond b one 0) (same_target_self look.target)

pub end_count_first : (target : Target) (place : Option Look) (rest : Descriptions) → end_count target (place ∷ rest) ≡ ends_in target place + end_count target rest
end_count_first target place rest = sum_by-cons (ends_in target) place rest

pub end_count_set : (target : Target) (descriptions : Descriptions) (id : ℕ) (place : Option Look) → id < length descriptions → end_count target (set descriptions id place) + ends_in target (at_id descriptions id) ≡ end_count target descriptions + ends_in target place
end_count_set target descriptions id place within = sum_by-set (ends_in target) descriptions id place None within

-- ---- a description added

pub end_count_filled : (target : Target) (descriptions : Descriptions) (look : Look) → end_count target (filled descriptions look) ≡ end_count target descriptions + ends_in target (Some look)
end_count_filled target [] look = omega (arith, end_count_first target (Some look) [])
end_count_filled target (None ∷ rest) look = omega (arith, end_count_first target (Some look) rest, end_count_first target None rest)
end_count_filled target (Some other ∷ rest) look = omega (arith, end_count_first target (Some other) rest, end_count_first target (Some other) (filled rest look), end_count_filled target rest look)

pub end_count_added : (target : Target) (table : FdTable) (pid : ℕ) (new : Target) (rights : ℕ) → end_count target (added table pid new rights).descriptions ≡ end_count target table.descriptions + cond (same_target new target) 1 0
end_count_added target table pid new rights = end_count_filled target table.descriptions (record { target = new; rights = rights; offset = 0 })

-- a description after one was added is the new one or an old one
pub filled_is : (descriptions : Descriptions) (look found : Look) (id : ℕ) → at_id (filled descriptions look) id ≡ Some found → ((id ≡ lowest_free descriptions) × (found ≡ look)) ⊎ (at_id descriptions id ≡ Some found)
filled_is descriptions look found id e =
    elim (filled_cases descriptions look id) [
      | inl p ↦ let f : ◌≡◌ {A = Option Look} (Some look) (Some found) = sym p.1 ∙ e in inl (p.0, cc)
      | inr p ↦ inr (sym p.1 ∙ e)
    ]

pub added_is : (table : FdTable) (pid : ℕ) (target : Target) (rights id : ℕ) (found : Look) → at_id (added table pid target rights).descriptions id ≡ Some found → ((id ≡ lowest_free table.descriptions) × (found ≡ record { target = target; rights = rights; offset = 0 })) ⊎ (at_id table.descriptions id ≡ Some found)
added_is table pid target rights id found e = filled_is table.descriptions (record { target = target; rights = rights; offset = 0 }) found id e

pub added_kept : (table : FdTable) (pid : ℕ) (target : Target) (rights id : ℕ) (old : Look) → at_id table.descriptions id ≡ Some old → at_id (added table pid target rights).descriptions id ≡ Some old
added_kept table pid target rights id old e = filled_kept table.descriptions (record { target = target; rights = rights; offset = 0 }) old id e

count_filled : (descriptions : Descriptions) (look : Look) → count_by is_some (filled descriptions look) ≡ count_by is_some descriptions + 1
count_filled [] look = refl
count_filled (None ∷ rest) look = omega (arith, sum_by-cons (λ o. cond (is_some o) 1 0) (Some look) rest, sum_by-cons (λ o. cond (is_some o) 1 0) None rest)
count_filled (Some other ∷ rest) look = omega (arith, sum_by-cons (λ o. cond (is_some o) 1 0) (Some other) rest, sum_by-cons (λ o. cond (is_some o) 1 0) (Some other) (filled rest look), count_filled rest look)

counted_filled : (descriptions : Descriptions) (look : Look) → IsSome (at_id descriptions 0) → IsSome (at_id descriptions 1) → counted (filled descriptions look) ≡ counted descriptions + 1
counted_filled [] look input output = absurd (cc)
counted_filled (None ∷ rest) look input output = absurd (cc)
counted_filled (Some a ∷ []) look input output = absurd (cc)
counted_filled (Some a ∷ None ∷ rest) look input output = absurd (cc)
counted_filled (Some a ∷ Some b ∷ rest) look input output = count_filled rest look

pub counted_added : (table : FdTable) (pid : ℕ) (target : Target) (rights : ℕ) → IsFdTable table → counted (added table pid target rights).descriptions ≡ counted table.descriptions + 1
counted_added table pid target rights t = counted_filled table.descriptions (record { target = target; rights = rights; offset = 0 }) t.terminals.1 t.terminals.2

-- ---- an offset that moves

target_moved : (offset : ℕ) (place : Option Look) → target_of (option_map (with_offset offset) place) ≡ target_of place
target_moved offset None = refl
target_moved offset (Some look) = refl

pub seek_targets : (descriptions : Descriptions) (slot : Option ℕ) (offset id : ℕ) → target_of (at_id (seek_in descriptions slot offset) id) ≡ target_of (at_id descriptions id)
seek_targets descriptions None offset id = refl
seek_targets descriptions (Some at) offset id =
    elim (cases_eq id at) [
      | inl same ↦
          ap (λ k. target_of (at_id (changed descriptions at (with_offset offset)) k)) same ∙ ap target_of (at_changed descriptions at (with_offset offset))
          ∙ target_moved offset (at_id descriptions at) ∙ sym (ap (λ k. target_of (at_id descriptions k)) same)
      | inr ne ↦ ap target_of (at_changed_other descriptions at (with_offset offset) id ne)
    ]

pub sought_targets : (table : FdTable) (pid fd offset id : ℕ) → target_of (at_id (sought table pid fd offset).descriptions id) ≡ target_of (at_id table.descriptions id)
sought_targets table pid fd offset id = seek_targets table.descriptions (description_of table pid fd) offset id

pub sought_some : (table : FdTable) (pid fd offset id : ℕ) → is_some (at_id (sought table pid fd offset).descriptions id) ≡ is_some (at_id table.descriptions id)
sought_some table pid fd offset id = by_slot (description_of table pid fd)
  where
    by_slot : (slot : Option ℕ) → is_some (at_id (seek_in table.descriptions slot offset) id) ≡ is_some (at_id table.descriptions id)
    by_slot None = refl
    by_slot (Some at) = some_changed table.descriptions at (with_offset offset) id

pub sought_at : (table : FdTable) (pid fd offset id : ℕ) → description_of table pid fd ≡ Some id → at_id (sought table pid fd offset).descriptions id ≡ option_map (with_offset offset) (at_id table.descriptions id)
sought_at table pid fd offset id e = ap (λ slot. at_id (seek_in table.descriptions slot offset) id) e ∙ at_changed table.descriptions id (with_offset offset)

pub sought_other : (table : FdTable) (pid fd offset id : ℕ) → description_of table pid fd ≢ Some id → at_id (sought table pid fd offset).descriptions id ≡ at_id table.descriptions id
sought_other table pid fd offset id = by_slot (description_of table pid fd)
  where
    by_slot : (slot : Option ℕ) → slot ≢ Some id → at_id (seek_in table.descriptions slot offset) id ≡ at_id table.descriptions id
    by_slot None ne = refl
    by_slot (Some at) ne = at_changed_other table.descriptions at (with_offset offset) id (λ same. ne (ap (λ (k : ℕ). Some k) (sym same)))

end_count_changed : (target : Target) (descriptions : Descriptions) (id offset : ℕ) → end_count target (changed descriptions id (with_offset offset)) ≡ end_count target descriptions
end_count_changed target descriptions id offset =
    let edited = option_map (with_offset offset) (at_id descriptions id) in
    let same : ends_in target edited ≡ ends_in target (at_id descriptions id) = ends_in_target target edited ∙ ap (ends_gone target) (target_moved offset (at_id descriptions id)) ∙ sym (ends_in_target target (at_id descriptions id)) in
    elim (cases_lt id (length descriptions)) [
      | inl within ↦ omega (arith, end_count_set target descriptions id edited within, same)
      | inr past ↦ ap (end_count target) (set_past descriptions id edited past)
    ]

pub end_count_sought : (target : Target) (table : FdTable) (pid fd offset : ℕ) → end_count target (sought table pid fd offset).descriptions ≡ end_count target table.descriptions
end_count_sought target table pid fd offset = by_slot (description_of table pid fd)
  where
    by_slot : (slot : Option ℕ) → end_count target (seek_in table.descriptions slot offset) ≡ end_count target table.descriptions
    by_slot None = refl
    by_slot (Some id) = end_count_changed target table.descriptions id offset

-- ---- what changes descriptors alone

pub launched_descriptions : (table : FdTable) (pid : ℕ) → (launched table pid).descriptions ≡ table.descriptions
launched_descriptions table pid = refl

pub forked_descriptions : (table : FdTable) (parent child : ℕ) → (forked table parent child).descriptions ≡ table.descriptions
forked_descriptions table parent child = refl

pub duplicated_descriptions : (table : FdTable) (pid fd : ℕ) → (duplicated table pid fd).descriptions ≡ table.descriptions
duplicated_descriptions table pid fd = refl

-- ---- the terminal's two descriptions

pub record HasTerminals (descriptions : Descriptions) : Type 0 where
  pub input : target_of (at_id descriptions 0) ≡ Some TermIn
  pub output : target_of (at_id descriptions 1) ≡ Some TermOut

pub terminals_first : HasTerminals no_processes.descriptions
terminals_first = record { input = refl; output = refl }

target_kept : (descriptions : Descriptions) (look : Look) (target : Target) (id : ℕ) → target_of (at_id descriptions id) ≡ Some target → target_of (at_id (filled descriptions look) id) ≡ Some target
target_kept descriptions look target id e = by_place (at_id descriptions id) refl e
  where
    by_place : (place : Option Look) → at_id descriptions id ≡ place → target_of place ≡ Some target → target_of (at_id (filled descriptions look) id) ≡ Some target
    by_place None f g = absurd (cc)
    by_place (Some old) f g = ap target_of (filled_kept descriptions look old id f) ∙ g

pub terminals_added : (table : FdTable) (pid : ℕ) (target : Target) (rights : ℕ) → HasTerminals table.descriptions → HasTerminals (added table pid target rights).descriptions
terminals_added table pid target rights t =
    let look : Look = record { target = target; rights = rights; offset = 0 } in
    record { input = target_kept table.descriptions look TermIn 0 t.input; output = target_kept table.descriptions look TermOut 1 t.output }

pub terminals_sought : (table : FdTable) (pid fd offset : ℕ) → HasTerminals table.descriptions → HasTerminals (sought table pid fd offset).descriptions
terminals_sought table pid fd offset t = record { input = sought_targets table pid fd offset 0 ∙ t.input; output = sought_targets table pid fd offset 1 ∙ t.output }

-- ---- a descriptor closed

drop_low : (descriptions : Descriptions) (slot : Option ℕ) (processes : Processes) (id : ℕ) → id < 2 → at_id (drop_in descriptions slot processes) id ≡ at_id descriptions id
drop_low descriptions None processes id low = refl
drop_low descriptions (Some at) processes id low = by_test (is_dropped at processes) refl
  where
    by_low : (b : Bool) → nat_lt at 2 ≡ b → cond b false (is_unheld at processes) ≡ true → 2 ≤ at
    by_low true f g = absurd (cc)
    by_low false f g = ltb-false at 2 f

    by_test : (gone : Bool) → is_dropped at processes ≡ gone → at_id (cond gone (without descriptions at) descriptions) id ≡ at_id descriptions id
    by_test true e = let high = by_low (nat_lt at 2) refl e in get_or-set_other descriptions at id None None (λ same. absurd (omega arith))
    by_test false e = refl

pub closed_terminals : (table : FdTable) (pid fd id : ℕ) → id < 2 → at_id (closed table pid fd).descriptions id ≡ at_id table.descriptions id
closed_terminals table pid fd id low = drop_low table.descriptions (description_of table pid fd) (with_slot table.processes pid fd None) id low

pub terminals_closed : (table : FdTable) (pid fd : ℕ) → HasTerminals table.descriptions → HasTerminals (closed table pid fd).descriptions
terminals_closed table pid fd t =
    record {
      input = ap target_of (closed_terminals table pid fd 0 (omega arith)) ∙ t.input;
      output = ap target_of (closed_terminals table pid fd 1 (omega arith)) ∙ t.output;
    }

pub closed_other : (table : FdTable) (pid fd id : ℕ) → description_of table pid fd ≢ Some id → at_id (closed table pid fd).descriptions id ≡ at_id table.descriptions id
closed_other table pid fd id = by_slot (description_of table pid fd)
  where
    by_test : (gone : Bool) (at : ℕ) → id ≢ at → at_id (cond gone (without table.descriptions at) table.descriptions) id ≡ at_id table.descriptions id
    by_test true at ne = get_or-set_other table.descriptions at id None None ne
    by_test false at ne = refl

    by_slot : (slot : Option ℕ) → slot ≢ Some id → at_id (drop_in table.descriptions slot (with_slot table.processes pid fd None)) id ≡ at_id table.descriptions id
    by_slot None ne = refl
    by_slot (Some at) ne = by_test (is_dropped at (with_slot table.processes pid fd None)) at (λ same. ne (ap (λ (k : ℕ). Some k) (sym same)))

-- what is there after a close was there before
pub closed_is : (table : FdTable) (pid fd id : ℕ) (look : Look) → at_id (closed table pid fd).descriptions id ≡ Some look → at_id table.descriptions id ≡ Some look
closed_is table pid fd id look = by_slot (description_of table pid fd)
  where
    by_same : (at : ℕ) → at_id (without table.descriptions at) id ≡ Some look → (id ≡ at) ⊎ (id ≢ at) → at_id table.descriptions id ≡ Some look
    by_same at e (inl same) = let f : ◌≡◌ {A = Option Look} None (Some look) = sym (ap (at_id (without table.descriptions at)) same ∙ at_gone table.descriptions at) ∙ e in absurd (cc)
    by_same at e (inr ne) = sym (get_or-set_other table.descriptions at id None None ne) ∙ e

    by_test : (gone : Bool) (at : ℕ) → at_id (cond gone (without table.descriptions at) table.descriptions) id ≡ Some look → at_id table.descriptions id ≡ Some look
    by_test true at e = by_same at e (cases_eq id at)
    by_test false at e = e

    by_slot : (slot : Option ℕ) → at_id (drop_in table.descriptions slot (with_slot table.processes pid fd None)) id ≡ Some look → at_id table.descriptions id ≡ Some look
    by_slot None e = e
    by_slot (Some at) e = by_test (is_dropped at (with_slot table.processes pid fd None)) at e

end_count_without : (target : Target) (descriptions : Descriptions) (id : ℕ) → end_count target (without descriptions id) + ends_gone target (target_of (at_id descriptions id)) ≡ end_count target descriptions
end_count_without target descriptions id =
    elim (cases_lt id (length descriptions)) [
      | inl within ↦ omega (arith, end_count_set target descriptions id None within, ends_in_target target (at_id descriptions id))
      | inr past ↦ past_end past
    ]
  where
    past_end : length descriptions ≤ id → end_count target (without descriptions id) + ends_gone target (target_of (at_id descriptions id)) ≡ end_count target descriptions
    past_end past =
        let gone : ends_gone target (target_of (at_id descriptions id)) ≡ 0 = ap (λ place. ends_gone target (target_of place)) (get_or_past descriptions id None past) in
        omega (arith, ap (end_count target) (set_past descriptions id None past), gone)

-- the terminal's descriptions have no target of another kind
terminal_gone : (target : Target) (descriptions : Descriptions) (id : ℕ) → HasTerminals descriptions → same_target TermIn target ≡ false → same_target TermOut target ≡ false → id < 2 → ends_gone target (target_of (at_id descriptions id)) ≡ 0
terminal_gone target descriptions zero t no_input no_output low = ap (ends_gone target) t.input ∙ (let one : ℕ = 1 in ap (λ b. cond b one 0) no_input)
terminal_gone target descriptions (suc zero) t no_input no_output low = ap (ends_gone target) t.output ∙ (let one : ℕ = 1 in ap (λ b. cond b one 0) no_output)
terminal_gone target descriptions (suc (suc id)) t no_input no_output low = absurd (omega arith)

-- a close takes one from the count of the target that it answers, and leaves all others; the terminal's are not taken
pub end_count_closed : (target : Target) (table : FdTable) (pid fd : ℕ) → HasTerminals table.descriptions → same_target TermIn target ≡ false → same_target TermOut target ≡ false → end_count target (closed table pid fd).descriptions + ends_gone target (last_target table pid fd) ≡ end_count target table.descriptions
end_count_closed target table pid fd t no_input no_output = by_slot (description_of table pid fd)
  where
    by_tests : (id : ℕ) (low gone : Bool) → nat_lt id 2 ≡ low → end_count target (cond (cond low false gone) (without table.descriptions id) table.descriptions) + ends_gone target (cond gone (target_of (at_id table.descriptions id)) None) ≡ end_count target table.descriptions
    by_tests id true true e = omega (arith, terminal_gone target table.descriptions id t no_input no_output (ltb-true id 2 e))
    by_tests id true false e = omega arith
    by_tests id false true e = end_count_without target table.descriptions id
    by_tests id false false e = omega arith

    by_slot : (slot : Option ℕ) → end_count target (drop_in table.descriptions slot (with_slot table.processes pid fd None)) + ends_gone target (unless_held (look_up table.descriptions slot) slot (with_slot table.processes pid fd None)) ≡ end_count target table.descriptions
    by_slot None = omega arith
    by_slot (Some id) = by_tests id (nat_lt id 2) (is_unheld id (with_slot table.processes pid fd None)) refl

pub end_count_closed_file : (id : ℕ) (table : FdTable) (pid fd : ℕ) → HasTerminals table.descriptions → end_count (File id) (closed table pid fd).descriptions + ends_gone (File id) (last_target table pid fd) ≡ end_count (File id) table.descriptions
end_count_closed_file id table pid fd t = end_count_closed (File id) table pid fd t refl refl

-- a close that answers no target drops no description
pub closed_none : (table : FdTable) (pid fd : ℕ) → last_target table pid fd ≡ None → (closed table pid fd).descriptions ≡ table.descriptions
closed_none table pid fd = by_slot (description_of table pid fd)
  where
    none_there : (id : ℕ) (place : Option Look) → at_id table.descriptions id ≡ place → target_of place ≡ None → without table.descriptions id ≡ table.descriptions
    none_there id None e f = ap (set table.descriptions id) (sym e) ∙ set-get_or table.descriptions id None
    none_there id (Some look) e f = absurd (cc)

    by_tests : (id : ℕ) (low gone : Bool) → cond gone (target_of (at_id table.descriptions id)) None ≡ None → cond (cond low false gone) (without table.descriptions id) table.descriptions ≡ table.descriptions
    by_tests id true true e = refl
    by_tests id true false e = refl
    by_tests id false true e = none_there id (at_id table.descriptions id) refl e
    by_tests id false false e = refl

    by_slot : (slot : Option ℕ) → unless_held (look_up table.descriptions slot) slot (with_slot table.processes pid fd None) ≡ None → drop_in table.descriptions slot (with_slot table.processes pid fd None) ≡ table.descriptions
    by_slot None e = refl
    by_slot (Some id) e = by_tests id (nat_lt id 2) (is_unheld id (with_slot table.processes pid fd None)) e

-- the target that a close answers is that of the descriptor's description
pub last_target_is : (table : FdTable) (pid fd : ℕ) (target : Target) → last_target table pid fd ≡ Some target → target_of (look_at table pid fd) ≡ Some target
last_target_is table pid fd target = by_slot (description_of table pid fd)
  where
    by_test : (gone : Bool) (place : Option Look) → cond gone (target_of place) None ≡ Some target → target_of place ≡ Some target
    by_test true place e = e
    by_test false place e = absurd (cc)

    by_slot : (slot : Option ℕ) → unless_held (look_up table.descriptions slot) slot (with_slot table.processes pid fd None) ≡ Some target → target_of (look_up table.descriptions slot) ≡ Some target
    by_slot None e = absurd (cc)
    by_slot (Some id) e = by_test (is_unheld id (with_slot table.processes pid fd None)) (at_id table.descriptions id) e

-- ---- bounds

end_count_some : (target : Target) (descriptions : Descriptions) → end_count target descriptions ≤ count_by is_some descriptions
end_count_some target [] = omega arith
end_count_some target (place ∷ rest) = omega (arith, end_count_first target place rest, sum_by-cons (λ o. cond (is_some o) 1 0) place rest, ends_in_some target place, end_count_some target rest)

pub end_count_most : (target : Target) (descriptions : Descriptions) → end_count target descriptions ≤ counted descriptions + 2
end_count_most target [] = omega arith
end_count_most target (a ∷ []) = omega (arith, end_count_first target a [], ends_in_most target a)
end_count_most target (a ∷ b ∷ rest) = omega (arith, end_count_first target a (b ∷ rest), end_count_first target b rest, ends_in_most target a, ends_in_most target b, end_count_some target rest)

pub end_count_few : (target : Target) (table : FdTable) → IsFdTable table → end_count target table.descriptions ≤ 258
end_count_few target table t = omega (arith, end_count_most target table.descriptions, t.few)

pub end_count_there : (descriptions : Descriptions) (id : ℕ) (look : Look) → at_id descriptions id ≡ Some look → 1 ≤ end_count look.target descriptions
end_count_there [] id look e = absurd (cc)
end_count_there (place ∷ rest) zero look e = omega (arith, end_count_first look.target place rest, ap (ends_in look.target) e, ends_in_self look)
end_count_there (place ∷ rest) (suc id) look e = omega (arith, end_count_first look.target place rest, end_count_there rest id look e)

-- a target that is counted is that of a description
pub end_count_found : (target : Target) (descriptions : Descriptions) → 1 ≤ end_count target descriptions → (id : ℕ) × (look : Look) × (at_id descriptions id ≡ Some look) × (look.target ≡ target)
end_count_found target [] h = absurd (omega arith)
end_count_found target (None ∷ rest) h = let p = end_count_found target rest (omega (arith, end_count_first target None rest)) in (suc p.0, p.1, p.2, p.3)
end_count_found target (Some look ∷ rest) h =
    elim (cases_Bool (same_target look.target target)) [
      | inl e ↦ (0, look, refl, same_target_is look.target target e)
      | inr e ↦
          let one : ℕ = 1 in
          let none : ends_in target (Some look) ≡ 0 = ap (λ b. cond b one 0) e in
          let p = end_count_found target rest (omega (arith, end_count_first target (Some look) rest, none)) in
          (suc p.0, p.1, p.2, p.3)
    ]

-- ---- processes

pub at_launched : (table : FdTable) (pid : ℕ) → at_id (launched table pid).processes pid ≡ Some first_slots
at_launched table pid = at_put table.processes pid first_slots

pub at_launched_other : (table : FdTable) (pid other : ℕ) → other ≢ pid → at_id (launched table pid).processes other ≡ at_id table.processes other
at_launched_other table pid other ne = at_put_other table.processes pid first_slots other ne

pub length-launched : (table : FdTable) (pid : ℕ) → length (launched table pid).processes ≡ length table.processes + (pid + 1 - length table.processes)
length-launched table pid = length-put table.processes pid first_slots

pub at_forked : (table : FdTable) (parent child : ℕ) → at_id (forked table parent child).processes child ≡ Some (slots_at table.processes parent)
at_forked table parent child = at_put table.processes child (slots_at table.processes parent)

pub at_forked_other : (table : FdTable) (parent child other : ℕ) → other ≢ child → at_id (forked table parent child).processes other ≡ at_id table.processes other
at_forked_other table parent child other ne = at_put_other table.processes child (slots_at table.processes parent) other ne

pub length-forked : (table : FdTable) (parent child : ℕ) → length (forked table parent child).processes ≡ length table.processes + (child + 1 - length table.processes)
length-forked table parent child = length-put table.processes child (slots_at table.processes parent)

-- a process that has a descriptor is there
pub process_of_fd : (table : FdTable) (pid fd : ℕ) → IsSome (description_of table pid fd) → IsSome (at_id table.processes pid)
process_of_fd table pid fd = by_place (at_id table.processes pid)
  where
    by_place : (place : Option Slots) → IsSome (at_id (slots_of place) fd) → IsSome place
    by_place None h = absurd (cc)
    by_place (Some slots) h = refl

-- a descriptor that is written leaves the same processes
pub some_with_slot : (processes : Processes) (pid fd : ℕ) (slot : Option ℕ) (other : ℕ) → IsSome (at_id processes pid) → is_some (at_id (with_slot processes pid fd slot) other) ≡ is_some (at_id processes other)
some_with_slot processes pid fd slot other there =
    let new : Option Slots = Some (set (slots_at processes pid) fd slot) in
    elim (cases_eq other pid) [
      | inl same ↦
          ap (λ k. is_some (at_id (set processes pid new) k)) same ∙ ap is_some (get_or-set_same processes pid new None (id_within processes pid there))
          ∙ sym there ∙ sym (ap (λ k. is_some (at_id processes k)) same)
      | inr ne ↦ ap is_some (get_or-set_other processes pid other new None ne)
    ]

pub some_added : (table : FdTable) (pid : ℕ) (target : Target) (rights other : ℕ) → IsSome (at_id table.processes pid) → is_some (at_id (added table pid target rights).processes other) ≡ is_some (at_id table.processes other)
some_added table pid target rights other there = some_with_slot table.processes pid (lowest_fd table pid) (Some (lowest_free table.descriptions)) other there

pub some_duplicated : (table : FdTable) (pid fd other : ℕ) → IsSome (description_of table pid fd) → is_some (at_id (duplicated table pid fd).processes other) ≡ is_some (at_id table.processes other)
some_duplicated table pid fd other there = some_with_slot table.processes pid (lowest_fd table pid) (description_of table pid fd) other (process_of_fd table pid fd there)

pub some_closed : (table : FdTable) (pid fd other : ℕ) → IsSome (description_of table pid fd) → is_some (at_id (closed table pid fd).processes other) ≡ is_some (at_id table.processes other)
some_closed table pid fd other there = some_with_slot table.processes pid fd None other (process_of_fd table pid fd there)

pub length-added : (table : FdTable) (pid : ℕ) (target : Target) (rights : ℕ) → length (added table pid target rights).processes ≡ length table.processes
length-added table pid target rights = length-with_slot table.processes pid (lowest_fd table pid) (Some (lowest_free table.descriptions))

pub length-duplicated : (table : FdTable) (pid fd : ℕ) → length (duplicated table pid fd).processes ≡ length table.processes
length-duplicated table pid fd = length-with_slot table.processes pid (lowest_fd table pid) (description_of table pid fd)

pub length-closed : (table : FdTable) (pid fd : ℕ) → length (closed table pid fd).processes ≡ length table.processes
length-closed table pid fd = length-with_slot table.processes pid fd None

-- a process that is launched or forked leaves all others
pub some_launched : (table : FdTable) (pid other : ℕ) → IsSome (at_id table.processes other) → IsSome (at_id (launched table pid).processes other)
some_launched table pid other there =
    elim (cases_eq other pid) [
      | inl same ↦ ap (λ k. is_some (at_id (launched table pid).processes k)) same ∙ ap is_some (at_launched table pid)
      | inr ne ↦ ap is_some (at_launched_other table pid other ne) ∙ there
    ]

pub some_forked : (table : FdTable) (parent child other : ℕ) → IsSome (at_id table.processes other) → IsSome (at_id (forked table parent child).processes other)
some_forked table parent child other there =
    elim (cases_eq other child) [
      | inl same ↦ ap (λ k. is_some (at_id (forked table parent child).processes k)) same ∙ ap is_some (at_forked table parent child)
      | inr ne ↦ ap is_some (at_forked_other table parent child other ne) ∙ there
    ]

-- ---- descriptors of a process

-- a descriptor that is written, where the process has a place for it
pub fd_written : (processes : Processes) (pid fd : ℕ) (slot : Option ℕ) → IsSome (at_id processes pid) → fd < length (slots_at processes pid) → at_id (slots_at (with_slot processes pid fd slot) pid) fd ≡ slot
fd_written processes pid fd slot there within =
    ap (λ place. at_id (slots_of place) fd) (get_or-set_same processes pid (Some (set (slots_at processes pid) fd slot)) None (id_within processes pid there))
    ∙ get_or-set_same (slots_at processes pid) fd slot None within

pub fd_written_other : (processes : Processes) (pid fd : ℕ) (slot : Option ℕ) (p f : ℕ) → IsSome (at_id processes pid) → (p ≢ pid) ⊎ (f ≢ fd) → at_id (slots_at (with_slot processes pid fd slot) p) f ≡ at_id (slots_at processes p) f
fd_written_other processes pid fd slot p f there (inl ne) = ap (λ place. at_id (slots_of place) f) (get_or-set_other processes pid p (Some (set (slots_at processes pid) fd slot)) None ne)
fd_written_other processes pid fd slot p f there (inr ne) =
    let new : Option Slots = Some (set (slots_at processes pid) fd slot) in
    elim (cases_eq p pid) [
      | inl same ↦
          ap (λ k. at_id (slots_at (set processes pid new) k) f) same
          ∙ ap (λ place. at_id (slots_of place) f) (get_or-set_same processes pid new None (id_within processes pid there))
          ∙ get_or-set_other (slots_at processes pid) fd f slot None ne ∙ sym (ap (λ k. at_id (slots_at processes k) f) same)
      | inr apart ↦ ap (λ place. at_id (slots_of place) f) (get_or-set_other processes pid p new None apart)
    ]

pub fd_added : (table : FdTable) (pid : ℕ) (target : Target) (rights : ℕ) → IsSome (at_id table.processes pid) → 1 ≤ free_count (slots_at table.processes pid) → description_of (added table pid target rights) pid (lowest_fd table pid) ≡ Some (lowest_free table.descriptions)
fd_added table pid target rights there free = fd_written table.processes pid (lowest_fd table pid) (Some (lowest_free table.descriptions)) there (free_is_lowest (slots_at table.processes pid) free)

pub look_added : (table : FdTable) (pid : ℕ) (target : Target) (rights : ℕ) → IsSome (at_id table.processes pid) → 1 ≤ free_count (slots_at table.processes pid) → look_at (added table pid target rights) pid (lowest_fd table pid) ≡ Some (record { target = target; rights = rights; offset = 0 })
look_added table pid target rights there free =
    let look : Look = record { target = target; rights = rights; offset = 0 } in
    ap (look_up (filled table.descriptions look)) (fd_added table pid target rights there free) ∙ at_filled table.descriptions look

pub fd_closed : (table : FdTable) (pid fd : ℕ) → IsFdTable table → IsSome (description_of table pid fd) → description_of (closed table pid fd) pid fd ≡ None
fd_closed table pid fd t there =
    fd_written table.processes pid fd None (process_of_fd table pid fd there) (id_within (slots_at table.processes pid) fd there)

-- one descriptor less is free after one is added
pub free_added : (table : FdTable) (pid : ℕ) (target : Target) (rights : ℕ) → IsSome (at_id table.processes pid) → 1 ≤ free_count (slots_at table.processes pid) → free_count (slots_at (added table pid target rights).processes pid) + 1 ≡ free_count (slots_at table.processes pid)
free_added table pid target rights there free =
    let slots = slots_at table.processes pid in
    let slot : Option ℕ = Some (lowest_free table.descriptions) in
    let within = free_is_lowest slots free in
    let is : slots_at (added table pid target rights).processes pid ≡ set slots (lowest_free slots) slot = ap slots_of (get_or-set_same table.processes pid (Some (set slots (lowest_free slots) slot)) None (id_within table.processes pid there)) in
    let was : ◌≡◌ {A = ℕ} (cond (is_none (at_id slots (lowest_free slots))) 1 0) 1 = ap (λ (o : Option ℕ). let one : ℕ = 1 in cond (is_none o) one 0) (at_lowest_free slots) in
    omega (arith, sum_by-set (λ o. cond (is_none o) 1 0) slots (lowest_free slots) slot None within, ap free_count is, was)
