-- Two descriptions that are added at once.
use Rattle.std.proofs.Common.{◌≡◌, ◌+◌, ◌<◌, ◌≤◌, ℕ, List, [], ◌∷◌, cond, count_by, Option, Some, None, is_some, IsSome, refl, ap, ◌∙◌, arith}
use Rattle.std.proofs.lemmas.List.Sums.{sum_by-cons}
use Rattle.id_table.specs.Places.{at_id, lowest_free, filled}
use Rattle.fd_table.specs.declared.description.Look.{Look}
use Rattle.fd_table.specs.declared.description.Target.{Target}
use Rattle.fd_table.specs.Descriptors.{FdTable, Processes, slots_at, free_count, counted, added, with_slot}
use Rattle.fd_table.specs.Held.{HeldList, looks, once_held, table_of, IsHeldTable}
use Rattle.fd_table.proofs.HeldLemmas.{add_done, lowest_in}
use Rattle.fd_table.proofs.EndLemmas.{some_added, free_added, counted_added}

abbrev pub look_on : Target → ℕ → Look
look_on target rights = record { target = target; rights = rights; offset = 0 }

-- after the first one
pub record IsReady (list : HeldList) (processes : Processes) (pid : ℕ) : Type 0 where
  pub table : IsHeldTable list processes
  pub process : IsSome (at_id processes pid)
  pub free : 1 ≤ free_count (slots_at processes pid)
  pub few : counted (looks list) < 256

pub first_done : (list : HeldList) (processes mid : Processes) (pid fd id rights : ℕ) (target : Target) → IsHeldTable list processes → IsSome (at_id processes pid) → 2 ≤ free_count (slots_at processes pid) → counted (looks list) + 1 < 256 → fd ≡ lowest_free (slots_at processes pid) → id ≡ lowest_free list → mid ≡ with_slot processes pid fd (Some id)
    → IsReady (filled list (once_held (look_on target rights))) mid pid × (table_of (filled list (once_held (look_on target rights))) mid ≡ added (table_of list processes) pid target rights)
first_done list processes mid pid fd id rights target t h free few e f m =
    let one = add_done list (filled list (once_held (look_on target rights))) processes mid pid fd id rights target t h (omega (arith, free)) (omega (arith, few)) e f refl m in
    let here : is_some (at_id mid pid) ≡ is_some (at_id processes pid) = ap (λ (x : FdTable). is_some (at_id x.processes pid)) one.1 ∙ some_added (table_of list processes) pid target rights pid h in
    let less : free_count (slots_at mid pid) + 1 ≡ free_count (slots_at processes pid) = ap (λ (x : FdTable). free_count (slots_at x.processes pid) + 1) one.1 ∙ free_added (table_of list processes) pid target rights h (omega (arith, free)) in
    let more : counted (looks (filled list (once_held (look_on target rights)))) ≡ counted (looks list) + 1 = ap (λ (x : FdTable). counted x.descriptions) one.1 ∙ counted_added (table_of list processes) pid target rights t.table in
    (record { table = one.0; process = here ∙ h; free = omega (arith, less, free); few = omega (arith, more, few) }, one.1)

pub pair_done : (list new : HeldList) (processes mid after : Processes) (pid fd other id other_id : ℕ) (first second : Target) → IsHeldTable list processes → IsSome (at_id processes pid) → 2 ≤ free_count (slots_at processes pid) → counted (looks list) + 1 < 256
    → fd ≡ lowest_free (slots_at processes pid) → id ≡ lowest_free list → mid ≡ with_slot processes pid fd (Some id)
    → other ≡ lowest_free (slots_at mid pid) → other_id ≡ lowest_free (filled list (once_held (look_on first 1))) → new ≡ filled (filled list (once_held (look_on first 1))) (once_held (look_on second 2)) → after ≡ with_slot mid pid other (Some other_id)
    → IsHeldTable new after × (table_of new after ≡ added (added (table_of list processes) pid first 1) pid second 2) × (other ≡ lowest_free (slots_at (added (table_of list processes) pid first 1).processes pid))
pair_done list new processes mid after pid fd other id other_id first second t h free few e f m e2 f2 n a =
    let one = first_done list processes mid pid fd id 1 first t h free few e f m in
    let two = add_done (filled list (once_held (look_on first 1))) new mid after pid other other_id 2 second one.0.table one.0.process one.0.free one.0.few e2 f2 n a in
    (two.0, two.1 ∙ ap (λ (x : FdTable). added x pid second 2) one.1, e2 ∙ ap (λ (x : FdTable). lowest_free (slots_at x.processes pid)) one.1)

-- one value more
pub count_more : {T : Type 0} (places : List (Option T)) (value : T) → count_by is_some (filled places value) ≡ count_by is_some places + 1
count_more [] value = refl
count_more (None ∷ rest) value = omega (arith, sum_by-cons (λ o. cond (is_some o) 1 0) (Some value) rest, sum_by-cons (λ o. cond (is_some o) 1 0) None rest)
count_more (Some other ∷ rest) value = omega (arith, sum_by-cons (λ o. cond (is_some o) 1 0) (Some other) rest, sum_by-cons (λ o. cond (is_some o) 1 0) (Some other) (filled rest value), count_more rest value)
