-- The laws of a run, from what all seats did.
use Rattle.std.proofs.Common.{◌≡◌, ℕ, zero, suc, ◌<◌, ◌≤◌, ◌==◌, ◌++◌, ◌⊎◌, inl, inr, Bool, true, false, cond, Option, Some, None, List, [], ◌∷◌, refl, sym, ap, ◌∙◌, subst, arith, length, map, reverse, slice_get}
use Rattle.std.specs.Prelude.{option_to_list}
use Rattle.std.proofs.lemmas.List.{append-nil, length-reverse}
use Rattle.call_table.specs.declared.limit.TheConstants.{NODES, JOURNAL}
use Rattle.call_forward.specs.declared.letter.Letter.{Letter}
use Rattle.node_event.specs.declared.event.Event.{Event}
use Rattle.protocol.specs.Ops.{Ops, Sound}
use Rattle.protocol.specs.Deeds.{Noted, noted, all_noted}
use Rattle.protocol.specs.Notes.{Post}
use Rattle.protocol.specs.Cluster.{World}
use Rattle.protocol.specs.Rests.{Rests, Finished, AllRest}
use Rattle.protocol.proofs.Talk.{other_numbers}
use Rattle.run_laws.specs.Carried.{Each, own_events, NoneStrange, Did, CarriedRun}
use Rattle.run_laws.specs.Skipping.{Act, Made, Skipped, NoneSkipped}
use Rattle.run_laws.specs.Whole.{Holds}
use Rattle.run_laws.specs.Ending.{Ending}
use Rattle.run_laws.specs.Ends.{IsDone, DoneOrStuck}
use Rattle.node_machine.specs.Plan.{Plan, IsPlan}
use Rattle.node_machine.specs.Machine.{Policy, machine}
use Rattle.node_machine.specs.Policy.{IsFitting}
use Rattle.node_machine.specs.Laws.{AreMerged}
use Rattle.node_machine.proofs.Sound.{sound}
use Rattle.node_machine.proofs.Lawful.{none_skips, journals, journals_end}
use Rattle.node_core.specs.declared.node.Node.{Node}
use Rattle.node_core.specs.Locals.{local, post_of}
use Rattle.cluster_run.specs.declared.seat.Seat.{Seat}
use Rattle.cluster_run.specs.declared.over.OverWhy.{OverWhy}
use Rattle.cluster_run.specs.Standing.{BothFront}
use Rattle.cluster_run.specs.Seats.{AreUsual, LivesAt}
use Rattle.cluster_run.specs.Passing.{AreWithin}
use Rattle.cluster_run.specs.Over.{AreWoven, OverAs, IsOver}
use Rattle.cluster_run.proofs.Counting.{few_events}
use Rattle.cluster_run.proofs.Unskipped.{turns_of, turns_shown, did_unskipped}
use Rattle.cluster_run.proofs.Assembling.{none_past, Part, part, whole, did_all}

pub get_map : {A B : Type 0} (f : A → B) (xs : List A) (k : ℕ) (x : A) → slice_get xs k ≡ Some x → slice_get (map f xs) k ≡ Some (f x)
get_map f [] k x e = absurd cc
get_map f (y ∷ ys) zero x e = let s : y ≡ x = cc in ap (λ (z : _). Some (f z)) s
get_map f (y ∷ ys) (suc k) x e = get_map f ys k x e

pub map_got : {A B : Type 0} (f : A → B) (xs : List A) (k : ℕ) (y : B) → slice_get (map f xs) k ≡ Some y → (x : A) × (slice_get xs k ≡ Some x) × (f x ≡ y)
map_got f [] k y e = absurd cc
map_got f (x ∷ xs) zero y e = (x, refl, cc)
map_got f (x ∷ xs) (suc k) y e = map_got f xs k y e

pub length_map : {A B : Type 0} (f : A → B) (xs : List A) → length (map f xs) ≡ length xs
length_map f [] = refl
length_map f (x ∷ xs) = ap suc (length_map f xs)

own_none : (n k : ℕ) (es : List Noted) → n ≤ k → Each (λ (e : Noted). e.node < n) es → own_events k es ≡ []
own_none n k [] least low = refl
own_none n k (e ∷ es) least low =
    let first = low.0 in
    ap (λ (b : Bool). cond b (e ∷ own_events k es) (own_events k es)) (other_numbers e.node k (λ same. absurd (omega (arith, least, first, same)))) ∙ own_none n k es least low.1

usual_of : (policy : Policy) (plan : Plan) (acts : List (Act (machine policy plan))) → NoneSkipped (machine policy plan) acts → NoneStrange (machine policy plan) (turns_of (machine policy plan) acts) → AreUsual policy plan acts
usual_of policy plan [] n u = tt
usual_of policy plan (Made t ∷ before) n u = (u.0, usual_of policy plan before n u.1)
usual_of policy plan (Skipped a m ∷ before) n u = absurd n

module _ (policy : Policy) (fit : IsFitting policy) (plan : Plan) (is_plan : IsPlan plan) {C : Type 0} (puts gives : C → List Letter) (pair : C → C → Type 0) (seats : List (Seat Node C)) (count : length seats ≡ plan.nodes) (most : length seats ≤ NODES) (within : AreWithin plan.nodes seats) (es : List Event) (woven : AreWoven plan (map (λ (s : Seat Node C). s.node) seats) es) (room : ℕ) (hands : ℕ → Option Letter) (lives : (k : ℕ) (s : Seat Node C) → slice_get seats k ≡ Some s → LivesAt policy plan puts gives room k (hands k) s) (no_hand : (k : ℕ) → slice_get seats k ≡ None → hands k ≡ None) (none : Bool) (met : (a b : ℕ) → a < plan.nodes → b < plan.nodes → BothFront puts gives pair none a b seats) where
  nodes_count : length (map (λ (s : Seat Node C). s.node) seats) ≡ length seats
  nodes_count = length_map (λ (s : Seat Node C). s.node) seats

  pub own_of : (k : ℕ) (s : Seat Node C) → slice_get seats k ≡ Some s → own_events k (all_noted plan.script es) ≡ reverse (all_noted plan.script s.node.journal.events)
  own_of k s e = woven.own k s.node (get_map (λ (t : Seat Node C). t.node) seats k s e)

  beyond : (k : ℕ) → slice_get seats k ≡ None → own_events k (all_noted plan.script es) ≡ []
  beyond k e = own_none (length (map (λ (s : Seat Node C). s.node) seats)) k (all_noted plan.script es) (let p = none_past seats k e in omega (arith, p, nodes_count)) woven.below

  pub at : (k : ℕ) → Part policy plan puts gives seats (all_noted plan.script es) (hands k) k
  at = part policy plan puts gives seats (all_noted plan.script es) room hands lives no_hand own_of beyond

  abbrev pub cluster : World (machine policy plan)
  cluster = whole policy plan puts gives seats (all_noted plan.script es) hands at pair plan.nodes count within none met

  is_sound : Sound (machine policy plan)
  is_sound = sound policy fit plan is_plan

  own_most : (k : ℕ) (o : Option (Seat Node C)) → slice_get seats k ≡ o → length (own_events k (all_noted plan.script es)) ≤ JOURNAL
  own_most k None e = let n : length (own_events k (all_noted plan.script es)) ≡ 0 = ap length (beyond k e) in omega (arith, n)
  own_most k (Some s) e =
      let v = lives k s e in
      let n : length (own_events k (all_noted plan.script es)) ≡ length s.node.journal.events = ap length (own_of k s e) ∙ (length-reverse (all_noted plan.script s.node.journal.events) ∙ length_map (noted plan.script) s.node.journal.events) in
      let a = v.fits in
      let b = v.room_is in
      let c = v.suits.room in
      let d = v.suits.shape.most_events in
      omega (arith, n, a, b, c, d)

  unskipped : (k : ℕ) → NoneSkipped (machine policy plan) (at k).acts
  unskipped k = none_skips (machine policy plan) is_sound (λ n. (at n).acts) cluster es
      (did_all policy plan puts gives seats (all_noted plan.script es) hands at pair plan.nodes count within none met)
      woven.sorted (λ n. (at n).journal_is)
      (few_events (length (map (λ (s : Seat Node C). s.node) seats)) (all_noted plan.script es) (omega (arith, nodes_count, most)) woven.below (λ n. own_most n (slice_get seats n) refl)) k

  did : Did (machine policy plan) (λ k. turns_of (machine policy plan) (at k).acts) cluster
  did = did_unskipped (machine policy plan) (λ k. (at k).acts) cluster (did_all policy plan puts gives seats (all_noted plan.script es) hands at pair plan.nodes count within none met) unskipped

  merged : AreMerged (machine policy plan) es (λ k. turns_of (machine policy plan) (at k).acts)
  merged = (woven.sorted, λ k. (at k).journal_is ∙ turns_shown (machine policy plan) (at k).acts (unskipped k))

  lawful : Holds (machine policy plan) (all_noted plan.script es) cluster × CarriedRun (machine policy plan) (all_noted plan.script es) cluster × ((k : ℕ) → NoneStrange (machine policy plan) (turns_of (machine policy plan) (at k).acts))
  lawful = journals (machine policy plan) is_sound (λ k. turns_of (machine policy plan) (at k).acts) cluster es did merged

  pub ending : Ending (machine policy plan) (all_noted plan.script es) cluster
  ending = journals_end (machine policy plan) is_sound (λ k. turns_of (machine policy plan) (at k).acts) cluster es did merged

  pub concluded : (why : OverWhy) → OverAs policy plan room why es cluster ending.machine → IsOver policy plan room why (map (λ (s : Seat Node C). s.node) seats) es
  concluded why over = record {
    world = cluster;
    nodes_are = λ k n e. let g = map_got (λ (s : Seat Node C). s.node) seats k n e in (at k).state_is g.0 g.1 ∙ ap (λ (m : Node). local policy plan m) g.2;
    holds = lawful.0;
    carried = lawful.1;
    ending = ending;
    over = over;
    strange = λ k n e. let g = map_got (λ (s : Seat Node C). s.node) seats k n e in subst (λ (m : Node). m.strange ≡ 0) g.2 ((at k).strange g.0 g.1 (usual_of policy plan (at k).acts (unskipped k) (lawful.2 k)));
  }
