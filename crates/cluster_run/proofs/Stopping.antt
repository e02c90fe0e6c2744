-- A run that stopped at a full journal: the least node with a full journal at which an event is due.
use Rattle.std.proofs.Common.{◌≡◌, ◌≢◌, ℕ, zero, suc, ◌<◌, ◌≤◌, ◌==◌, ◌||◌, ◌++◌, ◌⊎◌, inl, inr, Bool, true, false, cond, Option, Some, None, List, [], ◌∷◌, refl, sym, ap, ◌∙◌, subst, arith, length, map, reverse, slice_get, slice_set}
use Rattle.std.specs.Prelude.{option_to_list}
use Rattle.std.specs.Option.{option_map}
use Rattle.std.proofs.lemmas.List.{append-nil, length-reverse}
use Rattle.call_table.specs.declared.limit.TheConstants.{NODES}
use Rattle.call_forward.specs.declared.letter.Letter.{Letter}
use Rattle.node_event.specs.declared.event.Event.{Event}
use Rattle.protocol.specs.Deeds.{Noted, noted, all_noted}
use Rattle.protocol.specs.Notes.{Post, Local}
use Rattle.protocol.specs.Cluster.{World}
use Rattle.protocol.specs.Rests.{Kind, Applies, Rests, HasMore, Awaits, Busy}
use Rattle.protocol.proofs.Talk.{same_numbers, other_numbers, numbers_same, numbers_other}
use Rattle.run_laws.specs.Carried.{own_events}
use Rattle.run_laws.specs.Due.{LeastFull}
use Rattle.run_laws.specs.Ending.{Ending}
use Rattle.node_machine.specs.Plan.{Plan, IsPlan}
use Rattle.node_machine.specs.Machine.{Policy, machine}
use Rattle.node_machine.specs.Policy.{IsFitting}
use Rattle.node_core.specs.declared.node.Node.{Node}
use Rattle.node_core.specs.Letters.{any_to}
use Rattle.node_core.specs.Locals.{local, post_of, post_at}
use Rattle.cluster_run.specs.declared.seat.Seat.{Seat}
use Rattle.cluster_run.specs.declared.over.OverWhy.TheVariants as why
use Rattle.cluster_run.specs.Sides.{towards}
use Rattle.cluster_run.specs.Standing.{BothFront}
use Rattle.cluster_run.specs.Seats.{bound, waiting, LivesAt}
use Rattle.cluster_run.specs.Passing.{AreWithin}
use Rattle.cluster_run.specs.Filling.{IsFilled, AllLive, RestsFilled, NoneComes, OneWaits}
use Rattle.cluster_run.specs.Over.{AreWoven, IsOver, Ran}
use Rattle.cluster_run.proofs.Calming.{below as below_length}
use Rattle.cluster_run.proofs.Living.{nothing_if}
use Rattle.cluster_run.proofs.Assembling.{Part, front, lying, in_hand}
use Rattle.cluster_run.proofs.Concluding.{length_map, at, cluster, ending, concluded, own_of}
use Rattle.cluster_run.proofs.Stilled.{seat_at, none_more, journals_are, places_are}

-- ---- letters to a node

any_bound : (n : ℕ) (ls : List Letter) → any_to n ls ≡ true → bound n ls ≡ [] → ⊥
any_bound n [] e none = absurd cc
any_bound n (l ∷ ls) e none = go (l.to == n) refl e (λ f z. any_bound n ls f z)
  where
    go : (b : Bool) → (l.to == n) ≡ b → (b || any_to n ls) ≡ true → (any_to n ls ≡ true → bound n ls ≡ [] → ⊥) → ⊥
    go true q f more = let z : l ∷ bound n ls ≡ [] = sym (ap (λ (b : Bool). cond b (l ∷ bound n ls) (bound n ls)) (same_numbers n l.to (sym (numbers_same l.to n q)))) ∙ none in absurd cc
    go false q f more = more f (sym (ap (λ (b : Bool). cond b (l ∷ bound n ls) (bound n ls)) (other_numbers n l.to (λ s. numbers_other l.to n q (sym s)))) ∙ none)

none_bound : (n : ℕ) (ls : List Letter) → any_to n ls ≡ false → bound n ls ≡ []
none_bound n [] e = refl
none_bound n (l ∷ ls) e = go (l.to == n) refl e (λ f. none_bound n ls f)
  where
    go : (b : Bool) → (l.to == n) ≡ b → (b || any_to n ls) ≡ false → (any_to n ls ≡ false → bound n ls ≡ []) → cond (n == l.to) (l ∷ bound n ls) (bound n ls) ≡ []
    go true q f more = absurd cc
    go false q f more = ap (λ (b : Bool). cond b (l ∷ bound n ls) (bound n ls)) (other_numbers n l.to (λ s. numbers_other l.to n q (sym s))) ∙ more f

last_none : {A : Type 0} (xs ys : List A) → xs ++ ys ≡ [] → ys ≡ []
last_none [] ys e = e
last_none (x ∷ xs) ys e = absurd cc

map_none : {A B : Type 0} (f : A → B) (xs : List A) → map f xs ≡ [] → xs ≡ []
map_none f [] e = refl
map_none f (x ∷ xs) e = absurd cc

module _ (policy : Policy) (plan : Plan) {C : Type 0} (puts gives : C → List Letter) (pair : C → C → Type 0) where
  -- how seats stand after the stop, and why r is the least
  pub record IsLeast (nodes room : ℕ) (hands : ℕ → Option Letter) (r : ℕ) (seats : List (Seat Node C)) : Type 0 where
    pub live : AllLive policy plan puts gives room hands seats
    pub within : r < length seats
    pub full : (s : Seat Node C) → slice_get seats r ≡ Some s → IsFilled s
    pub has : ((s : Seat Node C) → slice_get seats r ≡ Some s → HasMore (machine policy plan) r (option_map (post_at policy plan r) (hands r)) (local policy plan s.node)) ⊎ OneWaits puts gives pair nodes r seats
    pub rest : (k : ℕ) → k < r → RestsFilled policy plan puts gives k seats
    pub below : (k : ℕ) → k < r → NoneComes puts gives pair nodes k seats
    pub empty : (k : ℕ) → k < r → hands k ≡ None

module _ (policy : Policy) (fit : IsFitting policy) (plan : Plan) (is_plan : IsPlan plan) {C : Type 0} (puts gives : C → List Letter) (pair : C → C → Type 0) (seats : List (Seat Node C)) (count : length seats ≡ plan.nodes) (most : length seats ≤ NODES) (within : AreWithin plan.nodes seats) (room : ℕ) (hands : ℕ → Option Letter) (r : ℕ) (least : IsLeast policy plan puts gives pair plan.nodes room hands r seats) (none : Bool) (met : (a b : ℕ) → a < plan.nodes → b < plan.nodes → BothFront puts gives pair none a b seats) where
  module _ (es : List Event) (woven : AreWoven plan (map (λ (s : Seat Node C). s.node) seats) es) where
    abbrev here : (k : ℕ) → Part policy plan puts gives seats (all_noted plan.script es) (hands k) k
    here = at policy fit plan is_plan puts gives pair seats count most within es woven room hands least.live.lives least.live.none none met

    abbrev now : World (machine policy plan)
    now = cluster policy fit plan is_plan puts gives pair seats count most within es woven room hands least.live.lives least.live.none none met

    abbrev ends : Ending (machine policy plan) (all_noted plan.script es) now
    ends = ending policy fit plan is_plan puts gives pair seats count most within es woven room hands least.live.lives least.live.none none met

    abbrev lies : ℕ → ℕ → List Letter
    lies a b = lying policy plan puts gives seats (all_noted plan.script es) hands here pair plan.nodes count within none met a b

    own_count : (k : ℕ) (s : Seat Node C) → slice_get seats k ≡ Some s → length (own_events k (all_noted plan.script es)) ≡ length s.node.journal.events
    own_count k s e = ap length (own_of policy fit plan is_plan puts gives pair seats count most within es woven room hands least.live.lives least.live.none none met k s e) ∙ (length-reverse (all_noted plan.script s.node.journal.events) ∙ length_map (noted plan.script) s.node.journal.events)

    -- ---- r has something to do

    hand_due : (o : Option Letter) → hands r ≡ o → (s : Seat Node C) → slice_get seats r ≡ Some s → HasMore (machine policy plan) r (option_map (post_at policy plan r) o) (local policy plan s.node) → Busy (machine policy plan) r now
    hand_due None e s is more = inr (more.0, subst (λ (l : Local (machine policy plan)). Applies (machine policy plan) more.0 r l) (sym ((here r).state_is s is)) more.1)
    hand_due (Some l) e s is more = inl ((here r).source, λ z. not_none (sym first ∙ z))
      where
        rest_of : List (Post (machine policy plan))
        rest_of = map (post_of policy plan) (lies (here r).source r) ++ map (post_of policy plan) (bound r (here (here r).source).waits)

        first : now.links (here r).source r ≡ post_of policy plan l ∷ rest_of
        first = ap (λ (b : Bool). cond b (map (post_of policy plan) (option_to_list (hands r))) [] ++ rest_of) (same_numbers (here r).source (here r).source refl) ∙ ap (λ (o : Option Letter). map (post_of policy plan) (option_to_list o) ++ rest_of) e

        not_none : post_of policy plan l ∷ rest_of ≡ [] → ⊥
        not_none z = absurd cc

    waits_due : OneWaits puts gives pair plan.nodes r seats → Busy (machine policy plan) r now
    waits_due w = inl (w.from, λ z. any_bound r (waiting w.seat) w.one (ap (λ (ls : List Letter). bound r ls) (sym ((here w.from).waits_is w.seat w.is)) ∙ map_none (post_of policy plan) (bound r (here w.from).waits) (last_none (map (post_of policy plan) (lies w.from r)) (map (post_of policy plan) (bound r (here w.from).waits)) (last_none (in_hand policy plan puts gives seats (all_noted plan.script es) hands here pair plan.nodes count within none met w.from r) _ z))))

    busy_at : Busy (machine policy plan) r now
    busy_at = go least.has
      where
        go : ((s : Seat Node C) → slice_get seats r ≡ Some s → HasMore (machine policy plan) r (option_map (post_at policy plan r) (hands r)) (local policy plan s.node)) ⊎ OneWaits puts gives pair plan.nodes r seats → Busy (machine policy plan) r now
        go (inl more) = let g = seat_at seats r least.within in hand_due (hands r) refl g.0 g.1 (more g.0 g.1)
        go (inr w) = waits_due w

    -- ---- and no node below it

    module _ (k : ℕ) (less : k < r) (s : Seat Node C) (is : slice_get seats k ≡ Some s) (full : IsFilled s) where
      lies_none : (a : ℕ) (o : Option (Seat Node C)) → slice_get seats a ≡ o → lies a k ≡ []
      lies_none a (Some t) e =
          let f = front policy plan puts gives seats (all_noted plan.script es) hands here pair plan.nodes count within none met a k in
          let b = below_length seats a t e in
          let below : a < plan.nodes = omega (arith, b, count) in
          none_more ((here k).given a) f.order.0 (f.order.1 ∙ ((here a).put_is t e k ∙ (sym (least.below k less s is full a t below e).0 ∙ sym ((here k).given_is s is a))))
      lies_none a None e =
          let f = front policy plan puts gives seats (all_noted plan.script es) hands here pair plan.nodes count within none met a k in
          last_none ((here k).given a) f.order.0 (f.order.1 ∙ (here a).none_put e k)

      waits_none : (a : ℕ) (o : Option (Seat Node C)) → slice_get seats a ≡ o → bound k (here a).waits ≡ []
      waits_none a (Some t) e =
          let b = below_length seats a t e in
          ap (λ (ls : List Letter). bound k ls) ((here a).waits_is t e) ∙ none_bound k (waiting t) (least.below k less s is full a t (omega (arith, b, count)) e).1
      waits_none a None e = ap (λ (ls : List Letter). bound k ls) ((here a).none_waits e)

      none_on : (a : ℕ) → now.links a k ≡ []
      none_on a =
          ap (λ (o : Option Letter). cond (a == (here k).source) (map (post_of policy plan) (option_to_list o)) [] ++ (map (post_of policy plan) (lies a k) ++ map (post_of policy plan) (bound k (here a).waits))) (least.empty k less)
          ∙ (ap (λ (w : List (Post (machine policy plan))). w ++ (map (post_of policy plan) (lies a k) ++ map (post_of policy plan) (bound k (here a).waits))) (nothing_if (a == (here k).source))
          ∙ (ap (λ (w : List Letter). map (post_of policy plan) w ++ map (post_of policy plan) (bound k (here a).waits)) (lies_none a (slice_get seats a) refl) ∙ ap (λ (w : List Letter). map (post_of policy plan) w) (waits_none a (slice_get seats a) refl)))

      not_busy : Busy (machine policy plan) k now → ⊥
      not_busy (inl x) = x.1 (none_on x.0)
      not_busy (inr x) = least.rest k less s is full x.0 (subst (λ (l : Local (machine policy plan)). Applies (machine policy plan) x.0 k l) ((here k).state_is s is) x.1)

    least_full : LeastFull room r (all_noted plan.script es) (λ k. Busy (machine policy plan) k now)
    least_full = record {
      full = let g = seat_at seats r least.within in own_count r g.0 g.1 ∙ (least.full g.0 g.1 ∙ (least.live.lives r g.0 g.1).room_is);
      has = busy_at;
      least = λ k less own busy.
          let within_k : k < length seats = (let w = least.within in omega (arith, less, w)) in
          let g = seat_at seats k within_k in
          not_busy k less g.0 g.1 (sym (own_count k g.0 g.1) ∙ (own ∙ sym (least.live.lives k g.0 g.1).room_is)) busy;
    }

    over_full : IsOver policy plan room (why.Full r) (map (λ (s : Seat Node C). s.node) seats) es
    over_full = concluded policy fit plan is_plan puts gives pair seats count most within es woven room hands least.live.lives least.live.none none met (why.Full r) ((ends.full room r).0 least_full)

  pub ran_full : Ran policy plan room (why.Full r) (map (λ (s : Seat Node C). s.node) seats)
  ran_full = record {
    count = length_map (λ (s : Seat Node C). s.node) seats ∙ count;
    places = places_are policy plan puts gives room hands seats least.live.lives;
    journals = journals_are policy plan puts gives room hands seats least.live.lives;
    over = λ es woven. over_full es woven;
  }
