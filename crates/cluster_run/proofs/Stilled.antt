-- A run in which nothing is left to be done is done or stuck.
use Rattle.std.proofs.Common.{◌≡◌, ℕ, zero, suc, ◌+◌, ◌<◌, ◌≤◌, ◌==◌, ◌++◌, ◌⊎◌, inl, inr, Bool, true, false, cond, Option, Some, None, List, [], ◌∷◌, refl, sym, ap, ◌∙◌, subst, arith, length, map, slice_get}
use Rattle.call_table.specs.declared.limit.TheConstants.{NODES}
use Rattle.call_forward.specs.declared.letter.Letter.{Letter}
use Rattle.node_event.specs.declared.event.Event.{Event}
use Rattle.protocol.specs.Deeds.{all_noted}
use Rattle.protocol.specs.Notes.{Post, Local}
use Rattle.protocol.specs.Cluster.{World}
use Rattle.protocol.specs.Rests.{Rests, Finished, AllRest}
use Rattle.run_laws.specs.Ending.{Ending}
use Rattle.run_laws.specs.Ends.{IsDone, IsStuck, AllSettled, SettledOrOpen, DoneOrStuck}
use Rattle.node_machine.specs.Plan.{Plan, IsPlan}
use Rattle.node_machine.specs.Machine.{Policy, machine}
use Rattle.node_machine.specs.Policy.{IsFitting}
use Rattle.node_core.specs.declared.node.Node.{Node}
use Rattle.node_core.specs.Locals.{local, post_of}
use Rattle.cluster_run.specs.declared.seat.Seat.{Seat}
use Rattle.cluster_run.specs.declared.seat.Rest.{Rest}
use Rattle.cluster_run.specs.declared.seat.Rest.TheVariants as rested
use Rattle.cluster_run.specs.declared.over.OverWhy.TheVariants as why
use Rattle.weave.specs.Weaves.{AreJournals}
use Rattle.cluster_run.specs.Seats.{bound, waiting, Found, Ready, LivesAt}
use Rattle.cluster_run.specs.Passing.{AreWithin, AllReady, IsRest, AreStill}
use Rattle.cluster_run.specs.Over.{AreWoven, IsOver, Ran}
use Rattle.cluster_run.specs.Running.{why_of}
use Rattle.cluster_run.proofs.Living.{nothing_if}
use Rattle.cluster_run.proofs.Assembling.{Part, front, lying}
use Rattle.cluster_run.proofs.Ordered.{IsJournal, journal_of, are_journals}
use Rattle.cluster_run.proofs.Concluding.{map_got, length_map, at, cluster, ending, concluded}

pub seat_at : {A : Type 0} (xs : List A) (k : ℕ) → k < length xs → (x : A) × (slice_get xs k ≡ Some x)
seat_at [] k less = absurd (omega (arith, less))
seat_at (x ∷ xs) zero less = (x, refl)
seat_at (x ∷ xs) (suc k) less = seat_at xs k (omega (arith, less))

pub none_more : {A : Type 0} (xs ys : List A) → xs ++ ys ≡ xs → ys ≡ []
none_more [] ys e = e
none_more (x ∷ xs) ys e = none_more xs ys cc

not_done : (A B P Q : Type 0) → (A × P) ⊎ (B × Q) → (A → ⊥) → B × Q
not_done A B P Q (inl x) no_a = absurd (no_a x.0)
not_done A B P Q (inr x) no_a = x

is_done : (A B P Q : Type 0) → (A × P) ⊎ (B × Q) → A → (B → A → ⊥) → A × P
is_done A B P Q (inl x) a not = x
is_done A B P Q (inr x) a not = absurd (not x.0 a)

found_rests : (policy : Policy) (plan : Plan) (n : ℕ) (a : Rest) (l : Local (machine policy plan)) → IsRest a → Found policy plan n a l → Rests (machine policy plan) n l
found_rests policy plan n rested.Idle l r f = f.0
found_rests policy plan n rested.Over l r f = f.0
found_rests policy plan n rested.Busy l r f = absurd r
found_rests policy plan n rested.Full l r f = absurd r

-- what the seats did by themselves are journals
pub journals_are : (policy : Policy) (plan : Plan) {C : Type 0} (puts gives : C → List Letter) (room : ℕ) (hands : ℕ → Option Letter) (seats : List (Seat Node C)) → ((k : ℕ) (s : Seat Node C) → slice_get seats k ≡ Some s → LivesAt policy plan puts gives room k (hands k) s)
    → AreJournals 0 (map (λ (n : Node). n.journal) (map (λ (s : Seat Node C). s.node) seats))
journals_are policy plan {C} puts gives room hands seats lives = are_journals 0 (map (λ (s : Seat Node C). s.node) seats) (λ k x e.
    let g = map_got (λ (s : Seat Node C). s.node) seats k x e in
    let v = lives k g.0 g.1 in
    let same : k ≡ 0 + k = omega arith in
    subst (λ (i : ℕ). IsJournal i x.journal.events) same (subst (λ (n : Node). IsJournal k n.journal.events) g.2 (journal_of (machine policy plan) plan.script k v.acts (local policy plan g.0.node) g.0.node.journal.events v.lone v.journal_is)))

-- they come back in their places, none with more events than there is room for
pub places_are : (policy : Policy) (plan : Plan) {C : Type 0} (puts gives : C → List Letter) (room : ℕ) (hands : ℕ → Option Letter) (seats : List (Seat Node C)) → ((k : ℕ) (s : Seat Node C) → slice_get seats k ≡ Some s → LivesAt policy plan puts gives room k (hands k) s)
    → (k : ℕ) (n : Node) → slice_get (map (λ (s : Seat Node C). s.node) seats) k ≡ Some n → (n.id ≡ k) × (length n.journal.events ≤ room)
places_are policy plan {C} puts gives room hands seats lives k n e =
    let g = map_got (λ (s : Seat Node C). s.node) seats k n e in
    let v = lives k g.0 g.1 in
    subst (λ (x : Node). (x.id ≡ k) × (length x.journal.events ≤ room)) g.2 (v.id, v.fits)

module _ (policy : Policy) (fit : IsFitting policy) (plan : Plan) (is_plan : IsPlan plan) {C : Type 0} (puts gives : C → List Letter) (pair : C → C → Type 0) (seats : List (Seat Node C)) (count : length seats ≡ plan.nodes) (most : length seats ≤ NODES) (within : AreWithin plan.nodes seats) (room : ℕ) (ready : AllReady policy puts gives plan room seats) (still : AreStill puts gives pair plan.nodes seats) where
  lives : (k : ℕ) (s : Seat Node C) → slice_get seats k ≡ Some s → LivesAt policy plan puts gives room k None s
  lives k s e = (ready k s e).lives

  module _ (es : List Event) (woven : AreWoven plan (map (λ (s : Seat Node C). s.node) seats) es) where
    abbrev here : (k : ℕ) → Part policy plan puts gives seats (all_noted plan.script es) None k
    here = at policy fit plan is_plan puts gives pair seats count most within es woven room (λ k. None) lives (λ k e. refl) true still.links

    abbrev now : World (machine policy plan)
    now = cluster policy fit plan is_plan puts gives pair seats count most within es woven room (λ k. None) lives (λ k e. refl) true still.links

    abbrev ends : Ending (machine policy plan) (all_noted plan.script es) now
    ends = ending policy fit plan is_plan puts gives pair seats count most within es woven room (λ k. None) lives (λ k e. refl) true still.links

    rests_at : (n : ℕ) → n < plan.nodes → Rests (machine policy plan) n (now.nodes n)
    rests_at n less =
        let g = seat_at seats n (omega (arith, less, count)) in
        subst (λ (l : Local (machine policy plan)). Rests (machine policy plan) n l) (sym ((here n).state_is g.0 g.1)) (found_rests policy plan n g.0.rest (local policy plan g.0.node) (still.each n g.0 less g.1).rest (ready n g.0 g.1).found)

    none_lies : (a b : ℕ) → lying policy plan puts gives seats (all_noted plan.script es) (λ k. None) here pair plan.nodes count within true still.links a b ≡ []
    none_lies a b =
        let f = front policy plan puts gives seats (all_noted plan.script es) (λ k. None) here pair plan.nodes count within true still.links a b in
        none_more ((here b).given a) f.order.0 (f.order.1 ∙ sym (f.all refl))

    none_waits : (a b : ℕ) → a < plan.nodes → bound b (here a).waits ≡ []
    none_waits a b less =
        let g = seat_at seats a (omega (arith, less, count)) in
        ap (λ (w : List Letter). bound b w) ((here a).waits_is g.0 g.1 ∙ (still.each a g.0 less g.1).none)

    none_on : (a b : ℕ) → a < plan.nodes → b < plan.nodes → now.links a b ≡ []
    none_on a b less other =
        ap (λ (w : List (Post (machine policy plan))). w ++ (map (post_of policy plan) (lying policy plan puts gives seats (all_noted plan.script es) (λ k. None) here pair plan.nodes count within true still.links a b) ++ map (post_of policy plan) (bound b (here a).waits))) (nothing_if (a == (here b).source))
        ∙ (ap (λ (w : List Letter). map (post_of policy plan) w ++ map (post_of policy plan) (bound b (here a).waits)) (none_lies a b) ∙ ap (λ (w : List Letter). map (post_of policy plan) w) (none_waits a b less))

    all_rest : AllRest (machine policy plan) now
    all_rest = record { links = none_on; nodes = rests_at }

    over_by : (s : Seat Node C) → slice_get seats 0 ≡ Some s → (a : Rest) → s.rest ≡ a → IsOver policy plan room (why_of a) (map (λ (s : Seat Node C). s.node) seats) es
    over_by s e a is = by a (subst (λ (r : Rest). IsRest r) is (still.each 0 s (let n = is_plan.nodes in omega (arith, n)) e).rest) (subst (λ (l : Local (machine policy plan)). Found policy plan 0 a l) (sym ((here 0).state_is s e)) (subst (λ (r : Rest). Found policy plan 0 r (local policy plan s.node)) is (ready 0 s e).found))
      where
        by : (a : Rest) → IsRest a → Found policy plan 0 a (now.nodes 0) → IsOver policy plan room (why_of a) (map (λ (s : Seat Node C). s.node) seats) es
        by rested.Over r f =
            let d : IsDone (machine policy plan) (all_noted plan.script es) ends.machine = ends.finished.0 f.2 in
            let x = is_done _ _ _ _ (ends.over all_rest) d (λ z. z.not_done) in
            concluded policy fit plan is_plan puts gives pair seats count most within es woven room (λ k. None) lives (λ k e. refl) true still.links why.Done (all_rest, x.0, x.1)
        by rested.Idle r f =
            let x = not_done _ _ _ _ (ends.over all_rest) (λ d. f.1 refl (ends.finished.1 d)) in
            concluded policy fit plan is_plan puts gives pair seats count most within es woven room (λ k. None) lives (λ k e. refl) true still.links why.Stuck (all_rest, x.0, x.1)
        by rested.Busy r f = absurd r
        by rested.Full r f = absurd r

  pub ran_still : (s : Seat Node C) → slice_get seats 0 ≡ Some s → Ran policy plan room (why_of s.rest) (map (λ (s : Seat Node C). s.node) seats)
  ran_still s e = record {
    count = length_map (λ (s : Seat Node C). s.node) seats ∙ count;
    places = places_are policy plan puts gives room (λ k. None) seats lives;
    journals = journals_are policy plan puts gives room (λ k. None) seats lives;
    over = λ es woven. over_by es woven s e s.rest refl;
  }
