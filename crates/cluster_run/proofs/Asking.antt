-- Nodes with full journals are asked whether they go on by themselves.
use Rattle.std.proofs.Common.{◌≡◌, ◌≢◌, ℕ, zero, suc, ◌+◌, ◌<◌, ◌≤◌, ◌++◌, ◌⊎◌, inl, inr, true, false, Option, Some, None, List, [], ◌∷◌, refl, sym, ap, ◌∙◌, subst, arith, length, length-append, map, slice_get, slice_set}
use Rattle.std.specs.Option.{option_map}
use Rattle.std.proofs.lemmas.Bool.Decides.{leb_tells}
use lib.Dec.{leb}
use Rattle.call_forward.specs.declared.letter.Letter.{Letter}
use Rattle.node_event.specs.declared.event.Event.{Event}
use Rattle.node_event.specs.declared.script.ScriptLine.{ScriptLine}
use Rattle.protocol.specs.Ops.{Ops}
use Rattle.protocol.specs.Deeds.{Deed, Strange, Noted, noted, all_noted}
use Rattle.protocol.specs.Notes.{Post, Turn, Local}
use Rattle.protocol.specs.Does.{Does}
use Rattle.protocol.specs.Rests.{Rests, HasMore}
use Rattle.run_laws.specs.Carried.{IsUsual, recorded}
use Rattle.run_laws.proofs.Did.{line_usual}
use Rattle.node_machine.specs.Plan.{Plan}
use Rattle.node_machine.specs.Machine.{Policy, machine}
use Rattle.node_core.specs.declared.shape.Shape.{Shape}
use Rattle.node_core.specs.declared.node.Node.{Node}
use Rattle.node_core.specs.declared.turn.Turned.{Turned}
use Rattle.node_core.specs.declared.turn.Turned.TheVariants as turned
use Rattle.node_core.specs.Turns.{TurnsAs, PassedOver, Rested, HasFinished, IsFull}
use Rattle.node_core.specs.Turns as turns
use Rattle.node_core.specs.Locals.{local, post_at}
use Rattle.cluster_run.specs.declared.seat.Seat.{Seat}
use Rattle.cluster_run.specs.declared.seat.Rest.{Rest}
use Rattle.cluster_run.specs.declared.seat.Rest.TheVariants as rested
use Rattle.cluster_run.specs.Seats.{rest_of, Made, LivesAt}
use Rattle.node_links.specs.declared.side.Towards.{Towards}
use Rattle.cluster_run.specs.Sides.{SameSide}
use Rattle.cluster_run.specs.Passing.{SameSides}
use Rattle.cluster_run.specs.Filling.{IsFilled, AllLive, GoesOn, RestsFilled, AreAsked, SameButRest, AllSameButRest, AskedSeat, AskedAt, Stopped, FirstFound}
use Rattle.cluster_run.proofs.Calming.{below, length_set, get_set, some_is}
use Rattle.cluster_run.proofs.Assembling.{none_past}
use Rattle.cluster_run.proofs.Concluding.{length_map}
use Rattle.cluster_run.proofs.Passing.{set_each, sides_none, sides_then, sides_set}
use Rattle.cluster_run.proofs.Places.{side_same}

-- a turn without a letter takes no letter that does not fit
usual_by : (O : Ops) (d : Deed) (n : ℕ) (old : Local O) (t : Turn O) (new : Local O) → Does O d n old t new → t.taken ≡ None → IsUsual d
usual_by O (Strange p) n old t new does none = let e : None ≡ Some _ = sym none ∙ does.base.took in absurd cc
usual_by O _ n old t new does none = tt

one_longer : (script : List ScriptLine) (old new : List Event) (e : Noted) → all_noted script new ≡ all_noted script old ++ (e ∷ []) → length new ≡ length old + 1
one_longer script old new e is = sym (length_map (noted script) new) ∙ (ap length is ∙ (length-append (all_noted script old) (e ∷ []) ∙ ap (λ (k : ℕ). k + 1) (length_map (noted script) old)))

past_none : {A : Type 0} (xs : List A) (k : ℕ) → length xs ≤ k → slice_get xs k ≡ None
past_none [] k most = refl
past_none (x ∷ xs) zero most = absurd (omega (arith, most))
past_none (x ∷ xs) (suc k) most = past_none xs k (omega (arith, most))

pub none_same : {A : Type 0} (xs ys : List A) (k : ℕ) → length ys ≡ length xs → slice_get ys k ≡ None → slice_get xs k ≡ None
none_same xs ys k count e = past_none xs k (let p = none_past ys k e in omega (arith, count, p))

module _ (policy : Policy) {C : Type 0} (puts gives : C → List Letter) where
  module _ (s : Seat Node C) (full : IsFilled s) (new : Node) (fits : length new.journal.events ≤ new.journal.room) (plan : Plan) (room n : ℕ) (v : LivesAt policy plan puts gives room n None s) where
    not_made : turns.Made policy plan None s.node new → ⊥
    not_made k =
        let usual : IsUsual k.turn.event.what = usual_by (machine policy plan) k.turn.event.what s.node.id (local policy plan s.node) k.turn (local policy plan new) k.makes.does k.taken in
        let longer : length new.journal.events ≡ length s.node.journal.events + 1 = one_longer plan.script s.node.journal.events new.journal.events k.turn.event (k.journal ∙ ap (λ (w : List Noted). all_noted plan.script s.node.journal.events ++ w) (line_usual k.turn.event k.turn.event.what usual)) in
        let same : new.journal.room ≡ s.node.journal.room = k.suits.room ∙ (ap (λ (w : Shape). w.journal) k.shape ∙ sym v.suits.room) in
        omega (arith, longer, same, full, fits)

    not_did : turns.Made policy plan None s.node new ⊎ PassedOver policy plan None s.node new → ⊥
    not_did (inl k) = not_made k
    not_did (inr k) = let e : None ≡ Some k.letter = k.is in absurd cc

  but_rest : (s : Seat Node C) (new : Node) (answer : Rest) → new ≡ s.node → SameButRest s (record s { node = new; rest = answer })
  but_rest s new answer same = ap (λ (w : Node). record s { node = w; rest = answer }) same

  module _ (s : Seat Node C) (full : IsFilled s) (new : Node) (fits : length new.journal.events ≤ new.journal.room) where
    by_turned : (d : Turned) → TurnsAs policy d None s.node new → AskedSeat policy puts gives (rest_of d) s (record s { node = new; rest = rest_of d })
    by_turned turned.Did t = λ plan room n v. absurd (not_did s full new fits plan room n v (t plan v.suits))
    by_turned turned.Idle t = λ plan room n v. let r : Rested policy plan None s.node new = t plan v.suits in (but_rest s new rested.Idle r.same, λ f. subst (λ (i : ℕ). Rests (machine policy plan) i (local policy plan s.node)) v.id r.idle.rests)
    by_turned turned.Finished t = λ plan room n v. let r : HasFinished policy plan None s.node new = t plan v.suits in (but_rest s new rested.Over r.same, λ f. subst (λ (i : ℕ). Rests (machine policy plan) i (local policy plan s.node)) v.id r.finished.idle.rests)
    by_turned turned.JournalFull t = λ plan room n v. let r : IsFull policy plan None s.node new = t plan v.suits in (but_rest s new rested.Full r.same, full, subst (λ (i : ℕ). HasMore (machine policy plan) i None (local policy plan s.node)) v.id r.more)

  pub asked_made : (answer : Rest) (s t : Seat Node C) → IsFilled s → Made policy answer None s t → AskedSeat policy puts gives answer s t
  asked_made answer s t full k = subst (λ (w : Seat Node C). AskedSeat policy puts gives answer s w) (sym k.same) (subst (λ (a : Rest). AskedSeat policy puts gives a s (record s { node = t.node; rest = a })) (sym k.answer_is) (by_turned s full t.node k.fits k.turned k.turns))

  pub asked_free : (s : Seat Node C) → (IsFilled s → ⊥) → AskedSeat policy puts gives rested.Busy s s
  asked_free s free = λ plan room n v. (refl, λ f. absurd (free f))

  -- ---- all seats

  but_rest_none : (xs : List (Seat Node C)) → AllSameButRest xs xs
  but_rest_none xs = record { count = refl; each = λ k t e. (t, e, refl) }

  but_rest_then : (xs ys zs : List (Seat Node C)) → AllSameButRest xs ys → AllSameButRest ys zs → AllSameButRest xs zs
  but_rest_then xs ys zs a b = record { count = b.count ∙ a.count; each = λ k u e. let q = b.each k u e in let p = a.each k q.0 q.1 in (p.0, p.1, q.2 ∙ ap (λ (w : Seat Node C). record w { rest = u.rest }) p.2) }

  but_rest_set : (xs : List (Seat Node C)) (at : ℕ) (s t : Seat Node C) → slice_get xs at ≡ Some s → SameButRest s t → AllSameButRest xs (slice_set xs at t)
  but_rest_set xs at s t is same = record { count = length_set xs at t; each = set_each xs at s t is (λ (v w : Seat Node C). SameButRest v w) (λ v. refl) same }

  module _ (plan : Plan) (xs ys : List (Seat Node C)) (same : AllSameButRest xs ys) where
    live_same : (room : ℕ) (hands : ℕ → Option Letter) → AllLive policy plan puts gives room hands xs → AllLive policy plan puts gives room hands ys
    live_same room hands l = record {
      lives = λ k t e. let p = same.each k t e in subst (λ (w : Seat Node C). LivesAt policy plan puts gives room k (hands k) w) (sym p.2) (l.lives k p.0 p.1);
      none = λ k e. l.none k (none_same xs ys k same.count e);
    }

    goes_same : (hands : ℕ → Option Letter) (n : ℕ) → GoesOn policy plan puts gives hands n xs → GoesOn policy plan puts gives hands n ys
    goes_same hands n g t e = let p = same.each n t e in subst (λ (w : Seat Node C). IsFilled w × HasMore (machine policy plan) n (option_map (post_at policy plan n) (hands n)) (local policy plan w.node)) (sym p.2) (g p.0 p.1)

    rests_same : (n : ℕ) → RestsFilled policy plan puts gives n xs → RestsFilled policy plan puts gives n ys
    rests_same n r t e = let p = same.each n t e in subst (λ (w : Seat Node C). IsFilled w → Rests (machine policy plan) n (local policy plan w.node)) (sym p.2) (r p.0 p.1)

  -- nodes below `n` were asked, and none of them goes on
  pub record SoFar (pair : C → C → Type 0) (at n : ℕ) (xs ys : List (Seat Node C)) : Type 0 where
    pub sides : SameSides pair xs ys
    pub found : (plan : Plan) (room : ℕ) (hands : ℕ → Option Letter) → Stopped policy puts gives plan room hands at xs → Stopped policy puts gives plan room hands at ys × ((k : ℕ) → k < n → RestsFilled policy plan puts gives k ys) × AllSameButRest xs ys

  pub asked_none : (pair : C → C → Type 0) (at : ℕ) (xs : List (Seat Node C)) → SoFar pair at 0 xs xs
  asked_none pair at xs = record { sides = sides_none pair xs; found = λ plan room hands stop. (stop, λ k less. absurd (omega (arith, less)), but_rest_none xs) }

  stopped_same : (plan : Plan) (room : ℕ) (hands : ℕ → Option Letter) (at : ℕ) (xs ys : List (Seat Node C)) → AllSameButRest xs ys → Stopped policy puts gives plan room hands at xs → Stopped policy puts gives plan room hands at ys
  stopped_same plan room hands at xs ys same stop = record { live = live_same plan xs ys same room hands stop.live; goes = goes_same plan xs ys same hands at stop.goes; off = stop.off }

  module _ (pair : C → C → Type 0) (at n : ℕ) (less : n < at) (xs ys zs : List (Seat Node C)) (before : SoFar pair at n xs ys) where
    one_side : (s t : Seat Node C) → slice_get ys n ≡ Some s → zs ≡ slice_set ys n t → t.side ≡ s.side → SameSides pair ys zs
    one_side s t is now side = subst (λ (w : List (Seat Node C)). SameSides pair ys w) (sym now) (sides_set pair ys n s t is (subst (λ (w : List (Towards C)). SameSide pair s.side w) (sym side) (side_same pair s.side)))

    pub asked_sides : (answer : Rest) → AskedAt policy puts gives answer n ys zs → SameSides pair xs zs
    asked_sides answer k = sides_then pair xs ys zs before.sides (one_side k.s k.t k.is k.now k.side)

    in_no_hand : (plan : Plan) (room : ℕ) (hands : ℕ → Option Letter) (s : Seat Node C) → slice_get ys n ≡ Some s → Stopped policy puts gives plan room hands at ys → LivesAt policy plan puts gives room n None s
    in_no_hand plan room hands s is stop = subst (λ (o : Option Letter). LivesAt policy plan puts gives room n o s) (stop.off n less) (stop.live.lives n s is)

    pub asked_full : AskedAt policy puts gives rested.Full n ys zs → FirstFound policy puts gives at n xs zs
    asked_full k = (
      omega (arith, less),
      λ plan room hands stop.
          let f = before.found plan room hands stop in
          let a = k.asked plan room n (in_no_hand plan room hands k.s k.is f.0) in
          let same : AllSameButRest ys zs = subst (λ (w : List (Seat Node C)). AllSameButRest ys w) (sym k.now) (but_rest_set ys n k.s k.t k.is a.0) in
          let none : hands n ≡ None = stop.off n less in (
            record {
              live = live_same plan ys zs same room hands f.0.live;
              goes = goes_same plan ys zs same hands n (λ s e. subst (λ (w : Seat Node C). IsFilled w × HasMore (machine policy plan) n (option_map (post_at policy plan n) (hands n)) (local policy plan w.node)) (some_is k.s s (sym k.is ∙ e)) (a.1, subst (λ (o : Option Letter). HasMore (machine policy plan) n (option_map (post_at policy plan n) o) (local policy plan k.s.node)) (sym none) a.2));
              below = λ i lower. rests_same plan ys zs same i (f.1 i lower);
            },
            but_rest_then xs ys zs f.2 same,
          ),
    )

    asked_on : (answer : Rest) (s t : Seat Node C) → slice_get ys n ≡ Some s → zs ≡ slice_set ys n t → t.side ≡ s.side → ((plan : Plan) (room n : ℕ) → LivesAt policy plan puts gives room n None s → SameButRest s t × (IsFilled s → Rests (machine policy plan) n (local policy plan s.node))) → SoFar pair at (n + 1) xs zs
    asked_on answer s t is now side asked = record {
      sides = sides_then pair xs ys zs before.sides (one_side s t is now side);
      found = λ plan room hands stop.
          let f = before.found plan room hands stop in
          let a = asked plan room n (in_no_hand plan room hands s is f.0) in
          let same : AllSameButRest ys zs = subst (λ (w : List (Seat Node C)). AllSameButRest ys w) (sym now) (but_rest_set ys n s t is a.0) in
          (stopped_same plan room hands at ys zs same f.0, λ i lower. rests_same plan ys zs same i (at_or plan f.1 a.1 i lower), but_rest_then xs ys zs f.2 same);
    }
      where
        at_or : (plan : Plan) → ((k : ℕ) → k < n → RestsFilled policy plan puts gives k ys) → (IsFilled s → Rests (machine policy plan) n (local policy plan s.node)) → (i : ℕ) → i < n + 1 → RestsFilled policy plan puts gives i ys
        at_or plan f r i lower = by (leb_tells n i)
          where
            by : ((leb n i ≡ true) × (n ≤ i)) ⊎ ((leb n i ≡ false) × (i < n)) → RestsFilled policy plan puts gives i ys
            by (inr x) = f i x.1
            by (inl x) =
                let same : n ≡ i = let y = x.1 in omega (arith, y, lower) in
                subst (λ (j : ℕ). RestsFilled policy plan puts gives j ys) same (λ u e. subst (λ (w : Seat Node C). IsFilled w → Rests (machine policy plan) n (local policy plan w.node)) (some_is s u (sym is ∙ e)) r)

    pub asked_more : (a : Rest) → (a ≡ rested.Full → ⊥) → AskedAt policy puts gives a n ys zs → SoFar pair at (n + 1) xs zs
    asked_more rested.Full full k = absurd (full refl)
    asked_more rested.Busy full k = asked_on rested.Busy k.s k.t k.is k.now k.side k.asked
    asked_more rested.Idle full k = asked_on rested.Idle k.s k.t k.is k.now k.side k.asked
    asked_more rested.Over full k = asked_on rested.Over k.s k.t k.is k.now k.side k.asked

  pub asked_all : (pair : C → C → Type 0) (at : ℕ) (xs ys : List (Seat Node C)) → SoFar pair at at xs ys → FirstFound policy puts gives at at xs ys
  asked_all pair at xs ys before = (omega arith, λ plan room hands stop. let f = before.found plan room hands stop in (record { live = f.0.live; goes = f.0.goes; below = f.1 }, f.2))
