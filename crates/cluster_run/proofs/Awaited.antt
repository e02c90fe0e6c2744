-- Letters to nodes with full journals are looked for.
use Rattle.std.proofs.Common.{◌≡◌, ◌≢◌, ℕ, zero, suc, ◌+◌, ◌<◌, ◌≤◌, ◌==◌, ◌++◌, ◌⊎◌, inl, inr, Bool, true, false, cond, is_some, Option, Some, None, List, [], ◌∷◌, refl, sym, ap, ◌∙◌, subst, arith, length, length-append, slice_get, slice_set}
use Rattle.std.specs.Prelude.{option_to_list}
use Rattle.std.proofs.lemmas.List.{append-nil}
use Rattle.std.proofs.lemmas.Bool.Decides.{leb_tells}
use lib.Dec.{leb}
use Rattle.call_forward.specs.declared.letter.Letter.{Letter}
use Rattle.node_links.specs.Sides.{carrier_to}
use Rattle.node_core.specs.declared.node.Node.{Node}
use Rattle.node_core.specs.Letters.{any_to}
use Rattle.cluster_run.specs.declared.seat.Seat.{Seat}
use Rattle.cluster_run.specs.Sides.{towards, count_of, knows}
use Rattle.cluster_run.specs.Meeting.{Fronts, SideCalm}
use Rattle.cluster_run.specs.Standing.{SeatCalm, Calm, BothFront, RowMet, RowCounted}
use Rattle.cluster_run.specs.Seats.{waiting, Step, Took}
use Rattle.cluster_run.specs.Passing.{SameSides}
use Rattle.cluster_run.specs.Filling.{IsFilled, TookAny, NoneComes, OneWaits, OneTaken, IsAwaited, AwaitedAs, FirstAwaited}
use Rattle.cluster_run.proofs.Calming.{below, get_set, some_is, seat_same, seat_then, calm_none, calm_then, calm_set}
use Rattle.cluster_run.proofs.Rounds.{if_none, step_none, step_then}
use Rattle.cluster_run.proofs.Passing.{set_here, set_off, sides_then, sides_set, sides_steps, steps_calm}

-- one seat more at which no letter to a node waits
pub none_more_waits : {C : Type 0} (node n : ℕ) (xs : List (Seat Node C)) (s : Seat Node C) → slice_get xs n ≡ Some s → any_to node (waiting s) ≡ false → ((a : ℕ) (t : Seat Node C) → a < n → slice_get xs a ≡ Some t → any_to node (waiting t) ≡ false) → (a : ℕ) (t : Seat Node C) → a < n + 1 → slice_get xs a ≡ Some t → any_to node (waiting t) ≡ false
none_more_waits {C} node n xs s is none before a t less e = go (leb_tells n a)
  where
    go : ((leb n a ≡ true) × (n ≤ a)) ⊎ ((leb n a ≡ false) × (a < n)) → any_to node (waiting t) ≡ false
    go (inr x) = before a t x.1 e
    go (inl x) =
        let y = x.1 in
        let same : n ≡ a = omega (arith, y, less) in
        subst (λ (w : Seat Node C). any_to node (waiting w) ≡ false) (some_is s t (sym is ∙ (ap (slice_get xs) same ∙ e))) none

module _ {C : Type 0} (puts gives : C → List Letter) (pair : C → C → Type 0) where
  -- where no letter came a look left a seat in calm
  calm_took : (known : C → ℕ) (source : ℕ) (s t : Seat Node C) → Took puts gives pair known source None s t → SeatCalm puts gives pair s t
  calm_took known source s t k = record {
    same = k.none refl;
    side = record { put_same = k.put_same; given_same = λ m. k.step.into m ∙ sym (if_none (m == t.source) (towards gives s.side m)); side = k.step.side };
  }

  -- ---- the links into one seat

  module _ (known : C → ℕ) where
    -- those from nodes below n were looked at
    pub record LookedTo (n : ℕ) (s t : Seat Node C) : Type 0 where
      pub step : Step puts gives pair None s t
      pub calm : SeatCalm puts gives pair s t
      pub none : (m : ℕ) → m < n → knows known s.side m ≡ 0
      pub others : (m : ℕ) → n ≤ m → carrier_to t.side m ≡ carrier_to s.side m

    pub looked_to_none : (s : Seat Node C) → LookedTo 0 s s
    looked_to_none s = record { step = step_none puts gives pair s; calm = seat_same puts gives pair s; none = λ m less. absurd (omega (arith, less)); others = λ m less. refl }

    module _ (n : ℕ) (s t u : Seat Node C) (before : LookedTo n s t) where
      pub looked_to_more : Took puts gives pair known n None t u → LookedTo (n + 1) s u
      looked_to_more k = record {
        step = step_then puts gives pair None s t u before.step k.step;
        calm = seat_then puts gives pair s t u before.calm (calm_took known n t u k);
        none = λ m less. go m less (leb_tells n m);
        others = λ m least. k.tells.others m (λ e. absurd (omega (arith, least, e))) ∙ before.others m (omega (arith, least));
      }
        where
          go : (m : ℕ) → m < n + 1 → ((leb n m ≡ true) × (n ≤ m)) ⊎ ((leb n m ≡ false) × (m < n)) → knows known s.side m ≡ 0
          go m less (inr x) = before.none m x.1
          go m less (inl x) =
              let y = x.1 in
              let same : n ≡ m = omega (arith, y, less) in
              subst (λ (i : ℕ). knows known s.side i ≡ 0) same (ap (count_of known) (sym (before.others n (omega arith))) ∙ k.tells.none refl)

      pub took_some : (l : Letter) → (nodes : ℕ) → Took puts gives pair known n (Some l) t u → TookAny puts gives known pair nodes (Some l) s u
      took_some l nodes k = record {
        step = step_then puts gives pair (Some l) s t u before.step k.step;
        put_same = λ m. k.put_same m ∙ before.calm.side.put_same m;
        waits_same = k.waits_same ∙ ap (λ (w : Seat Node C). waiting w) before.calm.same;
        calm = λ e. absurd cc;
        none = λ e. absurd cc;
      }

    pub took_none_any : (nodes : ℕ) (s t : Seat Node C) → LookedTo nodes s t → TookAny puts gives known pair nodes None s t
    took_none_any nodes s t k = record {
      step = k.step;
      put_same = k.calm.side.put_same;
      waits_same = ap (λ (w : Seat Node C). waiting w) k.calm.same;
      calm = λ e. k.calm;
      none = λ e. k.none;
    }

  -- ---- whether node `at` is awaited

  filled_calm : (s t : Seat Node C) → SeatCalm puts gives pair s t → IsFilled t → IsFilled s
  filled_calm s t c f = subst (λ (w : Seat Node C). IsFilled w) c.same f

  calm_filled : (s t : Seat Node C) → SeatCalm puts gives pair s t → IsFilled s → IsFilled t
  calm_filled s t c f = subst (λ (w : Seat Node C). IsFilled w) (sym c.same) f

  pub none_calm : (nodes at : ℕ) (xs ys : List (Seat Node C)) → Calm puts gives pair xs ys → NoneComes puts gives pair nodes at xs → NoneComes puts gives pair nodes at ys
  none_calm nodes at xs ys c n s e f a t less g =
      let p = c.each at s e in
      let q = c.each a t g in
      let r = n p.0 p.1 (filled_calm p.0 s p.2 f) a q.0 less q.1 in
      (p.2.side.given_same a ∙ (r.0 ∙ sym (q.2.side.put_same at)), ap (λ (w : Seat Node C). any_to at (waiting w)) q.2.same ∙ r.1)

  -- the journal has room
  pub not_awaited : (nodes at : ℕ) (xs : List (Seat Node C)) (s : Seat Node C) → slice_get xs at ≡ Some s → (IsFilled s → ⊥) → AwaitedAs puts gives pair false nodes at xs xs
  not_awaited nodes at xs s is free = (calm_none puts gives pair xs, λ u e f. absurd (free (subst (λ (w : Seat Node C). IsFilled w) (some_is u s (sym e ∙ is)) f)))

  full_here : (at : ℕ) (xs : List (Seat Node C)) (s : Seat Node C) → slice_get xs at ≡ Some s → IsFilled s → (u : Seat Node C) → slice_get xs at ≡ Some u → IsFilled u
  full_here at xs s is f u e = subst (λ (w : Seat Node C). IsFilled w) (some_is s u (sym is ∙ e)) f

  -- a letter waits
  pub awaited_out : (nodes at : ℕ) (xs : List (Seat Node C)) (s : Seat Node C) → slice_get xs at ≡ Some s → IsFilled s → OneWaits puts gives pair nodes at xs → AwaitedAs puts gives pair true nodes at xs xs
  awaited_out nodes at xs s is full one = record { full = full_here at xs s is full; mid = xs; calm = calm_none puts gives pair xs; comes = inl (refl, one) }

  all_given : (given rest put : List Letter) (n : ℕ) → given ++ rest ≡ put → length given + n ≡ length put → n ≡ 0 → given ≡ put
  all_given given [] put n e count none = sym (append-nil given) ∙ e
  all_given given (x ∷ rest) put n e count none = absurd (omega (arith, ap length e, length-append given (x ∷ rest), count, none))

  module _ (known : C → ℕ) (nodes at : ℕ) (xs ys : List (Seat Node C)) (s t : Seat Node C) (x : Seat Node C) (x_is : slice_get xs at ≡ Some x) (full : IsFilled x) (met : (none : Bool) × RowMet puts gives pair none at nodes xs ys) (counted : RowCounted puts gives known at nodes ys) (s_is : slice_get ys at ≡ Some s) where
    s_full : IsFilled s
    s_full = let p = met.1.calm.each at s s_is in calm_filled p.0 s p.2 (full_here at xs x x_is full p.0 p.1)

    -- one was taken
    pub awaited_in : (l : Letter) → TookAny puts gives known pair nodes (Some l) s t → AwaitedAs puts gives pair true nodes at xs (slice_set ys at t)
    awaited_in l k = record {
      full = λ u e. subst (λ (w : Seat Node C). IsFilled w) (set_here ys at s t s_is u e) (subst (λ (w : Node). length w.journal.events ≡ w.journal.room) (sym k.step.node) s_full);
      mid = ys;
      calm = met.1.calm;
      comes = inr (record { letter = l; s = s; t = t; is = s_is; now = refl; step = k.step; put_same = k.put_same; waits_same = k.waits_same });
    }

    -- none lies there
    pub awaited_not : TookAny puts gives known pair nodes None s t → ((a : ℕ) (u : Seat Node C) → a < nodes → slice_get xs a ≡ Some u → any_to at (waiting u) ≡ false) → AwaitedAs puts gives pair false nodes at xs (slice_set ys at t)
    awaited_not k none = (calm_then puts gives pair xs ys (slice_set ys at t) met.1.calm after, none_calm nodes at ys (slice_set ys at t) after here)
      where
        after : Calm puts gives pair ys (slice_set ys at t)
        after = calm_set puts gives pair ys at s t s_is (k.calm refl)

        here : NoneComes puts gives pair nodes at ys
        here u e f a v less g =
            let same : s ≡ u = some_is s u (sym s_is ∙ e) in
            let front = (met.1.both a less).back u v e g in
            let was = met.1.calm.each a v g in
            let zero_known : knows known u.side a ≡ 0 = subst (λ (w : Seat Node C). knows known w.side a ≡ 0) same (k.none refl a less) in (
              all_given (towards gives u.side a) front.order.0 (towards puts v.side at) (knows known u.side a) front.order.1 (counted a u v less e g) zero_known,
              ap (λ (w : Seat Node C). any_to at (waiting w)) was.2.same ∙ none a was.0 less was.1,
            )

    -- by what came
    pub awaited_by : (came : Option Letter) → TookAny puts gives known pair nodes came s t → ((a : ℕ) (u : Seat Node C) → a < nodes → slice_get xs a ≡ Some u → any_to at (waiting u) ≡ false) → AwaitedAs puts gives pair (is_some came) nodes at xs (slice_set ys at t)
    awaited_by None k none = awaited_not k none
    awaited_by (Some l) k none = awaited_in l k

  -- ---- one node after another

  pub record AwaitedTo (nodes n : ℕ) (xs ys : List (Seat Node C)) : Type 0 where
    pub calm : Calm puts gives pair xs ys
    pub below : (k : ℕ) → k < n → NoneComes puts gives pair nodes k ys

  pub awaited_none : (nodes : ℕ) (xs : List (Seat Node C)) → AwaitedTo nodes 0 xs xs
  awaited_none nodes xs = record { calm = calm_none puts gives pair xs; below = λ k less. absurd (omega (arith, less)) }

  module _ (nodes n : ℕ) (xs ys zs : List (Seat Node C)) (before : AwaitedTo nodes n xs ys) where
    pub awaited_more : AwaitedAs puts gives pair false nodes n ys zs → AwaitedTo nodes (n + 1) xs zs
    awaited_more k = record { calm = calm_then puts gives pair xs ys zs before.calm k.0; below = λ i less. go i less (leb_tells n i) }
      where
        go : (i : ℕ) → i < n + 1 → ((leb n i ≡ true) × (n ≤ i)) ⊎ ((leb n i ≡ false) × (i < n)) → NoneComes puts gives pair nodes i zs
        go i less (inr x) = none_calm nodes i ys zs k.0 (before.below i x.1)
        go i less (inl x) = let y = x.1 in let same : n ≡ i = omega (arith, y, less) in subst (λ (j : ℕ). NoneComes puts gives pair nodes j zs) same k.1

    pub awaited_found : (at : ℕ) → n < at → AwaitedAs puts gives pair true nodes n ys zs → FirstAwaited puts gives pair nodes at n xs zs
    awaited_found at less k = record { least = omega (arith, less); mid = ys; calm = before.calm; below = before.below; found = inr (less, k) }

  pub awaited_all : (nodes at : ℕ) (xs ys : List (Seat Node C)) → AwaitedTo nodes at xs ys → FirstAwaited puts gives pair nodes at at xs ys
  awaited_all nodes at xs ys k = record { least = omega arith; mid = ys; calm = k.calm; below = k.below; found = inl (refl, refl) }

  -- the carriers are the same
  sides_awaited : (nodes at : ℕ) (xs ys : List (Seat Node C)) → IsAwaited puts gives pair nodes at xs ys → SameSides pair xs ys
  sides_awaited nodes at xs ys k = go k.comes
    where
      before : SameSides pair xs k.mid
      before = sides_steps puts gives pair xs k.mid (steps_calm puts gives pair xs k.mid k.calm)

      go : ((ys ≡ k.mid) × OneWaits puts gives pair nodes at k.mid) ⊎ OneTaken puts gives pair at k.mid ys → SameSides pair xs ys
      go (inl x) = subst (λ (w : List (Seat Node C)). SameSides pair xs w) (sym x.0) before
      go (inr x) = sides_then pair xs k.mid ys before (subst (λ (w : List (Seat Node C)). SameSides pair k.mid w) (sym x.now) (sides_set pair k.mid at x.s x.t x.is x.step.side))

  pub sides_found : (nodes at n : ℕ) (xs ys : List (Seat Node C)) → FirstAwaited puts gives pair nodes at n xs ys → SameSides pair xs ys
  sides_found nodes at n xs ys k = go k.found
    where
      before : SameSides pair xs k.mid
      before = sides_steps puts gives pair xs k.mid (steps_calm puts gives pair xs k.mid k.calm)

      go : ((n ≡ at) × (ys ≡ k.mid)) ⊎ ((n < at) × IsAwaited puts gives pair nodes n k.mid ys) → SameSides pair xs ys
      go (inl x) = subst (λ (w : List (Seat Node C)). SameSides pair xs w) (sym x.1) before
      go (inr x) = sides_then pair xs k.mid ys before (sides_awaited nodes n k.mid ys x.1)
