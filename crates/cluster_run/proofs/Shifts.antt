-- A shift of all seats, from the shift of each.
use Rattle.std.proofs.Common.{◌≡◌, ◌≢◌, ℕ, ◌+◌, ◌<◌, ◌≤◌, ◌⊎◌, inl, inr, true, false, Some, List, refl, sym, ap, ◌∙◌, subst, arith, length, get_or, slice_get, slice_index_or}
use Rattle.std.proofs.lemmas.Bool.Decides.{leb_tells}
use lib.Dec.{leb}
use Rattle.call_forward.specs.declared.letter.Letter.{Letter}
use Rattle.node_machine.specs.Plan.{Plan}
use Rattle.node_machine.specs.Machine.{Policy}
use Rattle.node_core.specs.declared.node.Node.{Node}
use Rattle.node_core.specs.Locals.{local}
use Rattle.cluster_run.specs.declared.pass.Passed.{Passed}
use Rattle.cluster_run.specs.declared.pass.Passed.TheVariants as passed
use Rattle.cluster_run.specs.declared.seat.Seat.{Seat}
use Rattle.cluster_run.specs.declared.seat.Rest.{Rest}
use Rattle.cluster_run.specs.declared.seat.Rest.TheVariants as rested
use Rattle.cluster_run.specs.Sides.{SameSide}
use Rattle.cluster_run.specs.Standing.{Calm}
use Rattle.cluster_run.specs.Seats.{Found, Ready, Filled, Turns, Went}
use Rattle.cluster_run.specs.Passing.{AllReady, SomeFull, SameSides, StayReady, Passes, PassedAs}
use Rattle.cluster_run.specs.Shifting.{SettledBy, Shifted, NoneStopped, FirstStopped}
use Rattle.cluster_run.proofs.Places.{side_same, side_then}
use Rattle.cluster_run.proofs.Calming.{below, or_got, some_is}
use Rattle.cluster_run.proofs.Passing.{sides_then, sides_steps, steps_calm, stay_steps}

module _ (policy : Policy) {C : Type 0} (puts gives : C → List Letter) (pair : C → C → Type 0) where
  -- ---- one seat

  -- so far the seat went from turn to turn
  pub record Works (old new : Seat Node C) : Type 0 where
    pub ready : (plan : Plan) (room n : ℕ) → Ready policy plan puts gives room n old → Ready policy plan puts gives room n new
    pub side : SameSide pair old.side new.side

  pub works_none : (s : Seat Node C) → Works s s
  works_none s = record { ready = λ plan room n r. r; side = side_same pair s.side }

  ready_settled : (a : Rest) (plan : Plan) (room n : ℕ) (s : Seat Node C) → s.rest ≡ a → Ready policy plan puts gives room n s → SettledBy policy puts gives a plan room n s
  ready_settled rested.Busy plan room n s e r = r
  ready_settled rested.Idle plan room n s e r = r
  ready_settled rested.Over plan room n s e r = r
  ready_settled rested.Full plan room n s e r = absurd (subst (λ (a : Rest). Found policy plan n a (local policy plan s.node)) e r.found)

  -- the shift ends between two turns
  pub shifted_works : (s t : Seat Node C) → Works s t → Shifted policy puts gives pair s t
  shifted_works s t w = record { settles = λ plan room n r. ready_settled t.rest plan room n t refl (w.ready plan room n r); side = w.side }

  module _ (s t u : Seat Node C) (before : Works s t) where
    -- one turn more
    pub works_more : (a : Rest) → a ≢ rested.Full → Went policy puts gives pair a t u → Works s u
    works_more a apart w = record { ready = by a apart w.turns; side = side_then pair s.side t.side u.side before.side w.side }
      where
        by : (b : Rest) → b ≢ rested.Full → Turns policy puts gives b t u → (plan : Plan) (room n : ℕ) → Ready policy plan puts gives room n s → Ready policy plan puts gives room n u
        by rested.Busy off k = λ plan room n r. k plan room n (before.ready plan room n r)
        by rested.Idle off k = λ plan room n r. k plan room n (before.ready plan room n r)
        by rested.Over off k = λ plan room n r. k plan room n (before.ready plan room n r)
        by rested.Full off k = absurd (off refl)

    -- or a turn that finds the journal full
    pub shifted_full : (a : Rest) → a ≡ rested.Full → Went policy puts gives pair a t u → Shifted policy puts gives pair s u
    shifted_full a full w = record {
      settles = λ plan room n r. subst (λ (b : Rest). SettledBy policy puts gives b plan room n u) (sym (w.rest ∙ full)) (subst (λ (b : Rest). Turns policy puts gives b t u) full w.turns plan room n (before.ready plan room n r));
      side = side_then pair s.side t.side u.side before.side w.side;
    }

  -- ---- all seats

  pub record AllShifted (xs ys : List (Seat Node C)) : Type 0 where
    pub count : length ys ≡ length xs
    pub each : (k : ℕ) (t : Seat Node C) → slice_get ys k ≡ Some t → (s : Seat Node C) × (slice_get xs k ≡ Some s) × Shifted policy puts gives pair s t

  index_got : {A : Type 0} (xs : List A) (k : ℕ) (d x : A) → slice_get xs k ≡ Some x → slice_index_or xs k d ≡ x
  index_got xs k d x e = some_is (slice_index_or xs k d) x (sym (or_got xs k d (below xs k x e)) ∙ e)

  pub all_shifted : (xs ys : List (Seat Node C)) → length ys ≡ length xs → ((k : ℕ) (s : Seat Node C) → slice_get ys k ≡ Some s → s.failed ≡ false)
      → ((k : ℕ) (d : Seat Node C) → k < length xs → (slice_index_or ys k d).failed ≡ false → Shifted policy puts gives pair (slice_index_or xs k d) (slice_index_or ys k d)) → AllShifted xs ys
  all_shifted xs ys count well each = record { count = count; each = by }
    where
      by : (k : ℕ) (t : Seat Node C) → slice_get ys k ≡ Some t → (s : Seat Node C) × (slice_get xs k ≡ Some s) × Shifted policy puts gives pair s t
      by k t e =
          let b = below ys k t e in
          let less : k < length xs = omega (arith, b, count) in
          let here : slice_index_or ys k t ≡ t = index_got ys k t t e in (
            slice_index_or xs k t,
            or_got xs k t less,
            subst (λ (w : Seat Node C). Shifted policy puts gives pair (slice_index_or xs k t) w) here (each k t less (ap (λ (w : Seat Node C). w.failed) here ∙ well k t e)),
          )

  settled_ready : (a : Rest) (plan : Plan) (room n : ℕ) (s : Seat Node C) → a ≢ rested.Full → SettledBy policy puts gives a plan room n s → Ready policy plan puts gives room n s
  settled_ready rested.Busy plan room n s off r = r
  settled_ready rested.Idle plan room n s off r = r
  settled_ready rested.Over plan room n s off r = r
  settled_ready rested.Full plan room n s off r = absurd (off refl)

  settled_either : (a : Rest) (plan : Plan) (room n : ℕ) (s : Seat Node C) → SettledBy policy puts gives a plan room n s → Ready policy plan puts gives room n s ⊎ Filled policy plan puts gives room n s
  settled_either rested.Busy plan room n s r = inl r
  settled_either rested.Idle plan room n s r = inl r
  settled_either rested.Over plan room n s r = inl r
  settled_either rested.Full plan room n s f = inr f

  module _ (xs ys : List (Seat Node C)) (all : AllShifted xs ys) where
    settled : (plan : Plan) (room : ℕ) → AllReady policy puts gives plan room xs → (k : ℕ) (t : Seat Node C) → slice_get ys k ≡ Some t → SettledBy policy puts gives t.rest plan room k t
    settled plan room r k t e = let p = all.each k t e in p.2.settles plan room k (r k p.0 p.1)

    shifted_sides : SameSides pair xs ys
    shifted_sides = record { count = all.count; each = λ k t e. let p = all.each k t e in (p.0, p.1, p.2.side) }

    pub shift_passed : (nodes : ℕ) → nodes ≡ length xs → (how : Passed) → FirstStopped nodes how ys → PassedAs policy puts gives pair nodes how xs ys
    shift_passed nodes same passed.Whole none = record {
      passes = λ plan room r k t e. let b = below ys k t e in let c = all.count in settled_ready t.rest plan room k t (none k t (omega (arith, b, c, same)) e) (settled plan room r k t e);
      sides = shifted_sides;
    }
    shift_passed nodes same (passed.Full at) first = record {
      passes = (
        first.0,
        λ plan room r. record {
          below = λ k t less e. settled_ready t.rest plan room k t (first.2 k t less e) (settled plan room r k t e);
          full = λ t e. subst (λ (a : Rest). SettledBy policy puts gives a plan room at t) (first.1 t e) (settled plan room r at t e);
          above = λ k t more e. settled_either t.rest plan room k t (settled plan room r k t e);
        },
      );
      sides = shifted_sides;
    }

  -- the carriers met before
  pub passed_met : (nodes : ℕ) (how : Passed) (xs ys zs : List (Seat Node C)) → Calm puts gives pair xs ys → PassedAs policy puts gives pair nodes how ys zs → PassedAs policy puts gives pair nodes how xs zs
  passed_met nodes how xs ys zs calm p = record { passes = by how p.passes; sides = sides_then pair xs ys zs (sides_steps puts gives pair xs ys (steps_calm puts gives pair xs ys calm)) p.sides }
    where
      stays : StayReady policy puts gives xs ys
      stays = stay_steps puts gives pair policy xs ys (steps_calm puts gives pair xs ys calm)

      by : (h : Passed) → Passes policy puts gives nodes h ys zs → Passes policy puts gives nodes h xs zs
      by passed.Whole k = λ plan room r. k plan room (stays plan room r)
      by (passed.Full at) k = (k.0, λ plan room r. k.1 plan room (stays plan room r))

-- ---- the search for the first that stopped

pub none_stopped : {C : Type 0} (xs : List (Seat Node C)) → NoneStopped 0 xs
none_stopped xs k s less e = absurd (omega (arith, less))

pub none_stopped_more : {C : Type 0} (n : ℕ) (xs : List (Seat Node C)) (s : Seat Node C) → slice_get xs n ≡ Some s → s.rest ≢ rested.Full → NoneStopped n xs → NoneStopped (n + 1) xs
none_stopped_more {C} n xs s is off before k t less e = go (leb_tells n k)
  where
    go : ((leb n k ≡ true) × (n ≤ k)) ⊎ ((leb n k ≡ false) × (k < n)) → t.rest ≢ rested.Full
    go (inr x) = before k t x.1 e
    go (inl x) =
        let y = x.1 in
        let same : n ≡ k = omega (arith, y, less) in
        subst (λ (w : Seat Node C). w.rest ≢ rested.Full) (some_is s t (sym is ∙ (ap (slice_get xs) same ∙ e))) off
