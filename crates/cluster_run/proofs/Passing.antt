-- All seats, while one of them makes a round or letters go out.
use Rattle.std.proofs.Common.{◌≡◌, ◌≢◌, ℕ, ◌<◌, ◌==◌, ◌++◌, ◌⊎◌, inl, inr, Bool, true, false, Option, Some, None, List, [], refl, sym, ap, ◌∙◌, subst, arith, length, slice_get, slice_set}
use Rattle.std.specs.Prelude.{option_to_list}
use Rattle.std.proofs.lemmas.Bool.{eqb-true, eq-eqb}
use Rattle.call_forward.specs.declared.letter.Letter.{Letter}
use Rattle.node_links.specs.Sides.{carrier_to}
use Rattle.node_machine.specs.Plan.{Plan}
use Rattle.node_machine.specs.Machine.{Policy}
use Rattle.node_core.specs.declared.node.Node.{Node}
use Rattle.node_core.specs.Locals.{local}
use Rattle.cluster_run.specs.declared.pass.Passed.TheVariants as passed
use Rattle.cluster_run.specs.declared.seat.Seat.{Seat}
use Rattle.cluster_run.specs.declared.seat.Rest.{Rest}
use Rattle.cluster_run.specs.declared.seat.Rest.TheVariants as rested
use Rattle.cluster_run.specs.Sides.{SameCarrier, SameSide, towards}
use Rattle.cluster_run.specs.Standing.{AreLinked, SeatCalm, Calm}
use Rattle.cluster_run.specs.Seats.{bound, waiting, Step, Found, Ready, Filled, Went}
use Rattle.cluster_run.specs.Passing.{AreWithin, SameSides, AllStep, AllReady, StayReady, BecomeFull, TurnsAt, RoundAt, PassedAs}
use Rattle.cluster_run.proofs.Places.{side_same, side_then}
use Rattle.cluster_run.proofs.Calming.{linked_keeps, below, get_set, get_off, length_set, some_is}
use Rattle.cluster_run.proofs.Living.{lives_step}
use Rattle.cluster_run.proofs.Rounds.{if_none, step_none, step_then}

-- ---- one seat of the list is another one now

module _ {A : Type 0} (xs : List A) (at : ℕ) (x y : A) (is : slice_get xs at ≡ Some x) where
  -- R of each old one and the one that stands there now, where it is of each and itself
  pub set_each : (R : A → A → Type 0) → ((z : A) → R z z) → R x y → (k : ℕ) (z : A) → slice_get (slice_set xs at y) k ≡ Some z → (w : A) × (slice_get xs k ≡ Some w) × R w z
  set_each R same r k z e = go (k == at) refl
    where
      go : (b : Bool) → (k == at) ≡ b → (w : A) × (slice_get xs k ≡ Some w) × R w z
      go true q =
          let n : k ≡ at = eqb-true k at q in
          let s : y ≡ z = some_is y z (sym (get_set xs at y (below xs at x is)) ∙ (ap (slice_get (slice_set xs at y)) (sym n) ∙ e)) in
          (x, ap (slice_get xs) n ∙ is, subst (λ (w : A). R x w) s r)
      go false q = (z, sym (get_off xs at k y (λ n. let f : true ≡ false = sym (eq-eqb k at n) ∙ q in cc)) ∙ e, same z)

  -- P of each now, where it is of the new one, and of the old ones at other places
  pub set_all : (P : ℕ → A → Type 0) → P at y → ((k : ℕ) (z : A) → k ≢ at → slice_get xs k ≡ Some z → P k z) → (k : ℕ) (z : A) → slice_get (slice_set xs at y) k ≡ Some z → P k z
  set_all P here off k z e = go (k == at) refl
    where
      go : (b : Bool) → (k == at) ≡ b → P k z
      go true q =
          let n : k ≡ at = eqb-true k at q in
          let s : y ≡ z = some_is y z (sym (get_set xs at y (below xs at x is)) ∙ (ap (slice_get (slice_set xs at y)) (sym n) ∙ e)) in
          subst (λ (i : ℕ). P i z) (sym n) (subst (λ (w : A). P at w) s here)
      go false q = let apart : k ≢ at = (λ n. let f : true ≡ false = sym (eq-eqb k at n) ∙ q in cc) in off k z apart (sym (get_off xs at k y apart) ∙ e)

  pub set_here : (z : A) → slice_get (slice_set xs at y) at ≡ Some z → y ≡ z
  set_here z e = some_is y z (sym (get_set xs at y (below xs at x is)) ∙ e)

  pub set_off : (k : ℕ) (z : A) → k ≢ at → slice_get (slice_set xs at y) k ≡ Some z → slice_get xs k ≡ Some z
  set_off k z apart e = sym (get_off xs at k y apart) ∙ e

-- ---- the carriers stay

module _ {C : Type 0} (pair : C → C → Type 0) where
  pub sides_none : (xs : List (Seat Node C)) → SameSides pair xs xs
  sides_none xs = record { count = refl; each = λ k t e. (t, e, side_same pair t.side) }

  pub sides_then : (xs ys zs : List (Seat Node C)) → SameSides pair xs ys → SameSides pair ys zs → SameSides pair xs zs
  sides_then xs ys zs a b = record { count = b.count ∙ a.count; each = λ k u e. let q = b.each k u e in let p = a.each k q.0 q.1 in (p.0, p.1, side_then pair p.0.side q.0.side u.side p.2 q.2) }

  pub sides_set : (xs : List (Seat Node C)) (at : ℕ) (s t : Seat Node C) → slice_get xs at ≡ Some s → SameSide pair s.side t.side → SameSides pair xs (slice_set xs at t)
  sides_set xs at s t is same = record { count = length_set xs at t; each = set_each xs at s t is (λ (v w : Seat Node C). SameSide pair v.side w.side) (λ v. side_same pair v.side) same }

  pub linked_sides : (xs ys : List (Seat Node C)) → SameSides pair xs ys → AreLinked pair xs → AreLinked pair ys
  linked_sides xs ys k l a b s t e f =
      let p = k.each a s e in
      let q = k.each b t f in
      linked_keeps pair (carrier_to p.0.side b) (carrier_to q.0.side a) (carrier_to s.side b) (carrier_to t.side a) (p.2 b) (q.2 a) (l a b p.0 q.0 p.1 q.1)

  none_stays : (o p : Option C) → SameCarrier pair o p → o ≡ None → p ≡ None
  none_stays None None k e = refl
  none_stays None (Some d) k e = absurd k
  none_stays (Some c) p k e = absurd cc

  pub within_sides : (nodes : ℕ) (xs ys : List (Seat Node C)) → SameSides pair xs ys → AreWithin nodes xs → AreWithin nodes ys
  within_sides nodes xs ys k w at m t e past = let p = k.each at t e in none_stays (carrier_to p.0.side m) (carrier_to t.side m) (p.2 m) (w at m p.0 p.1 past)

-- ---- letters go out

module _ {C : Type 0} (puts gives : C → List Letter) (pair : C → C → Type 0) where
  pub steps_none : (xs : List (Seat Node C)) → AllStep puts gives pair xs xs
  steps_none xs = record { count = refl; each = λ k t e. (t, e, step_none puts gives pair t) }

  pub steps_then : (xs ys zs : List (Seat Node C)) → AllStep puts gives pair xs ys → AllStep puts gives pair ys zs → AllStep puts gives pair xs zs
  steps_then xs ys zs a b = record { count = b.count ∙ a.count; each = λ k u e. let q = b.each k u e in let p = a.each k q.0 q.1 in (p.0, p.1, step_then puts gives pair None p.0 q.0 u p.2 q.2) }

  pub steps_set : (xs : List (Seat Node C)) (at : ℕ) (s t : Seat Node C) → slice_get xs at ≡ Some s → Step puts gives pair None s t → AllStep puts gives pair xs (slice_set xs at t)
  steps_set xs at s t is k = record { count = length_set xs at t; each = set_each xs at s t is (λ (v w : Seat Node C). Step puts gives pair None v w) (λ v. step_none puts gives pair v) k }

  calm_step : (s t : Seat Node C) → SeatCalm puts gives pair s t → Step puts gives pair None s t
  calm_step s t c = record {
    out = λ m. ap (λ (w : List Letter). w ++ bound m (waiting t)) (c.side.put_same m) ∙ ap (λ (w : Seat Node C). towards puts s.side m ++ bound m (waiting w)) c.same;
    into = λ m. c.side.given_same m ∙ if_none (m == t.source) (towards gives s.side m);
    side = c.side.side;
    node = subst (λ (w : Node). w ≡ record s.node { outbox = w.outbox }) (sym (ap (λ (w : Seat Node C). w.node) c.same)) refl;
    rest = ap (λ (w : Seat Node C). w.rest) c.same;
  }

  pub steps_calm : (xs ys : List (Seat Node C)) → Calm puts gives pair xs ys → AllStep puts gives pair xs ys
  steps_calm xs ys c = record { count = c.count; each = λ k t e. let p = c.each k t e in (p.0, p.1, calm_step p.0 t p.2) }

  pub sides_steps : (xs ys : List (Seat Node C)) → AllStep puts gives pair xs ys → SameSides pair xs ys
  sides_steps xs ys k = record { count = k.count; each = λ at t e. let p = k.each at t e in (p.0, p.1, p.2.side) }

  module _ (policy : Policy) where
    pub ready_step : (plan : Plan) (room n : ℕ) (s t : Seat Node C) → Step puts gives pair None s t → Ready policy plan puts gives room n s → Ready policy plan puts gives room n t
    ready_step plan room n s t k r = record {
      lives = lives_step policy plan puts gives pair room n None s t k r.lives;
      found = subst (λ (a : Rest). Found policy plan n a (local policy plan t.node)) (sym k.rest) (subst (λ (w : Node). Found policy plan n s.rest (local policy plan w)) (sym k.node) r.found);
    }

    pub stay_steps : (xs ys : List (Seat Node C)) → AllStep puts gives pair xs ys → StayReady policy puts gives xs ys
    stay_steps xs ys k plan room r at t e = let p = k.each at t e in ready_step plan room at p.0 t p.2 (r at p.0 p.1)

    -- ---- one seat makes a round

    turns_set : (a : Rest) (xs : List (Seat Node C)) (at : ℕ) (s t : Seat Node C) → slice_get xs at ≡ Some s → Went policy puts gives pair a s t → TurnsAt policy puts gives a at xs (slice_set xs at t)
    turns_set rested.Full xs at s t is w = λ plan room r. record {
      below = λ k u less e. r k u (set_off xs at s t is k u (λ same. absurd (omega (arith, same, less))) e);
      full = λ u e. subst (λ (v : Seat Node C). Filled policy plan puts gives room at v) (set_here xs at s t is u e) (w.turns plan room at (r at s is));
      above = λ k u more e. inl (r k u (set_off xs at s t is k u (λ same. absurd (omega (arith, same, more))) e));
    }
    turns_set rested.Busy xs at s t is w = λ plan room r. set_all xs at s t is (λ k u. Ready policy plan puts gives room k u) (w.turns plan room at (r at s is)) (λ k u apart e. r k u e)
    turns_set rested.Idle xs at s t is w = λ plan room r. set_all xs at s t is (λ k u. Ready policy plan puts gives room k u) (w.turns plan room at (r at s is)) (λ k u apart e. r k u e)
    turns_set rested.Over xs at s t is w = λ plan room r. set_all xs at s t is (λ k u. Ready policy plan puts gives room k u) (w.turns plan room at (r at s is)) (λ k u apart e. r k u e)

    pub round_set : (a : Rest) (xs : List (Seat Node C)) (at : ℕ) (s t : Seat Node C) → slice_get xs at ≡ Some s → Went policy puts gives pair a s t → RoundAt policy puts gives pair a at xs (slice_set xs at t)
    round_set a xs at s t is w = record { turns = turns_set a xs at s t is w; sides = sides_set pair xs at s t is w.side }

    turns_after : (a : Rest) (at : ℕ) (xs ys zs : List (Seat Node C)) → StayReady policy puts gives xs ys → TurnsAt policy puts gives a at ys zs → TurnsAt policy puts gives a at xs zs
    turns_after rested.Full at xs ys zs k t = λ plan room r. t plan room (k plan room r)
    turns_after rested.Busy at xs ys zs k t = λ plan room r. t plan room (k plan room r)
    turns_after rested.Idle at xs ys zs k t = λ plan room r. t plan room (k plan room r)
    turns_after rested.Over at xs ys zs k t = λ plan room r. t plan room (k plan room r)

    pub round_calm : (a : Rest) (at : ℕ) (xs ys zs : List (Seat Node C)) → Calm puts gives pair xs ys → RoundAt policy puts gives pair a at ys zs → RoundAt policy puts gives pair a at xs zs
    round_calm a at xs ys zs c t =
        let k = steps_calm xs ys c in
        record { turns = turns_after a at xs ys zs (stay_steps xs ys k) t.turns; sides = sides_then pair xs ys zs (sides_steps xs ys k) t.sides }

    -- ---- a pass

    pub pass_none : (nodes : ℕ) (xs : List (Seat Node C)) → PassedAs policy puts gives pair nodes passed.Whole xs xs
    pass_none nodes xs = record { passes = λ plan room r. r; sides = sides_none pair xs }

    module _ (nodes : ℕ) (xs ys zs : List (Seat Node C)) (before : PassedAs policy puts gives pair nodes passed.Whole xs ys) where
      pub pass_full : (at : ℕ) → at < nodes → RoundAt policy puts gives pair rested.Full at ys zs → PassedAs policy puts gives pair nodes (passed.Full at) xs zs
      pass_full at less t = record { passes = (less, λ plan room r. t.turns plan room (before.passes plan room r)); sides = sides_then pair xs ys zs before.sides t.sides }

      pub pass_on : (at : ℕ) (a : Rest) → (a ≡ rested.Full → ⊥) → RoundAt policy puts gives pair a at ys zs → PassedAs policy puts gives pair nodes passed.Whole xs zs
      pass_on at rested.Full full t = absurd (full refl)
      pass_on at rested.Busy full t = record { passes = λ plan room r. t.turns plan room (before.passes plan room r); sides = sides_then pair xs ys zs before.sides t.sides }
      pass_on at rested.Idle full t = record { passes = λ plan room r. t.turns plan room (before.passes plan room r); sides = sides_then pair xs ys zs before.sides t.sides }
      pass_on at rested.Over full t = record { passes = λ plan room r. t.turns plan room (before.passes plan room r); sides = sides_then pair xs ys zs before.sides t.sides }
