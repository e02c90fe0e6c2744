-- A run of seats, from its passes to its end.
use Rattle.std.proofs.Common.{◌≡◌, ◌≢◌, ℕ, ◌+◌, ◌<◌, ◌≤◌, ◌==◌, Bool, true, false, Option, Some, None, List, refl, sym, ap, ◌∙◌, subst, arith, length, map, slice_get, slice_set}
use Rattle.std.proofs.lemmas.Bool.{eqb-true, eq-eqb}
use Rattle.call_forward.specs.declared.letter.Letter.{Letter}
use Rattle.node_machine.specs.Plan.{Plan, IsPlan}
use Rattle.node_machine.specs.Machine.{Policy}
use Rattle.node_machine.specs.Policy.{IsFitting}
use Rattle.node_core.specs.declared.node.Node.{Node}
use Rattle.cluster_run.specs.declared.seat.Seat.{Seat}
use Rattle.cluster_run.specs.declared.seat.Rest.{Rest}
use Rattle.cluster_run.specs.declared.seat.Rest.TheVariants as rested
use Rattle.cluster_run.specs.declared.over.OverWhy.{OverWhy}
use Rattle.cluster_run.specs.declared.over.OverWhy.TheVariants as why
use Rattle.cluster_run.specs.declared.pass.Passed.{Passed}
use Rattle.cluster_run.specs.declared.pass.Passed.TheVariants as passed
use Rattle.cluster_run.specs.Standing.{BothFront, Calm, AllMet}
use Rattle.cluster_run.specs.Seats.{Step}
use Rattle.cluster_run.specs.Passing.{AreWithin, SameSides, AllStep, AllReady, StayReady, Passes, PassedAs, IsAtRest, AreStill, LookedAt, LookedAll, Stilled}
use Rattle.cluster_run.specs.Filling.{FirstFound, FirstAwaited, AreAsked}
use Rattle.cluster_run.specs.Over.{Ran}
use Rattle.cluster_run.specs.Running.{why_of, AreOver, AreFull, IsWhy, IsWithin, OverAfter}
use Rattle.cluster_run.proofs.Calming.{calm_then}
use Rattle.cluster_run.proofs.Passing.{sides_then, sides_steps, within_sides, stay_steps, steps_none, steps_then, steps_set, steps_calm, set_here, set_off}
use Rattle.cluster_run.proofs.Stilled.{ran_still}
use Rattle.cluster_run.proofs.Stopping.{IsLeast, ran_full}
use Rattle.cluster_run.proofs.Leading.{Led, led, led_calm, stop_hands, stop_off, stopped}
use Rattle.cluster_run.proofs.Awaited.{sides_found}

-- ---- whether nothing is left to be done

module _ {C : Type 0} (puts gives : C → List Letter) (pair : C → C → Type 0) where
  pub looked_at : (at : ℕ) (rests : Bool) (xs : List (Seat Node C)) (s t : Seat Node C) → slice_get xs at ≡ Some s → Step puts gives pair None s t → (rests ≡ true → IsAtRest t) → LookedAt puts gives pair at rests xs (slice_set xs at t)
  looked_at at rests xs s t is step rest = record {
    steps = steps_set puts gives pair xs at s t is step;
    off = λ k u apart e. set_off xs at s t is k u apart e;
    here = λ e u f. subst (λ (w : Seat Node C). IsAtRest w) (set_here xs at s t is u f) (rest e);
  }

  pub looked_none : (xs : List (Seat Node C)) → LookedAll puts gives pair 0 true xs xs
  looked_none xs = record { steps = steps_none puts gives pair xs; each = λ e k s less. absurd (omega (arith, less)) }

  module _ (n : ℕ) (xs ys zs : List (Seat Node C)) (before : LookedAll puts gives pair n true xs ys) where
    pub looked_more : (rests : Bool) → rests ≡ true → LookedAt puts gives pair n rests ys zs → LookedAll puts gives pair (n + 1) true xs zs
    looked_more rests r k = record { steps = steps_then puts gives pair xs ys zs before.steps k.steps; each = λ e i s less is. go i s less is (i == n) refl }
      where
        go : (i : ℕ) (s : Seat Node C) → i < n + 1 → slice_get zs i ≡ Some s → (b : Bool) → (i == n) ≡ b → IsAtRest s
        go i s less is true q = k.here r s (ap (slice_get zs) (sym (eqb-true i n q)) ∙ is)
        go i s less is false q =
            let apart : i ≢ n = (λ e. let z : true ≡ false = sym (eq-eqb i n e) ∙ q in absurd cc) in
            before.each refl i s (omega (arith, less, apart)) (k.off i s apart is)

    pub looked_stop : (nodes : ℕ) (rests : Bool) → LookedAt puts gives pair n rests ys zs → LookedAll puts gives pair nodes false xs zs
    looked_stop nodes rests k = record { steps = steps_then puts gives pair xs ys zs before.steps k.steps; each = λ e. absurd cc }

  pub not_still : (nodes : ℕ) (rests : Bool) (xs ys : List (Seat Node C)) → LookedAll puts gives pair nodes rests xs ys → Stilled puts gives pair nodes false xs ys
  not_still nodes rests xs ys k = record { steps = k.steps; are = λ e. absurd cc }

  pub stilled : (nodes : ℕ) (rests none : Bool) (xs ys zs : List (Seat Node C)) → rests ≡ true → LookedAll puts gives pair nodes rests xs ys → AllMet puts gives pair none nodes nodes ys zs → Stilled puts gives pair nodes none xs zs
  stilled nodes rests none xs ys zs q k m = record {
    steps = steps_then puts gives pair xs ys zs k.steps (steps_calm puts gives pair ys zs m.calm);
    are = λ e. record {
      each = λ i s less is. let p = m.calm.each i s is in let r = k.each q i p.0 less p.1 in subst (λ (w : Seat Node C). IsAtRest w) (sym p.2.same) (record { rest = r.rest; none = r.none });
      links = λ a b a_less b_less. subst (λ (w : Bool). BothFront puts gives pair w a b zs) e (m.both a b a_less b_less);
    };
  }

-- ---- the run

module _ (policy : Policy) {C : Type 0} (puts gives : C → List Letter) (pair : C → C → Type 0) where
  pub passed_then : (nodes : ℕ) (how : Passed) (xs ys zs : List (Seat Node C)) → PassedAs policy puts gives pair nodes passed.Whole xs ys → PassedAs policy puts gives pair nodes how ys zs → PassedAs policy puts gives pair nodes how xs zs
  passed_then nodes how xs ys zs a b = record { passes = by how b.passes; sides = sides_then pair xs ys zs a.sides b.sides }
    where
      by : (h : Passed) → Passes policy puts gives nodes h ys zs → Passes policy puts gives nodes h xs zs
      by passed.Whole p = λ plan room r. p plan room (a.passes plan room r)
      by (passed.Full at) p = (p.0, λ plan room r. p.1 plan room (a.passes plan room r))

  pub passed_still : (nodes : ℕ) (still : Bool) (xs ys zs : List (Seat Node C)) → PassedAs policy puts gives pair nodes passed.Whole xs ys → Stilled puts gives pair nodes still ys zs → PassedAs policy puts gives pair nodes passed.Whole xs zs
  passed_still nodes still xs ys zs a k = record { passes = λ plan room r. stay_steps puts gives pair policy ys zs k.steps plan room (a.passes plan room r); sides = sides_then pair xs ys zs a.sides (sides_steps puts gives pair ys zs k.steps) }

  -- nothing was left to be done
  pub over_still : (nodes : ℕ) (result : OverWhy) (xs ys zs : List (Seat Node C)) → nodes ≡ length xs → PassedAs policy puts gives pair nodes passed.Whole xs ys → Stilled puts gives pair nodes true ys zs → IsWhy result zs → AreOver policy puts gives result xs zs
  over_still nodes result xs ys zs same passed still why_is plan room is_plan fit count most within ready =
      let sides : SameSides pair xs zs = sides_then pair xs ys zs passed.sides (sides_steps puts gives pair ys zs still.steps) in
      let n : nodes ≡ plan.nodes = same ∙ count in
      let now_ready : AllReady policy puts gives plan room zs = stay_steps puts gives pair policy ys zs still.steps plan room (passed.passes plan room ready) in
      subst (λ (w : OverWhy). Ran policy plan room w (map (λ (s : Seat Node C). s.node) zs)) (sym why_is.why_is)
      (ran_still policy fit plan is_plan puts gives pair zs (sides.count ∙ count) (let c = sides.count in omega (arith, c, most)) (within_sides pair plan.nodes xs zs sides within) room now_ready
      (subst (λ (w : ℕ). AreStill puts gives pair w zs) n (still.are refl)) why_is.home why_is.is)

  -- a journal was full
  pub over_full : (nodes at : ℕ) (result : OverWhy) (xs ys zs : List (Seat Node C)) → PassedAs policy puts gives pair nodes (passed.Full at) xs ys → AreFull policy puts gives at result ys zs → AreOver policy puts gives result xs zs
  over_full nodes at result xs ys zs passed full plan room is_plan fit count most within ready =
      full plan room is_plan fit (passed.sides.count ∙ count) (let c = passed.sides.count in omega (arith, c, most)) (within_sides pair plan.nodes xs ys passed.sides within) (passed.passes.1 plan room ready)

  pub full_led : (nodes at first r : ℕ) (none : Bool) (xs ys zs fs : List (Seat Node C)) → nodes ≡ length xs → at < length xs → SameSides pair xs ys → FirstFound policy puts gives at first xs ys → FirstAwaited puts gives pair nodes first r ys zs → AllMet puts gives pair none nodes nodes zs fs
      → AreFull policy puts gives at (why.Full r) xs fs
  full_led nodes at first r none xs ys zs fs same below sides found awaited met plan room is_plan fit count most within one =
      let n : nodes ≡ plan.nodes = same ∙ count in
      let f = found.1 plan room (stop_hands policy plan puts gives pair room at xs one) (stopped policy plan puts gives pair room at xs one) in
      let off : (k : ℕ) → k < first → stop_hands policy plan puts gives pair room at xs one k ≡ None = λ k less. stop_off policy plan puts gives pair room at xs one k (let o = found.0 in omega (arith, less, o)) in
      let first_below : first < length ys = (let c = sides.count in let o = found.0 in omega (arith, c, o, below)) in
      let l : Led policy plan puts gives pair nodes room r fs = led_calm policy plan puts gives pair nodes room r zs fs met.calm (led policy plan puts gives pair nodes room (stop_hands policy plan puts gives pair room at xs one) first r ys zs first_below f.0 off awaited) in
      let all : SameSides pair xs fs = sides_then pair xs ys fs sides (sides_then pair ys zs fs (sides_found puts gives pair nodes first r ys zs awaited) (sides_steps puts gives pair zs fs (steps_calm puts gives pair zs fs met.calm))) in
      ran_full policy fit plan is_plan puts gives pair fs (all.count ∙ count) (let c = all.count in omega (arith, c, most)) (within_sides pair plan.nodes xs fs all within) room l.hands r
      (subst (λ (w : ℕ). IsLeast policy plan puts gives pair w room l.hands r fs) n l.least) none
      (λ a b a_less b_less. met.both a b (omega (arith, n, a_less)) (omega (arith, n, b_less)))

  -- ---- after a pass or a shift

  pub within_passed : (nodes : ℕ) (how : Passed) (xs ys : List (Seat Node C)) → PassedAs policy puts gives pair nodes how xs ys → IsWithin nodes how
  within_passed nodes passed.Whole xs ys p = tt
  within_passed nodes (passed.Full at) xs ys p = p.passes.0

  module _ (nodes : ℕ) (how : Passed) (xs ys zs us : List (Seat Node C)) (before : PassedAs policy puts gives pair nodes passed.Whole xs ys) (now : PassedAs policy puts gives pair nodes how ys zs) where
    pub over_then : (why : OverWhy) → nodes ≡ length xs → OverAfter policy puts gives pair nodes how (Some why) zs us → AreOver policy puts gives why xs us
    over_then why same over = by how (passed_then nodes how xs ys zs before now) over
      where
        by : (h : Passed) → PassedAs policy puts gives pair nodes h xs zs → OverAfter policy puts gives pair nodes h (Some why) zs us → AreOver policy puts gives why xs us
        by passed.Whole p o = over_still nodes why xs zs us same p o.0 o.1
        by (passed.Full at) p o = over_full nodes at why xs zs us p o

    pub goes_on : OverAfter policy puts gives pair nodes how None zs us → PassedAs policy puts gives pair nodes passed.Whole xs us
    goes_on over = by how (passed_then nodes how xs ys zs before now) over
      where
        by : (h : Passed) → PassedAs policy puts gives pair nodes h xs zs → OverAfter policy puts gives pair nodes h None zs us → PassedAs policy puts gives pair nodes passed.Whole xs us
        by passed.Whole p o = record { passes = λ plan room r. stay_steps puts gives pair policy zs us o plan room (p.passes plan room r); sides = sides_then pair xs zs us p.sides (sides_steps puts gives pair zs us o) }
        by (passed.Full at) p o = absurd o
