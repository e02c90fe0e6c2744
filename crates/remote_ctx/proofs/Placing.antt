-- What is done at a place is done to the context of a pid.
use Rattle.std.proofs.Common.{◌≡◌, ℕ, zero, suc, ◌+◌, ◌^◌, ◌<◌, ◌≤◌, ◌==◌, cond, arith, Bool, true, false, Option, Some, None, IsSome, List, [], ◌∷◌, refl, sym, ap, ◌∙◌, subst, length, get_or, slice_get, slice_set}
use Rattle.std.specs.List.{insert, remove, All}
use Rattle.std.specs.Option.{option_map}
use Rattle.call_forward.specs.declared.state.State.TheVariants as state
use Rattle.std.proofs.lemmas.List.Elements.{All-head, All-tail}
use Rattle.call_forward.specs.declared.message.Done.{Done}
use Rattle.user_spec.specs.User.{UserState}
use Rattle.user_spec.specs.Advance.{asked_at, request_of}
use Rattle.remote_ctx.specs.declared.context.Context.{Context}
use Rattle.remote_ctx.specs.declared.context.Stance.{Stance}
use Rattle.remote_ctx.specs.declared.context.Stance.TheVariants.{Running, Waiting, Asking}
use Rattle.remote_ctx.specs.declared.quantum.Ran.{Ran}
use Rattle.remote_ctx.specs.declared.quantum.Ran.TheVariants as ran
use Rattle.remote_ctx.specs.declared.standing.Change.{Change}
use Rattle.remote_ctx.specs.Hosted.{lookup, Puts, Changes, pages_of, is_running, runs_as, IsRising, has, stands, state_of}
use Rattle.remote_ctx.specs.Kept.{pids_of, IsAt, IsGap, Notes, one_if, IsSmall, IsKept}
use Rattle.remote_ctx.specs.Acting.{standing, with_user, with_replied, GoesIn, StoodThere, WentThere, RepliedThere, RunsAs, AsksAfter, asked_of, TakenOut, fits_here, holds_for, is_waiting, is_asking}
use Rattle.remote_ctx.proofs.Lookup.{lookup_set, removed}
use Rattle.remote_ctx.proofs.Rising.{notes_same}
use Rattle.remote_ctx.proofs.Kept.{rising_apart, lookup_at, lookup_insert, gap_absent, kept_set, kept_insert, kept_remove, pages_within, room_left, found_there, at_there, at_within}

some_none : (c : Context) (o : Option Context) → o ≡ Some c → o ≡ None → ⊥
some_none c o h k = let z : Some c ≡ None = sym h ∙ k in cc

-- who is here has a place, and who has none is not here
pub here_in_gap : (cs vs : List Context) (pid i : ℕ) → cs ≡ vs → IsGap (pids_of cs) pid i → IsSome (lookup pid vs) → ⊥
here_in_gap cs vs pid i same gap here = none (lookup pid vs) (ap (lookup pid) (sym same) ∙ gap_absent cs pid i gap) here
  where
    none : (o : Option Context) → o ≡ None → IsSome o → ⊥
    none None e h = let z : false ≡ true = h in cc
    none (Some c) e h = let z : Some c ≡ None = e in cc

pub new_at_place : (cs vs : List Context) (pid i : ℕ) → cs ≡ vs → IsRising (pids_of cs) → IsAt (pids_of cs) pid i → lookup pid vs ≡ None → ⊥
new_at_place cs vs pid i same rising at none =
    let t = at_there cs pid i at in
    some_none t.0 (lookup pid cs) (lookup_at cs pid i t.0 rising at t.1).0 (ap (lookup pid) same ∙ none)

small_at : (cs : List Context) (i : ℕ) (c : Context) → All IsSmall cs → slice_get cs i ≡ Some c → pages_of c < 2 ^ 32
small_at [] i c all h = absurd (let z : None ≡ Some c = h in cc)
small_at (x ∷ cs) zero c all h = let e : x ≡ c = cc in subst (λ (k : Context). pages_of k < 2 ^ 32) e ((All-head IsSmall x cs all).few)
small_at (x ∷ cs) (suc i) c all h = small_at cs i c (All-tail IsSmall x cs all) h

pub value_there : (cs : List Context) (i : ℕ) (c : Context) → i < length cs → c ≡ get_or cs i c → slice_get cs i ≡ Some c
value_there [] i c lt h = absurd (omega arith)
value_there (x ∷ cs) zero c lt h = ap (λ (k : Context). Some k) (sym h)
value_there (x ∷ cs) (suc i) c lt h = value_there cs i c (omega arith) h

pub found_value : (cs vs : List Context) (pid i : ℕ) (c : Context) → cs ≡ vs → IsRising (pids_of cs) → IsAt (pids_of cs) pid i → c ≡ get_or cs i c → Some c ≡ lookup pid vs
found_value cs vs pid i c same rising at value = sym (ap (lookup pid) (sym same) ∙ found_there cs pid i rising at ∙ value_there cs i c (at_within cs pid i at) value)

pub absent_value : (cs vs : List Context) (pid i : ℕ) → cs ≡ vs → IsGap (pids_of cs) pid i → lookup pid vs ≡ None
absent_value cs vs pid i same gap = ap (lookup pid) (sym same) ∙ gap_absent cs pid i gap

-- ---- a context that changes

set_puts : (cs ys vs : List Context) (pid i : ℕ) (c d : Context) → cs ≡ vs → IsRising (pids_of cs) → IsAt (pids_of cs) pid i → slice_get cs i ≡ Some c → d.pid ≡ c.pid → ys ≡ slice_set cs i d → (lookup pid vs ≡ Some c) × Puts pid (Some d) vs ys
set_puts cs ys vs pid i c d same rising at h e sets =
    let l = lookup_at cs pid i c rising at h in
    subst (λ zs. (lookup pid zs ≡ Some c) × Puts pid (Some d) zs ys) same
    (l.0, record { each = λ q. ap (lookup q) sets ∙ lookup_set cs i c d (rising_apart cs rising) h e q ∙ ap (λ (p : ℕ). cond (q == p) (Some d) (lookup q cs)) l.1 })

pub stood_changes : (cs ys vs : List Context) (pid i : ℕ) (ran poked : Bool) (state : Stance) → cs ≡ vs → IsRising (pids_of cs) → IsAt (pids_of cs) pid i → StoodThere ran i poked state cs ys → Changes pid (standing poked state) vs ys
stood_changes cs ys vs pid i ran poked state same rising at r =
    let s = set_puts cs ys vs pid i r.context (standing poked state r.context) same rising at r.here refl r.sets in
    record { context = r.context; here = s.0; puts = s.1 }

pub replied_changes : (cs ys vs : List Context) (pid i : ℕ) (change : Change) (done : Done) → cs ≡ vs → IsRising (pids_of cs) → IsAt (pids_of cs) pid i → RepliedThere change i done cs ys → Changes pid (with_replied done) vs ys
replied_changes cs ys vs pid i change done same rising at r =
    let s = set_puts cs ys vs pid i r.context (with_replied done r.context) same rising at r.here refl r.sets in
    record { context = r.context; here = s.0; puts = s.1 }

goes_pid : (result : Ran) (change : Change) (quantum : ℕ) (c d : Context) → GoesIn result change quantum c d → d.pid ≡ c.pid
goes_pid result change quantum c d g = ap (λ (k : Context). k.pid) g.is

set_same : (cs : List Context) (i : ℕ) (c : Context) → slice_get cs i ≡ Some c → slice_set cs i c ≡ cs
set_same [] i c h = absurd (let z : None ≡ Some c = h in cc)
set_same (x ∷ cs) zero c h = let e : c ≡ x = cc in ap (λ (k : Context). k ∷ cs) e
set_same (x ∷ cs) (suc i) c h = ap (λ (ks : List Context). x ∷ ks) (set_same cs i c h)

-- a process that stays leaves the list
stays_same : (cs ys vs : List Context) (i : ℕ) (c d : Context) (u : UserState) → cs ≡ vs → slice_get cs i ≡ Some c → d ≡ with_user u c → u ≡ c.user → ys ≡ slice_set cs i d → ys ≡ vs
stays_same cs ys vs i c d u same h is e sets = sets ∙ ap (slice_set cs i) (is ∙ ap (λ x. with_user x c) e) ∙ set_same cs i c h ∙ same

pub went_runs : (cs ys vs : List Context) (pid i quantum : ℕ) (result : Ran) (change : Change) → cs ≡ vs → IsRising (pids_of cs) → IsAt (pids_of cs) pid i → WentThere result change i quantum cs ys → RunsAs result pid quantum vs ys
went_runs cs ys vs pid i quantum (ran.Steps k) change same rising at r =
    let g = r.goes in
    let s = set_puts cs ys vs pid i r.context r.after same rising at r.here (goes_pid (ran.Steps k) change quantum r.context r.after g) r.sets in
    record { context = r.context; user = g.user; here = s.0; went = g.ran; puts = subst (λ (d : Context). Puts pid (Some d) vs ys) g.is s.1 }
went_runs cs ys vs pid i quantum ran.AtCall change same rising at r =
    let g = r.goes in
    let s = set_puts cs ys vs pid i r.context r.after same rising at r.here (goes_pid ran.AtCall change quantum r.context r.after g) r.sets in
    record { context = r.context; here = s.0; stop = g.ran.0; same = stays_same cs ys vs i r.context r.after g.user same r.here g.is g.ran.1 r.sets }
went_runs cs ys vs pid i quantum ran.AtFault change same rising at r =
    let g = r.goes in
    let s = set_puts cs ys vs pid i r.context r.after same rising at r.here (goes_pid ran.AtFault change quantum r.context r.after g) r.sets in
    record { context = r.context; here = s.0; stop = g.ran.0; same = stays_same cs ys vs i r.context r.after g.user same r.here g.is g.ran.1 r.sets }

asked_there : (cs : List Context) (pid : ℕ) (c : Context) → lookup pid cs ≡ Some c → IsSome (request_of c.user) → IsSome (asked_of (lookup pid cs))
asked_there cs pid c h some = subst (λ o. IsSome (asked_of o)) (sym h) some

-- at a call or a fault a process asks
pub asks_after : (ys vs : List Context) (pid quantum : ℕ) (result : Ran) → RunsAs result pid quantum vs ys → AsksAfter result (asked_of (lookup pid ys))
asks_after ys vs pid quantum (ran.Steps k) r = tt
asks_after ys vs pid quantum ran.AtCall r = asked_there ys pid r.context (ap (lookup pid) r.same ∙ r.here) (subst (λ w. IsSome (asked_at w r.context.user)) (sym r.stop) refl)
asks_after ys vs pid quantum ran.AtFault r = asked_there ys pid r.context (ap (lookup pid) r.same ∙ r.here) (subst (λ w. IsSome (asked_at w r.context.user)) (sym r.stop.1) refl)

-- ---- the invariant

module _ (cs : List Context) (running : List ℕ) (capacity total : ℕ) (kept : IsKept cs running capacity total) (pid i : ℕ) (at : IsAt (pids_of cs) pid i) where
  pid_of : (c : Context) → slice_get cs i ≡ Some c → c.pid ≡ pid
  pid_of c h = (lookup_at cs pid i c kept.rising at h).1

  runs_here : (c : Context) → slice_get cs i ≡ Some c → has pid running ≡ is_running c.state
  runs_here c h = kept.runs pid ∙ ap runs_as (lookup_at cs pid i c kept.rising at h).0

  pub ran_here : (ran poked : Bool) (state : Stance) (ys : List Context) → StoodThere ran i poked state cs ys → has pid running ≡ ran
  ran_here ran poked state ys r = runs_here r.context r.here ∙ sym r.ran_is

  pub room_here : (ran poked : Bool) (state : Stance) (ys : List Context) → StoodThere ran i poked state cs ys → ran ≡ false → length running < capacity
  room_here ran poked state ys r still = room_left cs running capacity total kept i r.context r.here (sym r.ran_is ∙ still)

  pub stood_kept : (ran runs poked : Bool) (state : Stance) (ys : List Context) (new : List ℕ) (more : ℕ) → runs ≡ is_running state → StoodThere ran i poked state cs ys → IsRising new → Notes pid runs running new → length new + one_if ran ≡ length running + one_if runs → capacity ≤ more → IsKept ys new more total
  stood_kept ran runs poked state ys new more is r rising notes count le =
      let c = r.context in
      let d = standing poked state c in
      let small = small_at cs i c kept.small r.here in
      subst (λ zs. IsKept zs new more total) (sym r.sets)
      (kept_set cs running capacity total kept i c d new more total r.here refl small refl rising
      (subst (λ b. Notes c.pid b running new) is (subst (λ (p : ℕ). Notes p runs running new) (sym (pid_of c r.here)) notes))
      (subst (λ b. length new + one_if b ≡ length running + one_if (is_running state)) r.ran_is (subst (λ b. length new + one_if ran ≡ length running + one_if b) is count)) le)

  -- the process alone changes
  user_kept : (c d : Context) (sum : ℕ) → slice_get cs i ≡ Some c → d.pid ≡ c.pid → d.state ≡ c.state → pages_of d < 2 ^ 32 → sum + pages_of c ≡ total + pages_of d → IsKept (slice_set cs i d) running capacity sum
  user_kept c d sum h e s small pages =
      kept_set cs running capacity total kept i c d running capacity sum h e small pages kept.runs_rising
      (notes_same running c.pid (is_running d.state) (ap (λ (p : ℕ). has p running) (pid_of c h) ∙ runs_here c h ∙ ap is_running (sym s)))
      (ap (λ x. length running + one_if (is_running x)) (sym s)) (omega arith)

  pub replied_kept : (change : Change) (done : Done) (ys : List Context) (sum : ℕ) → RepliedThere change i done cs ys → sum + change.before ≡ total + change.after → IsKept ys running capacity sum
  replied_kept change done ys sum r pages =
      let c = r.context in
      let d = with_replied done c in
      let b = r.before in let a = r.after in let f = r.few in
      subst (λ zs. IsKept zs running capacity sum) (sym r.sets) (user_kept c d sum r.here refl refl (omega (arith, a, f)) (omega (arith, b, a, pages)))

  pub went_kept : (result : Ran) (change : Change) (quantum : ℕ) (ys : List Context) (sum : ℕ) → WentThere result change i quantum cs ys → sum + change.before ≡ total + change.after → IsKept ys running capacity sum
  went_kept result change quantum ys sum r pages =
      let g = r.goes in
      let b = g.before in let a = g.after in let f = g.few in
      subst (λ zs. IsKept zs running capacity sum) (sym r.sets)
      (user_kept r.context r.after sum r.here (ap (λ (k : Context). k.pid) g.is) (ap (λ (k : Context). k.state) g.is) (omega (arith, a, f)) (omega (arith, b, a, pages)))

  pub replied_within : (change : Change) (done : Done) (ys : List Context) → RepliedThere change i done cs ys → change.before ≤ total
  replied_within change done ys r = let w = pages_within cs running capacity total kept i r.context r.here in let b = r.before in omega (arith, w, b)

  pub went_within : (result : Ran) (change : Change) (quantum : ℕ) (ys : List Context) → WentThere result change i quantum cs ys → change.before ≤ total
  went_within result change quantum ys r = let w = pages_within cs running capacity total kept i r.context r.here in let b = r.goes.before in omega (arith, w, b)

  pub fits_there : (vs : List Context) (done : Done) → cs ≡ vs → fits_here (lookup pid vs) done ≡ true → fits_here (slice_get cs i) done ≡ true
  fits_there vs done same fits = ap (λ o. fits_here o done) (sym (found_there cs pid i kept.rising at) ∙ ap (lookup pid) same) ∙ fits

  -- ---- a context that goes

  pub gone_pid : (c : Context) → slice_get cs i ≡ Some c → has pid running ≡ is_running c.state
  gone_pid c h = runs_here c h

  pub gone_within : (c : Context) → slice_get cs i ≡ Some c → pages_of c ≤ total
  gone_within c h = pages_within cs running capacity total kept i c h

  pub gone_kept : (c : Context) (ran : Bool) (ys : List Context) (new : List ℕ) (more sum : ℕ) → ran ≡ is_running c.state → slice_get cs i ≡ Some c → ys ≡ remove cs i → sum + pages_of c ≡ total → IsRising new → Notes pid false running new → length new + one_if ran ≡ length running + 0 → capacity ≤ more → IsKept ys new more sum
  gone_kept c ran ys new more sum r h is pages rising notes count le =
      let counted : length new + one_if (is_running c.state) ≡ length running + 0 = subst (λ b. length new + one_if b ≡ length running + 0) r count in
      subst (λ zs. IsKept zs new more sum) (sym is)
      (kept_remove cs running capacity total kept i c new more sum h pages rising (subst (λ (p : ℕ). Notes p false running new) (sym (pid_of c h)) notes) (omega (arith, counted)) le)

pub gone_taken : (cs ys vs : List Context) (pid i : ℕ) (c : Context) → cs ≡ vs → IsRising (pids_of cs) → IsAt (pids_of cs) pid i → slice_get cs i ≡ Some c → ys ≡ remove cs i → TakenOut c pid vs ys
gone_taken cs ys vs pid i c same rising at h is =
    let l = lookup_at cs pid i c rising at h in
    subst (λ zs. TakenOut c pid zs ys) same
    (record { here = l.0; puts = record { each = λ q. ap (lookup q) is ∙ removed cs i c (rising_apart cs rising) h q ∙ ap (λ (p : ℕ). cond (q == p) None (lookup q cs)) l.1 } })

-- ---- a context that comes

pub came_puts : (cs ys vs : List Context) (i : ℕ) (c : Context) → cs ≡ vs → IsGap (pids_of cs) c.pid i → ys ≡ insert cs i c → Puts c.pid (Some c) vs ys
came_puts cs ys vs i c same gap is = subst (λ zs. Puts c.pid (Some c) zs ys) same (record { each = λ q. ap (lookup q) is ∙ lookup_insert cs i c (gap_absent cs c.pid i gap) q })

pub came_absent : (cs : List Context) (running : List ℕ) (capacity total pid i : ℕ) → IsKept cs running capacity total → IsGap (pids_of cs) pid i → has pid running ≡ false
came_absent cs running capacity total pid i kept gap = kept.runs pid ∙ ap runs_as (gap_absent cs pid i gap)

-- more room
pub kept_room : (cs ds : List Context) (running pids : List ℕ) (capacity more total : ℕ) → IsKept cs running capacity total → ds ≡ cs → pids ≡ running → capacity ≤ more → IsKept ds pids more total
kept_room cs ds running pids capacity more total kept e f le =
    subst (λ zs. IsKept zs pids more total) (sym e) (subst (λ ps. IsKept cs ps more total) (sym f) (record {
      rising = kept.rising;
      small = kept.small;
      pages = kept.pages;
      runs_rising = kept.runs_rising;
      runs = kept.runs;
      count = kept.count;
      room = let r = kept.room in omega (arith, r, le);
    }))

pub came_kept : (cs ys : List Context) (running new : List ℕ) (capacity more total sum i : ℕ) (c : Context) → IsKept cs running capacity total → IsGap (pids_of cs) c.pid i → ys ≡ insert cs i c → is_running c.state ≡ true → pages_of c < 2 ^ 32 → sum ≡ total + pages_of c → IsRising new → Notes c.pid true running new → length new + 0 ≡ length running + 1 → length cs < more → IsKept ys new more sum
came_kept cs ys running new capacity more total sum i c kept gap is runs small pages rising notes count room =
    subst (λ zs. IsKept zs new more sum) (sym is) (kept_insert cs running capacity total kept i c new more sum gap runs small pages rising notes (omega (arith, count)) room)

-- ---- how a context stands, by its state

pub runs_by : (o : Option Context) → option_map state_of o ≡ Some state.Running → runs_as o ≡ true
runs_by None h = absurd (let z : None ≡ Some state.Running = h in cc)
runs_by (Some c) h = runs_stance c.state (let e : stands c.state ≡ state.Running = cc in e)
  where
    runs_stance : (s : Stance) → stands s ≡ state.Running → is_running s ≡ true
    runs_stance Running h = refl
    runs_stance (Waiting pause kept) h = absurd (let z : state.Waiting ≡ state.Running = h in cc)
    runs_stance (Asking to line) h = absurd (let z : state.Asking to line ≡ state.Running = h in cc)

pub waits_by : (o : Option Context) → option_map state_of o ≡ Some state.Waiting → holds_for is_waiting o ≡ true
waits_by None h = absurd (let z : None ≡ Some state.Waiting = h in cc)
waits_by (Some c) h = waits_stance c.state (let e : stands c.state ≡ state.Waiting = cc in e)
  where
    waits_stance : (s : Stance) → stands s ≡ state.Waiting → is_waiting s ≡ true
    waits_stance Running h = absurd (let z : state.Running ≡ state.Waiting = h in cc)
    waits_stance (Waiting pause kept) h = refl
    waits_stance (Asking to line) h = absurd (let z : state.Asking to line ≡ state.Waiting = h in cc)

pub asks_by : (o : Option Context) (to : ℕ) (line : Option ℕ) → option_map state_of o ≡ Some (state.Asking to line) → holds_for is_asking o ≡ true
asks_by None to line h = absurd (let z : None ≡ Some (state.Asking to line) = h in cc)
asks_by (Some c) to line h = asks_stance c.state (let e : stands c.state ≡ state.Asking to line = cc in e)
  where
    asks_stance : (s : Stance) → stands s ≡ state.Asking to line → is_asking s ≡ true
    asks_stance Running h = absurd (let z : state.Running ≡ state.Asking to line = h in cc)
    asks_stance (Waiting pause kept) h = absurd (let z : state.Waiting ≡ state.Asking to line = h in cc)
    asks_stance (Asking at policy) h = refl
