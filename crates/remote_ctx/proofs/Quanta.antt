-- Quanta, by how runs of a process come out.
use Rattle.std.proofs.Common.{◌≡◌, ◌≢◌, ◌⊎◌, inl, inr, ℕ, zero, suc, ◌+◌, ◌-◌, ◌<◌, ◌≤◌, refl, ap, ◌∙◌, sym, subst, arith, Some, None, Result, Ok, Err, OnErr, Bool, true, false, nat_le, cond, ◌&&◌}
use Rattle.std.proofs.lemmas.Bool.Decides.{nat_tests}
use Rattle.user_spec.specs.declared.outcome.Stop.{Stop}
use Rattle.user_spec.specs.declared.outcome.Stop.TheVariants as stops
use Rattle.user_ctx.specs.Stopping.{StopsAt}
use Rattle.user_spec.specs.User.{UserState}
use Rattle.user_spec.specs.Advance.{Went, Done, AtCall, Faults, advance, advanced, on_done, Walk, walked, walk_on, stays, one_more, quantum_of, grows, user_after}
use Rattle.remote_ctx.specs.declared.quantum.Ran.TheVariants as ran
use Rattle.remote_ctx.specs.Acting as acting

-- ---- a walk is so many steps

on_step : (w : Went) (u : UserState) (k : ℕ) → ((v : UserState) → advanced (walked k v).went v ≡ Some (walked k v).user) → advance u ≡ w
    → advanced (walk_on w u (walked k)).went u ≡ Some (walk_on w u (walked k)).user
on_step (Done v) u k ih e =
    let more : (walked k v).went + 1 ≡ suc ((walked k v).went) = omega arith in
    ap (λ n. advanced n u) more ∙ ap (λ w. on_done w (advanced (walked k v).went)) e ∙ ih v
on_step AtCall u k ih e = refl
on_step (Faults signal) u k ih e = refl

if_grows : (b : Bool) (u : UserState) (w : Walk) → advanced w.went u ≡ Some w.user → advanced (cond b (stays u) w).went u ≡ Some (cond b (stays u) w).user
if_grows true u w h = refl
if_grows false u w h = h

walked_steps : (k : ℕ) (u : UserState) → advanced (walked k u).went u ≡ Some (walked k u).user
walked_steps zero u = refl
walked_steps (suc k) u = if_grows (grows u) u (walk_on (advance u) u (walked k)) (on_step (advance u) u k (λ v. walked_steps k v) refl)

walk_steps : (q n : ℕ) (u v : UserState) → walked q u ≡ record { went = n; user = v } → advanced n u ≡ Some v
walk_steps q n u v h = subst (λ (w : Walk). advanced w.went u ≡ Some w.user) h (walked_steps q u)

-- ---- a walk that did not go

on_still : (w : Went) (u : UserState) (go : UserState → Walk) → (walk_on w u go).went ≡ 0 → (walk_on w u go).user ≡ u
on_still (Done v) u go h = absurd (let x : (go v).went + 1 ≡ 0 = h in omega (arith, x))
on_still AtCall u go h = refl
on_still (Faults signal) u go h = refl

grow_still : (b : Bool) (u : UserState) (w : Walk) → (w.went ≡ 0 → w.user ≡ u) → (cond b (stays u) w).went ≡ 0 → (cond b (stays u) w).user ≡ u
grow_still true u w h e = refl
grow_still false u w h e = h e

still : (q : ℕ) (u : UserState) → (walked q u).went ≡ 0 → (walked q u).user ≡ u
still zero u h = refl
still (suc q) u h = grow_still (grows u) u (walk_on (advance u) u (walked q)) (on_still (advance u) u (walked q)) h

pub stays_there : (q n : ℕ) (u v : UserState) → walked q u ≡ record { went = n; user = v } → n ≡ 0 → v ≡ u
stays_there q n u v h z = ap (λ (w : Walk). w.user) (sym h) ∙ still q u (ap (λ (w : Walk). w.went) h ∙ z)

-- ---- walks and quanta

walk_of_growth : (b : Bool) (u : UserState) (w : Walk) → 0 < (cond b (stays u) w).went → b ≡ false
walk_of_growth false u w h = refl
walk_of_growth true u w h = absurd (omega (arith, h))

went_no_growth : (q : ℕ) (u : UserState) → 0 < (walked q u).went → grows u ≡ false
went_no_growth zero u h = absurd (omega (arith, h))
went_no_growth (suc q) u h = walk_of_growth (grows u) u (walk_on (advance u) u (walked q)) h

-- some steps are a quantum
quantum_went : (q k : ℕ) (u v : UserState) → walked q u ≡ record { went = k; user = v } → 0 < k → quantum_of q u ≡ record { went = k; user = v }
quantum_went q k u v h low =
    let some : 0 < (walked q u).went = subst (λ (w : Walk). 0 < w.went) (sym h) low in
    ap (λ b. cond (b && nat_le 1 q) (one_more (walked (q - 1) (user_after (advance u) u))) (walked q u)) (went_no_growth q u some) ∙ h

low_is : (q : ℕ) → 1 ≤ q → nat_le 1 q ≡ true
low_is q h = grind (arith, nat_tests)

-- so is a growth with some
quantum_grown : (q k : ℕ) (u w x : UserState) → 1 ≤ q → grows u ≡ true → advance u ≡ Done w → walked (q - 1) w ≡ record { went = k; user = x } → quantum_of q u ≡ record { went = k + 1; user = x }
quantum_grown q k u w x low g e rest =
    let yes : (grows u && nat_le 1 q) ≡ true = ap (λ b. b && nat_le 1 q) g ∙ low_is q low in
    ap (λ b. cond b (one_more (walked (q - 1) (user_after (advance u) u))) (walked q u)) yes
    ∙ ap (λ y. one_more (walked (q - 1) (user_after y u))) e
    ∙ ap one_more rest

-- ---- how a turn of a process comes out

stop_is : (a stop : Stop) (v : UserState) → stop ≡ a → a ≢ stops.Went → (stop ≢ stops.Went → StopsAt stop v) → StopsAt a v
stop_is a stop v e ne h = subst (λ s. StopsAt s v) e (h (λ w. ne (sym e ∙ w)))

whole_by : (stop : Stop) (n q : ℕ) (v : UserState) → (stop ≡ stops.Went → n ≡ q) → (stop ≢ stops.Went → StopsAt stop v) → (n ≡ q) ⊎ ((advanced 1 v ≡ None) ⊎ (grows v ≡ true))
whole_by stops.Went n q v all stop = inl (all refl)
whole_by stops.AtCall n q v all stop = inr (inl (ap (λ w. on_done w (advanced 0)) (stop (λ e. cc))))
whole_by stops.Grows n q v all stop = inr (inr (stop (λ e. cc)))
whole_by (stops.Fault s) n q v all stop = inr (inl (ap (λ w. on_done w (advanced 0)) (stop (λ e. cc))))

pub went_some : (q n : ℕ) (u v : UserState) (stop : Stop) → walked q u ≡ record { went = n; user = v } → 0 < n → n ≤ q → (stop ≡ stops.Went → n ≡ q) → (stop ≢ stops.Went → StopsAt stop v) → acting.RanAs (ran.Steps n) q u v
went_some q n u v stop h low most all at = record { is = quantum_went q n u v h low; went = walk_steps q n u v h; least = omega arith; most = most; whole = whole_by stop n q v all at }

pub went_grown : (q n k : ℕ) (u v w x : UserState) (first stop : Stop) → 1 ≤ q → walked q u ≡ record { went = n; user = v } → n ≡ 0 → first ≡ stops.Grows → (first ≢ stops.Went → StopsAt first v) → advance v ≡ Done w
    → walked (q - 1) w ≡ record { went = k; user = x } → k ≤ q - 1 → (stop ≡ stops.Went → k ≡ q - 1) → (stop ≢ stops.Went → StopsAt stop x) → acting.RanAs (ran.Steps (k + 1)) q u x
went_grown q n k u v w x first stop low h z f s d rest most all at =
    let same = stays_there q n u v h z in
    let more : k + 1 ≡ suc k = omega arith in
    let grown : grows v ≡ true = stop_is stops.Grows first v f (λ e. cc) s in
    let growing : grows u ≡ true = ap grows (sym same) ∙ grown in
    let done : advance u ≡ Done w = ap advance (sym same) ∙ d in
    record {
      is = quantum_grown q k u w x low growing done rest;
      went = ap (λ m. advanced m u) more ∙ ap (λ y. on_done y (advanced k)) done ∙ walk_steps (q - 1) k w x rest;
      least = omega arith;
      most = omega (arith, low, most);
      whole = whole_by stop (k + 1) q x (λ e. let y : k ≡ q - 1 = all e in omega (arith, low, y)) at;
    }

pub at_call : (q n : ℕ) (u v : UserState) (stop : Stop) → walked q u ≡ record { went = n; user = v } → n ≡ 0 → stop ≡ stops.AtCall → (stop ≢ stops.Went → StopsAt stop v) → acting.RanAs ran.AtCall q u v
at_call q n u v stop h z e s =
    let same = stays_there q n u v h z in
    (ap advance (sym same) ∙ stop_is stops.AtCall stop v e (λ w. cc) s, same)

pub at_fault : (q n signal : ℕ) (u v : UserState) (stop : Stop) → walked q u ≡ record { went = n; user = v } → n ≡ 0 → stop ≡ stops.Fault signal → (stop ≢ stops.Went → StopsAt stop v) → acting.RanAs ran.AtFault q u v
at_fault q n signal u v stop h z e s =
    let same = stays_there q n u v h z in
    ((signal, ap advance (sym same) ∙ stop_is (stops.Fault signal) stop v e (λ w. cc) s), same)

-- what holds where there is an error
pub on_err : {A B : Type 0} (P : Type 0) (r : Result A B) → P → OnErr r P
on_err P (Ok x) h = tt
on_err P (Err x) h = h
