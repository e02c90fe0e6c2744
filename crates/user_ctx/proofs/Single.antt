-- A walk of one step.
use Rattle.std.proofs.Common.{◌≡◌, ◌≢◌, ◌⊎◌, inl, inr, ℕ, ◌<◌, refl, ap, ◌∙◌, sym, arith, Bool, true, false, cond}
use Rattle.user_spec.specs.User.{UserState}
use Rattle.user_spec.specs.Advance.{Went, Done, AtCall, Faults, advance, grows, stepped, Walk, walked, walk_on, stays}
use Rattle.user_spec.specs.declared.outcome.Stop.{Stop}
use Rattle.user_spec.specs.declared.outcome.Stop.TheVariants as stop
use Rattle.user_ctx.specs.Stopping.{StopsAt}
use Rattle.user_ctx.proofs.Calls.{stepped_is, stepped_growth, stepped_call, stepped_fault}

step_of : (b : Bool) (w : Went) (u v : UserState) → grows u ≡ b → advance u ≡ w → cond b (stays u) (walk_on w u (walked 0)) ≡ record { went = 1; user = v } → stepped u ≡ record { stop = stop.Went; user = v }
step_of true w u v g a e = absurd (let f : 0 ≡ 1 = ap (λ (x : Walk). x.went) e in cc)
step_of false (Done x) u v g a e = stepped_is u (Done v) g (a ∙ ap Done (ap (λ (x : Walk). x.user) e))
step_of false AtCall u v g a e = absurd (let f : 0 ≡ 1 = ap (λ (x : Walk). x.went) e in cc)
step_of false (Faults signal) u v g a e = absurd (let f : 0 ≡ 1 = ap (λ (x : Walk). x.went) e in cc)

stay_of : (b : Bool) (w : Went) (u v : UserState) → cond b (stays u) (walk_on w u (walked 0)) ≡ record { went = 0; user = v } → v ≡ u
stay_of true w u v e = sym (ap (λ (x : Walk). x.user) e)
stay_of false (Done x) u v e = absurd (let f : 1 ≡ 0 = ap (λ (x : Walk). x.went) e in cc)
stay_of false AtCall u v e = sym (ap (λ (x : Walk). x.user) e)
stay_of false (Faults signal) u v e = sym (ap (λ (x : Walk). x.user) e)

at_most : (n k : ℕ) (u v : UserState) → n ≡ k → walked 1 u ≡ record { went = n; user = v } → walked 1 u ≡ record { went = k; user = v }
at_most n k u v is e = e ∙ ap (λ i. let w : Walk = record { went = i; user = v } in w) is

stop_at : (s : Stop) (u : UserState) → StopsAt s u → stepped u ≡ record { stop = s; user = u }
stop_at stop.Went u h = absurd h
stop_at stop.AtCall u h = stepped_call u h
stop_at stop.Grows u h = stepped_growth u h
stop_at (stop.Fault signal) u h = stepped_fault u signal h

is_went : (s : Stop) → (s ≡ stop.Went) ⊎ (s ≢ stop.Went)
is_went stop.Went = inl refl
is_went stop.AtCall = inr (λ e. cc)
is_went stop.Grows = inr (λ e. cc)
is_went (stop.Fault signal) = inr (λ e. cc)

pub one_step : (s : Stop) (n : ℕ) (u v : UserState) → walked 1 u ≡ record { went = n; user = v } → (s ≡ stop.Went → n ≡ 1) → (s ≢ stop.Went → n < 1) → (s ≢ stop.Went → StopsAt s v) → stepped u ≡ record { stop = s; user = v }
one_step s n u v e whole short stops =
    elim (is_went s) as (λ _. stepped u ≡ record { stop = s; user = v }) [
      | inl w ↦ rw w (step_of (grows u) (advance u) u v refl refl (at_most n 1 u v (whole w) e))
      | inr ne ↦
          let lt : n < 1 = short ne in
          let is : v ≡ u = stay_of (grows u) (advance u) u v (at_most n 0 u v (omega arith) e) in
          rw is (stop_at s u (rw (← is) (stops ne)))
    ]
