-- Instructions after others.
use Rattle.std.proofs.Common.{◌≡◌, ◌≢◌, ◌∷◌, ℕ, zero, suc, ◌+◌, refl, ap, ◌∙◌, sym, arith, Some, Result, Ok, Err}
use Rattle.std.proofs.lemmas.Option.{none-some, same_Some}
use Rattle.user_spec.specs.Instruction.{Core, Ran, done, applied, with_loaded, with_stored, load_as, store_as, next_effect, one_instruction, on_outcome, on_ran, ran}
use Rattle.user_spec.specs.declared.effect.Effect.{Effect}
use Rattle.user_spec.specs.declared.effect.Effect.TheVariants.{Sets, Loads, Stores, Calls, Raises}
use Rattle.user_spec.specs.declared.outcome.Outcome.{Outcome}
use Rattle.user_spec.specs.declared.outcome.Outcome.TheVariants.{Done, Call, Fault}

on : (o : Outcome) (x : Core) (k n : ℕ) (v w : Core) → ((x : Core) → ran k x ≡ Some v → ran (k + n) x ≡ Some w) → on_outcome o x (ran k) ≡ Some v → on_outcome o x (ran (k + n)) ≡ Some w
on Done x k n v w ih h = ih x h
on Call x k n v w ih h = absurd (none-some v h)
on (Fault signal) x k n v w ih h = absurd (none-some v h)

pub ran_on : (k n : ℕ) (u v w : Core) → ran k u ≡ Some v → ran n v ≡ Some w → ran (k + n) u ≡ Some w
ran_on zero n u v w h e =
    let is : 0 + n ≡ n = omega arith in
    ap (λ k. ran k u) is ∙ ap (ran n) (same_Some u v h) ∙ e
ran_on (suc k) n u v w h e =
    let is : suc k + n ≡ suc (k + n) = omega arith in
    ap (λ n. ran n u) is ∙ on (one_instruction u).outcome (one_instruction u).core k n v w (λ x i. ran_on k n x v w i e) h

pub ran_more : (k : ℕ) (u v w : Core) → ran k u ≡ Some v → one_instruction v ≡ done w → ran (k + 1) u ≡ Some w
ran_more k u v w h e = ran_on k 1 u v w h (ap (λ r. on_ran r (ran 0)) e)

pub ran_to : (k n m : ℕ) (u v w : Core) → ran k u ≡ Some v → ran n v ≡ Some w → k + n ≡ m → ran m u ≡ Some w
ran_to k n m u v w h e is = ap (λ i. ran i u) (sym is) ∙ ran_on k n u v w h e

-- one more
pub ran_next : (k m : ℕ) (u v w : Core) → ran k u ≡ Some v → one_instruction v ≡ done w → m ≡ k + 1 → ran m u ≡ Some w
ran_next k m u v w h e is = ap (λ i. ran i u) is ∙ ran_more k u v w h e

-- some, and others after which nothing changed
pub ran_same : (k : ℕ) (u v w : Core) → ran k u ≡ Some v → w ≡ v → ran k u ≡ Some w
ran_same k u v w h is = h ∙ ap (λ (x : Core). Some x) (sym is)

-- ---- only an instruction that was done changes anything

loaded_stays : (rd : ℕ) (r : Result ℕ ℕ) (c : Core) → (with_loaded rd r c).outcome ≢ Done → (with_loaded rd r c).core ≡ c
loaded_stays rd (Ok value) c h = absurd (h refl)
loaded_stays rd (Err addr) c h = refl

stored_stays : (r : Result _ ℕ) (c : Core) → (with_stored r c).outcome ≢ Done → (with_stored r c).core ≡ c
stored_stays (Ok pages) c h = absurd (h refl)
stored_stays (Err addr) c h = refl

applied_stays : (e : Effect) (c : Core) → (applied e c).outcome ≢ Done → (applied e c).core ≡ c
applied_stays (Sets rd value next) c h = absurd (h refl)
applied_stays (Loads rd addr form) c h = loaded_stays rd (load_as form c.pages addr) c h
applied_stays (Stores addr value width) c h = stored_stays (store_as width c.pages addr value) c h
applied_stays Calls c h = refl
applied_stays (Raises signal) c h = refl

pub stays : (o : Outcome) (c d : Core) → one_instruction c ≡ record { outcome = o; core = d } → o ≢ Done → d ≡ c
stays o c d e ne =
    ap (λ (r : Ran). r.core) (sym e)
    ∙ applied_stays (next_effect c.pc (0 ∷ c.registers) c.pages) c (λ f. ne (ap (λ (r : Ran). r.outcome) (sym e) ∙ f))

pub done_is : (o : Outcome) (c d : Core) → one_instruction c ≡ record { outcome = o; core = d } → o ≡ Done → one_instruction c ≡ done d
done_is o c d e is = e ∙ ap (λ x. let r : Ran = record { outcome = x; core = d } in r) is
