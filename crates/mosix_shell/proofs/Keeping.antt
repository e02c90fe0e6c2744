-- Images that are at hand never fail.
use Rattle.std.proofs.Common.{◌≡◌, ℕ, ◌+◌, ◌-◌, ◌^◌, List, [], arith, refl, ap, ◌∙◌, sym, subst, Bool, true, false, ◌&&◌, nat_lt, Result, Ok, Err}
use Rattle.outside.specs.Outside.{LoadCause}
use Rattle.outside.specs.Fails.{is_listed, fails_next}
use Rattle.outside.specs.Memory.{ImagesState, Loads}
use Rattle.outside.specs.declared.plan.Plan.{Plan}
use Rattle.outside.specs.declared.traits.LoadFault.{LoadFault}
use Rattle.outside.specs.declared.traits.LoadFault.TheVariants as fault
use Rattle.mosix_shell.proofs.Truth.{false_true}

and_false : (b : Bool) → (b && false) ≡ false
and_false true = refl
and_false false = refl

never_fails : {A : Type 0} (plan : Plan) → plan.fails ≡ [] → fails_next plan ≡ true → A
never_fails plan none h =
    false_true (sym (and_false (nat_lt plan.made (2 ^ 64 - 1))) ∙ (sym (ap (λ xs. nat_lt plan.made (2 ^ 64 - 1) && is_listed xs (plan.made + 1)) none) ∙ h))

pub never_failed : (old new : ImagesState) (name : List ℕ) (r : Result (List ℕ) LoadFault) → old.plan.fails ≡ [] → Loads old name r new → LoadCause 0 0 r
never_failed old new name (Ok bytes) none h = record { later = omega arith; failed = tt }
never_failed old new name (Err fault.Absent) none h = record { later = omega arith; failed = tt }
never_failed old new name (Err fault.TooLong) none h = record { later = omega arith; failed = tt }
never_failed old new name (Err fault.Failed) none h = never_fails old.plan none h.0
never_failed old new name (Err fault.NoMemory) none h = record { later = omega arith; failed = tt }

pub still_none : (old new : ImagesState) (name : List ℕ) (r : Result (List ℕ) LoadFault) → old.plan.fails ≡ [] → Loads old name r new → new.plan.fails ≡ []
still_none old new name (Ok bytes) none h = ap (λ (s : ImagesState). s.plan.fails) h.2 ∙ none
still_none old new name (Err fault.Absent) none h = ap (λ (s : ImagesState). s.plan.fails) h.2 ∙ none
still_none old new name (Err fault.TooLong) none h = ap (λ (s : ImagesState). s.plan.fails) h.2 ∙ none
still_none old new name (Err fault.Failed) none h = ap (λ (s : ImagesState). s.plan.fails) h.1 ∙ none
still_none old new name (Err fault.NoMemory) none h = ap (λ (s : ImagesState). s.plan.fails) h.2 ∙ none
