-- Lists by pid.
use Rattle.std.proofs.Common.{◌≡◌, ℕ, zero, suc, ◌-◌, ◌≤◌, List, length, slice_set, slice_get, refl, ap, arith}
use Rattle.std.proofs.lemmas.List.{length-set}
use Rattle.kernel_spec.specs.Pids.{at_pid, set_pid}

pub length-set_pid : {A : Type 0} (xs : List A) (pid : ℕ) (x : A) → length (set_pid xs pid x) ≡ length xs
length-set_pid xs zero x = refl
length-set_pid xs (suc i) x = length-set xs i x

-- a pid counts from 1
pub set_pid-at : {A : Type 0} (xs : List A) (pid : ℕ) (x : A) → 1 ≤ pid → set_pid xs pid x ≡ slice_set xs (pid - 1) x
set_pid-at xs zero x h = absurd (omega (arith, h))
set_pid-at xs (suc i) x h = let e : i ≡ suc i - 1 = omega arith in ap (λ j. slice_set xs j x) e

pub at_pid-at : {A : Type 0} (xs : List A) (pid : ℕ) → 1 ≤ pid → at_pid xs pid ≡ slice_get xs (pid - 1)
at_pid-at xs zero h = absurd (omega (arith, h))
at_pid-at xs (suc i) h = let e : i ≡ suc i - 1 = omega arith in ap (slice_get xs) e
