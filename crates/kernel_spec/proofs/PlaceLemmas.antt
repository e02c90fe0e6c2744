-- Lists by pid after one place was written, and after one was added.
use Rattle.std.proofs.Common.{◌≡◌, ◌≢◌, ℕ, zero, suc, ◌+◌, List, [], ◌∷◌, ◌++◌, length, map, set, Option, Some, None, slice_get, refl, ap, sym, ◌∙◌, arith}
use Rattle.std.specs.Option.{option_map}
use Rattle.std.proofs.lemmas.Option.{slice_get-map}
use Rattle.kernel_spec.specs.Pids.{at_pid, set_pid, replaced_pid, changed_pid}

get_other : {A : Type 0} (xs : List A) (i j : ℕ) (y : A) → j ≢ i → slice_get (set xs i y) j ≡ slice_get xs j
get_other [] i j y other = refl
get_other (x ∷ xs) zero zero y other = absurd (other refl)
get_other (x ∷ xs) zero (suc j) y other = refl
get_other (x ∷ xs) (suc i) zero y other = refl
get_other (x ∷ xs) (suc i) (suc j) y other = get_other xs i j y (λ e. other (ap suc e))

get_set : {A : Type 0} (xs : List A) (i : ℕ) (x y : A) → slice_get xs i ≡ Some x → slice_get (set xs i y) i ≡ Some y
get_set [] i x y h = absurd (cc)
get_set (z ∷ xs) zero x y h = refl
get_set (z ∷ xs) (suc i) x y h = get_set xs i x y h

get_push : {A : Type 0} (xs : List A) (x : A) (i : ℕ) → i ≢ length xs → slice_get (xs ++ x ∷ []) i ≡ slice_get xs i
get_push [] x zero other = absurd (other refl)
get_push [] x (suc i) other = refl
get_push (y ∷ xs) x zero other = refl
get_push (y ∷ xs) x (suc i) other = get_push xs x i (λ e. other (ap suc e))

get_last : {A : Type 0} (xs : List A) (x : A) → slice_get (xs ++ x ∷ []) (length xs) ≡ Some x
get_last [] x = refl
get_last (y ∷ xs) x = get_last xs x

-- what is written where it stood
pub set_same : {A : Type 0} (xs : List A) (i : ℕ) (x y : A) → slice_get xs i ≡ Some x → y ≡ x → set xs i y ≡ xs
set_same [] i x y h e = refl
set_same (z ∷ xs) zero x y h e = let is : Some y ≡ Some z = ap Some e ∙ sym h in ap (λ w. w ∷ xs) (some_same y z is)
  where
    some_same : {A : Type 0} (a b : A) → Some a ≡ Some b → a ≡ b
    some_same a b h = cc
set_same (z ∷ xs) (suc i) x y h e = ap (λ rest. z ∷ rest) (set_same xs i x y h e)

pub set_pid_other : {A : Type 0} (xs : List A) (p q : ℕ) (y : A) → q ≢ p → at_pid (set_pid xs p y) q ≡ at_pid xs q
set_pid_other xs zero q y other = refl
set_pid_other xs (suc i) zero y other = refl
set_pid_other xs (suc i) (suc j) y other = get_other xs i j y (λ e. other (ap suc e))

pub replaced_other : {A : Type 0} (xs : List A) (p q : ℕ) (o : Option A) → q ≢ p → at_pid (replaced_pid xs p o) q ≡ at_pid xs q
replaced_other xs p q None other = refl
replaced_other xs p q (Some y) other = set_pid_other xs p q y other

pub changed_other : {A : Type 0} (change : A → A) (xs : List A) (p q : ℕ) → q ≢ p → at_pid (changed_pid change xs p) q ≡ at_pid xs q
changed_other change xs p q other = replaced_other xs p q (option_map change (at_pid xs p)) other

pub changed_here : {A : Type 0} (change : A → A) (xs : List A) (p : ℕ) → at_pid (changed_pid change xs p) p ≡ option_map change (at_pid xs p)
changed_here change xs zero = refl
changed_here {A = A} change xs (suc i) = by_place (slice_get xs i) refl
  where
    by_place : (o : Option A) → slice_get xs i ≡ o → slice_get (replaced_pid xs (suc i) (option_map change o)) i ≡ option_map change o
    by_place None h = h
    by_place (Some x) h = get_set xs i x (change x) h

pub at_map : {A B : Type 0} (f : A → B) (xs : List A) (p : ℕ) → at_pid (map f xs) p ≡ option_map f (at_pid xs p)
at_map f xs zero = refl
at_map f xs (suc i) = slice_get-map f xs i

pub at_push : {A : Type 0} (xs : List A) (x : A) (p : ℕ) → p ≢ length xs + 1 → at_pid (xs ++ x ∷ []) p ≡ at_pid xs p
at_push xs x zero other = refl
at_push xs x (suc i) other = get_push xs x i (λ e. let n : suc i ≡ length xs + 1 = omega (arith, e) in other n)

pub at_last : {A : Type 0} (xs : List A) (x : A) → at_pid (xs ++ x ∷ []) (length xs + 1) ≡ Some x
at_last xs x = let e : length xs + 1 ≡ suc (length xs) = omega arith in ap (at_pid (xs ++ x ∷ [])) e ∙ get_last xs x
