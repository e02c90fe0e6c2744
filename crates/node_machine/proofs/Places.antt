-- Lists by pid and by index: what stands in them after a write, and what a plan hands over.
use Rattle.std.proofs.Common.{◌≡◌, ◌≢◌, ◌⊎◌, inl, inr, ℕ, zero, suc, ◌+◌, ◌<◌, ◌==◌, Bool, true, false, cond, not, Option, Some, None, List, [], ◌∷◌, ◌++◌, length, slice_get, refl, sym, ap, ◌∙◌, arith}
use Rattle.std.specs.Prelude.{nat_lt}
use Rattle.std.specs.Option.{option_map}
use Rattle.std.proofs.lemmas.Bool.Decides.{nat_tests, eqb_tells}
use Rattle.user_spec.specs.User.{UserState}
use Rattle.kernel_spec.specs.Pids.{at_pid, set_pid, replaced_pid}
use Rattle.kernel_spec.proofs.PlaceLemmas.{set_pid_other, changed_here, at_push, at_last}
use Rattle.node_machine.specs.Plan.{user_at, text_at}

set_here : {A : Type 0} (xs : List A) (p : ℕ) (x y : A) → at_pid xs p ≡ Some x → at_pid (set_pid xs p y) p ≡ Some y
set_here xs p x y e = ap (λ o. at_pid (replaced_pid xs p (option_map (λ _. y) o)) p) (sym e) ∙ (changed_here (λ _. y) xs p ∙ ap (option_map (λ _. y)) e)

cond_same : {A : Type 0} (b : Bool) (x y z : A) → (b ≡ true → x ≡ y) → (b ≡ false → x ≡ z) → cond b y z ≡ x
cond_same true x y z e f = sym (e refl)
cond_same false x y z e f = sym (f refl)

is_same : (a b : ℕ) → (a == b) ≡ true → a ≡ b
is_same a b e = grind (arith, nat_tests)

is_other : (a b : ℕ) → (a == b) ≡ false → a ≢ b
is_other a b e f = let z : (a == b) ≡ true = grind (arith, nat_tests) in let y : true ≡ false = sym z ∙ e in cc

-- another user state in the place of one
pub set_at : {A : Type 0} (xs : List A) (p : ℕ) (x y : A) (q : ℕ) → at_pid xs p ≡ Some x → cond (q == p) (Some y) (at_pid xs q) ≡ at_pid (set_pid xs p y) q
set_at xs p x y q e =
    cond_same (q == p) (at_pid (set_pid xs p y) q) (Some y) (at_pid xs q)
    (λ h. ap (at_pid (set_pid xs p y)) (is_same q p h) ∙ set_here xs p x y e)
    (λ h. set_pid_other xs p q y (is_other q p h))

-- one more at the end
pub push_at : {A : Type 0} (xs : List A) (n : ℕ) (y : A) (q : ℕ) → n ≡ length xs + 1 → cond (q == n) (Some y) (at_pid xs q) ≡ at_pid (xs ++ y ∷ []) q
push_at xs n y q e =
    cond_same (q == n) (at_pid (xs ++ y ∷ []) q) (Some y) (at_pid xs q)
    (λ h. ap (at_pid (xs ++ y ∷ [])) (is_same q n h ∙ e) ∙ at_last xs y)
    (λ h. at_push xs y q (λ f. is_other q n h (f ∙ sym e)))

-- ---- a place of the setup

pub record At {A : Type 0} (xs : List A) (i : ℕ) (x : A) : Type 0 where
  pub below : nat_lt i (length xs) ≡ true
  pub is : slice_get xs i ≡ Some x

pub record Past {A : Type 0} (xs : List A) (i : ℕ) : Type 0 where
  pub above : nat_lt i (length xs) ≡ false
  pub none : slice_get xs i ≡ None

one_more : {A : Type 0} (x : A) (xs : List A) (i : ℕ) → nat_lt (suc i) (length (x ∷ xs)) ≡ nat_lt i (length xs)
one_more x xs i = grind (arith, nat_tests)

some_first : {A : Type 0} (x : A) (xs : List A) → nat_lt 0 (length (x ∷ xs)) ≡ true
some_first x xs = grind (arith, nat_tests)

pub place : {A : Type 0} (xs : List A) (i : ℕ) → ((x : A) × At xs i x) ⊎ Past xs i
place [] zero = inr (record { above = refl; none = refl })
place [] (suc i) = inr (record { above = grind (arith, nat_tests); none = refl })
place (x ∷ xs) zero = inl (x, record { below = some_first x xs; is = refl })
place {A = A} (x ∷ xs) (suc i) = go (place xs i)
  where
    go : ((y : A) × At xs i y) ⊎ Past xs i → ((y : A) × At (x ∷ xs) (suc i) y) ⊎ Past (x ∷ xs) (suc i)
    go (inl (y, a)) = inl (y, record { below = one_more x xs i ∙ a.below; is = a.is })
    go (inr a) = inr (record { above = one_more x xs i ∙ a.above; none = a.none })

pub user_there : (us : List UserState) (i p : ℕ) (u : UserState) → slice_get us i ≡ Some u → user_at us i p ≡ record u { pid = p }
user_there [] zero p u e = absurd cc
user_there [] (suc i) p u e = absurd cc
user_there (x ∷ us) zero p u e = let same : x ≡ u = cc in ap (λ (y : UserState). record y { pid = p }) same
user_there (x ∷ us) (suc i) p u e = user_there us i p u e

pub text_there : (ts : List (List ℕ)) (i : ℕ) (t : List ℕ) → slice_get ts i ≡ Some t → text_at ts i ≡ t
text_there [] zero t e = absurd cc
text_there [] (suc i) t e = absurd cc
text_there (x ∷ ts) zero t e = cc
text_there (x ∷ ts) (suc i) t e = text_there ts i t e
