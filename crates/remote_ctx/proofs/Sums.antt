-- Sums over contexts, as sums over all pids.
use Rattle.std.proofs.Common.{◌≡◌, ◌≢◌, ◌⊎◌, inl, inr, ℕ, zero, suc, ◌+◌, ◌<◌, ◌≤◌, ◌==◌, cond, Bool, true, false, Some, None, List, [], ◌∷◌, length, refl, sym, ap, ◌∙◌, subst, arith}
use Rattle.std.specs.List.{sum_by}
use Rattle.std.proofs.lemmas.List.Sums.{sum_by-cons}
use Rattle.std.proofs.lemmas.Bool.Decides.{nat_tests}
use Rattle.remote_ctx.specs.declared.context.Context.{Context}
use Rattle.remote_ctx.specs.Hosted.{lookup, AreApart, IsPast, sum_to, counts, pages_of, pages_here}

sum_zero : (n : ℕ) → sum_to n (λ q. 0) ≡ 0
sum_zero zero = refl
sum_zero (suc n) = let h = sum_zero n in omega (arith, h)

sum_same : (n : ℕ) (f g : ℕ → ℕ) → ((q : ℕ) → q < n → f q ≡ g q) → sum_to n f ≡ sum_to n g
sum_same zero f g h = refl
sum_same (suc n) f g h = let a = sum_same n f g (λ q lt. h q (omega arith)) in let b = h n (omega arith) in omega (arith, a, b)

same_or_less : (p n : ℕ) → p < suc n → (p ≡ n) ⊎ (p < n)
same_or_less p n lt = grind arith

-- one term more
sum_more : (n p : ℕ) (f g : ℕ → ℕ) → p < n → g p ≡ 0 → ((q : ℕ) → q ≢ p → f q ≡ g q) → sum_to n f ≡ f p + sum_to n g
sum_more zero p f g lt z h = absurd (omega arith)
sum_more (suc n) p f g lt z h = elim (same_or_less p n lt) as (λ _. sum_to (suc n) f ≡ f p + sum_to (suc n) g) [
  | inl e ↦ (let a = sum_same n f g (λ q less. h q (λ same. let s : p ≡ n = e in omega (arith, less, same, s))) in let b : f n ≡ f p = ap f (sym e) in let c : g n ≡ 0 = ap g (sym e) ∙ z in omega (arith, a, b, c))
  | inr less ↦ (let a = sum_more n p f g less z h in let b = h n (λ same. let l : p < n = less in omega (arith, l, same)) in omega (arith, a, b))
]

other : (p q : ℕ) → q ≢ p → (q == p) ≡ false
other p q h = grind (arith, nat_tests)

same : (p : ℕ) → (p == p) ≡ true
same p = grind (arith, nat_tests)

below : (p n : ℕ) (cs : List Context) (c : Context) → ((q : ℕ) → n ≤ q → lookup q cs ≡ None) → lookup p cs ≡ Some c → p < n
below p n cs c none h = elim (less_or_not p n) as (λ _. p < n) [
  | inl lt ↦ lt
  | inr le ↦ absurd (let z : None ≡ Some c = sym (none p le) ∙ h in cc)
]
  where
    less_or_not : (p n : ℕ) → (p < n) ⊎ (n ≤ p)
    less_or_not p n = grind arith

rest_none : (x : Context) (cs : List Context) (q : ℕ) → cond (q == x.pid) (Some x) (lookup q cs) ≡ None → lookup q cs ≡ None
rest_none x cs q h = go (q == x.pid) h
  where
    go : (b : Bool) → cond b (Some x) (lookup q cs) ≡ None → lookup q cs ≡ None
    go true h = absurd (let z : Some x ≡ None = h in cc)
    go false h = h

-- a sum over contexts that are apart is one over all pids below a bound that none reaches
pub sum_of_all : (f : Context → ℕ) (cs : List Context) (n : ℕ) → AreApart cs → ((q : ℕ) → n ≤ q → lookup q cs ≡ None) → sum_by f cs ≡ sum_to n (λ q. counts f (lookup q cs))
sum_of_all f [] n apart none = sym (sum_zero n)
sum_of_all f (c ∷ cs) n apart none =
    let ih = sum_of_all f cs n apart.1 (λ q le. rest_none c cs q (none q le)) in
    let here : lookup c.pid (c ∷ cs) ≡ Some c = ap (λ b. cond b (Some c) (lookup c.pid cs)) (same c.pid) in
    let lt = below c.pid n (c ∷ cs) c none here in
    let more = sum_more n c.pid (λ q. counts f (lookup q (c ∷ cs))) (λ q. counts f (lookup q cs)) lt (ap (counts f) apart.0) (λ q ne. ap (λ b. counts f (cond b (Some c) (lookup q cs))) (other c.pid q ne)) in
    let one : counts f (lookup c.pid (c ∷ cs)) ≡ f c = ap (counts f) here in
    sum_by-cons f c cs ∙ (let goal : f c + sum_by f cs ≡ sum_to n (λ q. counts f (lookup q (c ∷ cs))) = omega (arith, ih, more, one) in goal)

length_sum : (cs : List Context) → length cs ≡ sum_by (λ c. 1) cs
length_sum [] = refl
length_sum (c ∷ cs) = let h = length_sum cs in let s = sum_by-cons (λ (x : Context). 1) c cs in omega (arith, h, s)

pub pages_all : (cs vs : List Context) → cs ≡ vs → AreApart cs → (n : ℕ) → IsPast n vs → pages_here vs ≡ sum_to n (λ q. counts pages_of (lookup q vs))
pages_all cs vs same apart n past = sum_of_all pages_of vs n (subst AreApart same apart) past.none

pub count_all : (cs vs : List Context) → cs ≡ vs → AreApart cs → (n : ℕ) → IsPast n vs → length vs ≡ sum_to n (λ q. counts (λ c. 1) (lookup q vs))
count_all cs vs same apart n past = length_sum vs ∙ sum_of_all (λ c. 1) vs n (subst AreApart same apart) past.none
