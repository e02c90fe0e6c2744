-- Sums over the first numbers.
use Rattle.std.proofs.Common.{◌≡◌, ◌≤◌, ◌<◌, ℕ, zero, suc, ◌+◌, ◌==◌, Bool, true, false, refl, sym, ap, subst, arith}
use Rattle.protocol.specs.Ops.{sum_below, one_if}
use Rattle.protocol.proofs.Talk.{numbers_same, numbers_other}

pub one_most : (b : Bool) → one_if b ≤ 1
one_most true = omega arith
one_most false = omega arith

pub sum_le : (n : ℕ) (f g : ℕ → ℕ) → ((q : ℕ) → f q ≤ g q) → sum_below n f ≤ sum_below n g
sum_le zero f g h = omega arith
sum_le (suc n) f g h = omega (arith, sum_le n f g h, h n)

pub sum_grows : (k n : ℕ) (f : ℕ → ℕ) → sum_below n f ≤ sum_below (k + n) f
sum_grows zero n f = let e : 0 + n ≡ n = omega arith in subst (λ (i : ℕ). sum_below n f ≤ sum_below i f) (sym e) (omega arith)
sum_grows (suc k) n f =
    let e : suc k + n ≡ suc (k + n) = omega arith in
    subst (λ (i : ℕ). sum_below n f ≤ sum_below i f) (sym e) (omega (arith, sum_grows k n f))

pub sum_ends : (k n : ℕ) (f : ℕ → ℕ) → ((q : ℕ) → n ≤ q → f q ≡ 0) → sum_below (k + n) f ≡ sum_below n f
sum_ends zero n f none = let e : 0 + n ≡ n = omega arith in ap (λ (i : ℕ). sum_below i f) e
sum_ends (suc k) n f none =
    let e : suc k + n ≡ suc (k + n) = omega arith in
    let x : sum_below (suc k + n) f ≡ sum_below (suc (k + n)) f = ap (λ (i : ℕ). sum_below i f) e in
    omega (arith, x, sum_ends k n f none, none (k + n) (omega arith))

-- where one is less
pub sum_less : (p n : ℕ) (f g : ℕ → ℕ) → p < n → f p + 1 ≤ g p → ((q : ℕ) → f q ≤ g q) → sum_below n f + 1 ≤ sum_below n g
sum_less p zero f g less here h = omega (arith, less)
sum_less p (suc n) f g less here h = go (p == n) refl (λ k. sum_less p n f g k here h)
  where
    go : (b : Bool) → (p == n) ≡ b → (p < n → sum_below n f + 1 ≤ sum_below n g) → sum_below n f + f n + 1 ≤ sum_below n g + g n
    go true e below = let here2 : f n + 1 ≤ g n = subst (λ (k : ℕ). f k + 1 ≤ g k) (numbers_same p n e) here in omega (arith, sum_le n f g h, here2)
    go false e below = let ne = numbers_other p n e in omega (arith, below (omega (arith, less, ne)), h n)

-- at most as much at each of those below
pub sum_below_le : (n : ℕ) (f g : ℕ → ℕ) → ((q : ℕ) → q < n → f q ≤ g q) → sum_below n f ≤ sum_below n g
sum_below_le zero f g h = omega arith
sum_below_le (suc n) f g h = omega (arith, sum_below_le n f g (λ q less. h q (omega (arith, less))), h n (omega arith))
