-- The orders by two numbers.
use Rattle.std.proofs.Common.{◌≡◌, ℕ, ◌<◌, ◌≤◌, ◌⊎◌, inl, inr, Bool, true, false, nat_eq, nat_lt, refl, sym, ◌∙◌, arith}
use Rattle.std.specs.Prelude.{◌||◌, ◌&&◌}
use Rattle.std.proofs.lemmas.Bool.{ltb-true, lt-ltb, eq-eqb, eqb-true}
use Rattle.mem_usher.specs.Best.{is_before, is_smaller, is_larger, is_tighter, is_lighter}

-- the same as facts
abbrev pub Before : ℕ → ℕ → ℕ → ℕ → Type 0
Before a c b d = (a < c) ⊎ ((a ≡ c) × (b < d))

abbrev pub NotBefore : ℕ → ℕ → ℕ → ℕ → Type 0
NotBefore a c b d = (c < a) ⊎ ((a ≡ c) × (d ≤ b))

le_from_false : (a b : ℕ) → nat_lt a b ≡ false → b ≤ a
le_from_false a b f = grind arith

ne_from_false : (a b : ℕ) → nat_eq a b ≡ false → a ≡ b → ⊥
ne_from_false a b f e = let z : true ≡ false = sym (eq-eqb a b e) ∙ f in cc

from_true : (a c b d : ℕ) → is_before a c b d ≡ true → Before a c b d
from_true a c b d t = go (nat_lt a c) (nat_eq a c) (nat_lt b d) refl refl refl t
  where
    go : (p q r : Bool) → nat_lt a c ≡ p → nat_eq a c ≡ q → nat_lt b d ≡ r → (p || (q && r)) ≡ true → Before a c b d
    go true q r u v w t = inl (ltb-true a c u)
    go false true true u v w t = inr (eqb-true a c v, ltb-true b d w)
    go false true false u v w t = absurd cc
    go false false r u v w t = absurd cc

from_false : (a c b d : ℕ) → is_before a c b d ≡ false → NotBefore a c b d
from_false a c b d t = go (nat_lt a c) (nat_eq a c) (nat_lt b d) refl refl refl t
  where
    go : (p q r : Bool) → nat_lt a c ≡ p → nat_eq a c ≡ q → nat_lt b d ≡ r → (p || (q && r)) ≡ false → NotBefore a c b d
    go true q r u v w t = absurd cc
    go false true true u v w t = absurd cc
    go false true false u v w t = inr (eqb-true a c v, le_from_false b d w)
    go false false r u v w t = let n = ne_from_false a c v in let l = le_from_false a c u in inl (omega arith)

to_true : (a c b d : ℕ) → Before a c b d → is_before a c b d ≡ true
to_true a c b d (inl l) = let t = lt-ltb a c l in rw t
to_true a c b d (inr e) = let t = eq-eqb a c e.0 in let u = lt-ltb b d e.1 in go (nat_lt a c) (nat_eq a c) (nat_lt b d) t u
  where
    go : (p q r : Bool) → q ≡ true → r ≡ true → (p || (q && r)) ≡ true
    go true q r t u = refl
    go false true true t u = refl
    go false true false t u = absurd cc
    go false false r t u = absurd cc

to_false : (a c b d : ℕ) → NotBefore a c b d → is_before a c b d ≡ false
to_false a c b d n = go (is_before a c b d) refl n
  where
    clash : Before a c b d → NotBefore a c b d → ⊥
    clash (inl l) (inl m) = omega arith
    clash (inl l) (inr m) = omega arith
    clash (inr l) (inl m) = omega arith
    clash (inr l) (inr m) = omega arith

    go : (r : Bool) → is_before a c b d ≡ r → NotBefore a c b d → is_before a c b d ≡ false
    go true t n = absurd (clash (from_true a c b d t) n)
    go false t n = t

-- what a test of the better one has to meet: what goes before b goes before all that does not, and nothing goes before itself
pub record IsOrder {X : Type 0} (better : X → X → Bool) : Type 0 where
  pub alone : (x : X) → better x x ≡ false
  pub after : (x b y : X) → better x b ≡ true → better y b ≡ false → (better y x ≡ false) × (better x y ≡ true)

alone_at : (a b : ℕ) → is_before a a b b ≡ false
alone_at a b = to_false a a b b (inr (refl, omega arith))

-- the first numbers rise
after_up : (kx kb ky nx nb ny : ℕ) → is_before kx kb nx nb ≡ true → is_before ky kb ny nb ≡ false → (is_before ky kx ny nx ≡ false) × (is_before kx ky nx ny ≡ true)
after_up kx kb ky nx nb ny t f = go (from_true kx kb nx nb t) (from_false ky kb ny nb f)
  where
    both : Before kx ky nx ny → NotBefore ky kx ny nx → (is_before ky kx ny nx ≡ false) × (is_before kx ky nx ny ≡ true)
    both l m = (to_false ky kx ny nx m, to_true kx ky nx ny l)

    go : Before kx kb nx nb → NotBefore ky kb ny nb → (is_before ky kx ny nx ≡ false) × (is_before kx ky nx ny ≡ true)
    go (inl l) (inl m) = both (inl (omega arith)) (inl (omega arith))
    go (inl l) (inr m) = both (inl (omega arith)) (inl (omega arith))
    go (inr l) (inl m) = both (inl (omega arith)) (inl (omega arith))
    go (inr l) (inr m) = both (inr (omega arith, omega arith)) (inr (omega arith, omega arith))

-- the first numbers fall
after_down : (kx kb ky nx nb ny : ℕ) → is_before kb kx nx nb ≡ true → is_before kb ky ny nb ≡ false → (is_before kx ky ny nx ≡ false) × (is_before ky kx nx ny ≡ true)
after_down kx kb ky nx nb ny t f = go (from_true kb kx nx nb t) (from_false kb ky ny nb f)
  where
    both : Before ky kx nx ny → NotBefore kx ky ny nx → (is_before kx ky ny nx ≡ false) × (is_before ky kx nx ny ≡ true)
    both l m = (to_false kx ky ny nx m, to_true ky kx nx ny l)

    go : Before kb kx nx nb → NotBefore kb ky ny nb → (is_before kx ky ny nx ≡ false) × (is_before ky kx nx ny ≡ true)
    go (inl l) (inl m) = both (inl (omega arith)) (inl (omega arith))
    go (inl l) (inr m) = both (inl (omega arith)) (inl (omega arith))
    go (inr l) (inl m) = both (inl (omega arith)) (inl (omega arith))
    go (inr l) (inr m) = both (inr (omega arith, omega arith)) (inr (omega arith, omega arith))

pub smaller_order : IsOrder is_smaller
smaller_order = record { alone = λ p. alone_at p.1 p.0; after = λ p b q t f. after_up p.1 b.1 q.1 p.0 b.0 q.0 t f }

pub larger_order : IsOrder is_larger
larger_order = record { alone = λ p. alone_at p.1 p.0; after = λ p b q t f. after_down p.1 b.1 q.1 p.0 b.0 q.0 t f }

pub tighter_order : IsOrder is_tighter
tighter_order = record { alone = λ e. alone_at e.free e.node; after = λ e b f t u. after_up e.free b.free f.free e.node b.node f.node t u }

pub lighter_order : IsOrder is_lighter
lighter_order = record { alone = λ e. alone_at e.load e.node; after = λ e b f t u. after_up e.load b.load f.load e.node b.node f.node t u }
