-- Which processes live: counts of them, and that none does.
use Rattle.std.proofs.Common.{◌≡◌, ◌≢◌, ℕ, suc, ◌+◌, ◌≤◌, ◌==◌, cond, Bool, true, false, List, [], ◌∷◌, ◌++◌, length, refl, sym, ap, ◌∙◌, arith}
use Rattle.std.specs.Prelude.{reverse}
use Rattle.std.proofs.lemmas.List.{reverse-append}
use Rattle.kernel_spec.specs.Kernel.{KernelState, given, is_live}
use Rattle.protocol.specs.Home.{live_of}
use Rattle.protocol.proofs.Talk.{numbers_same, numbers_other}
use Rattle.node_core.specs.declared.node.Node.{Node}
use Rattle.node_core.specs.Turning.{IsDone}
use Rattle.node_core.proofs.Home.{live_given}

-- ---- how many live

pub live_most : (f : ℕ → Bool) (xs : List ℕ) → live_of f xs ≤ length xs
live_most f [] = omega arith
live_most f (x ∷ xs) = let m = live_most f xs in go m (f x)
  where
    go : live_of f xs ≤ length xs → (b : Bool) → cond b (live_of f xs + 1) (live_of f xs) ≤ suc (length xs)
    go m true = omega (arith, m)
    go m false = omega (arith, m)

live_append : (f : ℕ → Bool) (xs ys : List ℕ) → live_of f (xs ++ ys) ≡ live_of f xs + live_of f ys
live_append f [] ys = omega arith
live_append f (x ∷ xs) ys = let e = live_append f xs ys in go e (f x)
  where
    go : live_of f (xs ++ ys) ≡ live_of f xs + live_of f ys → (b : Bool) → cond b (live_of f (xs ++ ys) + 1) (live_of f (xs ++ ys)) ≡ cond b (live_of f xs + 1) (live_of f xs) + live_of f ys
    go e true = omega (arith, e)
    go e false = omega (arith, e)

one_more_lives : (b : Bool) (n m : ℕ) → n ≡ m → n + cond b 1 0 ≡ cond b (m + 1) m
one_more_lives true n m e = omega (arith, e)
one_more_lives false n m e = omega (arith, e)

-- in whichever order they are counted
pub live_reversed : (f : ℕ → Bool) (xs : List ℕ) → live_of f (reverse xs) ≡ live_of f xs
live_reversed f [] = refl
live_reversed f (x ∷ xs) = ap (live_of f) (reverse-append (x ∷ []) xs) ∙ (live_append f (reverse xs) (x ∷ []) ∙ one_more_lives (f x) (live_of f (reverse xs)) (live_of f xs) (live_reversed f xs))

-- ---- none lives

dead_unless : (b : Bool) → (b ≡ true → ⊥) → b ≡ false
dead_unless true fails = absurd (fails refl)
dead_unless false fails = refl

pub ended_start : (k : KernelState) (q : ℕ) → q ≤ 0 → is_live k q ≡ false
ended_start k q h = dead_unless (is_live k q) (λ e. let g = live_given k q e in let low = g.0 in omega (arith, low, h))

pub ended_more : (k : KernelState) (n : ℕ) → ((q : ℕ) → q ≤ n → is_live k q ≡ false) → is_live k (n + 1) ≡ false → (q : ℕ) → q ≤ n + 1 → is_live k q ≡ false
ended_more k n dead last q h = go (q == n + 1) refl
  where
    go : (b : Bool) → (q == n + 1) ≡ b → is_live k q ≡ false
    go true e = ap (is_live k) (numbers_same q (n + 1) e) ∙ last
    go false e = dead q (let ne = numbers_other q (n + 1) e in omega (arith, ne, h))

pub ended_all : (k : KernelState) → ((q : ℕ) → q ≤ given k → is_live k q ≡ false) → (p : ℕ) → is_live k p ≡ false
ended_all k dead p = dead_unless (is_live k p) (λ e. let g = live_given k p e in let z : true ≡ false = sym e ∙ dead p g.1 in absurd cc)

pub one_lives : (k : KernelState) (p : ℕ) → is_live k p ≡ true → ((q : ℕ) → is_live k q ≡ false) → ⊥
one_lives k p e dead = let z : true ≡ false = sym e ∙ dead p in absurd cc

-- ---- home is done

pub done_is : (n : Node) → n.id ≡ 0 → n.course.done ≡ length n.course.script → ((p : ℕ) → is_live n.deputies.kernel p ≡ false) → IsDone n
done_is n home script ended = record { home = home; script = script; ended = ended }

pub not_home : (n : Node) → n.id ≢ 0 → IsDone n → ⊥
not_home n away d = away d.home

pub not_through : (n : Node) → n.course.done ≢ length n.course.script → IsDone n → ⊥
not_through n more d = more d.script

pub not_ended : (n : Node) → (((p : ℕ) → is_live n.deputies.kernel p ≡ false) → ⊥) → IsDone n → ⊥
not_ended n lives d = lives d.ended
