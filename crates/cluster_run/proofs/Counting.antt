-- A list of events of few nodes has no more events than these nodes have.
use Rattle.std.proofs.Common.{◌≡◌, ℕ, zero, suc, ◌+◌, ◌*◌, ◌<◌, ◌≤◌, ◌==◌, Bool, true, false, cond, List, [], ◌∷◌, refl, sym, ap, ◌∙◌, subst, arith, length}
use Rattle.call_table.specs.declared.limit.TheConstants.{NODES, JOURNAL}
use Rattle.protocol.specs.Deeds.{Noted}
use Rattle.protocol.proofs.Talk.{numbers_other}
use Rattle.run_laws.specs.Carried.{Each, own_events}

-- how many events nodes below n have
abbrev total : ℕ → List Noted → ℕ
total zero es = 0
total (suc n) es = total n es + length (own_events n es)

total_grows : (n : ℕ) (e : Noted) (es : List Noted) → total n es ≤ total n (e ∷ es)
total_grows zero e es = omega arith
total_grows (suc n) e es = go (e.node == n) (total_grows n e es)
  where
    go : (b : Bool) → total n es ≤ total n (e ∷ es) → total n es + length (own_events n es) ≤ total n (e ∷ es) + length (cond b (e ∷ own_events n es) (own_events n es))
    go true r = omega (arith, r)
    go false r = omega (arith, r)

total_more : (n : ℕ) (e : Noted) (es : List Noted) → e.node < n → suc (total n es) ≤ total n (e ∷ es)
total_more zero e es less = absurd (omega (arith, less))
total_more (suc n) e es less = go (e.node == n) refl (λ lower. total_more n e es lower)
  where
    go : (b : Bool) → (e.node == n) ≡ b → (e.node < n → suc (total n es) ≤ total n (e ∷ es)) → suc (total n es + length (own_events n es)) ≤ total n (e ∷ es) + length (cond b (e ∷ own_events n es) (own_events n es))
    go true q more = let r = total_grows n e es in omega (arith, r)
    go false q more =
        let apart = numbers_other e.node n q in
        let lower : e.node < n = omega (arith, less, apart) in
        let r = more lower in
        omega (arith, r)

length_total : (n : ℕ) (es : List Noted) → Each (λ (e : Noted). e.node < n) es → length es ≤ total n es
length_total n [] low = omega arith
length_total n (e ∷ es) low = let r = length_total n es low.1 in let m = total_more n e es low.0 in omega (arith, r, m)

total_most : (n : ℕ) (es : List Noted) → ((k : ℕ) → length (own_events k es) ≤ JOURNAL) → total n es ≤ n * JOURNAL
total_most zero es most = omega arith
total_most (suc n) es most = let r = total_most n es most in let m = most n in omega (arith, r, m)

pub few_events : (n : ℕ) (es : List Noted) → n ≤ NODES → Each (λ (e : Noted). e.node < n) es → ((k : ℕ) → length (own_events k es) ≤ JOURNAL) → length es < 4294967295
few_events n es few low most = let a = length_total n es low in let b = total_most n es most in omega (arith, a, b, few)
