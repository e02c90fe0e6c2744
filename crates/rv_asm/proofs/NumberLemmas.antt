-- Numbers past every range are one.
use Rattle.std.proofs.Common.{◌≡◌, ℕ, suc, ◌+◌, ◌*◌, ◌<◌, ◌≤◌, min, List, [], ◌∷◌, length, drop, get_or, refl, ap, sym, ◌∙◌, arith, Option, Some, None, Bool, true, false, cond, ltb, zero, inl, inr}
use Rattle.std.specs.Option.{option_map}
use Rattle.std.specs.Char.{digit_value}
use Rattle.std.proofs.lemmas.Bool.{cond_both, cond-true, cond-false, cases_lt, lt-ltb}
use Rattle.std.proofs.lemmas.List.{drop_more}
use Rattle.std.proofs.Math.Nat.{mul-le-mul_left, mul_comm}
use Rattle.rv_asm.specs.Numbers.{digits_after, capped}

grows : (n r : ℕ) → 0 < r → n ≤ n * r
grows n zero h = omega arith
grows n (suc r) h = omega arith

-- one more digit keeps what is one
capped_more : (r n m d : ℕ) → 0 < r → capped n ≡ capped m → capped (n * r + d) ≡ capped (m * r + d)
capped_more r n m d h e =
    elim (cases_lt n 0x200000000) as (λ _. capped (n * r + d) ≡ capped (m * r + d)) [
      | inl small ↦ let same : n ≡ m = omega arith in ap (λ k. capped (k * r + d)) same
      | inr large ↦ omega (arith, grows n r h, grows m r h)
    ]

pub digits_capped : (r n m : ℕ) (ds : List ℕ) → 0 < r → capped n ≡ capped m → option_map capped (digits_after r n ds) ≡ option_map capped (digits_after r m ds)
digits_capped r n m [] h e = ap Some e
digits_capped r n m (c ∷ cs) h e =
    cond_both (ltb (digit_value c) r) (digits_after r (n * r + digit_value c) cs) None (λ o. option_map capped o ≡ option_map capped (digits_after r m (c ∷ cs)))
    (λ t. digits_capped r (n * r + digit_value c) (m * r + digit_value c) cs h (capped_more r n m (digit_value c) h e) ∙ ap (option_map capped) (sym (cond-true (ltb (digit_value c) r) (digits_after r (m * r + digit_value c) cs) None t)))
    (λ t. ap (option_map capped) (sym (cond-false (ltb (digit_value c) r) (digits_after r (m * r + digit_value c) cs) None t)))

-- the step of a loop over digits
pub digit_more : (r n d m i : ℕ) (ds : List ℕ) (whole : Option ℕ) → i < length ds → d ≡ digit_value (get_or ds i 0) → d < r → m ≡ min (n * r + d) 0x200000000 → whole ≡ option_map capped (digits_after r n (drop i ds)) → whole ≡ option_map capped (digits_after r m (drop (i + 1) ds))
digit_more r n d m i ds whole h e f g w =
    let here = drop_more ds i 0 h in
    let test : ltb (digit_value (get_or ds i 0)) r ≡ true = lt-ltb (digit_value (get_or ds i 0)) r (omega arith) in
    let taken = cond-true (ltb (digit_value (get_or ds i 0)) r) (digits_after r (n * r + digit_value (get_or ds i 0)) (drop (i + 1) ds)) None test in
    let one : capped (n * r + digit_value (get_or ds i 0)) ≡ capped m = omega arith in
    w ∙ ap (λ xs. option_map capped (digits_after r n xs)) here ∙ ap (option_map capped) taken ∙ digits_capped r (n * r + digit_value (get_or ds i 0)) m (drop (i + 1) ds) (omega arith) one
