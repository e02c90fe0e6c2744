-- Bytes in pieces.
use Rattle.std.proofs.Common.{◌≡◌, ℕ, zero, suc, ◌<◌, ◌≤◌, min, List, [], ◌∷◌, length, take, drop, refl, ap, ◌∙◌, sym, arith, cond, eqb, inl, inr}
use Rattle.std.proofs.lemmas.Bool.{ne_eqb, cases_lt}
use Rattle.std.proofs.lemmas.List.{length-drop, drop_all, take_all}
use Rattle.shell_text.specs.Report.{chunks_from, chunks_of}

none_left : (m : ℕ) (xs : List ℕ) → length xs ≤ 0 → chunks_from m xs ≡ []
none_left zero xs h = refl
none_left (suc m) [] h = refl
none_left (suc m) (x ∷ xs) h = absurd (omega arith)

-- there is no piece more than bytes
enough : (n m : ℕ) (xs : List ℕ) → length xs ≤ n → length xs ≤ m → chunks_from n xs ≡ chunks_from m xs
enough zero m xs h k = sym (none_left m xs h)
enough (suc n) zero xs h k = none_left (suc n) xs k
enough (suc n) (suc m) xs h k =
    ap (λ t. cond (eqb (length xs) 0) [] (take 65536 xs ∷ t)) (enough n m (drop 65536 xs) (omega (arith, length-drop 65536 xs)) (omega (arith, length-drop 65536 xs)))

front_is : (xs : List ℕ) → take (min (length xs) 65536) xs ≡ take 65536 xs
front_is xs =
    elim (cases_lt 65536 (length xs)) as (λ _. take (min (length xs) 65536) xs ≡ take 65536 xs) [
      | inl long ↦ let e : min (length xs) 65536 ≡ 65536 = omega arith in ap (λ k. take k xs) e
      | inr short ↦ let e : min (length xs) 65536 ≡ length xs = omega arith in ap (λ k. take k xs) e ∙ take_all (length xs) xs (omega arith) ∙ sym (take_all 65536 xs (omega arith))
    ]

back_is : (xs : List ℕ) → drop (min (length xs) 65536) xs ≡ drop 65536 xs
back_is xs =
    elim (cases_lt 65536 (length xs)) as (λ _. drop (min (length xs) 65536) xs ≡ drop 65536 xs) [
      | inl long ↦ let e : min (length xs) 65536 ≡ 65536 = omega arith in ap (λ k. drop k xs) e
      | inr short ↦ let e : min (length xs) 65536 ≡ length xs = omega arith in ap (λ k. drop k xs) e ∙ drop_all (length xs) xs (omega arith) ∙ sym (drop_all 65536 xs (omega arith))
    ]

first_chunk : (xs : List ℕ) → 0 < length xs → chunks_of xs ≡ take 65536 xs ∷ chunks_of (drop 65536 xs)
first_chunk [] h = absurd (omega arith)
first_chunk (x ∷ xs) h =
    enough (length (x ∷ xs)) (suc (length xs)) (x ∷ xs) (omega arith) (omega arith) ∙ ap (λ t. cond t [] (take 65536 (x ∷ xs) ∷ chunks_from (length xs) (drop 65536 (x ∷ xs)))) (ne_eqb (length (x ∷ xs)) 0 (λ z. omega arith))
    ∙ ap (λ t. take 65536 (x ∷ xs) ∷ t) (enough (length xs) (length (drop 65536 (x ∷ xs))) (drop 65536 (x ∷ xs)) (omega (arith, length-drop 65536 (x ∷ xs))) (omega arith))

pub chunk_then : (rest piece more : List ℕ) (k : ℕ) → 0 < length rest → k ≡ min (length rest) 65536 → piece ≡ take k rest → more ≡ drop k rest → chunks_of rest ≡ piece ∷ chunks_of more
chunk_then rest piece more k h e p m =
    first_chunk rest h ∙ ap (λ t. t ∷ chunks_of (drop 65536 rest)) (sym (p ∙ ap (λ n. take n rest) e ∙ front_is rest)) ∙ ap (λ t. piece ∷ chunks_of t) (sym (m ∙ ap (λ n. drop n rest) e ∙ back_is rest))
