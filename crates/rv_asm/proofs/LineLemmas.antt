-- The first line ends at the first newline.
use Rattle.std.proofs.Common.{◌≡◌, ℕ, suc, ◌+◌, ◌<◌, ◌≤◌, List, [], ◌∷◌, length, take, drop, refl, ap, sym, ◌∙◌, arith, Option, Some, None, Bool, true, false, cond, eqb, ltb, inl, inr}
use Rattle.std.specs.List.{slice_split, position, position_or_len, onto_first}
use Rattle.std.proofs.lemmas.Bool.{cases_Bool, ltb-true, ltb-false}
use Rattle.std.proofs.lemmas.List.Splits.{slice_split_first}

-- a list without newlines is one piece
one_piece : (xs : List ℕ) → length xs ≤ position_or_len (λ b. eqb b 10) xs → slice_split (λ b. eqb b 10) xs ≡ xs ∷ []
one_piece [] h = refl
one_piece (x ∷ xs) h =
    elim (cases_Bool (eqb x 10)) as (λ _. slice_split (λ b. eqb b 10) (x ∷ xs) ≡ (x ∷ xs) ∷ []) [
      | inl t ↦ let none = rw t at h in absurd (omega arith)
      | inr f ↦ let more = rw f at h in rw f (ap (onto_first x) (one_piece xs (omega arith)))
    ]

-- what the first place says, as the two branches of `position`
found : (b : Bool) (n : ℕ) (k : ℕ) → Some k ≡ cond b (Some n) None → (b ≡ true) × (k ≡ n)
found true n k e = (refl, cc)
found false n k e = cc

missed : (b : Bool) (n : ℕ) → None ≡ cond b (Some n) None → b ≡ false
missed true n e = cc
missed false n e = refl

pub split_none : (bytes : List ℕ) → None ≡ position (λ b. eqb b 10) bytes → slice_split (λ b. eqb b 10) bytes ≡ bytes ∷ []
split_none bytes e =
    let n = position_or_len (λ b. eqb b 10) bytes in
    one_piece bytes (ltb-false n (length bytes) (missed (ltb n (length bytes)) n e))

pub split_at_newline : (bytes rest : List ℕ) (k : ℕ) → Some k ≡ position (λ b. eqb b 10) bytes → rest ≡ drop (k + 1) bytes → slice_split (λ b. eqb b 10) bytes ≡ take k bytes ∷ slice_split (λ b. eqb b 10) rest
split_at_newline bytes rest k e r =
    let n = position_or_len (λ b. eqb b 10) bytes in
    let at = found (ltb n (length bytes)) n k e in
    rw (r, at.1) (slice_split_first (λ b. eqb b 10) bytes 0 (ltb-true n (length bytes) at.0))
