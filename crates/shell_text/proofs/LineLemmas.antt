-- The first line ends at the first newline.
use Rattle.std.proofs.Common.{◌≡◌, ℕ, ◌+◌, ◌<◌, ◌≤◌, List, [], ◌∷◌, length, take, drop, refl, ap, sym, ◌∙◌, arith, Some, None, Bool, true, false, cond, eqb, ltb, inl, inr}
use Rattle.std.specs.List.{slice_split, position, position_or_len, onto_first}
use Rattle.std.specs.Str.Lines.{lines, lines_of_parts, strip_carriage_return}
use Rattle.std.proofs.lemmas.Bool.{cases_Bool, ltb-true, ltb-false, ne_eqb}
use Rattle.std.proofs.lemmas.Bool.Decides.{nat_tests}
use Rattle.std.proofs.lemmas.List.Splits.{slice_split_first, length-slice_split}

-- a list without newlines is one piece
one_piece : (xs : List ℕ) → length xs ≤ position_or_len (λ b. eqb b 10) xs → slice_split (λ b. eqb b 10) xs ≡ xs ∷ []
one_piece [] h = refl
one_piece (x ∷ xs) h =
    elim (cases_Bool (eqb x 10)) as (λ _. slice_split (λ b. eqb b 10) (x ∷ xs) ≡ (x ∷ xs) ∷ []) [
      | inl t ↦ let none = rw t at h in absurd (omega arith)
      | inr f ↦ let more = rw f at h in rw f (ap (onto_first x) (one_piece xs (omega arith)))
    ]

-- what the first place says, as the two branches of `position`
found : (b : Bool) (n : ℕ) (k : ℕ) → Some k ≡ cond b (Some n) None → (b ≡ true) × (k ≡ n)
found true n k e = (refl, cc)
found false n k e = cc

missed : (b : Bool) (n : ℕ) → None ≡ cond b (Some n) None → b ≡ false
missed true n e = cc
missed false n e = refl

parts_cons : (x : List ℕ) (parts : List (List ℕ)) → 0 < length parts → lines_of_parts (x ∷ parts) ≡ strip_carriage_return x ∷ lines_of_parts parts
parts_cons x [] l = absurd (omega arith)
parts_cons x (y ∷ more) l = refl

-- the last line, without a newline
last_line : (bytes : List ℕ) → None ≡ position (λ b. eqb b 10) bytes → 0 < length bytes → lines bytes ≡ bytes ∷ []
last_line bytes e h =
    let n = position_or_len (λ b. eqb b 10) bytes in
    ap lines_of_parts (one_piece bytes (ltb-false n (length bytes) (missed (ltb n (length bytes)) n e))) ∙ ap (λ t. cond t [] (bytes ∷ [])) (ne_eqb (length bytes) 0 (λ z. omega arith))

-- a line and its newline
line_and_rest : (bytes : List ℕ) (k : ℕ) → Some k ≡ position (λ b. eqb b 10) bytes → lines bytes ≡ strip_carriage_return (take k bytes) ∷ lines (drop (k + 1) bytes)
line_and_rest bytes k e =
    let n = position_or_len (λ b. eqb b 10) bytes in
    let at = found (ltb n (length bytes)) n k e in
    let split : slice_split (λ b. eqb b 10) bytes ≡ take k bytes ∷ slice_split (λ b. eqb b 10) (drop (k + 1) bytes) =
    rw at.1 (slice_split_first (λ b. eqb b 10) bytes 0 (ltb-true n (length bytes) at.0)) in
    ap lines_of_parts split ∙ parts_cons (take k bytes) (slice_split (λ b. eqb b 10) (drop (k + 1) bytes)) (omega (arith, length-slice_split (λ b. eqb b 10) (drop (k + 1) bytes)))

some_bytes : (n : ℕ) (t : Bool) → t ≡ eqb n 0 → t ≡ false → 0 < n
some_bytes n t z f = grind (arith, nat_tests)

pub line_then : (bytes line rest : List ℕ) (k : ℕ) → Some k ≡ position (λ b. eqb b 10) bytes → line ≡ strip_carriage_return (take k bytes) → rest ≡ drop (k + 1) bytes → lines bytes ≡ line ∷ lines rest
line_then bytes line rest k e l r = line_and_rest bytes k e ∙ ap (λ x. x ∷ lines (drop (k + 1) bytes)) (sym l) ∙ ap (λ x. line ∷ lines x) (sym r)

pub line_alone : (bytes : List ℕ) (t : Bool) → t ≡ eqb (length bytes) 0 → t ≡ false → None ≡ position (λ b. eqb b 10) bytes → lines bytes ≡ bytes ∷ lines []
line_alone bytes t z f e = last_line bytes e (some_bytes (length bytes) t z f)
