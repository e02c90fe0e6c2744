-- The first operand ends at the first comma outside quotes.
use Rattle.std.proofs.Common.{◌≡◌, ℕ, zero, suc, ◌+◌, ◌-◌, ◌<◌, ◌≤◌, List, [], ◌∷◌, length, take, drop, map, refl, ap, sym, ◌∙◌, arith, Option, Some, None, Bool, true, false, cond, eqb, ◌&&◌, add-one}
use Rattle.std.specs.Prelude.{slice_get}
use Rattle.std.specs.Option.{option_map}
use Rattle.std.proofs.lemmas.Bool.{cond_both, cond-true, cond-false, ne_eqb}
use Rattle.std.proofs.lemmas.Option.{slice_get-map, slice_get_past}
use Rattle.std.proofs.lemmas.List.{drop-drop, length-drop, drop-map, take_rest}
use Rattle.std.proofs.Math.ListN.{drop_of_length-le}
use Rattle.std.specs.List.{onto_first, list_all}
use Rattle.rv_asm.specs.Lexing.{pieces, outside_from, after, is_outside, operands_of, trimmed, is_operand, fault_of_extra}
use Rattle.rv_asm.specs.Cuts.{pieces_of}
use Rattle.rv_asm.specs.declared.fault.FaultKind.TheVariants.{Extra, BadOperand}
use Rattle.rv_asm.specs.declared.lexing.Quote.{Quote}
use Rattle.rv_asm.specs.declared.lexing.Quote.TheVariants.{Outside, Inside, Escaped}

-- what the first place says of the pieces, where the first byte has place i
Cut : ℕ → Quote → List ℕ → Option ℕ → Type 0
Cut i q bs None = pieces q bs ≡ bs ∷ []
Cut i q bs (Some k) = (n : ℕ) × (k ≡ i + n) × (pieces q bs ≡ take n bs ∷ pieces Outside (drop (suc n) bs))

-- behind a comma outside quotes one is outside quotes
comma_stays : (q : Quote) (b : ℕ) → (is_outside q && eqb b 44) ≡ true → after q b ≡ Outside
comma_stays Outside b e = grind arith
comma_stays Inside b e = cc
comma_stays Escaped b e = cc

cut_here : (i : ℕ) (q : Quote) (b : ℕ) (bs : List ℕ) → (is_outside q && eqb b 44) ≡ true → Cut i q (b ∷ bs) (Some i)
unfolding Cut
cut_here i q b bs e = (0, omega arith, rw (e, comma_stays q b e))

cut_later : (i : ℕ) (q r : Quote) (b : ℕ) (bs : List ℕ) (o : Option ℕ) → pieces q (b ∷ bs) ≡ onto_first b (pieces r bs) → Cut (i + 1) r bs o → Cut i q (b ∷ bs) o
unfolding Cut
cut_later i q r b bs None e h = e ∙ ap (onto_first b) h
cut_later i q r b bs (Some k) e h = (suc h.0, omega (arith, h.1), e ∙ ap (onto_first b) h.2)

cut : (i : ℕ) (q : Quote) (bs : List ℕ) → Cut i q bs (outside_from 44 i q bs)
unfolding Cut
cut i q [] = refl
cut i q (b ∷ bs) =
    cond_both (is_outside q && eqb b 44) (Some i) (outside_from 44 (i + 1) (after q b) bs) (Cut i q (b ∷ bs)) (λ e. cut_here i q b bs e) (λ e. cut_later i q (after q b) b bs (outside_from 44 (i + 1) (after q b) bs) (cond-false (is_outside q && eqb b 44) ([] ∷ pieces (after q b) bs) (onto_first b (pieces (after q b) bs)) e) (cut (i + 1) (after q b) bs))

-- what stands behind the byte at k
pub behind_is : (bytes back : List ℕ) (k : ℕ) → back ≡ drop k bytes → take (length back - 1) (drop 1 back) ≡ drop (k + 1) bytes
behind_is bytes back k e = take_rest back 1 ∙ ap (drop 1) e ∙ drop-drop 1 k bytes

pub cut_at : (bytes rest : List ℕ) (k : ℕ) → Some k ≡ outside_from 44 0 Outside bytes → rest ≡ drop (k + 1) bytes → pieces Outside bytes ≡ take k bytes ∷ pieces Outside rest
unfolding Cut
cut_at bytes rest k e r =
    let h = rw (sym e) at (cut 0 Outside bytes) in
    let n : h.0 ≡ k = omega (arith, h.1) in
    rw (r, add-one, ← n) h.2

pub cut_none : (bytes : List ℕ) → outside_from 44 0 Outside bytes ≡ None → pieces Outside bytes ≡ bytes ∷ []
unfolding Cut
cut_none bytes e = rw e at (cut 0 Outside bytes)

-- ---- one operand after another

pub drop_next : {A : Type 0} (n : ℕ) (xs : List A) (y : A) (ys : List A) → drop n xs ≡ y ∷ ys → drop (n + 1) xs ≡ ys
drop_next n xs y ys e = sym (drop-drop 1 n xs) ∙ ap (drop 1) e

drop-one : {A : Type 0} (k : ℕ) (y : A) → 0 < k → drop k (y ∷ []) ≡ []
drop-one k y h = drop_of_length-le (y ∷ []) h

pub drop_past : {A : Type 0} (n m : ℕ) (xs : List A) (y : A) → drop n xs ≡ y ∷ [] → n < m → drop m xs ≡ []
drop_past n m xs y e h =
    let k : n + (m - n) ≡ m = omega arith in
    let a = drop-drop (m - n) n xs in
    rw (← k, ← a, e) (drop-one (m - n) y (omega arith))

get_at_drop : {A : Type 0} (n : ℕ) (xs : List A) (y : A) (ys : List A) → drop n xs ≡ y ∷ ys → slice_get xs n ≡ Some y
get_at_drop zero [] y ys e = cc
get_at_drop (suc n) [] y ys e = cc
get_at_drop zero (x ∷ xs) y ys e = cc
get_at_drop (suc n) (x ∷ xs) y ys e = get_at_drop n xs y ys e

operands_are : (bytes : List ℕ) → (length bytes ≡ 0 → ⊥) → operands_of bytes ≡ map trimmed (pieces Outside bytes)
operands_are bytes h = cond-false (eqb (length bytes) 0) [] (map trimmed (pieces Outside bytes)) (ne_eqb (length bytes) 0 h)

pub operand_there : (bytes : List ℕ) (n : ℕ) (y : List ℕ) (ys : List (List ℕ)) → (length bytes ≡ 0 → ⊥) → drop n (pieces Outside bytes) ≡ y ∷ ys → slice_get (operands_of bytes) n ≡ Some (trimmed y)
operand_there bytes n y ys h e =
    ap (λ xs. slice_get xs n) (operands_are bytes h) ∙ slice_get-map trimmed (pieces Outside bytes) n ∙ ap (option_map trimmed) (get_at_drop n (pieces Outside bytes) y ys e)

pub operand_past : (bytes : List ℕ) (n : ℕ) → (length bytes ≡ 0 → ⊥) → drop n (pieces Outside bytes) ≡ [] → slice_get (operands_of bytes) n ≡ None
operand_past bytes n h e =
    let long : length (pieces Outside bytes) ≤ n = omega (arith, length-drop n (pieces Outside bytes), ap length e) in
    ap (λ xs. slice_get xs n) (operands_are bytes h) ∙ slice_get-map trimmed (pieces Outside bytes) n ∙ ap (option_map trimmed) (slice_get_past (pieces Outside bytes) n long)

fault_onto_first : (b : ℕ) (xs : List (List ℕ)) → fault_of_extra (map trimmed (onto_first b xs)) ≡ Some (cond (list_all is_operand (map trimmed (onto_first b xs))) Extra BadOperand)
fault_onto_first b [] = refl
fault_onto_first b (x ∷ xs) = refl

fault_is : (q : Quote) (bs : List ℕ) → fault_of_extra (map trimmed (pieces q bs)) ≡ Some (cond (list_all is_operand (map trimmed (pieces q bs))) Extra BadOperand)
fault_is q [] = refl
fault_is q (b ∷ bs) =
    cond_both (is_outside q && eqb b 44) ([] ∷ pieces (after q b) bs) (onto_first b (pieces (after q b) bs)) (λ xs. fault_of_extra (map trimmed xs) ≡ Some (cond (list_all is_operand (map trimmed xs)) Extra BadOperand)) (λ _. refl) (λ _. fault_onto_first b (pieces (after q b) bs))

extra_there : (bytes rest : List ℕ) (n : ℕ) → (length bytes ≡ 0 → ⊥) → drop n (pieces Outside bytes) ≡ pieces Outside rest → fault_of_extra (drop n (operands_of bytes)) ≡ Some (cond (list_all is_operand (map trimmed (pieces Outside rest))) Extra BadOperand)
extra_there bytes rest n h e =
    ap (λ xs. fault_of_extra (drop n xs)) (operands_are bytes h) ∙ ap fault_of_extra (drop-map trimmed n (pieces Outside bytes) ∙ ap (map trimmed) e) ∙ fault_is Outside rest

pub extra_more : (bytes rest : List ℕ) (n : ℕ) → (length bytes ≡ 0 → ⊥) → drop n (pieces Outside bytes) ≡ pieces Outside rest → list_all is_operand (map trimmed (pieces Outside rest)) ≡ true → fault_of_extra (drop n (operands_of bytes)) ≡ Some Extra
extra_more bytes rest n h e t = extra_there bytes rest n h e ∙ ap (λ b. Some (cond b Extra BadOperand)) t

pub extra_bad : (bytes rest : List ℕ) (n : ℕ) → (length bytes ≡ 0 → ⊥) → drop n (pieces Outside bytes) ≡ pieces Outside rest → list_all is_operand (map trimmed (pieces Outside rest)) ≡ false → fault_of_extra (drop n (operands_of bytes)) ≡ Some BadOperand
extra_bad bytes rest n h e t = extra_there bytes rest n h e ∙ ap (λ b. Some (cond b Extra BadOperand)) t

pub extra_none : (bytes : List ℕ) (n : ℕ) → (length bytes ≡ 0 → ⊥) → drop n (pieces Outside bytes) ≡ [] → fault_of_extra (drop n (operands_of bytes)) ≡ None
extra_none bytes n h e =
    ap (λ xs. fault_of_extra (drop n xs)) (operands_are bytes h) ∙ ap fault_of_extra (drop-map trimmed n (pieces Outside bytes) ∙ ap (map trimmed) e)
