-- Parts of a list, item by item and whole.
use Rattle.std.proofs.Common.{◌≡◌, ℕ, zero, suc, ◌+◌, ◌*◌, ◌≤◌, List, [], ◌∷◌, ◌++◌, refl, ap, ◌∙◌, sym, arith, length, take, drop, set, get_or, drop-cons, append_assoc}
use Rattle.std.proofs.lemmas.List.{length-set, take_more_set, drop-set-lt, take-append-drop, drop-drop, get_or-drop}
use borrow.Rule.Slice.PartMut.{put_mid}
use Rattle.byteorder.specs.Endian.{little_from, little_number}
use Rattle.page_set.specs.Pages.{with_part, little}
use Rattle.page_set.specs.Tree.{part, set_part}

pub part_is : (n : ℕ) (xs : List ℕ) (at : ℕ) → at + n ≤ length xs → take n (drop at xs) ≡ part n xs at
part_is zero xs at h = refl
part_is (suc n) xs at h =
    let one : suc at ≡ at + 1 = omega arith in
    ap (take (suc n)) (drop-cons xs at 0 (omega arith))
    ∙ ap (λ k. get_or xs at 0 ∷ take n (drop k xs)) one
    ∙ ap (λ ys. get_or xs at 0 ∷ ys) (part_is n xs (at + 1) (omega arith))

pub set_part_is : (bs xs : List ℕ) (at : ℕ) → at + length bs ≤ length xs → with_part at bs xs ≡ set_part xs at bs
set_part_is [] xs at h =
    let none : at + length {A = ℕ} [] ≡ at = omega arith in
    ap (λ k. take at xs ++ drop k xs) none ∙ take-append-drop at xs
set_part_is (b ∷ bs) xs at h =
    let end : at + length (b ∷ bs) ≡ at + 1 + length bs = omega arith in
    ap (λ k. take at xs ++ (b ∷ (bs ++ drop k xs))) end
    ∙ sym (append_assoc (take at xs) (b ∷ []) (bs ++ drop (at + 1 + length bs) xs))
    ∙ ap (λ front. front ++ (bs ++ drop (at + 1 + length bs) xs)) (sym (take_more_set xs at b (omega arith)))
    ∙ ap (λ back. take (at + 1) (set xs at b) ++ (bs ++ back)) (sym (drop-set-lt (at + 1 + length bs) xs at b (omega arith)))
    ∙ set_part_is bs (set xs at b) (at + 1) (omega (arith, length-set xs at b))

pub length-set_part : (bs xs : List ℕ) (at : ℕ) → length (set_part xs at bs) ≡ length xs
length-set_part [] xs at = refl
length-set_part (b ∷ bs) xs at = length-set_part bs (set xs at b) (at + 1) ∙ length-set xs at b

-- after bytes were copied to a part of a frame's bytes
pub put_mid_is : (at k : ℕ) (xs bs ys : List ℕ) → ys ≡ bs → k ≡ length bs → at + length bs ≤ length xs → put_mid at k xs ys ≡ set_part xs at bs
put_mid_is at k xs bs ys ey ek h =
    ap (λ zs. take at xs ++ (zs ++ drop k (drop at xs))) ey
    ∙ ap (λ zs. take at xs ++ (bs ++ zs)) (drop-drop k at xs ∙ ap (λ n. drop (at + n) xs) ek)
    ∙ set_part_is bs xs at h

pub length-part : (n : ℕ) (xs : List ℕ) (at : ℕ) → length (part n xs at) ≡ n
length-part zero xs at = refl
length-part (suc n) xs at = ap suc (length-part n xs (at + 1))

number_from : (n i at : ℕ) (xs : List ℕ) → little_from i n (drop at xs) ≡ little (part n xs (at + i))
number_from zero i at xs = refl
number_from (suc n) i at xs =
    let next : at + suc i ≡ at + i + 1 = omega arith in
    ap (λ b. b + 256 * little_from (suc i) n (drop at xs)) (get_or-drop at xs i 0)
    ∙ ap (λ m. get_or xs (at + i) 0 + 256 * m) (number_from n (suc i) at xs ∙ ap (λ k. little (part n xs k)) next)

-- the number in the bytes from a place on
pub number_of_part : (n at : ℕ) (xs : List ℕ) → little_number n (drop at xs) ≡ little (part n xs at)
number_of_part n at xs = let here : at + 0 ≡ at = omega arith in number_from n 0 at xs ∙ ap (λ k. little (part n xs k)) here
