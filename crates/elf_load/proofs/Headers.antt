-- The program headers, read one after another.
use Rattle.std.proofs.Common.{◌≡◌, ℕ, zero, suc, ◌+◌, ◌-◌, ◌*◌, ◌<◌, ◌≤◌, List, [], ◌∷◌, ◌++◌, refl, ap, ◌∙◌, sym, arith, length, take, drop, get_or, Bool, true, false, cond, max, ◌&&◌, ◌||◌, nat_lt}
use Rattle.std.proofs.lemmas.Bool.Decides.{nat_tests}
use Rattle.std.specs.List.{list_any}
use Rattle.std.proofs.lemmas.List.{at_drop_more, at_drop_all}
use Rattle.elf_load.specs.declared.image.Header.{Header}
use Rattle.elf_load.specs.Image.{header_at, headers_from, is_segment, is_out_of_range, end_of, greatest_end}

pub headers_none : (file : List ℕ) (at : ℕ) → [] ≡ headers_from file at 0
unfolding headers_from
headers_none file at = refl

headers_suc : (file : List ℕ) (at n : ℕ) → headers_from file at (suc n) ≡ header_at file at ∷ headers_from file (at + 32) n
unfolding headers_from
headers_suc file at n = refl

pub headers_more : (file : List ℕ) (at n : ℕ) → headers_from file at (n + 1) ≡ headers_from file at n ++ header_at file (at + 32 * n) ∷ []
headers_more file at zero =
    let none = headers_none file at in
    let next = headers_none file (at + 32) in
    let one : 0 + 1 ≡ suc zero = omega arith in
    let here : at ≡ at + 32 * 0 = omega arith in
    ap (headers_from file at) one ∙ headers_suc file at 0 ∙ ap (λ hs. header_at file at ∷ hs) (sym next) ∙ ap (λ a. header_at file a ∷ []) here ∙ ap (λ hs. hs ++ header_at file (at + 32 * 0) ∷ []) none
headers_more file at (suc n) =
    let more : suc n + 1 ≡ suc (n + 1) = omega arith in
    let place : (at + 32) + 32 * n ≡ at + 32 * suc n = omega arith in
    ap (headers_from file at) more ∙ headers_suc file at (n + 1) ∙ ap (λ hs. header_at file at ∷ hs) (headers_more file (at + 32) n)
    ∙ ap (λ a. header_at file at ∷ (headers_from file (at + 32) n ++ header_at file a ∷ [])) place
    ∙ ap (λ hs. hs ++ header_at file (at + 32 * suc n) ∷ []) (sym (headers_suc file at n))

pub greatest_more : (hs : List Header) (i most : ℕ) (d : Header) → i < length hs → greatest_end (drop i hs) most ≡ greatest_end (drop (i + 1) hs) (cond (is_segment (get_or hs i d)) (max most (end_of (get_or hs i d))) most)
greatest_more hs i most d h = at_drop_more (λ l. greatest_end l most) hs i d h

pub greatest_all : (hs : List Header) (i most : ℕ) → length hs ≤ i → greatest_end (drop i hs) most ≡ most
greatest_all hs i most h = at_drop_all (λ l. greatest_end l most) hs i h

true_false : true ≡ false → ⊥
true_false e = cc

or_left : (a b : Bool) → (a || b) ≡ false → a ≡ false
or_left true b e = e
or_left false b e = refl

or_right : (a b : Bool) → (a || b) ≡ false → b ≡ false
or_right true b e = absurd (true_false e)
or_right false b e = e

within : (s low : Bool) (e : ℕ) → (s && (low || nat_lt 0x70000000 e)) ≡ false → s ≡ true → e ≤ 0x70000000
within s low e out is = grind (arith, nat_tests)

bounded_by : (s : Bool) (most e : ℕ) → most ≤ 0x70000000 → (s ≡ true → e ≤ 0x70000000) → cond s (max most e) most ≤ 0x70000000
bounded_by true most e h k = omega (arith, k refl)
bounded_by false most e h k = h

greatest_le : (hs : List Header) (most : ℕ) → list_any is_out_of_range hs ≡ false → most ≤ 0x70000000 → greatest_end hs most ≤ 0x70000000
greatest_le [] most out h = h
greatest_le (x ∷ hs) most out h =
    greatest_le hs _ (or_right (is_out_of_range x) (list_any is_out_of_range hs) out)
    (bounded_by (is_segment x) most (end_of x) h (within (is_segment x) (nat_lt x.addr 0x1000) (end_of x) (or_left (is_out_of_range x) (list_any is_out_of_range hs) out)))

pub greatest_in_range : (hs : List Header) → list_any is_out_of_range hs ≡ false → greatest_end hs 0 ≤ 0x70000000
greatest_in_range hs out = greatest_le hs 0 out (omega arith)
