-- What each kind of word is read as, and spelled as.
use Rattle.std.proofs.Common.{◌≡◌, ℕ, zero, suc, ◌+◌, ◌-◌, ◌^◌, ◌<◌, ◌≤◌, Bool, true, false, cond, List, [], ◌∷◌, length, get_or, Option, Some, None, IfSome, ◌==◌, ℤ, pos, negsuc, refl, sym, ◌∙◌, ap, subst, arith, inl, inr}
use Rattle.std.proofs.Math.Facts.{sfits_lit, yes_ltb}
use Rattle.std.proofs.lemmas.Bool.{eqb-true, eqb-false, ne_eqb, leb-true, le-leb, and_parts, false_from_ne_true}
use Rattle.std.proofs.lemmas.Fmt.{decimal_digit, decimal_nonempty, first_decimal, digits_decimal, digits_value-decimal, decimal-digits_value}
use Rattle.std.proofs.lemmas.Option.{same_Some}
use Rattle.std.proofs.lemmas.Slice.Eq.{bytes_eq-Decides}
use Rattle.std.specs.Prelude.{codes, nat_le}
use Rattle.std.specs.Int.{IsInRange}
use Rattle.std.specs.Fmt.{decimal, signed_decimal}
use Rattle.std.specs.Option.{option_map}
use Rattle.std.specs.Str.{all_ascii_digits, bytes_eq}
use Rattle.std.specs.Str.Parse.{digits_value}
use Rattle.call_table.specs.declared.process.End.{End}
use Rattle.call_table.specs.declared.process.End.TheVariants.{Exit, Signal}
use Rattle.node_event.specs.declared.event.Unsent.{Unsent}
use Rattle.node_event.specs.declared.event.Unsent.TheVariants as unsent
use Rattle.node_event.specs.declared.event.Way.{Way}
use Rattle.node_event.specs.declared.event.Way.TheVariants.{Did, Broke, Fell, Paused}
use Rattle.node_event.specs.declared.event.Kept.{Kept}
use Rattle.node_event.specs.declared.event.Kept.TheVariants as kept
use Rattle.node_event.specs.declared.event.Refusal.{Refusal}
use Rattle.node_event.specs.declared.event.Refusal.TheVariants as refusal
use Rattle.node_event.specs.Lines.{optional, flag_text, unsent_text, way_text, end_text, kept_text, refusal_text, IsNumber, IsSmall, IsInteger, IsEnd}
use Rattle.node_event.specs.Reading.{is_plain, at_most, number_up_to, negative, integer_of, end_of, flag_of, unsent_of, way_of, kept_of, refusal_of, number_at, small_at, flag_at, way_at, refusal_at, maybe_number_at, maybe_small_at, maybe_integer_at, maybe_end_at, maybe_unsent_at, maybe_kept_at}
use Rattle.node_event.proofs.Numbers.{own, digit_at_index}
use Rattle.node_event.proofs.Spelling.{chosen, mapped_some, no_blank, Reads, NoDash, maybe_reads, Spells, field_spells, named_takes}

-- ---- digits

-- digits without a leading zero
record Plain (word : List ℕ) : Type 0 where
  digits : all_ascii_digits word ≡ true
  some : 0 < length word
  leading : get_or word 0 0 ≡ 48 → length word ≡ 1

zero_alone : (word : List ℕ) → get_or word 0 0 ≡ 48 → length word ≡ 1 → all_ascii_digits word ≡ true
zero_alone [] first one = refl
zero_alone (byte ∷ []) first one = rw first refl
zero_alone (byte ∷ next ∷ bytes) first one = absurd (omega arith)

plain_parts : (word : List ℕ) → is_plain word ≡ true → Plain word
plain_parts word e =
    elim (chosen (length word == 0) false (cond (get_or word 0 0 == 48) (length word == 1) (all_ascii_digits word)) true e) [
      | inl h ↦ absurd (cc (h.1))
      | inr h ↦
          let some : 0 < length word = grind (arith, eqb-false (length word) 0 h.0) in
          elim (chosen (get_or word 0 0 == 48) (length word == 1) (all_ascii_digits word) true h.1) [
            | inl k ↦ let one = eqb-true (length word) 1 k.1 in record { digits = zero_alone word (eqb-true (get_or word 0 0) 48 k.0) one; some = some; leading = λ _. one }
            | inr k ↦ record { digits = k.1; some = some; leading = λ first. absurd (eqb-false (get_or word 0 0) 48 k.0 first) }
          ]
    ]

decimal_digits : (n : ℕ) → n < 2 ^ 64 → all_ascii_digits (decimal n) ≡ true
decimal_digits n small = digits_decimal own n small

is_plain-decimal : (n : ℕ) → n < 2 ^ 64 → is_plain (decimal n) ≡ true
is_plain-decimal zero small = rw (decimal_digit 0 (omega arith)) refl
is_plain-decimal (suc n) small =
    let some = decimal_nonempty (suc n) small in
    let first = first_decimal (suc n) (omega arith) small in
    rw (ne_eqb (length (decimal (suc n))) 0 (λ e. omega arith), ne_eqb (get_or (decimal (suc n)) 0 0) 48 (λ e. omega arith)) (decimal_digits (suc n) small)

digits_solid : (word : List ℕ) → all_ascii_digits word ≡ true → no_blank word ≡ true
digits_solid [] all = refl
digits_solid (byte ∷ bytes) all =
    let digit : IsInRange 48 57 byte = digit_at_index (byte ∷ bytes) 0 all (omega arith) in
    rw (ne_eqb byte 32 (λ e. omega arith)) (digits_solid bytes (and_parts _ _ all).1)

-- ---- numbers

number_takes : (most limit : ℕ) → limit ≡ most + 1 → limit ≤ 2 ^ 64 → (word : List ℕ) (n : ℕ) → number_up_to most word ≡ Some n → (decimal n ≡ word) × (n < limit)
unfolding number_up_to
number_takes most limit next bound word n e =
    elim (chosen (is_plain word) (at_most most (digits_value 10 word)) None (Some n) e) [
      | inr h ↦ absurd (cc (h.1))
      | inl h ↦
          let plain = plain_parts word h.0 in
          elim (chosen (nat_le (digits_value 10 word) most) (Some (digits_value 10 word)) None (Some n) h.1) [
            | inr k ↦ absurd (cc (k.1))
            | inl k ↦
                let below : digits_value 10 word ≤ most = leb-true _ _ k.0 in
                let spelled = decimal-digits_value own word plain.digits plain.some plain.leading (omega arith) in
                subst (λ (m : ℕ). (decimal m ≡ word) × (m < limit)) (same_Some _ _ k.1) (spelled, omega arith)
          ]
    ]

number_again : (most n : ℕ) → n ≤ most → n < 2 ^ 64 → number_up_to most (decimal n) ≡ Some n
unfolding number_up_to
number_again most n below small = rw (is_plain-decimal n small, digits_value-decimal own n small, le-leb n most below) refl

number_reads : (most limit : ℕ) → limit ≡ most + 1 → limit ≤ 2 ^ 64 → Reads decimal (λ n. n < limit) (number_up_to most)
number_reads most limit next bound = record {
  takes = number_takes most limit next bound;
  again = λ n fits. number_again most n (omega arith) (omega arith);
  solid = λ n fits. digits_solid (decimal n) (decimal_digits n (omega arith));
}

-- a word of digits is not `-`
digits_no_dash : (word : List ℕ) → all_ascii_digits word ≡ true → bytes_eq word (codes "-") ≡ false
digits_no_dash word all = false_from_ne_true _ (λ same. let dash : true ≡ all_ascii_digits (codes "-") = sym all ∙ ap all_ascii_digits ((bytes_eq-Decides word (codes "-")).0 same) in cc)

number_no_dash : (limit : ℕ) → limit ≤ 2 ^ 64 → NoDash decimal (λ n. n < limit)
number_no_dash limit bound n fits = digits_no_dash (decimal n) (decimal_digits n (omega arith))

-- ---- signed numbers

integer_of-digits : (word : List ℕ) → all_ascii_digits word ≡ true → integer_of word ≡ option_map pos (number_up_to (2 ^ 31 - 1) word)
unfolding integer_of number_up_to
integer_of-digits [] all = refl
integer_of-digits (byte ∷ bytes) all =
    let digit : IsInRange 48 57 byte = digit_at_index (byte ∷ bytes) 0 all (omega arith) in
    rw (ne_eqb byte 45 (λ e. omega arith)) refl

negative_some : (o : Option ℕ) (z : ℤ) → negative o ≡ Some z → (n : ℕ) × (o ≡ Some (suc n)) × (negsuc n ≡ z)
negative_some None z e = absurd (cc)
negative_some (Some zero) z e = absurd (cc)
negative_some (Some (suc n)) z e = (n, refl, same_Some _ _ e)

-- 32 bits hold a number below 2 ^ 31, and one below 0 from there up
pos_fits : (n : ℕ) → n < 2 ^ 31 → IsInteger (pos n)
pos_fits n small = sfits_lit (yes_ltb small)

negsuc_fits : (n : ℕ) → n < 2 ^ 31 → IsInteger (negsuc n)
negsuc_fits n small = sfits_lit (yes_ltb small)

pos_small : (n : ℕ) → IsInteger (pos n) → n < 2 ^ 31
pos_small n fits = fits.sfits

negsuc_small : (n : ℕ) → IsInteger (negsuc n) → n < 2 ^ 31
negsuc_small n fits = fits.sfits

integer_takes : (word : List ℕ) (z : ℤ) → integer_of word ≡ Some z → (signed_decimal z ≡ word) × IsInteger z
unfolding integer_of
integer_takes [] z e = absurd (cc)
integer_takes (byte ∷ bytes) z e =
    let P : ℤ → Type 0 = λ y. (signed_decimal y ≡ byte ∷ bytes) × IsInteger y in
    elim (chosen (byte == 45) (negative (number_up_to (2 ^ 31) bytes)) (option_map pos (number_up_to (2 ^ 31 - 1) (byte ∷ bytes))) (Some z) e) [
      | inl h ↦
          let found = negative_some (number_up_to (2 ^ 31) bytes) z h.1 in
          let taken = number_takes (2 ^ 31) (2 ^ 31 + 1) refl (omega arith) bytes (suc found.0) found.1 in
          subst P found.2 (rw (taken.0, eqb-true byte 45 h.0) refl, negsuc_fits found.0 (omega arith))
      | inr h ↦
          let found = mapped_some pos (number_up_to (2 ^ 31 - 1) (byte ∷ bytes)) z h.1 in
          let taken = number_takes (2 ^ 31 - 1) (2 ^ 31) refl (omega arith) (byte ∷ bytes) found.0 found.1 in
          subst P found.2 (taken.0, pos_fits found.0 taken.1)
    ]

integer_again : (z : ℤ) → IsInteger z → integer_of (signed_decimal z) ≡ Some z
unfolding integer_of
integer_again (pos n) fits =
    let small = pos_small n fits in
    integer_of-digits (decimal n) (decimal_digits n (omega arith)) ∙ ap (option_map pos) (number_again (2 ^ 31 - 1) n (omega arith) (omega arith))
integer_again (negsuc n) fits =
    let small = negsuc_small n fits in
    ap negative (number_again (2 ^ 31) (suc n) (omega arith) (omega arith))

integer_solid : (z : ℤ) → IsInteger z → no_blank (signed_decimal z) ≡ true
integer_solid (pos n) fits = let small = pos_small n fits in digits_solid (decimal n) (decimal_digits n (omega arith))
integer_solid (negsuc n) fits = let small = negsuc_small n fits in digits_solid (decimal (suc n)) (decimal_digits (suc n) (omega arith))

integer_no_dash : NoDash signed_decimal IsInteger
integer_no_dash (pos n) fits = let small = pos_small n fits in digits_no_dash (decimal n) (decimal_digits n (omega arith))
integer_no_dash (negsuc n) fits =
    let small = negsuc_small n fits in
    let some = decimal_nonempty (suc n) (omega arith) in
    false_from_ne_true _ (λ same. let short : suc (length (decimal (suc n))) ≡ 1 = ap length ((bytes_eq-Decides (signed_decimal (negsuc n)) (codes "-")).0 same) in omega arith)

integer_reads : Reads signed_decimal IsInteger integer_of
integer_reads = record { takes = integer_takes; again = integer_again; solid = integer_solid }

-- ---- ends

small_reads : Reads decimal IsSmall (number_up_to 255)
small_reads = number_reads 255 (2 ^ 8) refl (omega arith)

end_takes : (word : List ℕ) (x : End) → end_of word ≡ Some x → (end_text x ≡ word) × IsEnd x
unfolding end_of
end_takes [] x e = absurd (cc)
end_takes (byte ∷ bytes) x e =
    let P : End → Type 0 = λ y. (end_text y ≡ byte ∷ bytes) × IsEnd y in
    elim (chosen (byte == 120) (option_map Exit (number_up_to 255 bytes)) (cond (byte == 115) (option_map Signal (number_up_to 255 bytes)) None) (Some x) e) [
      | inl h ↦
          let found = mapped_some Exit (number_up_to 255 bytes) x h.1 in
          let taken = small_reads.takes bytes found.0 found.1 in
          subst P found.2 (rw (taken.0, eqb-true byte 120 h.0) refl, taken.1)
      | inr h ↦
          elim (chosen (byte == 115) (option_map Signal (number_up_to 255 bytes)) None (Some x) h.1) [
            | inl k ↦
                let found = mapped_some Signal (number_up_to 255 bytes) x k.1 in
                let taken = small_reads.takes bytes found.0 found.1 in
                subst P found.2 (rw (taken.0, eqb-true byte 115 k.0) refl, taken.1)
            | inr k ↦ absurd (cc (k.1))
          ]
    ]

end_again : (x : End) → IsEnd x → end_of (end_text x) ≡ Some x
unfolding end_of
end_again (Exit code) fits = ap (option_map Exit) (small_reads.again code fits)
end_again (Signal signal) fits = ap (option_map Signal) (small_reads.again signal fits)

end_solid : (x : End) → IsEnd x → no_blank (end_text x) ≡ true
end_solid (Exit code) fits = small_reads.solid code fits
end_solid (Signal signal) fits = small_reads.solid signal fits

end_no_dash : NoDash end_text IsEnd
end_no_dash (Exit code) fits = refl
end_no_dash (Signal signal) fits = refl

end_reads : Reads end_text IsEnd end_of
end_reads = record { takes = end_takes; again = end_again; solid = end_solid }

-- ---- words that stand for a value

-- of any value
abbrev pub Any : {X : Type 0} → X → Type 0
Any x = Unit {0}

flag_takes : (word : List ℕ) (x : Bool) → flag_of word ≡ Some x → (flag_text x ≡ word) × Any x
unfolding flag_of
flag_takes word x e = named_takes (λ w y. (flag_text y ≡ w) × Any y) ((codes "0", false) ∷ (codes "1", true) ∷ []) word x ((refl, tt), ((refl, tt), tt)) e

flag_again : (x : Bool) → Any x → flag_of (flag_text x) ≡ Some x
unfolding flag_of
flag_again false fits = refl
flag_again true fits = refl

flag_solid : (x : Bool) → Any x → no_blank (flag_text x) ≡ true
flag_solid false fits = refl
flag_solid true fits = refl

flag_reads : Reads flag_text (Any {X = Bool}) flag_of
flag_reads = record { takes = flag_takes; again = flag_again; solid = flag_solid }

unsent_takes : (word : List ℕ) (x : Unsent) → unsent_of word ≡ Some x → (unsent_text x ≡ word) × Any x
unfolding unsent_of
unsent_takes word x e = named_takes (λ w y. (unsent_text y ≡ w) × Any y) ((codes "ended", unsent.Ended) ∷ (codes "none", unsent.Never) ∷ []) word x ((refl, tt), ((refl, tt), tt)) e

unsent_again : (x : Unsent) → Any x → unsent_of (unsent_text x) ≡ Some x
unfolding unsent_of
unsent_again unsent.Ended fits = refl
unsent_again unsent.Never fits = refl

unsent_solid : (x : Unsent) → Any x → no_blank (unsent_text x) ≡ true
unsent_solid unsent.Ended fits = refl
unsent_solid unsent.Never fits = refl

unsent_no_dash : NoDash unsent_text (Any {X = Unsent})
unsent_no_dash unsent.Ended fits = refl
unsent_no_dash unsent.Never fits = refl

unsent_reads : Reads unsent_text (Any {X = Unsent}) unsent_of
unsent_reads = record { takes = unsent_takes; again = unsent_again; solid = unsent_solid }

way_takes : (word : List ℕ) (x : Way) → way_of word ≡ Some x → (way_text x ≡ word) × Any x
unfolding way_of
way_takes word x e = named_takes (λ w y. (way_text y ≡ w) × Any y) ((codes "did", Did) ∷ (codes "broke", Broke) ∷ (codes "fell", Fell) ∷ (codes "paused", Paused) ∷ []) word x ((refl, tt), ((refl, tt), ((refl, tt), ((refl, tt), tt)))) e

way_again : (x : Way) → Any x → way_of (way_text x) ≡ Some x
unfolding way_of
way_again Did fits = refl
way_again Broke fits = refl
way_again Fell fits = refl
way_again Paused fits = refl

way_solid : (x : Way) → Any x → no_blank (way_text x) ≡ true
way_solid Did fits = refl
way_solid Broke fits = refl
way_solid Fell fits = refl
way_solid Paused fits = refl

way_reads : Reads way_text (Any {X = Way}) way_of
way_reads = record { takes = way_takes; again = way_again; solid = way_solid }

kept_takes : (word : List ℕ) (x : Kept) → kept_of word ≡ Some x → (kept_text x ≡ word) × Any x
unfolding kept_of
kept_takes word x e = named_takes (λ w y. (kept_text y ≡ w) × Any y) ((codes "begins", kept.Begins) ∷ (codes "ended", kept.Ended) ∷ []) word x ((refl, tt), ((refl, tt), tt)) e

kept_again : (x : Kept) → Any x → kept_of (kept_text x) ≡ Some x
unfolding kept_of
kept_again kept.Begins fits = refl
kept_again kept.Ended fits = refl

kept_solid : (x : Kept) → Any x → no_blank (kept_text x) ≡ true
kept_solid kept.Begins fits = refl
kept_solid kept.Ended fits = refl

kept_no_dash : NoDash kept_text (Any {X = Kept})
kept_no_dash kept.Begins fits = refl
kept_no_dash kept.Ended fits = refl

kept_reads : Reads kept_text (Any {X = Kept}) kept_of
kept_reads = record { takes = kept_takes; again = kept_again; solid = kept_solid }

refusal_takes : (word : List ℕ) (x : Refusal) → refusal_of word ≡ Some x → (refusal_text x ≡ word) × Any x
unfolding refusal_of
refusal_takes word x e = named_takes (λ w y. (refusal_text y ≡ w) × Any y) ((codes "ended", refusal.Ended) ∷ (codes "moving", refusal.Moving) ∷ (codes "there", refusal.There) ∷ []) word x ((refl, tt), ((refl, tt), ((refl, tt), tt))) e

refusal_again : (x : Refusal) → Any x → refusal_of (refusal_text x) ≡ Some x
unfolding refusal_of
refusal_again refusal.Ended fits = refl
refusal_again refusal.Moving fits = refl
refusal_again refusal.There fits = refl

refusal_solid : (x : Refusal) → Any x → no_blank (refusal_text x) ≡ true
refusal_solid refusal.Ended fits = refl
refusal_solid refusal.Moving fits = refl
refusal_solid refusal.There fits = refl

refusal_reads : Reads refusal_text (Any {X = Refusal}) refusal_of
refusal_reads = record { takes = refusal_takes; again = refusal_again; solid = refusal_solid }

-- ---- fields

pub number_spells : Spells (λ n. 32 ∷ decimal n) IsNumber number_at
number_spells = field_spells (number_reads (2 ^ 32 - 1) (2 ^ 32) refl (omega arith))

pub small_spells : Spells (λ n. 32 ∷ decimal n) IsSmall small_at
small_spells = field_spells small_reads

pub flag_spells : Spells (λ x. 32 ∷ flag_text x) Any flag_at
flag_spells = field_spells flag_reads

pub way_spells : Spells (λ x. 32 ∷ way_text x) Any way_at
way_spells = field_spells way_reads

pub refusal_spells : Spells (λ x. 32 ∷ refusal_text x) Any refusal_at
refusal_spells = field_spells refusal_reads

pub maybe_number_spells : Spells (λ o. 32 ∷ optional decimal o) (λ o. IfSome o IsNumber) maybe_number_at
maybe_number_spells = field_spells (maybe_reads (number_reads (2 ^ 32 - 1) (2 ^ 32) refl (omega arith)) (number_no_dash (2 ^ 32) (omega arith)))

pub maybe_small_spells : Spells (λ o. 32 ∷ optional decimal o) (λ o. IfSome o IsSmall) maybe_small_at
maybe_small_spells = field_spells (maybe_reads small_reads (number_no_dash (2 ^ 8) (omega arith)))

pub maybe_integer_spells : Spells (λ o. 32 ∷ optional signed_decimal o) (λ o. IfSome o IsInteger) maybe_integer_at
maybe_integer_spells = field_spells (maybe_reads integer_reads integer_no_dash)

pub maybe_end_spells : Spells (λ o. 32 ∷ optional end_text o) (λ o. IfSome o IsEnd) maybe_end_at
maybe_end_spells = field_spells (maybe_reads end_reads end_no_dash)

pub maybe_unsent_spells : Spells (λ o. 32 ∷ optional unsent_text o) (λ o. IfSome o Any) maybe_unsent_at
maybe_unsent_spells = field_spells (maybe_reads unsent_reads unsent_no_dash)

pub maybe_kept_spells : Spells (λ o. 32 ∷ optional kept_text o) (λ o. IfSome o Any) maybe_kept_at
maybe_kept_spells = field_spells (maybe_reads kept_reads kept_no_dash)

-- the stamp, which stands first
pub stamp_reads : Reads decimal (λ n. n < 2 ^ 64) (number_up_to (2 ^ 64 - 1))
stamp_reads = number_reads (2 ^ 64 - 1) (2 ^ 64) refl (omega arith)
