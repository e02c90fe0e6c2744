-- Digits, one after the other.
use Rattle.std.proofs.Common.{◌≡◌, ℕ, ◌+◌, ◌*◌, ◌<◌, ◌≤◌, true, List, [], ◌∷◌, length, drop, get_or, None, arith, refl, add-one}
use Rattle.std.proofs.Math.Seq.{drop-cons}
use Rattle.std.proofs.lemmas.List.{drop_all}
use Rattle.std.proofs.lemmas.Bool.{lt-leb}
use Rattle.std.proofs.lemmas.Str.Parse.{digit_at, tells_all_ascii_digits, numerals_by_value, IsNumeralModel}
use Rattle.std.specs.Char.{digit_value}
use Rattle.std.specs.Int.{IsInRange}
use Rattle.std.specs.Str.{all_ascii_digits}
use Rattle.std.specs.Str.Parse.{digits_value, digits_value_after}
use Rattle.mosix_words.specs.Numbers.{at_most}

own : IsNumeralModel (λ ds. all_ascii_digits ds ≡ true) (digits_value 10)
own = numerals_by_value _ tells_all_ascii_digits

pub digit_at_index : (ds : List ℕ) (i : ℕ) → all_ascii_digits ds ≡ true → i < length ds → IsInRange 48 57 (get_or ds i 0)
digit_at_index ds i all h = digit_at ds i (own.to ds all) h

-- what follows a number only makes it greater
after-le : (ds : List ℕ) (n : ℕ) → n ≤ digits_value_after 10 n ds
after-le [] n = omega arith
after-le (c ∷ cs) n = omega (arith, after-le cs (n * 10 + digit_value c))

-- one digit more
pub digits_more : (ds : List ℕ) (i n : ℕ) → i < length ds → digits_value_after 10 n (drop i ds) ≡ digits_value_after 10 (n * 10 + digit_value (get_or ds i 0)) (drop (i + 1) ds)
digits_more ds i n h = rw (add-one, drop-cons ds i 0 h) refl

-- no digit is left
pub digits_end : (ds : List ℕ) (i n : ℕ) → length ds ≤ i → digits_value_after 10 n (drop i ds) ≡ n
digits_end ds i n h = rw (drop_all i ds h) refl

-- the number is too great before its last digit
pub digits_over : (ds : List ℕ) (i n most : ℕ) → i < length ds → most < n * 10 + digit_value (get_or ds i 0) → at_most most (digits_value_after 10 n (drop i ds)) ≡ None
digits_over ds i n most h over =
    rw (digits_more ds i n h) (let big : most < digits_value_after 10 (n * 10 + digit_value (get_or ds i 0)) (drop (i + 1) ds) = omega (arith, after-le (drop (i + 1) ds) (n * 10 + digit_value (get_or ds i 0))) in rw (lt-leb _ _ big) refl)
