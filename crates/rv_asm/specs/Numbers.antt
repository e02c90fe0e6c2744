-- Numbers as operands write them.
use Rattle.std.specs.Prelude.{ℕ, suc, ◌+◌, ◌*◌, ◌^◌, min, Bool, ◌&&◌, ◌==◌, nat_lt, List, [], ◌∷◌, length, drop, slice_index, ℤ, pos, negsuc, neg_ℤ, Option, Some, None, Result, Ok, Err, if◌then◌else◌}
use Rattle.std.specs.Option.{option_map}
use Rattle.std.specs.Char.{digit_value}
use Rattle.rv_decode.specs.Fields.{twos_complement}
use Rattle.rv_decode.specs.Operands.{is_within, below_of, immediate_of, shift_of, upper_of}
use Rattle.rv_asm.specs.declared.fault.FaultKind.{FaultKind}
use Rattle.rv_asm.specs.declared.fault.FaultKind.TheVariants.{BadOperand, OutOfRange}

-- the number that the digits of n and these write
abbrev pub digits_after : ℕ → ℕ → List ℕ → Option ℕ
digits_after radix n [] = Some n
digits_after radix n (c ∷ cs) = if nat_lt (digit_value c) radix then digits_after radix (n * radix + digit_value c) cs else None

-- one digit or more
abbrev pub natural_of : ℕ → List ℕ → Option ℕ
natural_of radix digits = if length digits == 0 then None else digits_after radix 0 digits

-- it begins with `0x`
abbrev pub is_hexadecimal : List ℕ → Bool
is_hexadecimal bytes = slice_index bytes 0 == 48 && slice_index bytes 1 == 120

-- decimal digits with a sign or without, or hexadecimal digits behind `0x`
abbrev pub number_of : List ℕ → Option ℤ
number_of bytes =
    if slice_index bytes 0 == 45 then option_map (λ n. neg_ℤ (pos n)) (natural_of 10 (drop 1 bytes)) else
    (if slice_index bytes 0 == 43 then option_map pos (natural_of 10 (drop 1 bytes)) else
    (if is_hexadecimal bytes then option_map pos (natural_of 16 (drop 2 bytes)) else
    option_map pos (natural_of 10 bytes)))

-- ---- numbers in their ranges

abbrev pub in_range : {A : Type 0} → Option A → Result A FaultKind
in_range None = Err OutOfRange
in_range (Some x) = Ok x

-- what f makes of the number that stands there
abbrev pub ranged : {A : Type 0} → (ℤ → Option A) → Option ℤ → Result A FaultKind
ranged f None = Err BadOperand
ranged f (Some z) = in_range (f z)

-- a number of 32 bits, with a sign or without, as a word
abbrev pub word_of_number : ℤ → Option ℕ
word_of_number z = if is_within (neg_ℤ (pos (2 ^ 31))) (pos 0xFFFFFFFF) z then Some (twos_complement 32 z) else None

-- a number of 8 bits, with a sign or without, as a byte
abbrev pub byte_of_number : ℤ → Option ℕ
byte_of_number z = if is_within (neg_ℤ (pos 128)) (pos 255) z then Some (twos_complement 8 z) else None

-- a number of 32 bits without a sign
abbrev pub size_of_number : ℤ → Option ℕ
size_of_number z = below_of (2 ^ 32) z

-- ---- the same as far as the code tells numbers apart: all past 2 ^ 33 are one

abbrev pub capped : ℕ → ℕ
capped n = min n 0x200000000

abbrev pub near : ℤ → ℤ
near (pos n) = pos (min n 0x200000000)
near (negsuc n) = negsuc (min n 0x1FFFFFFFF)
