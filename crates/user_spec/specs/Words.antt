-- Numbers of 32 bits.
use Rattle.std.specs.Prelude.{ℕ, ◌+◌, ◌-◌, ◌*◌, ◌/◌, ◌%◌, ◌^◌, ℤ, Bool, int_lt, nat_lt, if◌then◌else◌}
use Rattle.std.specs.Int.{w32, cast_signed, cast_unsigned, int_shr}

-- a sum and a difference modulo 2 ^ 32
abbrev pub sum_of : ℕ → ℕ → ℕ
sum_of a b = (a + b) % 2 ^ 32

abbrev pub difference_of : ℕ → ℕ → ℕ
difference_of a b = (a + (2 ^ 32 - b)) % 2 ^ 32

-- a signed immediate as 32 bits
abbrev pub extended : ℤ → ℕ
extended immediate = cast_unsigned w32 immediate

-- the comparison as signed numbers
abbrev pub is_below : ℕ → ℕ → Bool
is_below a b = int_lt (cast_signed w32 a) (cast_signed w32 b)

abbrev pub one_if : Bool → ℕ
one_if b = if b then 1 else 0

-- shifts by the low five bits of k
abbrev pub shifted_left : ℕ → ℕ → ℕ
shifted_left a k = a * 2 ^ (k % 32) % 2 ^ 32

abbrev pub shifted_right : ℕ → ℕ → ℕ
shifted_right a k = a / 2 ^ (k % 32)

abbrev pub shifted_signed : ℕ → ℕ → ℕ
shifted_signed a k = cast_unsigned w32 (int_shr (cast_signed w32 a) (k % 32))

-- a number of n bits as 32 bits, its highest bit in all those above
abbrev pub sign_filled : ℕ → ℕ → ℕ
sign_filled n w = if nat_lt w (2 ^ (n - 1)) then w else w + (2 ^ 32 - 2 ^ n)
