-- Which numbers an operand of an instruction may be.
use Rattle.std.specs.Prelude.{◌≡◌, ℕ, ◌%◌, ◌^◌, ◌<◌, ◌≤ℤ◌, nat_lt, ◌==◌, Bool, ◌&&◌, ℤ, pos, negsuc, neg_ℤ, int_le, unsigned_abs, Option, Some, None, if◌then◌else◌}

-- the natural number z, where it is below the limit
abbrev pub below_of : ℕ → ℤ → Option ℕ
below_of limit (pos n) = if nat_lt n limit then Some n else None
below_of limit (negsuc n) = None

abbrev pub register_of : ℤ → Option ℕ
register_of z = below_of 32 z

-- how far a shift goes
abbrev pub shift_of : ℤ → Option ℕ
shift_of z = below_of 32 z

-- the immediate of format U, a word's bits 31:12
abbrev pub upper_of : ℤ → Option ℕ
upper_of z = below_of (2 ^ 20) z

-- what FENCE keeps of its word
abbrev pub fence_bits_of : ℤ → Option ℕ
fence_bits_of z = below_of (2 ^ 22) z

-- z lies from low to high
abbrev pub is_within : ℤ → ℤ → ℤ → Bool
is_within low high z = int_le low z && int_le z high

abbrev pub is_even : ℤ → Bool
is_even z = unsigned_abs z % 2 == 0

-- the immediate of formats I and S has 12 bits
abbrev pub immediate_of : ℤ → Option ℤ
immediate_of z = if is_within (neg_ℤ (pos 2048)) (pos 2047) z then Some z else None

-- the distance of a branch is even and has 13 bits
abbrev pub branch_offset_of : ℤ → Option ℤ
branch_offset_of z = if is_within (neg_ℤ (pos 4096)) (pos 4094) z && is_even z then Some z else None

-- the distance of JAL is even and has 21 bits
abbrev pub jump_offset_of : ℤ → Option ℤ
jump_offset_of z = if is_within (neg_ℤ (pos 1048576)) (pos 1048574) z && is_even z then Some z else None

-- ---- the same as facts

abbrev pub IsRegister : ℕ → Type 0
IsRegister n = n < 32

abbrev pub IsShift : ℕ → Type 0
IsShift n = n < 32

abbrev pub IsUpper : ℕ → Type 0
IsUpper n = n < 2 ^ 20

abbrev pub IsFenceBits : ℕ → Type 0
IsFenceBits n = n < 2 ^ 22

abbrev pub IsImmediate : ℤ → Type 0
IsImmediate z = (neg_ℤ (pos 2048) ≤ℤ z) × (z ≤ℤ pos 2047)

abbrev pub IsBranchOffset : ℤ → Type 0
IsBranchOffset z = (neg_ℤ (pos 4096) ≤ℤ z) × (z ≤ℤ pos 4094) × (unsigned_abs z % 2 ≡ 0)

abbrev pub IsJumpOffset : ℤ → Type 0
IsJumpOffset z = (neg_ℤ (pos 1048576) ≤ℤ z) × (z ≤ℤ pos 1048574) × (unsigned_abs z % 2 ≡ 0)
