-- The fields of an instruction word, and signed numbers in them (RISC-V unprivileged specification, "Base Instruction Formats" and "Immediate Encoding Variants").
use Rattle.std.specs.Prelude.{ℕ, suc, ◌+◌, ◌-◌, ◌*◌, ◌/◌, ◌%◌, ◌^◌, nat_lt, ℤ, pos, negsuc, if◌then◌else◌}

-- n bits of a word, from bit k on
abbrev pub bits_at : ℕ → ℕ → ℕ → ℕ
bits_at w k n = w / 2 ^ k % 2 ^ n

-- a field of n bits as a signed number: its highest bit is the sign
abbrev pub sign_extended : ℕ → ℕ → ℤ
sign_extended n field = if nat_lt field (2 ^ (n - 1)) then pos field else negsuc (2 ^ n - 1 - field)

-- a signed number as a field of n bits, in two's complement
abbrev pub twos_complement : ℕ → ℤ → ℕ
twos_complement n (pos m) = m
twos_complement n (negsuc m) = 2 ^ n - suc m

-- ---- what all formats have in one place

abbrev pub opcode : ℕ → ℕ
opcode w = bits_at w 0 7

abbrev pub rd : ℕ → ℕ
rd w = bits_at w 7 5

abbrev pub funct3 : ℕ → ℕ
funct3 w = bits_at w 12 3

abbrev pub rs1 : ℕ → ℕ
rs1 w = bits_at w 15 5

abbrev pub rs2 : ℕ → ℕ
rs2 w = bits_at w 20 5

abbrev pub funct7 : ℕ → ℕ
funct7 w = bits_at w 25 7

-- ---- the immediates of the formats

-- bits 31:20
abbrev pub immediate_i : ℕ → ℤ
immediate_i w = sign_extended 12 (bits_at w 20 12)

-- bits 31:25, then 11:7
abbrev pub immediate_s : ℕ → ℤ
immediate_s w = sign_extended 12 (bits_at w 25 7 * 2 ^ 5 + bits_at w 7 5)

-- bits 31, 7, 30:25, 11:8, then a zero bit
abbrev pub immediate_b : ℕ → ℤ
immediate_b w = sign_extended 13 (bits_at w 31 1 * 2 ^ 12 + bits_at w 7 1 * 2 ^ 11 + bits_at w 25 6 * 2 ^ 5 + bits_at w 8 4 * 2)

-- bits 31:12, as a number
abbrev pub immediate_u : ℕ → ℕ
immediate_u w = bits_at w 12 20

-- bits 31, 19:12, 20, 30:21, then a zero bit
abbrev pub immediate_j : ℕ → ℤ
immediate_j w = sign_extended 21 (bits_at w 31 1 * 2 ^ 20 + bits_at w 12 8 * 2 ^ 12 + bits_at w 20 1 * 2 ^ 11 + bits_at w 21 10 * 2)

-- how far a shift goes: bits 24:20
abbrev pub shift_amount : ℕ → ℕ
shift_amount w = bits_at w 20 5

-- what FENCE keeps: bits 31:15, then 11:7
abbrev pub fence_bits : ℕ → ℕ
fence_bits w = bits_at w 15 17 * 2 ^ 5 + bits_at w 7 5
