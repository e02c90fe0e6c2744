-- The names of registers (RISC-V unprivileged specification, "RISC-V Assembly Programmer's Handbook").
use Rattle.std.specs.Prelude.{ℕ, ◌+◌, ◌-◌, ◌*◌, Bool, ◌&&◌, ◌==◌, nat_lt, List, [], ◌∷◌, length, drop, slice_index, Option, Some, None, codes, option_and_then, if◌then◌else◌}
use Rattle.std.specs.Str.{bytes_eq}
use Rattle.rv_asm.specs.Lexing.{is_digit}

-- one decimal digit, or two of which the first is not 0
abbrev pub short_number : List ℕ → Option ℕ
short_number digits =
    if length digits == 1 then (if is_digit (slice_index digits 0) then Some (slice_index digits 0 - 48) else None) else
    (if length digits == 2 then
    (if slice_index digits 0 == 48 then None else
    (if is_digit (slice_index digits 0) && is_digit (slice_index digits 1) then Some ((slice_index digits 0 - 48) * 10 + (slice_index digits 1 - 48)) else None))
    else None)

-- x0 to x31, a0 to a7, s0 to s11, t0 to t6
abbrev pub lettered : ℕ → ℕ → Option ℕ
lettered letter n =
    if letter == 120 && nat_lt n 32 then Some n else
    (if letter == 97 && nat_lt n 8 then Some (10 + n) else
    (if letter == 115 && nat_lt n 2 then Some (8 + n) else
    (if letter == 115 && nat_lt n 12 then Some (16 + n) else
    (if letter == 116 && nat_lt n 3 then Some (5 + n) else
    (if letter == 116 && nat_lt n 7 then Some (25 + n) else
    None)))))

abbrev pub with_letter : ℕ → Option ℕ → Option ℕ
with_letter letter None = None
with_letter letter (Some n) = lettered letter n

abbrev pub numbered : List ℕ → Option ℕ
numbered name = if length name == 0 then None else with_letter (slice_index name 0) (short_number (drop 1 name))

abbrev pub register_named : List ℕ → Option ℕ
register_named name =
    if bytes_eq name (codes "zero") then Some 0 else
    (if bytes_eq name (codes "ra") then Some 1 else
    (if bytes_eq name (codes "sp") then Some 2 else
    (if bytes_eq name (codes "gp") then Some 3 else
    (if bytes_eq name (codes "tp") then Some 4 else
    numbered name))))
