-- The operands of statements.
use Rattle.std.specs.Prelude.{ℕ, ◌+◌, ◌-◌, Bool, true, false, ◌&&◌, ◌||◌, ◌==◌, nat_le, List, [], ◌∷◌, ◌++◌, length, take, drop, slice_index, slice_get, ℤ, Option, Some, None, Result, Ok, Err, if◌then◌else◌}
use Rattle.std.specs.Option.{option_map}
use Rattle.std.specs.List.{position}
use Rattle.rv_decode.specs.Operands.{immediate_of}
use Rattle.rv_asm.specs.Lexing.{after, is_name}
use Rattle.rv_asm.specs.Numbers.{number_of, ranged}
use Rattle.rv_asm.specs.Registers.{register_named}
use Rattle.rv_asm.specs.declared.fault.FaultKind.{FaultKind}
use Rattle.rv_asm.specs.declared.fault.FaultKind.TheVariants.{BadOperand, OutOfRange, Missing}
use Rattle.rv_asm.specs.declared.lexing.Quote.{Quote}
use Rattle.rv_asm.specs.declared.lexing.Quote.TheVariants.{Outside, Inside, Escaped}

-- what is spelled as it should be
abbrev pub spelled : {A : Type 0} → Option A → Result A FaultKind
spelled None = Err BadOperand
spelled (Some x) = Ok x

-- what f reads in the operand that stands there
abbrev pub read_by : {A : Type 0} → (List ℕ → Result A FaultKind) → Option (List ℕ) → Result A FaultKind
read_by f None = Err Missing
read_by f (Some bytes) = f bytes

-- ---- a register, a number, a label

abbrev pub read_register : List ℕ → Result ℕ FaultKind
read_register bytes = spelled (register_named bytes)

abbrev pub read_number : {A : Type 0} → (ℤ → Option A) → List ℕ → Result A FaultKind
read_number f bytes = ranged f (number_of bytes)

abbrev pub read_label : List ℕ → Result (List ℕ) FaultKind
read_label bytes = if is_name bytes then Ok bytes else Err BadOperand

-- ---- `N(reg)`: an immediate and a register

abbrev pub closed_register : List ℕ → Option ℕ
closed_register bytes =
    if slice_index bytes (length bytes - 1) == 41 then register_named (take (length bytes - 1) bytes) else None

abbrev pub place_in_range : Option ℤ → ℕ → Result (ℤ × ℕ) FaultKind
place_in_range None register = Err OutOfRange
place_in_range (Some immediate) register = Ok (immediate, register)

abbrev pub place_of : Option ℤ → Option ℕ → Result (ℤ × ℕ) FaultKind
place_of None register = Err BadOperand
place_of (Some z) None = Err BadOperand
place_of (Some z) (Some register) = place_in_range (immediate_of z) register

abbrev pub place_cut : Option ℕ → List ℕ → Result (ℤ × ℕ) FaultKind
place_cut None bytes = Err BadOperand
place_cut (Some i) bytes = place_of (number_of (take i bytes)) (closed_register (drop (i + 1) bytes))

abbrev pub read_place : List ℕ → Result (ℤ × ℕ) FaultKind
read_place bytes = place_cut (position (λ b. b == 40) bytes) bytes

-- ---- a text in quotes

-- what a byte behind a backslash stands for
abbrev pub escape_of : ℕ → Option ℕ
escape_of b = if b == 110 then Some 10 else (if b == 34 then Some 34 else (if b == 92 then Some 92 else None))

-- what a byte that stands at q adds to the text, if it may stand there: the quotes and the backslash add nothing
abbrev pub added_by : Quote → ℕ → Option (Option ℕ)
added_by Outside b = None
added_by Inside b = if b == 34 || b == 92 then Some None else (if nat_le 32 b && nat_le b 126 then Some (Some b) else None)
added_by Escaped b = option_map Some (escape_of b)

abbrev pub joined : Option (Option ℕ) → Option (List ℕ) → Option (List ℕ)
joined None rest = None
joined (Some None) rest = rest
joined (Some (Some b)) rest = option_map (λ bs. b ∷ bs) rest

-- the text that these bytes write, where the first stands at q and the last closes the quotes
abbrev pub text_from : Quote → List ℕ → Option (List ℕ)
text_from Outside [] = Some []
text_from Inside [] = None
text_from Escaped [] = None
text_from q (b ∷ bs) = joined (added_by q b) (text_from (after q b) bs)

abbrev pub text_of : List ℕ → Option (List ℕ)
text_of bytes = if slice_index bytes 0 == 34 then text_from Inside (drop 1 bytes) else None

abbrev pub read_text : List ℕ → Result (List ℕ) FaultKind
read_text bytes = spelled (text_of bytes)
