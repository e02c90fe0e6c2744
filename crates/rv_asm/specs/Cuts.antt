-- The operands that stand in what is left of a line.
use Rattle.std.specs.Prelude.{ℕ, ◌==◌, List, [], Option, Some, None}
use Rattle.std.specs.List.{slice_split}
use Rattle.rv_asm.specs.Lexing.{pieces}
use Rattle.rv_asm.specs.declared.lexing.Quote.TheVariants.{Outside}

abbrev pub pieces_of : Option (List ℕ) → List (List ℕ)
pieces_of None = []
pieces_of (Some bytes) = pieces Outside bytes

-- the lines that stand in what is left of a text
abbrev pub split_of : Option (List ℕ) → List (List ℕ)
split_of None = []
split_of (Some bytes) = slice_split (λ b. b == 10) bytes
