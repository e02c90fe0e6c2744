-- A line of the text, cut into its words.
use Rattle.std.specs.Prelude.{◌≡◌, ℕ, suc, ◌+◌, ◌-◌, Bool, true, false, not, ◌&&◌, ◌||◌, ◌==◌, nat_le, List, [], ◌∷◌, length, take, drop, map, slice_get, slice_index, Option, Some, None, is_some, if◌then◌else◌}
use Rattle.std.specs.List.{prefix_len, suffix_len, position, position_or_len, list_all, onto_first}
use Rattle.rv_asm.specs.declared.fault.FaultKind.{FaultKind}
use Rattle.rv_asm.specs.declared.fault.FaultKind.TheVariants.{BadOperand, Extra}
use Rattle.rv_asm.specs.declared.lexing.Quote.{Quote}
use Rattle.rv_asm.specs.declared.lexing.Quote.TheVariants.{Outside, Inside, Escaped}

-- a space or a tab
abbrev pub is_blank : ℕ → Bool
is_blank b = b == 32 || b == 9

abbrev pub is_digit : ℕ → Bool
is_digit b = nat_le 48 b && nat_le b 57

abbrev pub is_letter : ℕ → Bool
is_letter b = nat_le 65 b && nat_le b 90 || nat_le 97 b && nat_le b 122

-- letters, digits and `_` make names
abbrev pub is_name_byte : ℕ → Bool
is_name_byte b = is_letter b || is_digit b || b == 95

-- ---- quotes

-- where the byte behind this one stands: `"` begins and ends quotes, and a backslash inside them takes what is behind it
abbrev pub after : Quote → ℕ → Quote
after Outside b = if b == 34 then Inside else Outside
after Inside b = if b == 92 then Escaped else (if b == 34 then Outside else Inside)
after Escaped b = Inside

abbrev pub is_outside : Quote → Bool
is_outside Outside = true
is_outside Inside = false
is_outside Escaped = false

-- the place of the first such byte outside quotes, where the first byte has place i and stands at q
abbrev pub outside_from : ℕ → ℕ → Quote → List ℕ → Option ℕ
outside_from mark i q [] = None
outside_from mark i q (b ∷ bs) = if is_outside q && b == mark then Some i else outside_from mark (i + 1) (after q b) bs

-- ---- blanks

abbrev pub past_blanks : List ℕ → List ℕ
past_blanks bytes = drop (prefix_len is_blank bytes) bytes

abbrev pub without_blanks_behind : List ℕ → List ℕ
without_blanks_behind bytes = take (length bytes - suffix_len is_blank bytes) bytes

abbrev pub trimmed : List ℕ → List ℕ
trimmed bytes = without_blanks_behind (past_blanks bytes)

-- ---- the comment: `#` outside quotes, and what is behind it

abbrev pub before : Option ℕ → List ℕ → List ℕ
before None bytes = bytes
before (Some i) bytes = take i bytes

abbrev pub uncommented : List ℕ → List ℕ
uncommented line = before (outside_from 35 0 Outside line) line

-- ---- the label: a name and `:`

abbrev pub is_name : List ℕ → Bool
is_name bytes =
    if length bytes == 0 then false else
    (if is_digit (slice_index bytes 0) then false else list_all is_name_byte bytes)

-- the place of a label's `:`, where the bytes before it are a name
abbrev pub name_end : Option ℕ → List ℕ → Option ℕ
name_end None bytes = None
name_end (Some i) bytes = if is_name (take i bytes) then Some i else None

abbrev pub label_end : List ℕ → Option ℕ
label_end bytes = name_end (position (λ b. b == 58) bytes) bytes

-- ---- the first word, up to a blank

abbrev pub word_end : List ℕ → ℕ
word_end bytes = position_or_len is_blank bytes

-- ---- operands: what commas outside quotes part, without the blanks round each

abbrev pub pieces : Quote → List ℕ → List (List ℕ)
pieces q [] = [] ∷ []
pieces q (b ∷ bs) = if is_outside q && b == 44 then [] ∷ pieces (after q b) bs else onto_first b (pieces (after q b) bs)

abbrev pub operands_of : List ℕ → List (List ℕ)
operands_of bytes = if length bytes == 0 then [] else map trimmed (pieces Outside bytes)

-- an operand is not empty, and has no blank outside quotes
abbrev pub is_operand : List ℕ → Bool
is_operand bytes =
    if length bytes == 0 then false else
    (if is_some (outside_from 32 0 Outside bytes) then false else
    (if is_some (outside_from 9 0 Outside bytes) then false else true))

-- what is wrong where these operands are too many
abbrev pub fault_of_extra : List (List ℕ) → Option FaultKind
fault_of_extra [] = None
fault_of_extra (x ∷ xs) = Some (if list_all is_operand (x ∷ xs) then Extra else BadOperand)
