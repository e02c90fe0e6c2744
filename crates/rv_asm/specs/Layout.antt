-- Where statements stand, and what labels name.
use Rattle.std.specs.Prelude.{ℕ, ◌+◌, ◌-◌, ◌%◌, ◌^◌, min, Bool, true, false, ◌||◌, List, [], ◌∷◌, length, Option, Some, None, Result, Ok, Err, if◌then◌else◌}
use Rattle.std.specs.Str.{bytes_eq}
use Rattle.rv_asm.specs.declared.fault.FaultKind.{FaultKind}
use Rattle.rv_asm.specs.declared.keyword.Keyword.{Keyword}
use Rattle.rv_asm.specs.declared.keyword.Keyword.TheVariants as keyword
use Rattle.rv_asm.specs.declared.statement.Statement.{Statement}
use Rattle.rv_asm.specs.declared.statement.Statement.TheVariants.{Instruction, Branch, Jump, Address, Number, Call, Word, Byte, Text, Space, Align, Bss}
use Rattle.rv_asm.specs.declared.line.Line.{Line}
use Rattle.rv_asm.specs.declared.line.Body.{Body}
use Rattle.rv_asm.specs.declared.line.Body.TheVariants.{Empty, Unknown, Known}
use Rattle.rv_asm.specs.declared.layout.Place.{Place}
use Rattle.rv_asm.specs.declared.layout.Definition.{Definition}

-- ---- how many bytes a statement takes

-- zeros up to a multiple of 4
abbrev pub padding : ℕ → ℕ
padding address = (4 - address % 4) % 4

abbrev pub statement_size : ℕ → Statement → ℕ
statement_size address (Instruction i) = 4
statement_size address (Branch op rs1 rs2 label) = 4
statement_size address (Jump rd label) = 4
statement_size address (Address rd label) = 8
statement_size address (Number rd word) = 8
statement_size address (Call number) = 12
statement_size address (Word word) = 4
statement_size address (Byte byte) = 1
statement_size address (Text bytes) = length bytes
statement_size address (Space n) = n
statement_size address Align = padding address
statement_size address (Bss n) = 0

-- what a statement with a faulty operand takes: nothing where its size depends on the operand
abbrev pub faulty_size : Keyword → ℕ
faulty_size (keyword.Register op) = 4
faulty_size (keyword.Immediate op) = 4
faulty_size (keyword.Shift op) = 4
faulty_size (keyword.Load op) = 4
faulty_size (keyword.Store op) = 4
faulty_size (keyword.Branch op) = 4
faulty_size (keyword.Upper op) = 4
faulty_size (keyword.Plain op) = 4
faulty_size keyword.Jal = 4
faulty_size keyword.Jalr = 4
faulty_size keyword.J = 4
faulty_size keyword.Li = 8
faulty_size keyword.La = 8
faulty_size keyword.Mv = 4
faulty_size keyword.Sys = 12
faulty_size keyword.Word = 4
faulty_size keyword.Byte = 1
faulty_size keyword.Space = 0
faulty_size keyword.Ascii = 0
faulty_size keyword.Align = 0
faulty_size keyword.Bss = 0

abbrev pub read_size : ℕ → Keyword → Result Statement FaultKind → ℕ
read_size address keyword (Ok statement) = statement_size address statement
read_size address keyword (Err fault) = faulty_size keyword

abbrev pub size_of : ℕ → Body → ℕ
size_of address Empty = 0
size_of address Unknown = 0
size_of address (Known keyword statement extra) = read_size address keyword statement

-- ---- the place of each line

-- an address stops at the top of 32 bits, which is far past the most that a program may take
abbrev pub far_as : ℕ → ℕ
far_as address = min address 0xFFFFFFFF

abbrev pub is_bss_word : Keyword → Bool
is_bss_word (keyword.Register op) = false
is_bss_word (keyword.Immediate op) = false
is_bss_word (keyword.Shift op) = false
is_bss_word (keyword.Load op) = false
is_bss_word (keyword.Store op) = false
is_bss_word (keyword.Branch op) = false
is_bss_word (keyword.Upper op) = false
is_bss_word (keyword.Plain op) = false
is_bss_word keyword.Jal = false
is_bss_word keyword.Jalr = false
is_bss_word keyword.J = false
is_bss_word keyword.Li = false
is_bss_word keyword.La = false
is_bss_word keyword.Mv = false
is_bss_word keyword.Sys = false
is_bss_word keyword.Word = false
is_bss_word keyword.Byte = false
is_bss_word keyword.Space = false
is_bss_word keyword.Ascii = false
is_bss_word keyword.Align = false
is_bss_word keyword.Bss = true

abbrev pub is_bss : Body → Bool
is_bss Empty = false
is_bss Unknown = false
is_bss (Known keyword statement extra) = is_bss_word keyword

abbrev pub start : Place
start = record { address = 0x10000; closed = false }

-- the place behind a line
abbrev pub after_line : Place → Body → Place
after_line place body = record { address = far_as (place.address + size_of place.address body); closed = place.closed || is_bss body }

-- ---- what a label names: the first line that has it, counted from 1, and the address there

abbrev pub has_label : List ℕ → Option (List ℕ) → Bool
has_label name None = false
has_label name (Some label) = bytes_eq label name

abbrev pub defined_from : ℕ → Place → List Line → List ℕ → Option Definition
defined_from number place [] name = None
defined_from number place (line ∷ lines) name =
    if has_label name line.label then Some (record { line = number; address = place.address }) else
    defined_from (number + 1) (after_line place line.body) lines name
