-- What a text assembles to.
use Rattle.std.specs.Prelude.{ℕ, ◌+◌, ◌*◌, ◌%◌, Bool, not, ◌&&◌, ◌||◌, ◌==◌, nat_lt, List, [], ◌∷◌, ◌++◌, length, Option, Some, None, Result, Ok, Err, if◌then◌else◌}
use Rattle.call_table.specs.declared.limit.TheConstants.{SOURCE_BYTES}
use Rattle.rv_asm.specs.Keywords.{or_else, is_instruction}
use Rattle.rv_asm.specs.Layout.{size_of, after_line, start, defined_from}
use Rattle.rv_asm.specs.Lines.{lines_of}
use Rattle.rv_asm.specs.Code.{code_of, code_bytes, data_bytes}
use Rattle.rv_asm.specs.File.{file_of}
use Rattle.rv_asm.specs.declared.fault.Fault.{Fault}
use Rattle.rv_asm.specs.declared.fault.FaultKind.{FaultKind}
use Rattle.rv_asm.specs.declared.fault.FaultKind.TheVariants.{TooLong, UnknownWord, BadOperand, DoubleLabel}
use Rattle.rv_asm.specs.declared.keyword.Keyword.{Keyword}
use Rattle.rv_asm.specs.declared.statement.Statement.{Statement}
use Rattle.rv_asm.specs.declared.statement.Statement.TheVariants.{Instruction, Branch, Jump, Address, Number, Call, Word, Byte, Text, Space, Align, Bss}
use Rattle.rv_asm.specs.declared.line.Line.{Line}
use Rattle.rv_asm.specs.declared.line.Body.{Body}
use Rattle.rv_asm.specs.declared.line.Body.TheVariants.{Empty, Unknown, Known}
use Rattle.rv_asm.specs.declared.layout.Place.{Place}
use Rattle.rv_asm.specs.declared.layout.Definition.{Definition}
use Rattle.rv_asm.specs.declared.code.Code.{Code}

-- ---- what may be wrong with a line beside its operands

-- an earlier line has the label of line `number`
abbrev pub fault_of_definition : ℕ → Option Definition → Option FaultKind
fault_of_definition number None = None
fault_of_definition number (Some definition) = if definition.line == number then None else Some DoubleLabel

abbrev pub fault_of_label : (List ℕ → Option Definition) → ℕ → Option (List ℕ) → Option FaultKind
fault_of_label labels number None = None
fault_of_label labels number (Some label) = fault_of_definition number (labels label)

-- a statement behind a `.bss`, or an instruction whose address is no multiple of 4
abbrev pub fault_of_place : Place → Keyword → Option FaultKind
fault_of_place place keyword =
    if place.closed || is_instruction keyword && not (place.address % 4 == 0) then Some BadOperand else None

-- the most memory that a program may take: 1,008 pages from 0x10000 on
abbrev pub limit : ℕ
limit = 0x10000 + 1008 * 4096

abbrev pub statement_bss : Statement → ℕ
statement_bss (Instruction i) = 0
statement_bss (Branch op rs1 rs2 label) = 0
statement_bss (Jump rd label) = 0
statement_bss (Address rd label) = 0
statement_bss (Number rd word) = 0
statement_bss (Call number) = 0
statement_bss (Word word) = 0
statement_bss (Byte byte) = 0
statement_bss (Text bytes) = 0
statement_bss (Space n) = 0
statement_bss Align = 0
statement_bss (Bss n) = n

abbrev pub read_bss : Result Statement FaultKind → ℕ
read_bss (Err fault) = 0
read_bss (Ok statement) = statement_bss statement

-- what a line adds to the memory behind the file's bytes
abbrev pub bss_of : Body → ℕ
bss_of Empty = 0
bss_of Unknown = 0
bss_of (Known keyword statement extra) = read_bss statement

abbrev pub fault_of_end : Place → Body → Option FaultKind
fault_of_end place body = if nat_lt limit (place.address + size_of place.address body + bss_of body) then Some TooLong else None

-- ---- the bytes of a line, or its first fault

abbrev pub unless : Option FaultKind → Result (List ℕ) FaultKind → Result (List ℕ) FaultKind
unless None outcome = outcome
unless (Some fault) outcome = Err fault

abbrev pub statement_bytes : ℕ → Statement → Result Code FaultKind → Result (List ℕ) FaultKind
statement_bytes address statement (Err fault) = Err fault
statement_bytes address statement (Ok code) = Ok (code_bytes code ++ data_bytes address statement)

abbrev pub read_bytes : (List ℕ → Option Definition) → ℕ → Result Statement FaultKind → Result (List ℕ) FaultKind
read_bytes labels address (Err fault) = Err fault
read_bytes labels address (Ok statement) = statement_bytes address statement (code_of labels address statement)

-- the bytes, if nothing is wrong behind the operands either
abbrev pub then_unless : Result (List ℕ) FaultKind → Option FaultKind → Result (List ℕ) FaultKind
then_unless (Err fault) later = Err fault
then_unless (Ok bytes) None = Ok bytes
then_unless (Ok bytes) (Some fault) = Err fault

abbrev pub body_bytes : (List ℕ → Option Definition) → Place → Body → Result (List ℕ) FaultKind
body_bytes labels place Empty = Ok []
body_bytes labels place Unknown = Err UnknownWord
body_bytes labels place (Known keyword statement extra) =
    unless (fault_of_place place keyword) (then_unless (read_bytes labels place.address statement) (or_else extra (fault_of_end place (Known keyword statement extra))))

abbrev pub line_bytes : (List ℕ → Option Definition) → ℕ → Place → Line → Result (List ℕ) FaultKind
line_bytes labels number place line = unless (fault_of_label labels number line.label) (body_bytes labels place line.body)

-- ---- the bytes of all lines, or the first fault of the first faulty line

abbrev pub prefixed : List ℕ → Result (List ℕ) Fault → Result (List ℕ) Fault
prefixed bytes (Err fault) = Err fault
prefixed bytes (Ok more) = Ok (bytes ++ more)

abbrev pub before_rest : ℕ → Result (List ℕ) FaultKind → Result (List ℕ) Fault → Result (List ℕ) Fault
before_rest number (Err kind) rest = Err (record { line = number; kind = kind })
before_rest number (Ok bytes) rest = prefixed bytes rest

-- lines from line `number` on, the first of which stands at the place
abbrev pub bytes_from : (List ℕ → Option Definition) → ℕ → Place → List Line → Result (List ℕ) Fault
bytes_from labels number place [] = Ok []
bytes_from labels number place (line ∷ lines) =
    before_rest number (line_bytes labels number place line) (bytes_from labels (number + 1) (after_line place line.body) lines)

-- the memory behind the file's bytes: what the first `.bss` asks for
abbrev pub bss_of_all : List Line → ℕ
bss_of_all [] = 0
bss_of_all (line ∷ lines) = if bss_of line.body == 0 then bss_of_all lines else bss_of line.body

-- ---- the file

abbrev pub in_file : ℕ → Result (List ℕ) Fault → Result (List ℕ) Fault
in_file bss (Err fault) = Err fault
in_file bss (Ok bytes) = Ok (file_of bytes bss)

abbrev pub assembled_lines : List Line → Result (List ℕ) Fault
assembled_lines lines = in_file (bss_of_all lines) (bytes_from (defined_from 1 start lines) 1 start lines)

-- the most bytes that a text may have
abbrev pub text_limit : ℕ
text_limit = SOURCE_BYTES

abbrev pub assembled : List ℕ → Result (List ℕ) Fault
assembled text =
    if nat_lt text_limit (length text) then Err (record { line = 0; kind = TooLong }) else assembled_lines (lines_of text)
