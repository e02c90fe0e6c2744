-- The instructions and the bytes of statements.
use Rattle.std.specs.Prelude.{ℕ, ◌+◌, ◌*◌, ◌/◌, ◌%◌, ◌^◌, Bool, not, ◌&&◌, ◌||◌, ◌==◌, nat_lt, List, [], ◌∷◌, ◌++◌, replicate, ℤ, pos, ◌-ℤ◌, Option, Some, None, Result, Ok, Err, if◌then◌else◌}
use Rattle.byteorder.specs.Endian.{little_bytes}
use Rattle.rv_decode.specs.Fields.{sign_extended}
use Rattle.rv_decode.specs.Operands.{branch_offset_of, jump_offset_of}
use Rattle.rv_decode.specs.Instructions.{word_of}
use Rattle.rv_decode.specs.declared.instruction.Instr.{Instr}
use Rattle.rv_decode.specs.declared.instruction.Instr.TheVariants.{Lui, Addi, Jal, Ecall}
use Rattle.rv_asm.specs.Keywords.{or_else, is_instruction}
use Rattle.rv_asm.specs.Statements.{branch_instr}
use Rattle.rv_asm.specs.Layout.{padding, size_of, after_line}
use Rattle.rv_asm.specs.declared.fault.Fault.{Fault}
use Rattle.rv_asm.specs.declared.fault.FaultKind.{FaultKind}
use Rattle.rv_asm.specs.declared.fault.FaultKind.TheVariants.{TooLong, UnknownWord, BadOperand, OutOfRange, UnknownLabel, DoubleLabel}
use Rattle.rv_asm.specs.declared.keyword.Keyword.{Keyword}
use Rattle.rv_asm.specs.declared.keyword.BranchOp.{BranchOp}
use Rattle.rv_asm.specs.declared.statement.Statement.{Statement}
use Rattle.rv_asm.specs.declared.statement.Statement.TheVariants.{Instruction, Branch, Jump, Address, Number, Call, Word, Byte, Text, Space, Align, Bss}
use Rattle.rv_asm.specs.declared.line.Line.{Line}
use Rattle.rv_asm.specs.declared.line.Body.{Body}
use Rattle.rv_asm.specs.declared.line.Body.TheVariants.{Empty, Unknown, Known}
use Rattle.rv_asm.specs.declared.layout.Place.{Place}
use Rattle.rv_asm.specs.declared.layout.Definition.{Definition}
use Rattle.rv_asm.specs.declared.code.Code.{Code}
use Rattle.rv_asm.specs.declared.code.Code.TheVariants.{Nothing, One, Two, Three}

-- ---- a word into a register: its upper 20 bits, rounded so that the signed lower 12 bits make up the rest

abbrev pub upper_part : ℕ → ℕ
upper_part word = (word + 0x800) / 4096 % 2 ^ 20

abbrev pub lower_part : ℕ → ℤ
lower_part word = sign_extended 12 (word % 4096)

abbrev pub load_upper : ℕ → ℕ → Instr
load_upper rd word = Lui rd (upper_part word)

abbrev pub add_lower : ℕ → ℕ → Instr
add_lower rd word = Addi rd rd (lower_part word)

abbrev pub load_word : ℕ → ℕ → Code
load_word rd word = Two (load_upper rd word) (add_lower rd word)

-- a call: its number into a7
abbrev pub call_code : ℕ → Code
call_code number = Three (load_upper 17 number) (add_lower 17 number) Ecall

-- ---- branches and jumps to a label, from an address

abbrev pub distance : ℕ → Definition → ℤ
distance address definition = pos definition.address -ℤ pos address

abbrev pub branch_by : BranchOp → ℕ → ℕ → Option ℤ → Result Code FaultKind
branch_by op rs1 rs2 None = Err OutOfRange
branch_by op rs1 rs2 (Some offset) = Ok (One (branch_instr op rs1 rs2 offset))

abbrev pub branch_to : BranchOp → ℕ → ℕ → ℕ → Option Definition → Result Code FaultKind
branch_to op rs1 rs2 address None = Err UnknownLabel
branch_to op rs1 rs2 address (Some definition) = branch_by op rs1 rs2 (branch_offset_of (distance address definition))

abbrev pub jump_by : ℕ → Option ℤ → Result Code FaultKind
jump_by rd None = Err OutOfRange
jump_by rd (Some offset) = Ok (One (Jal rd offset))

abbrev pub jump_to : ℕ → ℕ → Option Definition → Result Code FaultKind
jump_to rd address None = Err UnknownLabel
jump_to rd address (Some definition) = jump_by rd (jump_offset_of (distance address definition))

abbrev pub address_of : ℕ → Option Definition → Result Code FaultKind
address_of rd None = Err UnknownLabel
address_of rd (Some definition) = Ok (load_word rd definition.address)

-- ---- the instructions of a statement at an address, where labels say what names name

abbrev pub code_of : (List ℕ → Option Definition) → ℕ → Statement → Result Code FaultKind
code_of labels address (Instruction i) = Ok (One i)
code_of labels address (Branch op rs1 rs2 label) = branch_to op rs1 rs2 address (labels label)
code_of labels address (Jump rd label) = jump_to rd address (labels label)
code_of labels address (Address rd label) = address_of rd (labels label)
code_of labels address (Number rd word) = Ok (load_word rd word)
code_of labels address (Call number) = Ok (call_code number)
code_of labels address (Word word) = Ok Nothing
code_of labels address (Byte byte) = Ok Nothing
code_of labels address (Text bytes) = Ok Nothing
code_of labels address (Space n) = Ok Nothing
code_of labels address Align = Ok Nothing
code_of labels address (Bss n) = Ok Nothing

-- ---- bytes

abbrev pub instruction_bytes : Instr → List ℕ
instruction_bytes i = little_bytes 4 (word_of i)

abbrev pub code_bytes : Code → List ℕ
code_bytes Nothing = []
code_bytes (One a) = instruction_bytes a
code_bytes (Two a b) = instruction_bytes a ++ instruction_bytes b
code_bytes (Three a b c) = instruction_bytes a ++ instruction_bytes b ++ instruction_bytes c

abbrev pub data_bytes : ℕ → Statement → List ℕ
data_bytes address (Instruction i) = []
data_bytes address (Branch op rs1 rs2 label) = []
data_bytes address (Jump rd label) = []
data_bytes address (Address rd label) = []
data_bytes address (Number rd word) = []
data_bytes address (Call number) = []
data_bytes address (Word word) = little_bytes 4 word
data_bytes address (Byte byte) = byte ∷ []
data_bytes address (Text bytes) = bytes
data_bytes address (Space n) = replicate n 0
data_bytes address Align = replicate (padding address) 0
data_bytes address (Bss n) = []
