-- What statements stand for.
use Rattle.std.specs.Prelude.{ℕ, List, slice_get, ℤ, pos, Result, Ok, Err}
use Rattle.rv_decode.specs.Operands.{immediate_of, shift_of, upper_of}
use Rattle.rv_decode.specs.declared.instruction.Instr.{Instr}
use Rattle.rv_decode.specs.declared.instruction.Instr.TheVariants as instr
use Rattle.rv_asm.specs.Numbers.{word_of_number, byte_of_number, size_of_number}
use Rattle.rv_asm.specs.Operands.{read_by, read_register, read_number, read_label, read_place, read_text}
use Rattle.rv_asm.specs.declared.fault.FaultKind.{FaultKind}
use Rattle.rv_asm.specs.declared.keyword.Keyword.{Keyword}
use Rattle.rv_asm.specs.declared.keyword.Keyword.TheVariants as keyword
use Rattle.rv_asm.specs.declared.statement.Statement.{Statement}
use Rattle.rv_asm.specs.declared.statement.Statement.TheVariants.{Instruction, Branch, Jump, Address, Number, Call, Word, Byte, Text, Space, Align, Bss}
use Rattle.rv_asm.specs.declared.keyword.RegisterOp.{RegisterOp}
use Rattle.rv_asm.specs.declared.keyword.RegisterOp.TheVariants.{Add, Sub, Sll, Slt, Sltu, Xor, Srl, Sra, Or, And}
use Rattle.rv_asm.specs.declared.keyword.ImmediateOp.{ImmediateOp}
use Rattle.rv_asm.specs.declared.keyword.ImmediateOp.TheVariants.{Addi, Slti, Sltiu, Xori, Ori, Andi}
use Rattle.rv_asm.specs.declared.keyword.ShiftOp.{ShiftOp}
use Rattle.rv_asm.specs.declared.keyword.ShiftOp.TheVariants.{Slli, Srli, Srai}
use Rattle.rv_asm.specs.declared.keyword.LoadOp.{LoadOp}
use Rattle.rv_asm.specs.declared.keyword.LoadOp.TheVariants.{Lb, Lh, Lw, Lbu, Lhu}
use Rattle.rv_asm.specs.declared.keyword.StoreOp.{StoreOp}
use Rattle.rv_asm.specs.declared.keyword.StoreOp.TheVariants.{Sb, Sh, Sw}
use Rattle.rv_asm.specs.declared.keyword.BranchOp.{BranchOp}
use Rattle.rv_asm.specs.declared.keyword.BranchOp.TheVariants.{Beq, Bne, Blt, Bge, Bltu, Bgeu}
use Rattle.rv_asm.specs.declared.keyword.UpperOp.{UpperOp}
use Rattle.rv_asm.specs.declared.keyword.UpperOp.TheVariants.{Lui, Auipc}
use Rattle.rv_asm.specs.declared.keyword.PlainOp.{PlainOp}
use Rattle.rv_asm.specs.declared.keyword.PlainOp.TheVariants.{Fence, Ecall, Ebreak, Ret, Nop}

-- ---- operands by their place

abbrev pub register_at : List (List ℕ) → ℕ → Result ℕ FaultKind
register_at xs i = read_by read_register (slice_get xs i)

abbrev pub immediate_at : List (List ℕ) → ℕ → Result ℤ FaultKind
immediate_at xs i = read_by (read_number immediate_of) (slice_get xs i)

abbrev pub shift_at : List (List ℕ) → ℕ → Result ℕ FaultKind
shift_at xs i = read_by (read_number shift_of) (slice_get xs i)

abbrev pub upper_at : List (List ℕ) → ℕ → Result ℕ FaultKind
upper_at xs i = read_by (read_number upper_of) (slice_get xs i)

abbrev pub word_at : List (List ℕ) → ℕ → Result ℕ FaultKind
word_at xs i = read_by (read_number word_of_number) (slice_get xs i)

abbrev pub byte_at : List (List ℕ) → ℕ → Result ℕ FaultKind
byte_at xs i = read_by (read_number byte_of_number) (slice_get xs i)

abbrev pub size_at : List (List ℕ) → ℕ → Result ℕ FaultKind
size_at xs i = read_by (read_number size_of_number) (slice_get xs i)

abbrev pub place_at : List (List ℕ) → ℕ → Result (ℤ × ℕ) FaultKind
place_at xs i = read_by read_place (slice_get xs i)

abbrev pub label_at : List (List ℕ) → ℕ → Result (List ℕ) FaultKind
label_at xs i = read_by read_label (slice_get xs i)

abbrev pub text_at : List (List ℕ) → ℕ → Result (List ℕ) FaultKind
text_at xs i = read_by read_text (slice_get xs i)

-- ---- what is made of operands, or the first fault from the left

abbrev pub one : {A B : Type 0} → (A → B) → Result A FaultKind → Result B FaultKind
one f (Err e) = Err e
one f (Ok a) = Ok (f a)

abbrev pub two : {A B C : Type 0} → (A → B → C) → Result A FaultKind → Result B FaultKind → Result C FaultKind
two f (Err e) b = Err e
two f (Ok a) (Err e) = Err e
two f (Ok a) (Ok b) = Ok (f a b)

abbrev pub three : {A B C D : Type 0} → (A → B → C → D) → Result A FaultKind → Result B FaultKind → Result C FaultKind → Result D FaultKind
three f (Err e) b c = Err e
three f (Ok a) (Err e) c = Err e
three f (Ok a) (Ok b) (Err e) = Err e
three f (Ok a) (Ok b) (Ok c) = Ok (f a b c)

-- ---- the instructions

abbrev pub register_instr : RegisterOp → ℕ → ℕ → ℕ → Instr
register_instr Add rd rs1 rs2 = instr.Add rd rs1 rs2
register_instr Sub rd rs1 rs2 = instr.Sub rd rs1 rs2
register_instr Sll rd rs1 rs2 = instr.Sll rd rs1 rs2
register_instr Slt rd rs1 rs2 = instr.Slt rd rs1 rs2
register_instr Sltu rd rs1 rs2 = instr.Sltu rd rs1 rs2
register_instr Xor rd rs1 rs2 = instr.Xor rd rs1 rs2
register_instr Srl rd rs1 rs2 = instr.Srl rd rs1 rs2
register_instr Sra rd rs1 rs2 = instr.Sra rd rs1 rs2
register_instr Or rd rs1 rs2 = instr.Or rd rs1 rs2
register_instr And rd rs1 rs2 = instr.And rd rs1 rs2

abbrev pub immediate_instr : ImmediateOp → ℕ → ℕ → ℤ → Instr
immediate_instr Addi rd rs1 imm = instr.Addi rd rs1 imm
immediate_instr Slti rd rs1 imm = instr.Slti rd rs1 imm
immediate_instr Sltiu rd rs1 imm = instr.Sltiu rd rs1 imm
immediate_instr Xori rd rs1 imm = instr.Xori rd rs1 imm
immediate_instr Ori rd rs1 imm = instr.Ori rd rs1 imm
immediate_instr Andi rd rs1 imm = instr.Andi rd rs1 imm

abbrev pub shift_instr : ShiftOp → ℕ → ℕ → ℕ → Instr
shift_instr Slli rd rs1 shamt = instr.Slli rd rs1 shamt
shift_instr Srli rd rs1 shamt = instr.Srli rd rs1 shamt
shift_instr Srai rd rs1 shamt = instr.Srai rd rs1 shamt

abbrev pub load_instr : LoadOp → ℕ → ℕ → ℤ → Instr
load_instr Lb rd rs1 imm = instr.Lb rd rs1 imm
load_instr Lh rd rs1 imm = instr.Lh rd rs1 imm
load_instr Lw rd rs1 imm = instr.Lw rd rs1 imm
load_instr Lbu rd rs1 imm = instr.Lbu rd rs1 imm
load_instr Lhu rd rs1 imm = instr.Lhu rd rs1 imm

abbrev pub store_instr : StoreOp → ℕ → ℕ → ℤ → Instr
store_instr Sb rs1 rs2 imm = instr.Sb rs1 rs2 imm
store_instr Sh rs1 rs2 imm = instr.Sh rs1 rs2 imm
store_instr Sw rs1 rs2 imm = instr.Sw rs1 rs2 imm

abbrev pub branch_instr : BranchOp → ℕ → ℕ → ℤ → Instr
branch_instr Beq rs1 rs2 imm = instr.Beq rs1 rs2 imm
branch_instr Bne rs1 rs2 imm = instr.Bne rs1 rs2 imm
branch_instr Blt rs1 rs2 imm = instr.Blt rs1 rs2 imm
branch_instr Bge rs1 rs2 imm = instr.Bge rs1 rs2 imm
branch_instr Bltu rs1 rs2 imm = instr.Bltu rs1 rs2 imm
branch_instr Bgeu rs1 rs2 imm = instr.Bgeu rs1 rs2 imm

abbrev pub upper_instr : UpperOp → ℕ → ℕ → Instr
upper_instr Lui rd imm = instr.Lui rd imm
upper_instr Auipc rd imm = instr.Auipc rd imm

-- `fence` orders all before all behind; `ret` jumps to x1
abbrev pub plain_instr : PlainOp → Instr
plain_instr Fence = instr.Fence 0x3FC00
plain_instr Ecall = instr.Ecall
plain_instr Ebreak = instr.Ebreak
plain_instr Ret = instr.Jalr 0 1 (pos 0)
plain_instr Nop = instr.Addi 0 0 (pos 0)

-- ---- the statements of one instruction

abbrev pub register_form : RegisterOp → ℕ → ℕ → ℕ → Statement
register_form op rd rs1 rs2 = Instruction (register_instr op rd rs1 rs2)

abbrev pub immediate_form : ImmediateOp → ℕ → ℕ → ℤ → Statement
immediate_form op rd rs1 imm = Instruction (immediate_instr op rd rs1 imm)

abbrev pub shift_form : ShiftOp → ℕ → ℕ → ℕ → Statement
shift_form op rd rs1 shamt = Instruction (shift_instr op rd rs1 shamt)

abbrev pub load_form : LoadOp → ℕ → ℤ × ℕ → Statement
load_form op rd place = Instruction (load_instr op rd place.1 place.0)

abbrev pub store_form : StoreOp → ℕ → ℤ × ℕ → Statement
store_form op rs2 place = Instruction (store_instr op place.1 rs2 place.0)

abbrev pub upper_form : UpperOp → ℕ → ℕ → Statement
upper_form op rd imm = Instruction (upper_instr op rd imm)

abbrev pub jalr_form : ℕ → ℤ × ℕ → Statement
jalr_form rd place = Instruction (instr.Jalr rd place.1 place.0)

abbrev pub move_form : ℕ → ℕ → Statement
move_form rd rs = Instruction (instr.Addi rd rs (pos 0))

-- ---- any statement

abbrev pub statement_of : Keyword → List (List ℕ) → Result Statement FaultKind
statement_of (keyword.Register op) xs = three (register_form op) (register_at xs 0) (register_at xs 1) (register_at xs 2)
statement_of (keyword.Immediate op) xs = three (immediate_form op) (register_at xs 0) (register_at xs 1) (immediate_at xs 2)
statement_of (keyword.Shift op) xs = three (shift_form op) (register_at xs 0) (register_at xs 1) (shift_at xs 2)
statement_of (keyword.Load op) xs = two (load_form op) (register_at xs 0) (place_at xs 1)
statement_of (keyword.Store op) xs = two (store_form op) (register_at xs 0) (place_at xs 1)
statement_of (keyword.Branch op) xs = three (Branch op) (register_at xs 0) (register_at xs 1) (label_at xs 2)
statement_of (keyword.Upper op) xs = two (upper_form op) (register_at xs 0) (upper_at xs 1)
statement_of (keyword.Plain op) xs = Ok (Instruction (plain_instr op))
statement_of keyword.Jal xs = two Jump (register_at xs 0) (label_at xs 1)
statement_of keyword.Jalr xs = two jalr_form (register_at xs 0) (place_at xs 1)
statement_of keyword.J xs = one (Jump 0) (label_at xs 0)
statement_of keyword.Li xs = two Number (register_at xs 0) (word_at xs 1)
statement_of keyword.La xs = two Address (register_at xs 0) (label_at xs 1)
statement_of keyword.Mv xs = two move_form (register_at xs 0) (register_at xs 1)
statement_of keyword.Sys xs = one Call (size_at xs 0)
statement_of keyword.Word xs = one Word (word_at xs 0)
statement_of keyword.Byte xs = one Byte (byte_at xs 0)
statement_of keyword.Space xs = one Space (size_at xs 0)
statement_of keyword.Ascii xs = one Text (text_at xs 0)
statement_of keyword.Align xs = Ok Align
statement_of keyword.Bss xs = one Bss (size_at xs 0)

-- how many operands it takes
abbrev pub operand_count : Keyword → ℕ
operand_count (keyword.Register op) = 3
operand_count (keyword.Immediate op) = 3
operand_count (keyword.Shift op) = 3
operand_count (keyword.Load op) = 2
operand_count (keyword.Store op) = 2
operand_count (keyword.Branch op) = 3
operand_count (keyword.Upper op) = 2
operand_count (keyword.Plain op) = 0
operand_count keyword.Jal = 2
operand_count keyword.Jalr = 2
operand_count keyword.J = 1
operand_count keyword.Li = 2
operand_count keyword.La = 2
operand_count keyword.Mv = 2
operand_count keyword.Sys = 1
operand_count keyword.Word = 1
operand_count keyword.Byte = 1
operand_count keyword.Space = 1
operand_count keyword.Ascii = 1
operand_count keyword.Align = 0
operand_count keyword.Bss = 1
