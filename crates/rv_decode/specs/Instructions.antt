-- The instructions of RV32I (RISC-V unprivileged specification, "RV32I Base Integer Instruction Set" and its instruction listing).
use Rattle.std.specs.Prelude.{⊤, ℕ, ◌+◌, ◌*◌, ◌/◌, ◌%◌, ◌^◌, ℤ, Option, Some, None, ◌==◌, if◌then◌else◌}
use Rattle.rv_decode.specs.Fields.{bits_at, twos_complement, opcode, rd, funct3, rs1, rs2, funct7, immediate_i, immediate_s, immediate_b, immediate_u, immediate_j, shift_amount, fence_bits}
use Rattle.rv_decode.specs.Operands.{IsRegister, IsShift, IsUpper, IsFenceBits, IsImmediate, IsBranchOffset, IsJumpOffset}
use Rattle.rv_decode.specs.declared.instruction.Instr.{Instr}
use Rattle.rv_decode.specs.declared.instruction.Instr.TheVariants.{Lui, Auipc, Jal, Jalr, Beq, Bne, Blt, Bge, Bltu, Bgeu, Lb, Lh, Lw, Lbu, Lhu, Sb, Sh, Sw, Addi, Slti, Sltiu, Xori, Ori, Andi, Slli, Srli, Srai, Add, Sub, Sll, Slt, Sltu, Xor, Srl, Sra, Or, And, Fence, Ecall, Ebreak}

-- ---- the formats: a word from its fields

abbrev pub r_type : ℕ → ℕ → ℕ → ℕ → ℕ → ℕ → ℕ
r_type funct7 rs2 rs1 funct3 rd opcode =
    funct7 * 2 ^ 25 + rs2 * 2 ^ 20 + rs1 * 2 ^ 15 + funct3 * 2 ^ 12 + rd * 2 ^ 7 + opcode

-- imm[11:0] stands in bits 31:20
abbrev pub i_type : ℤ → ℕ → ℕ → ℕ → ℕ → ℕ
i_type imm rs1 funct3 rd opcode =
    twos_complement 12 imm * 2 ^ 20 + rs1 * 2 ^ 15 + funct3 * 2 ^ 12 + rd * 2 ^ 7 + opcode

-- imm[11:5] stands in bits 31:25, imm[4:0] in bits 11:7
abbrev pub s_type : ℤ → ℕ → ℕ → ℕ → ℕ → ℕ
s_type imm rs2 rs1 funct3 opcode =
    let field = twos_complement 12 imm in
    bits_at field 5 7 * 2 ^ 25 + rs2 * 2 ^ 20 + rs1 * 2 ^ 15 + funct3 * 2 ^ 12 + bits_at field 0 5 * 2 ^ 7 + opcode

-- imm[12], imm[10:5] stand in bits 31 and 30:25, imm[4:1] and imm[11] in bits 11:8 and 7
abbrev pub b_type : ℤ → ℕ → ℕ → ℕ → ℕ → ℕ
b_type imm rs2 rs1 funct3 opcode =
    let field = twos_complement 13 imm in
    bits_at field 12 1 * 2 ^ 31 + bits_at field 5 6 * 2 ^ 25 + rs2 * 2 ^ 20 + rs1 * 2 ^ 15 + funct3 * 2 ^ 12 + bits_at field 1 4 * 2 ^ 8 + bits_at field 11 1 * 2 ^ 7 + opcode

-- imm[31:12] stands in bits 31:12
abbrev pub u_type : ℕ → ℕ → ℕ → ℕ
u_type imm rd opcode = imm * 2 ^ 12 + rd * 2 ^ 7 + opcode

-- imm[20], imm[10:1], imm[11], imm[19:12] stand in bits 31, 30:21, 20 and 19:12
abbrev pub j_type : ℤ → ℕ → ℕ → ℕ
j_type imm rd opcode =
    let field = twos_complement 21 imm in
    bits_at field 20 1 * 2 ^ 31 + bits_at field 1 10 * 2 ^ 21 + bits_at field 11 1 * 2 ^ 20 + bits_at field 12 8 * 2 ^ 12 + rd * 2 ^ 7 + opcode

-- FENCE's bits 31:15 and 11:7 are free
abbrev pub fence_type : ℕ → ℕ → ℕ → ℕ
fence_type bits funct3 opcode =
    bits / 2 ^ 5 * 2 ^ 15 + funct3 * 2 ^ 12 + bits % 2 ^ 5 * 2 ^ 7 + opcode

-- ---- the table of the instructions: each with its word

abbrev pub word_of : Instr → ℕ
-- upper immediates, jumps
word_of (Lui rd imm) = u_type imm rd 0x37
word_of (Auipc rd imm) = u_type imm rd 0x17
word_of (Jal rd imm) = j_type imm rd 0x6F
word_of (Jalr rd rs1 imm) = i_type imm rs1 0 rd 0x67
-- BRANCH
word_of (Beq rs1 rs2 imm) = b_type imm rs2 rs1 0 0x63
word_of (Bne rs1 rs2 imm) = b_type imm rs2 rs1 1 0x63
word_of (Blt rs1 rs2 imm) = b_type imm rs2 rs1 4 0x63
word_of (Bge rs1 rs2 imm) = b_type imm rs2 rs1 5 0x63
word_of (Bltu rs1 rs2 imm) = b_type imm rs2 rs1 6 0x63
word_of (Bgeu rs1 rs2 imm) = b_type imm rs2 rs1 7 0x63
-- LOAD and STORE
word_of (Lb rd rs1 imm) = i_type imm rs1 0 rd 0x03
word_of (Lh rd rs1 imm) = i_type imm rs1 1 rd 0x03
word_of (Lw rd rs1 imm) = i_type imm rs1 2 rd 0x03
word_of (Lbu rd rs1 imm) = i_type imm rs1 4 rd 0x03
word_of (Lhu rd rs1 imm) = i_type imm rs1 5 rd 0x03
word_of (Sb rs1 rs2 imm) = s_type imm rs2 rs1 0 0x23
word_of (Sh rs1 rs2 imm) = s_type imm rs2 rs1 1 0x23
word_of (Sw rs1 rs2 imm) = s_type imm rs2 rs1 2 0x23
-- OP-IMM
word_of (Addi rd rs1 imm) = i_type imm rs1 0 rd 0x13
word_of (Slti rd rs1 imm) = i_type imm rs1 2 rd 0x13
word_of (Sltiu rd rs1 imm) = i_type imm rs1 3 rd 0x13
word_of (Xori rd rs1 imm) = i_type imm rs1 4 rd 0x13
word_of (Ori rd rs1 imm) = i_type imm rs1 6 rd 0x13
word_of (Andi rd rs1 imm) = i_type imm rs1 7 rd 0x13
-- the shifts of OP-IMM, format R with the amount in the place of rs2
word_of (Slli rd rs1 shamt) = r_type 0x00 shamt rs1 1 rd 0x13
word_of (Srli rd rs1 shamt) = r_type 0x00 shamt rs1 5 rd 0x13
word_of (Srai rd rs1 shamt) = r_type 0x20 shamt rs1 5 rd 0x13
-- OP
word_of (Add rd rs1 rs2) = r_type 0x00 rs2 rs1 0 rd 0x33
word_of (Sub rd rs1 rs2) = r_type 0x20 rs2 rs1 0 rd 0x33
word_of (Sll rd rs1 rs2) = r_type 0x00 rs2 rs1 1 rd 0x33
word_of (Slt rd rs1 rs2) = r_type 0x00 rs2 rs1 2 rd 0x33
word_of (Sltu rd rs1 rs2) = r_type 0x00 rs2 rs1 3 rd 0x33
word_of (Xor rd rs1 rs2) = r_type 0x00 rs2 rs1 4 rd 0x33
word_of (Srl rd rs1 rs2) = r_type 0x00 rs2 rs1 5 rd 0x33
word_of (Sra rd rs1 rs2) = r_type 0x20 rs2 rs1 5 rd 0x33
word_of (Or rd rs1 rs2) = r_type 0x00 rs2 rs1 6 rd 0x33
word_of (And rd rs1 rs2) = r_type 0x00 rs2 rs1 7 rd 0x33
-- MISC-MEM and SYSTEM
word_of (Fence bits) = fence_type bits 0 0x0F
word_of Ecall = 0x00000073
word_of Ebreak = 0x00100073

-- ---- which operands each may have

abbrev pub IsInRange : Instr → Type 0
IsInRange (Lui rd imm) = IsRegister rd × IsUpper imm
IsInRange (Auipc rd imm) = IsRegister rd × IsUpper imm
IsInRange (Jal rd imm) = IsRegister rd × IsJumpOffset imm
IsInRange (Jalr rd rs1 imm) = IsRegister rd × IsRegister rs1 × IsImmediate imm
IsInRange (Beq rs1 rs2 imm) = IsRegister rs1 × IsRegister rs2 × IsBranchOffset imm
IsInRange (Bne rs1 rs2 imm) = IsRegister rs1 × IsRegister rs2 × IsBranchOffset imm
IsInRange (Blt rs1 rs2 imm) = IsRegister rs1 × IsRegister rs2 × IsBranchOffset imm
IsInRange (Bge rs1 rs2 imm) = IsRegister rs1 × IsRegister rs2 × IsBranchOffset imm
IsInRange (Bltu rs1 rs2 imm) = IsRegister rs1 × IsRegister rs2 × IsBranchOffset imm
IsInRange (Bgeu rs1 rs2 imm) = IsRegister rs1 × IsRegister rs2 × IsBranchOffset imm
IsInRange (Lb rd rs1 imm) = IsRegister rd × IsRegister rs1 × IsImmediate imm
IsInRange (Lh rd rs1 imm) = IsRegister rd × IsRegister rs1 × IsImmediate imm
IsInRange (Lw rd rs1 imm) = IsRegister rd × IsRegister rs1 × IsImmediate imm
IsInRange (Lbu rd rs1 imm) = IsRegister rd × IsRegister rs1 × IsImmediate imm
IsInRange (Lhu rd rs1 imm) = IsRegister rd × IsRegister rs1 × IsImmediate imm
IsInRange (Sb rs1 rs2 imm) = IsRegister rs1 × IsRegister rs2 × IsImmediate imm
IsInRange (Sh rs1 rs2 imm) = IsRegister rs1 × IsRegister rs2 × IsImmediate imm
IsInRange (Sw rs1 rs2 imm) = IsRegister rs1 × IsRegister rs2 × IsImmediate imm
IsInRange (Addi rd rs1 imm) = IsRegister rd × IsRegister rs1 × IsImmediate imm
IsInRange (Slti rd rs1 imm) = IsRegister rd × IsRegister rs1 × IsImmediate imm
IsInRange (Sltiu rd rs1 imm) = IsRegister rd × IsRegister rs1 × IsImmediate imm
IsInRange (Xori rd rs1 imm) = IsRegister rd × IsRegister rs1 × IsImmediate imm
IsInRange (Ori rd rs1 imm) = IsRegister rd × IsRegister rs1 × IsImmediate imm
IsInRange (Andi rd rs1 imm) = IsRegister rd × IsRegister rs1 × IsImmediate imm
IsInRange (Slli rd rs1 shamt) = IsRegister rd × IsRegister rs1 × IsShift shamt
IsInRange (Srli rd rs1 shamt) = IsRegister rd × IsRegister rs1 × IsShift shamt
IsInRange (Srai rd rs1 shamt) = IsRegister rd × IsRegister rs1 × IsShift shamt
IsInRange (Add rd rs1 rs2) = IsRegister rd × IsRegister rs1 × IsRegister rs2
IsInRange (Sub rd rs1 rs2) = IsRegister rd × IsRegister rs1 × IsRegister rs2
IsInRange (Sll rd rs1 rs2) = IsRegister rd × IsRegister rs1 × IsRegister rs2
IsInRange (Slt rd rs1 rs2) = IsRegister rd × IsRegister rs1 × IsRegister rs2
IsInRange (Sltu rd rs1 rs2) = IsRegister rd × IsRegister rs1 × IsRegister rs2
IsInRange (Xor rd rs1 rs2) = IsRegister rd × IsRegister rs1 × IsRegister rs2
IsInRange (Srl rd rs1 rs2) = IsRegister rd × IsRegister rs1 × IsRegister rs2
IsInRange (Sra rd rs1 rs2) = IsRegister rd × IsRegister rs1 × IsRegister rs2
IsInRange (Or rd rs1 rs2) = IsRegister rd × IsRegister rs1 × IsRegister rs2
IsInRange (And rd rs1 rs2) = IsRegister rd × IsRegister rs1 × IsRegister rs2
IsInRange (Fence bits) = IsFenceBits bits
IsInRange Ecall = ⊤
IsInRange Ebreak = ⊤

-- ---- reading a word: the instruction that its fields name, if any, by opcode, funct3 and funct7

-- JALR
abbrev pub jalr_of : ℕ → Option Instr
jalr_of w =
    if funct3 w == 0 then Some (Jalr (rd w) (rs1 w) (immediate_i w)) else (
    None)

-- BRANCH
abbrev pub branch_of : ℕ → Option Instr
branch_of w =
    if funct3 w == 0 then Some (Beq (rs1 w) (rs2 w) (immediate_b w)) else (
    if funct3 w == 1 then Some (Bne (rs1 w) (rs2 w) (immediate_b w)) else (
    if funct3 w == 4 then Some (Blt (rs1 w) (rs2 w) (immediate_b w)) else (
    if funct3 w == 5 then Some (Bge (rs1 w) (rs2 w) (immediate_b w)) else (
    if funct3 w == 6 then Some (Bltu (rs1 w) (rs2 w) (immediate_b w)) else (
    if funct3 w == 7 then Some (Bgeu (rs1 w) (rs2 w) (immediate_b w)) else (
    None))))))

-- LOAD
abbrev pub load_of : ℕ → Option Instr
load_of w =
    if funct3 w == 0 then Some (Lb (rd w) (rs1 w) (immediate_i w)) else (
    if funct3 w == 1 then Some (Lh (rd w) (rs1 w) (immediate_i w)) else (
    if funct3 w == 2 then Some (Lw (rd w) (rs1 w) (immediate_i w)) else (
    if funct3 w == 4 then Some (Lbu (rd w) (rs1 w) (immediate_i w)) else (
    if funct3 w == 5 then Some (Lhu (rd w) (rs1 w) (immediate_i w)) else (
    None)))))

-- STORE
abbrev pub store_of : ℕ → Option Instr
store_of w =
    if funct3 w == 0 then Some (Sb (rs1 w) (rs2 w) (immediate_s w)) else (
    if funct3 w == 1 then Some (Sh (rs1 w) (rs2 w) (immediate_s w)) else (
    if funct3 w == 2 then Some (Sw (rs1 w) (rs2 w) (immediate_s w)) else (
    None)))

-- the shifts of OP-IMM
abbrev pub left_shift_of : ℕ → Option Instr
left_shift_of w =
    if funct7 w == 0x00 then Some (Slli (rd w) (rs1 w) (shift_amount w)) else (
    None)

abbrev pub right_shift_of : ℕ → Option Instr
right_shift_of w =
    if funct7 w == 0x00 then Some (Srli (rd w) (rs1 w) (shift_amount w)) else (
    if funct7 w == 0x20 then Some (Srai (rd w) (rs1 w) (shift_amount w)) else (
    None))

-- OP-IMM
abbrev pub immediate_form_of : ℕ → Option Instr
immediate_form_of w =
    if funct3 w == 0 then Some (Addi (rd w) (rs1 w) (immediate_i w)) else (
    if funct3 w == 1 then left_shift_of w else (
    if funct3 w == 2 then Some (Slti (rd w) (rs1 w) (immediate_i w)) else (
    if funct3 w == 3 then Some (Sltiu (rd w) (rs1 w) (immediate_i w)) else (
    if funct3 w == 4 then Some (Xori (rd w) (rs1 w) (immediate_i w)) else (
    if funct3 w == 5 then right_shift_of w else (
    if funct3 w == 6 then Some (Ori (rd w) (rs1 w) (immediate_i w)) else (
    if funct3 w == 7 then Some (Andi (rd w) (rs1 w) (immediate_i w)) else (
    None))))))))

-- OP with funct7 0x00
abbrev pub plain_form_of : ℕ → Option Instr
plain_form_of w =
    if funct3 w == 0 then Some (Add (rd w) (rs1 w) (rs2 w)) else (
    if funct3 w == 1 then Some (Sll (rd w) (rs1 w) (rs2 w)) else (
    if funct3 w == 2 then Some (Slt (rd w) (rs1 w) (rs2 w)) else (
    if funct3 w == 3 then Some (Sltu (rd w) (rs1 w) (rs2 w)) else (
    if funct3 w == 4 then Some (Xor (rd w) (rs1 w) (rs2 w)) else (
    if funct3 w == 5 then Some (Srl (rd w) (rs1 w) (rs2 w)) else (
    if funct3 w == 6 then Some (Or (rd w) (rs1 w) (rs2 w)) else (
    if funct3 w == 7 then Some (And (rd w) (rs1 w) (rs2 w)) else (
    None))))))))

-- OP with funct7 0x20
abbrev pub other_form_of : ℕ → Option Instr
other_form_of w =
    if funct3 w == 0 then Some (Sub (rd w) (rs1 w) (rs2 w)) else (
    if funct3 w == 5 then Some (Sra (rd w) (rs1 w) (rs2 w)) else (
    None))

-- OP
abbrev pub register_form_of : ℕ → Option Instr
register_form_of w =
    if funct7 w == 0x00 then plain_form_of w else (
    if funct7 w == 0x20 then other_form_of w else (
    None))

-- MISC-MEM
abbrev pub fence_of : ℕ → Option Instr
fence_of w =
    if funct3 w == 0 then Some (Fence (fence_bits w)) else (
    None)

-- SYSTEM: two words alone
abbrev pub system_of : ℕ → Option Instr
system_of w =
    if w == 0x00000073 then Some Ecall else (
    if w == 0x00100073 then Some Ebreak else (
    None))

-- any word
abbrev pub instruction_of : ℕ → Option Instr
instruction_of w =
    if opcode w == 0x37 then Some (Lui (rd w) (immediate_u w)) else (
    if opcode w == 0x17 then Some (Auipc (rd w) (immediate_u w)) else (
    if opcode w == 0x6F then Some (Jal (rd w) (immediate_j w)) else (
    if opcode w == 0x67 then jalr_of w else (
    if opcode w == 0x63 then branch_of w else (
    if opcode w == 0x03 then load_of w else (
    if opcode w == 0x23 then store_of w else (
    if opcode w == 0x13 then immediate_form_of w else (
    if opcode w == 0x33 then register_form_of w else (
    if opcode w == 0x0F then fence_of w else (
    if opcode w == 0x73 then system_of w else (
    None)))))))))))
