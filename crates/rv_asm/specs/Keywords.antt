-- The words that begin statements.
use Rattle.std.specs.Prelude.{ℕ, Bool, true, false, List, Option, Some, None, codes, if◌then◌else◌}
use Rattle.std.specs.Option.{option_map}
use Rattle.std.specs.Str.{bytes_eq}
use Rattle.rv_asm.specs.declared.keyword.Keyword.{Keyword}
use Rattle.rv_asm.specs.declared.keyword.Keyword.TheVariants.{Register, Immediate, Shift, Load, Store, Branch, Upper, Plain, Jal, Jalr, J, Li, La, Mv, Sys, Word, Byte, Space, Ascii, Align, Bss}
use Rattle.rv_asm.specs.declared.keyword.RegisterOp.{RegisterOp}
use Rattle.rv_asm.specs.declared.keyword.RegisterOp.TheVariants.{Add, Sub, Sll, Slt, Sltu, Xor, Srl, Sra, Or, And}
use Rattle.rv_asm.specs.declared.keyword.ImmediateOp.{ImmediateOp}
use Rattle.rv_asm.specs.declared.keyword.ImmediateOp.TheVariants.{Addi, Slti, Sltiu, Xori, Ori, Andi}
use Rattle.rv_asm.specs.declared.keyword.ShiftOp.{ShiftOp}
use Rattle.rv_asm.specs.declared.keyword.ShiftOp.TheVariants.{Slli, Srli, Srai}
use Rattle.rv_asm.specs.declared.keyword.LoadOp.{LoadOp}
use Rattle.rv_asm.specs.declared.keyword.LoadOp.TheVariants.{Lb, Lh, Lw, Lbu, Lhu}
use Rattle.rv_asm.specs.declared.keyword.StoreOp.{StoreOp}
use Rattle.rv_asm.specs.declared.keyword.StoreOp.TheVariants.{Sb, Sh, Sw}
use Rattle.rv_asm.specs.declared.keyword.BranchOp.{BranchOp}
use Rattle.rv_asm.specs.declared.keyword.BranchOp.TheVariants.{Beq, Bne, Blt, Bge, Bltu, Bgeu}
use Rattle.rv_asm.specs.declared.keyword.UpperOp.{UpperOp}
use Rattle.rv_asm.specs.declared.keyword.UpperOp.TheVariants.{Lui, Auipc}
use Rattle.rv_asm.specs.declared.keyword.PlainOp.{PlainOp}
use Rattle.rv_asm.specs.declared.keyword.PlainOp.TheVariants.{Fence, Ecall, Ebreak, Ret, Nop}

-- the instructions of three registers
abbrev pub register_op : List ℕ → Option RegisterOp
register_op name =
    if bytes_eq name (codes "add") then Some Add else
    (if bytes_eq name (codes "sub") then Some Sub else
    (if bytes_eq name (codes "sll") then Some Sll else
    (if bytes_eq name (codes "slt") then Some Slt else
    (if bytes_eq name (codes "sltu") then Some Sltu else
    (if bytes_eq name (codes "xor") then Some Xor else
    (if bytes_eq name (codes "srl") then Some Srl else
    (if bytes_eq name (codes "sra") then Some Sra else
    (if bytes_eq name (codes "or") then Some Or else
    (if bytes_eq name (codes "and") then Some And else
    None)))))))))

-- the instructions of two registers and an immediate
abbrev pub immediate_op : List ℕ → Option ImmediateOp
immediate_op name =
    if bytes_eq name (codes "addi") then Some Addi else
    (if bytes_eq name (codes "slti") then Some Slti else
    (if bytes_eq name (codes "sltiu") then Some Sltiu else
    (if bytes_eq name (codes "xori") then Some Xori else
    (if bytes_eq name (codes "ori") then Some Ori else
    (if bytes_eq name (codes "andi") then Some Andi else
    None)))))

-- the shifts by an immediate
abbrev pub shift_op : List ℕ → Option ShiftOp
shift_op name =
    if bytes_eq name (codes "slli") then Some Slli else
    (if bytes_eq name (codes "srli") then Some Srli else
    (if bytes_eq name (codes "srai") then Some Srai else
    None))

-- the loads
abbrev pub load_op : List ℕ → Option LoadOp
load_op name =
    if bytes_eq name (codes "lb") then Some Lb else
    (if bytes_eq name (codes "lh") then Some Lh else
    (if bytes_eq name (codes "lw") then Some Lw else
    (if bytes_eq name (codes "lbu") then Some Lbu else
    (if bytes_eq name (codes "lhu") then Some Lhu else
    None))))

-- the stores
abbrev pub store_op : List ℕ → Option StoreOp
store_op name =
    if bytes_eq name (codes "sb") then Some Sb else
    (if bytes_eq name (codes "sh") then Some Sh else
    (if bytes_eq name (codes "sw") then Some Sw else
    None))

-- the branches
abbrev pub branch_op : List ℕ → Option BranchOp
branch_op name =
    if bytes_eq name (codes "beq") then Some Beq else
    (if bytes_eq name (codes "bne") then Some Bne else
    (if bytes_eq name (codes "blt") then Some Blt else
    (if bytes_eq name (codes "bge") then Some Bge else
    (if bytes_eq name (codes "bltu") then Some Bltu else
    (if bytes_eq name (codes "bgeu") then Some Bgeu else
    None)))))

-- the instructions of an upper immediate
abbrev pub upper_op : List ℕ → Option UpperOp
upper_op name =
    if bytes_eq name (codes "lui") then Some Lui else
    (if bytes_eq name (codes "auipc") then Some Auipc else
    None)

-- what has no operands
abbrev pub plain_op : List ℕ → Option PlainOp
plain_op name =
    if bytes_eq name (codes "fence") then Some Fence else
    (if bytes_eq name (codes "ecall") then Some Ecall else
    (if bytes_eq name (codes "ebreak") then Some Ebreak else
    (if bytes_eq name (codes "ret") then Some Ret else
    (if bytes_eq name (codes "nop") then Some Nop else
    None))))

-- the rest: jumps, what stands for several instructions, and data
abbrev pub other_keyword : List ℕ → Option Keyword
other_keyword name =
    if bytes_eq name (codes "jal") then Some Jal else
    (if bytes_eq name (codes "jalr") then Some Jalr else
    (if bytes_eq name (codes "j") then Some J else
    (if bytes_eq name (codes "li") then Some Li else
    (if bytes_eq name (codes "la") then Some La else
    (if bytes_eq name (codes "mv") then Some Mv else
    (if bytes_eq name (codes "sys") then Some Sys else
    (if bytes_eq name (codes ".word") then Some Word else
    (if bytes_eq name (codes ".byte") then Some Byte else
    (if bytes_eq name (codes ".space") then Some Space else
    (if bytes_eq name (codes ".ascii") then Some Ascii else
    (if bytes_eq name (codes ".align") then Some Align else
    (if bytes_eq name (codes ".bss") then Some Bss else
    None))))))))))))

-- ---- any of them

abbrev pub or_else : {A : Type 0} → Option A → Option A → Option A
or_else None later = later
or_else (Some x) later = Some x

abbrev pub keyword_named : List ℕ → Option Keyword
keyword_named name =
    or_else (option_map Register (register_op name))
    (or_else (option_map Immediate (immediate_op name))
    (or_else (option_map Shift (shift_op name))
    (or_else (option_map Load (load_op name))
    (or_else (option_map Store (store_op name))
    (or_else (option_map Branch (branch_op name))
    (or_else (option_map Upper (upper_op name))
    (or_else (option_map Plain (plain_op name))
    (other_keyword name))))))))

-- it stands for instructions, and not for data
abbrev pub is_instruction : Keyword → Bool
is_instruction (Register op) = true
is_instruction (Immediate op) = true
is_instruction (Shift op) = true
is_instruction (Load op) = true
is_instruction (Store op) = true
is_instruction (Branch op) = true
is_instruction (Upper op) = true
is_instruction (Plain op) = true
is_instruction Jal = true
is_instruction Jalr = true
is_instruction J = true
is_instruction Li = true
is_instruction La = true
is_instruction Mv = true
is_instruction Sys = true
is_instruction Word = false
is_instruction Byte = false
is_instruction Space = false
is_instruction Ascii = false
is_instruction Align = false
is_instruction Bss = false
