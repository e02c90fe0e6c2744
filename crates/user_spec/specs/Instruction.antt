-- One instruction, by the table of the RISC-V unprivileged specification, 'RV32I Base Integer Instruction Set'.
use Rattle.std.specs.Prelude.{ℕ, zero, suc, ◌+◌, ◌-◌, ◌*◌, ◌/◌, ◌%◌, ◌^◌, List, [], ◌∷◌, Bool, not, Option, Some, None, Result, Ok, Err, ◌==◌, if◌then◌else◌, slice_index, bit_and, bit_or, bit_xor, nat_lt, nat_le}
use Rattle.user_spec.specs.Words.{sum_of, difference_of, sign_filled, extended, is_below, one_if, shifted_left, shifted_right, shifted_signed}
use Rattle.user_spec.specs.User.{with_register}
use Rattle.page_set.specs.Pages.{PageMap, loaded, stored, bytes_1, bytes_2, bytes_4}
use Rattle.rv_decode.specs.Instructions.{instruction_of}
use Rattle.rv_decode.specs.declared.instruction.Instr.{Instr}
use Rattle.rv_decode.specs.declared.instruction.Instr.TheVariants.{Lui, Auipc, Jal, Jalr, Beq, Bne, Blt, Bge, Bltu, Bgeu, Lb, Lh, Lw, Lbu, Lhu, Sb, Sh, Sw, Addi, Slti, Sltiu, Xori, Ori, Andi, Slli, Srli, Srai, Add, Sub, Sll, Slt, Sltu, Xor, Srl, Sra, Or, And, Fence, Ecall, Ebreak}
use Rattle.user_spec.specs.declared.effect.Form.{Form}
use Rattle.user_spec.specs.declared.effect.Form.TheVariants.{SignedByte, SignedHalf, Word, Byte, Half}
use Rattle.user_spec.specs.declared.effect.Width.{Width}
use Rattle.user_spec.specs.declared.effect.Width.TheVariants.{One, Two, Four}
use Rattle.user_spec.specs.declared.effect.Effect.{Effect}
use Rattle.user_spec.specs.declared.effect.Effect.TheVariants.{Sets, Loads, Stores, Calls, Raises}
use Rattle.user_spec.specs.declared.outcome.Outcome.{Outcome}
use Rattle.user_spec.specs.declared.outcome.Outcome.TheVariants.{Done, Call, Fault}
use Rattle.call_table.specs.declared.signal.TheConstants.{SIGILL, SIGTRAP, SIGSEGV}
use Rattle.call_table.specs.declared.table.TheConstants.{RIGHT_READ, RIGHT_RUN}

-- what an instruction reads and writes
pub record Core : Type 0 where
  pub pc : ℕ
  -- x1 to x31
  pub registers : List ℕ
  pub pages : PageMap

-- how one instruction came out, and what it left: all as it was unless it was done
pub record Ran : Type 0 where
  pub outcome : Outcome
  pub core : Core

abbrev pub done : Core → Ran
done c = record { outcome = Done; core = c }

abbrev pub faults : ℕ → Core → Ran
faults signal c = record { outcome = Fault signal; core = c }

-- of x0 to x31
abbrev pub value_of : List ℕ → ℕ → ℕ
value_of x r = slice_index x r

-- a jump to no multiple of 4 is a fault, and the register is not written
abbrev pub jump : ℕ → ℕ → ℕ → Effect
jump rd value target = if target % 4 == 0 then Sets rd value target else Raises SIGSEGV

-- a branch that is taken where the test holds
abbrev pub branch : Bool → ℕ → ℕ → Effect
branch test pc distance = if test then jump 0 0 (sum_of pc distance) else Sets 0 0 (sum_of pc 4)

abbrev pub sets : ℕ → ℕ → ℕ → Effect
sets rd value pc = Sets rd value (sum_of pc 4)

-- the effect at a pc, where x is x0 to x31
abbrev pub effect_of : Instr → ℕ → List ℕ → Effect
effect_of (Lui rd imm) pc x = sets rd (imm * 2 ^ 12) pc
effect_of (Auipc rd imm) pc x = sets rd (sum_of pc (imm * 2 ^ 12)) pc
effect_of (Jal rd imm) pc x = jump rd (sum_of pc 4) (sum_of pc (extended imm))
effect_of (Jalr rd a imm) pc x = jump rd (sum_of pc 4) (sum_of (value_of x a) (extended imm) / 2 * 2)
effect_of (Beq a b imm) pc x = branch (value_of x a == value_of x b) pc (extended imm)
effect_of (Bne a b imm) pc x = branch (not (value_of x a == value_of x b)) pc (extended imm)
effect_of (Blt a b imm) pc x = branch (is_below (value_of x a) (value_of x b)) pc (extended imm)
effect_of (Bge a b imm) pc x = branch (not (is_below (value_of x a) (value_of x b))) pc (extended imm)
effect_of (Bltu a b imm) pc x = branch (nat_lt (value_of x a) (value_of x b)) pc (extended imm)
effect_of (Bgeu a b imm) pc x = branch (nat_le (value_of x b) (value_of x a)) pc (extended imm)
effect_of (Lb rd a imm) pc x = Loads rd (sum_of (value_of x a) (extended imm)) SignedByte
effect_of (Lh rd a imm) pc x = Loads rd (sum_of (value_of x a) (extended imm)) SignedHalf
effect_of (Lw rd a imm) pc x = Loads rd (sum_of (value_of x a) (extended imm)) Word
effect_of (Lbu rd a imm) pc x = Loads rd (sum_of (value_of x a) (extended imm)) Byte
effect_of (Lhu rd a imm) pc x = Loads rd (sum_of (value_of x a) (extended imm)) Half
effect_of (Sb a b imm) pc x = Stores (sum_of (value_of x a) (extended imm)) (value_of x b) One
effect_of (Sh a b imm) pc x = Stores (sum_of (value_of x a) (extended imm)) (value_of x b) Two
effect_of (Sw a b imm) pc x = Stores (sum_of (value_of x a) (extended imm)) (value_of x b) Four
effect_of (Addi rd a imm) pc x = sets rd (sum_of (value_of x a) (extended imm)) pc
effect_of (Slti rd a imm) pc x = sets rd (one_if (is_below (value_of x a) (extended imm))) pc
effect_of (Sltiu rd a imm) pc x = sets rd (one_if (nat_lt (value_of x a) (extended imm))) pc
effect_of (Xori rd a imm) pc x = sets rd (bit_xor (value_of x a) (extended imm)) pc
effect_of (Ori rd a imm) pc x = sets rd (bit_or (value_of x a) (extended imm)) pc
effect_of (Andi rd a imm) pc x = sets rd (bit_and (value_of x a) (extended imm)) pc
effect_of (Slli rd a k) pc x = sets rd (shifted_left (value_of x a) k) pc
effect_of (Srli rd a k) pc x = sets rd (shifted_right (value_of x a) k) pc
effect_of (Srai rd a k) pc x = sets rd (shifted_signed (value_of x a) k) pc
effect_of (Add rd a b) pc x = sets rd (sum_of (value_of x a) (value_of x b)) pc
effect_of (Sub rd a b) pc x = sets rd (difference_of (value_of x a) (value_of x b)) pc
effect_of (Sll rd a b) pc x = sets rd (shifted_left (value_of x a) (value_of x b)) pc
effect_of (Slt rd a b) pc x = sets rd (one_if (is_below (value_of x a) (value_of x b))) pc
effect_of (Sltu rd a b) pc x = sets rd (one_if (nat_lt (value_of x a) (value_of x b))) pc
effect_of (Xor rd a b) pc x = sets rd (bit_xor (value_of x a) (value_of x b)) pc
effect_of (Srl rd a b) pc x = sets rd (shifted_right (value_of x a) (value_of x b)) pc
effect_of (Sra rd a b) pc x = sets rd (shifted_signed (value_of x a) (value_of x b)) pc
effect_of (Or rd a b) pc x = sets rd (bit_or (value_of x a) (value_of x b)) pc
effect_of (And rd a b) pc x = sets rd (bit_and (value_of x a) (value_of x b)) pc
effect_of (Fence bits) pc x = Sets 0 0 (sum_of pc 4)
effect_of Ecall pc x = Calls
effect_of Ebreak pc x = Raises SIGTRAP

-- ---- the effect of the next instruction, at pc, x0 to x31 and pages

-- a word that is no instruction is a fault
abbrev pub decoded_effect : Option Instr → ℕ → List ℕ → Effect
decoded_effect None pc x = Raises SIGILL
decoded_effect (Some instr) pc x = effect_of instr pc x

abbrev pub fetched_effect : Result ℕ ℕ → ℕ → List ℕ → Effect
fetched_effect (Ok word) pc x = decoded_effect (instruction_of word) pc x
fetched_effect (Err addr) pc x = Raises SIGSEGV

-- a fetch wants the right to execute on four bytes
abbrev pub next_effect : ℕ → List ℕ → PageMap → Effect
next_effect pc x pages = if pc % 4 == 0 then fetched_effect (loaded pages pc 4 RIGHT_RUN) pc x else Raises SIGSEGV

-- ---- and on the state

abbrev pub signed : ℕ → Result ℕ ℕ → Result ℕ ℕ
signed n (Ok w) = Ok (sign_filled n w)
signed n (Err addr) = Err addr

abbrev pub load_as : Form → PageMap → ℕ → Result ℕ ℕ
load_as SignedByte pages addr = signed 8 (loaded pages addr 1 RIGHT_READ)
load_as SignedHalf pages addr = signed 16 (loaded pages addr 2 RIGHT_READ)
load_as Word pages addr = loaded pages addr 4 RIGHT_READ
load_as Byte pages addr = loaded pages addr 1 RIGHT_READ
load_as Half pages addr = loaded pages addr 2 RIGHT_READ

abbrev pub store_as : Width → PageMap → ℕ → ℕ → Result PageMap ℕ
store_as One pages addr value = stored pages addr (bytes_1 value)
store_as Two pages addr value = stored pages addr (bytes_2 value)
store_as Four pages addr value = stored pages addr (bytes_4 value)

abbrev pub with_loaded : ℕ → Result ℕ ℕ → Core → Ran
with_loaded rd (Ok value) c = done (record c { pc = sum_of c.pc 4; registers = with_register c.registers rd value })
with_loaded rd (Err addr) c = faults SIGSEGV c

abbrev pub with_stored : Result PageMap ℕ → Core → Ran
with_stored (Ok pages) c = done (record c { pc = sum_of c.pc 4; pages = pages })
with_stored (Err addr) c = faults SIGSEGV c

abbrev pub applied : Effect → Core → Ran
applied (Sets rd value next) c = done (record c { pc = next; registers = with_register c.registers rd value })
applied (Loads rd addr form) c = with_loaded rd (load_as form c.pages addr) c
applied (Stores addr value width) c = with_stored (store_as width c.pages addr value) c
applied Calls c = record { outcome = Call; core = c }
applied (Raises signal) c = faults signal c

abbrev pub one_instruction : Core → Ran
one_instruction c = applied (next_effect c.pc (0 ∷ c.registers) c.pages) c

-- ---- several instructions, none where one of them does not go

abbrev pub on_outcome : Outcome → Core → (Core → Option Core) → Option Core
on_outcome Done c go = go c
on_outcome Call c go = None
on_outcome (Fault signal) c go = None

abbrev pub on_ran : Ran → (Core → Option Core) → Option Core
on_ran r go = on_outcome r.outcome r.core go

abbrev pub ran : ℕ → Core → Option Core
ran zero c = Some c
ran (suc k) c = on_ran (one_instruction c) (ran k)
