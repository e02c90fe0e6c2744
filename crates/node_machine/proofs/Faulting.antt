-- A fault names a signal.
use Rattle.std.proofs.Common.{◌≡◌, ℕ, ◌+◌, ◌*◌, ◌/◌, ◌%◌, ◌^◌, ◌==◌, Bool, true, false, cond, Option, Some, None, Result, Ok, Err, List, not, nat_le, nat_lt, refl, ◌∷◌}
use Rattle.call_table.specs.Calls.{is_signal_number}
use Rattle.call_table.specs.declared.limit.TheConstants.{STEPS}
use Rattle.call_table.specs.declared.signal.TheConstants.{SIGSEGV, SIGXCPU}
use Rattle.call_table.specs.declared.table.TheConstants.{RIGHT_RUN}
use Rattle.page_set.specs.Pages.{PageMap, loaded}
use Rattle.rv_decode.specs.Instructions.{instruction_of}
use Rattle.rv_decode.specs.declared.instruction.Instr.{Instr}
use Rattle.rv_decode.specs.declared.instruction.Instr.TheVariants.{Lui, Auipc, Jal, Jalr, Beq, Bne, Blt, Bge, Bltu, Bgeu, Lb, Lh, Lw, Lbu, Lhu, Sb, Sh, Sw, Addi, Slti, Sltiu, Xori, Ori, Andi, Slli, Srli, Srai, Add, Sub, Sll, Slt, Sltu, Xor, Srl, Sra, Or, And, Fence, Ecall, Ebreak}
use Rattle.user_spec.specs.declared.effect.Effect.{Effect}
use Rattle.user_spec.specs.declared.effect.Effect.TheVariants.{Sets, Loads, Stores, Calls, Raises}
use Rattle.user_spec.specs.declared.outcome.Outcome.{Outcome}
use Rattle.user_spec.specs.declared.outcome.Outcome.TheVariants.{Done, Call, Fault}
use Rattle.user_spec.specs.Words.{sum_of, extended, is_below}
use Rattle.user_spec.specs.User.{UserState}
use Rattle.user_spec.specs.Instruction.{Core, Ran, effect_of, jump, branch, decoded_effect, fetched_effect, next_effect, with_loaded, with_stored, load_as, store_as, applied, one_instruction, value_of}
use Rattle.user_spec.specs.Request.{is_local_call}
use Rattle.user_spec.specs.Advance.{Went, Done as Went_done, AtCall, Faults, advance, went_of, went_by, at_call, counted, core_of}
use Rattle.user_spec.specs.Request.{local_call}

abbrev Fine : Effect → Type 0
Fine (Sets rd value next) = Unit {0}
Fine (Loads rd addr form) = Unit {0}
Fine (Stores addr value width) = Unit {0}
Fine Calls = Unit {0}
Fine (Raises s) = is_signal_number s ≡ true

either : (b : Bool) (e f : Effect) → Fine e → Fine f → Fine (cond b e f)
either true e f x y = x
either false e f x y = y

jump_fine : (rd value target : ℕ) → Fine (jump rd value target)
jump_fine rd value target = either (target % 4 == 0) (Sets rd value target) (Raises SIGSEGV) tt refl

branch_fine : (test : Bool) (pc distance : ℕ) → Fine (branch test pc distance)
branch_fine test pc distance = either test (jump 0 0 (sum_of pc distance)) (Sets 0 0 (sum_of pc 4)) (jump_fine 0 0 (sum_of pc distance)) tt

effect_fine : (i : Instr) (pc : ℕ) (x : List ℕ) → Fine (effect_of i pc x)
effect_fine (Lui rd imm) pc x = tt
effect_fine (Auipc rd imm) pc x = tt
effect_fine (Jal rd imm) pc x = jump_fine rd (sum_of pc 4) (sum_of pc (extended imm))
effect_fine (Jalr rd a imm) pc x = jump_fine rd (sum_of pc 4) (sum_of (value_of x a) (extended imm) / 2 * 2)
effect_fine (Beq a b imm) pc x = branch_fine (value_of x a == value_of x b) pc (extended imm)
effect_fine (Bne a b imm) pc x = branch_fine (not (value_of x a == value_of x b)) pc (extended imm)
effect_fine (Blt a b imm) pc x = branch_fine (is_below (value_of x a) (value_of x b)) pc (extended imm)
effect_fine (Bge a b imm) pc x = branch_fine (not (is_below (value_of x a) (value_of x b))) pc (extended imm)
effect_fine (Bltu a b imm) pc x = branch_fine (nat_lt (value_of x a) (value_of x b)) pc (extended imm)
effect_fine (Bgeu a b imm) pc x = branch_fine (nat_le (value_of x b) (value_of x a)) pc (extended imm)
effect_fine (Lb rd a imm) pc x = tt
effect_fine (Lh rd a imm) pc x = tt
effect_fine (Lw rd a imm) pc x = tt
effect_fine (Lbu rd a imm) pc x = tt
effect_fine (Lhu rd a imm) pc x = tt
effect_fine (Sb a b imm) pc x = tt
effect_fine (Sh a b imm) pc x = tt
effect_fine (Sw a b imm) pc x = tt
effect_fine (Addi rd a imm) pc x = tt
effect_fine (Slti rd a imm) pc x = tt
effect_fine (Sltiu rd a imm) pc x = tt
effect_fine (Xori rd a imm) pc x = tt
effect_fine (Ori rd a imm) pc x = tt
effect_fine (Andi rd a imm) pc x = tt
effect_fine (Slli rd a imm) pc x = tt
effect_fine (Srli rd a imm) pc x = tt
effect_fine (Srai rd a imm) pc x = tt
effect_fine (Add rd a b) pc x = tt
effect_fine (Sub rd a b) pc x = tt
effect_fine (Sll rd a b) pc x = tt
effect_fine (Slt rd a b) pc x = tt
effect_fine (Sltu rd a b) pc x = tt
effect_fine (Xor rd a b) pc x = tt
effect_fine (Srl rd a b) pc x = tt
effect_fine (Sra rd a b) pc x = tt
effect_fine (Or rd a b) pc x = tt
effect_fine (And rd a b) pc x = tt
effect_fine (Fence bits) pc x = tt
effect_fine Ecall pc x = tt
effect_fine Ebreak pc x = refl

decoded_fine : (o : Option Instr) (pc : ℕ) (x : List ℕ) → Fine (decoded_effect o pc x)
decoded_fine None pc x = refl
decoded_fine (Some i) pc x = effect_fine i pc x

fetched_fine : (r : Result ℕ ℕ) (pc : ℕ) (x : List ℕ) → Fine (fetched_effect r pc x)
fetched_fine (Ok word) pc x = decoded_fine (instruction_of word) pc x
fetched_fine (Err addr) pc x = refl

next_fine : (pc : ℕ) (x : List ℕ) (pages : PageMap) → Fine (next_effect pc x pages)
next_fine pc x pages = either (pc % 4 == 0) _ (Raises SIGSEGV) (fetched_fine (loaded pages pc 4 RIGHT_RUN) pc x) refl

abbrev FineOutcome : Outcome → Type 0
FineOutcome Done = Unit {0}
FineOutcome Call = Unit {0}
FineOutcome (Fault s) = is_signal_number s ≡ true

loaded_fine : (rd : ℕ) (r : Result ℕ ℕ) (c : Core) → FineOutcome (with_loaded rd r c).outcome
loaded_fine rd (Ok value) c = tt
loaded_fine rd (Err addr) c = refl

stored_fine : (r : Result PageMap ℕ) (c : Core) → FineOutcome (with_stored r c).outcome
stored_fine (Ok pages) c = tt
stored_fine (Err addr) c = refl

applied_fine : (e : Effect) (c : Core) → Fine e → FineOutcome (applied e c).outcome
applied_fine (Sets rd value next) c h = tt
applied_fine (Loads rd addr form) c h = loaded_fine rd (load_as form c.pages addr) c
applied_fine (Stores addr value width) c h = stored_fine (store_as width c.pages addr value) c
applied_fine Calls c h = tt
applied_fine (Raises s) c h = h

one_fine : (c : Core) → FineOutcome (one_instruction c).outcome
one_fine c = applied_fine _ c (next_fine c.pc (0 ∷ c.registers) c.pages)

abbrev pub FineWent : Went → Type 0
FineWent (Went_done u) = Unit {0}
FineWent AtCall = Unit {0}
FineWent (Faults s) = is_signal_number s ≡ true

went_either : (b : Bool) (v w : Went) → FineWent v → FineWent w → FineWent (cond b v w)
went_either true v w x y = x
went_either false v w x y = y

went_fine : (u : UserState) (o : Outcome) (c : Core) → FineOutcome o → FineWent (went_by u o c)
went_fine u Done c h = tt
went_fine u Call c h = went_either (is_local_call u) (Went_done (counted (local_call u))) AtCall tt tt
went_fine u (Fault s) c h = h

pub advance_fine : (u : UserState) → FineWent (advance u)
advance_fine u = went_either (nat_le STEPS u.count) (Faults SIGXCPU) _ refl (went_fine u (one_instruction (core_of u)).outcome (one_instruction (core_of u)).core (one_fine (core_of u)))
