-- What the answers of a step and of a run tell.
use Rattle.std.specs.Prelude.{ℕ, ◌≡◌, ◌+◌, ◌<◌, List, drop, Bool, true, false}
use Rattle.call_table.specs.declared.limit.TheConstants.{STEPS}
use Rattle.call_table.specs.declared.signal.TheConstants.{SIGXCPU}
use Rattle.page_set.specs.Pages.{PageMap}
use Rattle.user_spec.specs.User.{UserState}
use Rattle.user_spec.specs.Instruction.{Core, one_instruction}
use Rattle.user_spec.specs.Advance as advance
use Rattle.user_spec.specs.declared.outcome.Stop.{Stop}
use Rattle.user_spec.specs.declared.outcome.Stop.TheVariants.{Went, AtCall, Grows, Fault}
use Rattle.user_spec.specs.declared.outcome.Outcome.{Outcome}
use Rattle.user_spec.specs.declared.outcome.Outcome.TheVariants as outcome

-- ---- one instruction

-- pc, x0 to x31 and the pages, seen as what an instruction reads and writes
abbrev pub core : ℕ → List ℕ → PageMap → Core
core pc x pages = record { pc = pc; registers = drop 1 x; pages = pages }

-- ---- a process

-- a process stops here: at a forwarded call, before a brk that maps a page, at a fault
abbrev pub StopsAt : Stop → UserState → Type 0
StopsAt Went u = ⊥
StopsAt AtCall u = advance.advance u ≡ advance.AtCall
StopsAt Grows u = advance.grows u ≡ true
StopsAt (Fault signal) u = advance.advance u ≡ advance.Faults signal

-- ---- instructions of a process

-- a walk that begins with k steps
abbrev pub after : ℕ → advance.Walk → advance.Walk
after k w = record w { went = k + w.went }

-- k steps lead from one state to another
pub record Leads (k : ℕ) (old new : UserState) : Type 0 where
  pub walks : (m : ℕ) → advance.walked (k + m) old ≡ after k (advance.walked m new)

-- the next instruction is an environment call
pub record IsAtEcall (u : UserState) : Type 0 where
  pub room : u.count < STEPS
  pub ecall : (one_instruction (advance.core_of u)).outcome ≡ outcome.Call

-- how instructions end, of which n were asked for
abbrev pub EndsAs : Outcome → ℕ → ℕ → UserState → Type 0
EndsAs outcome.Done went n u = went ≡ n
EndsAs outcome.Call went n u = (went < n) × IsAtEcall u
EndsAs (outcome.Fault signal) went n u = (went < n) × (advance.advance u ≡ advance.Faults signal)

-- where fewer could be asked for, the last was the last step of the process
abbrev pub limited : Outcome → Bool → Outcome
limited outcome.Done true = outcome.Fault SIGXCPU
limited outcome.Done false = outcome.Done
limited outcome.Call is_short = outcome.Call
limited (outcome.Fault signal) is_short = outcome.Fault signal
