-- One step of a user process, on its state alone.
use Rattle.std.specs.Prelude.{ℕ, zero, suc, ◌+◌, ◌-◌, ◌^◌, List, [], ◌∷◌, Bool, true, false, not, Option, Some, None, ◌==◌, ◌&&◌, ◌||◌, if◌then◌else◌, nat_le, slice_index}
use Rattle.call_table.specs.declared.request.Request.{Request}
use Rattle.user_spec.specs.User.{UserState}
use Rattle.user_spec.specs.Instruction.{Core, Ran, one_instruction}
use Rattle.user_spec.specs.declared.outcome.Outcome.{Outcome}
use Rattle.user_spec.specs.declared.outcome.Outcome.TheVariants as outcome
use Rattle.user_spec.specs.declared.outcome.Stop.{Stop}
use Rattle.user_spec.specs.declared.outcome.Stop.TheVariants as stop
use Rattle.call_table.specs.declared.call.TheConstants.{BRK}
use Rattle.call_table.specs.declared.limit.TheConstants.{STEPS}
use Rattle.call_table.specs.declared.signal.TheConstants.{SIGXCPU}
use Rattle.user_spec.specs.Request.{number_of, args_of, is_local_call, local_call, break_maps, call_request, fault_request}

-- what one step does
pub data Went : Type 0 where
  -- it is done, and this is the state after it
  Done : UserState → Went
  -- at a forwarded call
  AtCall : Went
  -- the signal
  Faults : ℕ → Went

abbrev pub core_of : UserState → Core
core_of u = record { pc = u.pc; registers = u.registers; pages = u.pages }

-- n instructions later
abbrev pub with_core : UserState → ℕ → Core → UserState
with_core u n c = record u { pc = c.pc; registers = c.registers; pages = c.pages; count = u.count + n }

abbrev pub counted : UserState → UserState
counted u = record u { count = u.count + 1 }

abbrev pub at_call : UserState → Went
at_call u = if is_local_call u then Done (counted (local_call u)) else AtCall

abbrev pub went_by : UserState → Outcome → Core → Went
went_by u outcome.Done c = Done (with_core u 1 c)
went_by u outcome.Call c = at_call u
went_by u (outcome.Fault signal) c = Faults signal

abbrev pub went_of : UserState → Ran → Went
went_of u r = went_by u r.outcome r.core

-- after its last step a process ends by a signal
abbrev pub advance : UserState → Went
advance u = if nat_le STEPS u.count then Faults SIGXCPU else went_of u (one_instruction (core_of u))

-- ---- growth: the next step is a brk that maps a page

abbrev pub is_call : Outcome → Bool
is_call outcome.Call = true
is_call outcome.Done = false
is_call (outcome.Fault signal) = false

abbrev pub is_at_ecall : Ran → Bool
is_at_ecall r = is_call r.outcome

abbrev pub grows : UserState → Bool
grows u =
    not (nat_le STEPS u.count) && (is_at_ecall (one_instruction (core_of u)) && ((number_of u == BRK) && break_maps u (slice_index (args_of u) 0)))

-- ---- how a step comes out, and the process after it: as it was unless the step was done, and before a growth

pub record Stepped : Type 0 where
  pub stop : Stop
  pub user : UserState

abbrev pub stepped_as : Went → UserState → Stepped
stepped_as (Done v) u = record { stop = stop.Went; user = v }
stepped_as AtCall u = record { stop = stop.AtCall; user = u }
stepped_as (Faults signal) u = record { stop = stop.Fault signal; user = u }

abbrev pub stepped : UserState → Stepped
stepped u = if grows u then record { stop = stop.Grows; user = u } else stepped_as (advance u) u

-- ---- several steps

abbrev pub on_done : Went → (UserState → Option UserState) → Option UserState
on_done (Done u) go = go u
on_done AtCall go = None
on_done (Faults signal) go = None

-- k steps, none where one of them does not go
abbrev pub advanced : ℕ → UserState → Option UserState
advanced zero u = Some u
advanced (suc k) u = on_done (advance u) (advanced k)

-- how far steps went
pub record Walk : Type 0 where
  pub went : ℕ
  pub user : UserState

abbrev pub stays : UserState → Walk
stays u = record { went = 0; user = u }

abbrev pub one_more : Walk → Walk
one_more w = record w { went = w.went + 1 }

abbrev pub walk_on : Went → UserState → (UserState → Walk) → Walk
walk_on (Done v) u go = one_more (go v)
walk_on AtCall u go = stays u
walk_on (Faults signal) u go = stays u

-- at most k steps, up to a forwarded call, a fault or a growth
abbrev pub walked : ℕ → UserState → Walk
walked zero u = stays u
walked (suc k) u = if grows u then stays u else walk_on (advance u) u (walked k)

-- ---- what is asked at a forwarded call or a fault

abbrev pub asked_at : Went → UserState → Option Request
asked_at (Done v) u = None
asked_at AtCall u = Some (call_request u)
asked_at (Faults signal) u = Some (fault_request signal)

abbrev pub request_of : UserState → Option Request
request_of u = asked_at (advance u) u

-- ---- a quantum: at most so many steps, up to a forwarded call or a fault, and up to a growth that is not the first of them

abbrev pub user_after : Went → UserState → UserState
user_after (Done v) u = v
user_after AtCall u = u
user_after (Faults signal) u = u

abbrev pub quantum_of : ℕ → UserState → Walk
quantum_of quantum u =
    if grows u && nat_le 1 quantum then one_more (walked (quantum - 1) (user_after (advance u) u)) else walked quantum u

-- where a quantum may end early
abbrev pub stops_at : Went → Bool
stops_at (Done v) = false
stops_at AtCall = true
stops_at (Faults signal) = true

abbrev pub pauses : UserState → Bool
pauses u = grows u || stops_at (advance u)

-- the number of what is asked, 0 for a fault
abbrev pub asked_number : Option Request → Option ℕ
asked_number None = None
asked_number (Some request) = Some request.number
