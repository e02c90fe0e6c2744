-- The one-node machine: the system without nodes, letters or migration.
use Rattle.std.specs.Prelude.{ℕ, zero, suc, ◌+◌, List, [], ◌∷◌, ◌++◌, Option, Some, None, ◌==◌, ◌&&◌, if◌then◌else◌, slice_get, length, is_some, is_none, ℤ, refl, ◌≡◌, Bool, true, false}
use Rattle.std.specs.Option.{option_map, option_and_then}
use Rattle.std.specs.Coded.{Coded, code_by, coded×, coded_list}
use Rattle.call_table.specs.Calls.{is_signal_number}
use Rattle.call_table.specs.declared.request.Request.{Request}
use Rattle.call_table.specs.declared.request.Answer.{Answer}
use Rattle.call_table.specs.declared.request.Kind.{Kind}
use Rattle.call_table.specs.declared.request.Kind.TheVariants.{Plain, Fork, Return}
use Rattle.call_table.specs.declared.request.Taken.{Taken}
use Rattle.call_table.specs.declared.request.Taken.TheVariants.{Dies, Enters}
use Rattle.call_table.specs.declared.process.End.{End}
use Rattle.call_table.specs.declared.process.End.TheVariants as ends
use Rattle.call_table.specs.declared.process.PidState.{PidState}
use Rattle.call_table.specs.declared.process.PidState.TheVariants as states
use Rattle.call_table.specs.declared.process.Reply3.{Reply3}
use Rattle.call_table.specs.contracts.process.Reply3 as reply_row
use Rattle.user_spec.specs.User.{UserState, coded_user}
use Rattle.user_spec.specs.Request.{call_request, returned, forked, entered, has_frame_room, stack_pointer}
use Rattle.user_spec.specs.Advance.{Went, Done, AtCall, Faults, advance, advanced}
use Rattle.kernel_spec.specs.Kernel.{KernelState, Input, Called, AfterTake, no_process, with_process, with_end, with_raised, deliverable, take_result, fed, given, end_at, is_live, has_room, coded_kernel}
use Rattle.kernel_spec.specs.Pids.{at_pid, set_pid}
use Rattle.kernel_spec.specs.Calls.{call_result, broken}
use Rattle.one_node.specs.declared.step.Setup.{Setup}
use Rattle.one_node.specs.declared.step.Step.{Step}
use Rattle.one_node.specs.declared.step.Step.TheVariants.{Launch, Raise, Feed, Eof, Steps, Do, Break, Take, Fall}

pub record MachineState : Type 0 where
  pub kernel : KernelState
  -- the context of each process from 1 on, kept after its end
  pub users : List UserState
  -- of each served call, the newest last
  pub replies : List Reply3

abbrev pub start : MachineState
start = record { kernel = no_process; users = []; replies = [] }

-- ---- processes by number

-- the context of a live process; no other process makes a step
abbrev pub live_user : MachineState → ℕ → Option UserState
live_user m pid = if is_live m.kernel pid then at_pid m.users pid else None

abbrev pub ended_of : MachineState → ℕ → Option End
ended_of m pid = end_at m.kernel pid

abbrev pub with_user : MachineState → ℕ → UserState → MachineState
with_user m pid u = record m { users = set_pid m.users pid u }

-- ---- Launch: the next process, where there is room for one more

-- the next process
abbrev pub next_pid : MachineState → ℕ
next_pid m = given m.kernel + 1

abbrev pub launched : Option UserState → MachineState → Option MachineState
launched None m = None
launched (Some u) m =
    if has_room m.kernel
    then Some (record { kernel = with_process m.kernel; users = m.users ++ record u { pid = next_pid m } ∷ []; replies = m.replies })
    else None

-- ---- Raise: a signal of the table; nothing at a process that is not live or ignores it

abbrev pub raised : MachineState → ℕ → ℕ → Option MachineState
raised m pid signal = if is_signal_number signal then Some (record m { kernel = with_raised m.kernel pid signal }) else None

-- ---- Feed and Eof: bytes are typed, nothing after the end; no more are typed

abbrev pub with_input : MachineState → Input → MachineState
with_input m input = record m { kernel = record m.kernel { input = input } }

abbrev pub typed : Option (List ℕ) → MachineState → Option MachineState
typed None m = None
typed (Some bytes) m = Some (with_input m (fed bytes m.kernel.input))

abbrev pub with_eof : MachineState → MachineState
with_eof m = with_input m (record m.kernel.input { ended = true })

-- ---- Steps: at least one, and each of them goes

abbrev pub steps_of : MachineState → ℕ → ℕ → Option UserState → Option MachineState
steps_of m pid k user = if k == 0 then None else option_map (with_user m pid) (option_and_then (advanced k) user)

-- ---- the answer of a forwarded call

abbrev pub asked_by : Went → UserState → Option Request
asked_by AtCall u = Some (call_request u)
asked_by (Done v) u = None
asked_by (Faults signal) u = None

-- what a process asks, none where it is at no forwarded call
abbrev pub asked_of : UserState → Option Request
asked_of u = asked_by (advance u) u

-- a fork's child is its parent before the return, with its own pid and 0 in a0
abbrev pub children : Kind → UserState → ℕ → List UserState
children Plain u child = []
children Fork u child = forked u child ∷ []
children Return u child = []

abbrev pub reply_of : ℕ → Request → Answer → Reply3
reply_of pid asked answer = record { pid = pid; number = asked.number; value = answer.value }

-- the kernel after the call, the process after its return, a child where one is made, and one reply more
abbrev pub with_answer : MachineState → ℕ → UserState → Request → Called → MachineState
with_answer m pid u asked called = record {
  kernel = called.kernel;
  users = set_pid m.users pid (returned u called.answer) ++ children called.answer.kind u (given called.kernel);
  replies = m.replies ++ reply_of pid asked called.answer ∷ [];
}

-- ---- Do: a forwarded call that does not block

abbrev pub done_at : MachineState → ℕ → UserState → Option Request → Option MachineState
done_at m pid u None = None
done_at m pid u (Some asked) = option_map (with_answer m pid u asked) (call_result m.kernel pid asked)

abbrev pub done_of : MachineState → ℕ → Option UserState → Option MachineState
done_of m pid None = None
done_of m pid (Some u) = done_at m pid u (asked_of u)

-- ---- Break: a forwarded call that blocks, of a process that can take a signal

abbrev pub blocks : KernelState → ℕ → Request → Bool
blocks k pid asked = is_none (call_result k pid asked)

abbrev pub broken_at : MachineState → ℕ → UserState → Option Request → Option MachineState
broken_at m pid u None = None
broken_at m pid u (Some asked) =
    if blocks m.kernel pid asked && is_some (deliverable m.kernel pid)
    then Some (with_answer m pid u asked (broken m.kernel))
    else None

abbrev pub broken_of : MachineState → ℕ → Option UserState → Option MachineState
broken_of m pid None = None
broken_of m pid (Some u) = broken_at m pid u (asked_of u)

-- ---- Take: the lowest signal that can be taken; the process dies, or enters its handler where there is room for the frame

abbrev pub has_room_at : UserState → Bool
has_room_at u = has_frame_room u.pages (stack_pointer u)

abbrev pub user_taking : UserState → Taken → UserState
user_taking u (Dies signal) = u
user_taking u (Enters signal handler restorer mask) = entered u signal handler restorer mask

abbrev pub with_taken : MachineState → ℕ → UserState → AfterTake → MachineState
with_taken m pid u after = record { kernel = after.kernel; users = set_pid m.users pid (user_taking u after.taken); replies = m.replies }

abbrev pub taken_of : MachineState → ℕ → Option UserState → Option MachineState
taken_of m pid None = None
taken_of m pid (Some u) = option_map (with_taken m pid u) (take_result m.kernel pid (has_room_at u))

-- ---- Fall: the process is at a fault, and ends by its signal

abbrev pub signal_in : Went → Option ℕ
signal_in (Faults signal) = Some signal
signal_in (Done u) = None
signal_in AtCall = None

-- the signal of the fault that a process is at
abbrev pub fault_of : UserState → Option ℕ
fault_of u = signal_in (advance u)

abbrev pub with_fall : MachineState → ℕ → ℕ → MachineState
with_fall m pid signal = record m { kernel = with_end m.kernel pid (ends.Signal signal) }

abbrev pub fallen : MachineState → ℕ → Option UserState → Option MachineState
fallen m pid user = option_map (with_fall m pid) (option_and_then fault_of user)

-- ---- one step, none where its condition fails

abbrev pub machine_step : Setup → Step → MachineState → Option MachineState
machine_step setup (Launch i) m = launched (slice_get setup.users i) m
machine_step setup (Raise pid signal) m = raised m pid signal
machine_step setup (Feed i) m = typed (slice_get setup.feeds i) m
machine_step setup Eof m = Some (with_eof m)
machine_step setup (Steps pid k) m = steps_of m pid k (live_user m pid)
machine_step setup (Do pid) m = done_of m pid (live_user m pid)
machine_step setup (Break pid) m = broken_of m pid (live_user m pid)
machine_step setup (Take pid) m = taken_of m pid (live_user m pid)
machine_step setup (Fall pid) m = fallen m pid (live_user m pid)

abbrev pub and_then : Option MachineState → (MachineState → Option MachineState) → Option MachineState
and_then None go = None
and_then (Some m) go = go m

-- all steps in order, none where a condition fails
abbrev pub played : Setup → List Step → MachineState → Option MachineState
played setup [] m = Some m
played setup (step ∷ steps) m = and_then (machine_step setup step m) (played setup steps)

-- from the empty state
abbrev pub play : Setup → List Step → Option MachineState
play setup steps = played setup steps start

-- ---- what a step tells

abbrev pub value_in : Reply3 → ℤ
value_in reply = reply.value

-- the value of the reply that the machine gains
abbrev pub value_gained : MachineState → MachineState → Option ℤ
value_gained old new = option_map value_in (slice_get new.replies (length old.replies))

-- a test says whether there is an outcome, and then the state after it
abbrev pub Moves : {A : Type 0} → Bool → Option A → A → Type 0
Moves true m new = m ≡ Some new
Moves false m new = m ≡ None

-- ---- what is told at the end

abbrev pub waiting : Bool → Request → Option ℕ
waiting true asked = Some asked.number
waiting false asked = None

abbrev pub blocked_at : KernelState → ℕ → Option Request → Option ℕ
blocked_at k pid None = None
blocked_at k pid (Some asked) = waiting (blocks k pid asked && is_none (deliverable k pid)) asked

-- the number of the call at which a live process is blocked: it blocks, and no signal can be taken
abbrev pub blocked_call : MachineState → ℕ → Option ℕ
blocked_call m pid = blocked_at m.kernel pid (option_and_then asked_of (live_user m pid))

abbrev pub is_blocked : MachineState → ℕ → Bool
is_blocked m pid = is_some (blocked_call m pid)

-- of an end, and of the call at which the process is blocked
abbrev pub state_of : Option End → Option ℕ → PidState
state_of (Some (ends.Exit code)) call = states.Exit code
state_of (Some (ends.Signal signal)) call = states.Signal signal
state_of None (Some number) = states.Blocked number
state_of None None = states.Live

-- of so many processes from a pid on
abbrev pub statuses_from : MachineState → ℕ → ℕ → List (ℕ × PidState)
statuses_from m pid zero = []
statuses_from m pid (suc n) = (pid, state_of (ended_of m pid) (blocked_call m pid)) ∷ statuses_from m (pid + 1) n

abbrev pub statuses : MachineState → List (ℕ × PidState)
statuses m = statuses_from m 1 (given m.kernel)

-- every process has ended
abbrev pub HaveEnded : MachineState → Type 0
HaveEnded m = (pid : ℕ) → is_live m.kernel pid ≡ false

-- ---- how these are told apart

abbrev pub coded_replies : Coded (List Reply3)
coded_replies = coded_list reply_row.the_row.coded

abbrev pub Parts : Type 0
Parts = KernelState × (List UserState × List Reply3)

unfoldable pub coded_machine : Coded MachineState
coded_machine = code_by Parts (coded× coded_kernel (coded× (coded_list coded_user) coded_replies))
    (λ m. (m.kernel, (m.users, m.replies)))
    (λ p. record { kernel = p.0; users = p.1.0; replies = p.1.1 })
    (λ _. refl)
