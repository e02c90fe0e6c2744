-- What the calls on the system leave: what is answered, beside the state after it.
use Rattle.std.specs.Prelude.{◌≡◌, ℕ, ◌==◌, if◌then◌else◌, List, [], ◌∷◌, Option, Some, None, slice_set, unwrap_or, is_some, true}
use Rattle.std.specs.Option.{option_map}
use Rattle.call_table.specs.declared.call.TheConstants.{FORK}
use Rattle.call_table.specs.declared.request.Kind.{Kind}
use Rattle.call_table.specs.declared.request.Kind.TheVariants.{Plain, Fork, Return}
use Rattle.call_table.specs.declared.request.Taken.{Taken}
use Rattle.call_table.specs.declared.request.Taken.TheVariants.{Dies, Enters}
use Rattle.user_spec.specs.User.{UserState}
use Rattle.user_spec.specs.Request.{forked}
use Rattle.user_spec.specs.Advance.{Walk, quantum_of, request_of, asked_number}
use Rattle.one_node.specs.Machine.{MachineState, live_user, with_user}
use Rattle.one_node.specs.declared.going.Ran.{Ran}
use Rattle.one_node.specs.declared.going.Ran.TheVariants.{Steps, Asks}

-- ---- a turn of a process: some steps, or what it asks

-- the number of what a process asks, 0 at a fault
abbrev pub asks_of : UserState → ℕ
asks_of u = unwrap_or (asked_number (request_of u)) 0

-- what a process does, and the process after it
pub record Gone : Type 0 where
  pub ran : Ran
  pub user : UserState

abbrev pub gone_by : UserState → Walk → Gone
gone_by u w = if w.went == 0 then record { ran = Asks (asks_of u); user = u } else record { ran = Steps w.went; user = w.user }

-- at most a quantum of steps
abbrev pub gone : ℕ → UserState → Gone
gone quantum u = gone_by u (quantum_of quantum u)

-- the same of the process at an index
pub record GoneAt : Type 0 where
  pub ran : Ran
  pub users : List UserState

abbrev pub gone_at : List UserState → ℕ → Option Gone → Option GoneAt
gone_at users i None = None
gone_at users i (Some g) = Some (record { ran = g.ran; users = slice_set users i g.user })

-- and of a live process of the machine; nothing where it is not live
pub record GoneIn : Type 0 where
  pub ran : Option Ran
  pub machine : MachineState

abbrev pub gone_on : MachineState → ℕ → Option Gone → GoneIn
gone_on m pid None = record { ran = None; machine = m }
gone_on m pid (Some g) = record { ran = Some g.ran; machine = with_user m pid g.user }

abbrev pub gone_in : ℕ → MachineState → ℕ → GoneIn
gone_in quantum m pid = gone_on m pid (option_map (gone quantum) (live_user m pid))

-- ---- the child of a fork

-- a copy of the process that is at a fork, before it has its pid
abbrev pub copied_for : ℕ → UserState → Option UserState
copied_for number u = if number == FORK then Some (forked u 0) else None

-- where a fork makes a child there is a copy of it
abbrev pub HasChild : Kind → Option UserState → Type 0
HasChild Plain child = Unit {0}
HasChild Fork child = is_some child ≡ true
HasChild Return child = Unit {0}

abbrev pub with_pid : ℕ → UserState → UserState
with_pid pid u = record u { pid = pid }

abbrev pub listed : Option UserState → List UserState
listed None = []
listed (Some u) = u ∷ []

abbrev pub child_in : Kind → Option UserState → ℕ → List UserState
child_in Plain child pid = []
child_in Fork child pid = listed (option_map (with_pid pid) child)
child_in Return child pid = []

-- ---- a signal that was taken

-- the process enters a handler
abbrev pub IsEntry : Taken → Type 0
IsEntry (Dies signal) = ⊥
IsEntry (Enters signal handler restorer mask) = Unit {0}
