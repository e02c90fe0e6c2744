-- What the kernel's answers tell.
use Rattle.std.specs.Prelude.{◌≡◌, ℕ, ◌+◌, List, Option, Some, None, Bool, true, false, ◌&&◌, is_some}
use Rattle.call_table.specs.declared.request.Taken.{Taken}
use Rattle.proc_tree.specs.Tree.{next_pid_of}
use Rattle.signal_set.specs.Signals.{SignalState}
use Rattle.kernel_spec.specs.Io.{IoState}
use Rattle.kernel_spec.specs.Processes.{ProcessTable, joined, heeding}
use Rattle.kernel_spec.specs.Kernel.{KernelState, Input, Called, AfterTake, given, is_live, has_room, with_process, with_raised, deliverable}
use Rattle.kernel_spec.specs.Calls.{children_of}
use Rattle.home_kernel.specs.declared.answers.Served.{Served}
use Rattle.home_kernel.specs.declared.answers.Served.TheVariants.{Blocks, Done}
use Rattle.home_kernel.specs.declared.kernel.Took.{Took}

abbrev pub kernel_of : IoState → List ℕ → Input → ProcessTable → KernelState
kernel_of io terminal input processes = record { io = io; terminal = terminal; input = input; processes = processes }

-- a process that was given and has not ended
abbrev pub IsLive : KernelState → ℕ → Type 0
IsLive k pid = is_live k pid ≡ true

-- a call blocks and changes nothing, or this is what it leaves
abbrev pub Serves : Served → Option Called → KernelState → KernelState → Type 0
Serves Blocks called old new = (called ≡ None) × (new ≡ old)
Serves (Done answer raised) called old new = called ≡ Some (record { kernel = new; answer = answer; raised = raised })

-- how many pids were given after a call
abbrev pub GivesAfter : Served → ℕ → ℕ → Type 0
GivesAfter Blocks before after = after ≡ before
GivesAfter (Done answer raised) before after = after ≡ before + children_of answer.kind

-- a new process, none where there is no room
abbrev pub Joins : Option ℕ → ProcessTable → ℕ → SignalState → ProcessTable → Type 0
Joins None old parent state new = (next_pid_of old.tree parent ≡ None) × (new ≡ old)
Joins (Some pid) old parent state new = (next_pid_of old.tree parent ≡ Some pid) × (new ≡ joined old parent state)

-- the pid of one more process, none where there is no room
abbrev pub Launches : Option ℕ → KernelState → KernelState → Type 0
Launches None old new = (has_room old ≡ false) × (new ≡ old)
Launches (Some pid) old new = (has_room old ≡ true) × (new ≡ with_process old) × (pid ≡ given new)

-- how a signal was taken, and the parent at which a death raised 17; none was taken and nothing changes
abbrev pub TakesBy : Option Taken → Option ℕ → Option AfterTake → KernelState → KernelState → Type 0
TakesBy None raised after old new = (after ≡ None) × (raised ≡ None) × (new ≡ old)
TakesBy (Some taken) raised after old new = after ≡ Some (record { kernel = new; taken = taken; raised = raised })

abbrev pub Takes : Took → Option AfterTake → KernelState → KernelState → Type 0
Takes took after old new = TakesBy took.taken took.raised after old new

-- whether a raised signal counts at a process that has one to take afterwards
abbrev pub is_poked : KernelState → ℕ → ℕ → Bool
is_poked k pid signal = is_some (heeding k.processes pid signal) && is_some (deliverable (with_raised k pid signal) pid)
