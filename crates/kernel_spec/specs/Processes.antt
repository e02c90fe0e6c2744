-- Processes: their tree, and the signals of each.
use Rattle.std.specs.Prelude.{ℕ, ◌+◌, ◌*◌, Bool, true, false, not, ◌&&◌, ◌||◌, ◌==◌, if◌then◌else◌, List, [], ◌∷◌, ◌++◌, length, Option, Some, None, ℤ, pos}
use Rattle.std.specs.Option.{option_map, option_and_then}
use Rattle.std.specs.Int.{to_le_bytes, w32}
use Rattle.call_table.specs.Calls.{is_signal_number}
use Rattle.call_table.specs.declared.error.TheConstants.{ESRCH, EINVAL}
use Rattle.call_table.specs.declared.signal.TheConstants.{SIGKILL, SIGSEGV, SIGCHLD}
use Rattle.call_table.specs.declared.process.End.{End}
use Rattle.call_table.specs.declared.process.End.TheVariants.{Exit, Signal}
use Rattle.call_table.specs.declared.request.Taken.TheVariants.{Dies}
use Rattle.proc_tree.specs.declared.process.Process.{Process}
use Rattle.proc_tree.specs.Tree.{live_at, zombie_at, parent_of, with_child, with_end}
use Rattle.signal_set.specs.declared.act.Act.{Act}
use Rattle.signal_set.specs.declared.act.Act.TheVariants.{Default, Ignore, Handler}
use Rattle.signal_set.specs.Acts.{ignores}
use Rattle.signal_set.specs.Signals.{SignalState, Took, act_of, lowest_deliverable, raised, with_act, kept_bits, without_signal, took}
use Rattle.kernel_spec.specs.Pids.{at_pid, set_pid, changed_pid}

pub record ProcessTable : Type 0 where
  -- of each process from 1 on its parent, and whether it is live, a zombie or gone
  pub tree : List Process
  -- and its signals
  pub signals : List SignalState

abbrev pub nobody : ProcessTable
nobody = record { tree = []; signals = [] }

-- a new process, with a parent or with none
abbrev pub joined : ProcessTable → ℕ → SignalState → ProcessTable
joined p parent state = record { tree = with_child p.tree parent (Some (length p.tree + 1)); signals = p.signals ++ state ∷ [] }

-- the signals of a live process
abbrev pub live_signals : ProcessTable → ℕ → Option SignalState
live_signals p pid = if live_at p.tree pid then at_pid p.signals pid else None

-- ---- raising

abbrev pub heeds : Option SignalState → ℕ → Bool
heeds None signal = false
heeds (Some state) signal = not (ignores (act_of state signal) signal)

-- a process, where it is live and does not ignore the signal
abbrev pub heeding : ProcessTable → ℕ → ℕ → Option ℕ
heeding p pid signal = if heeds (live_signals p pid) signal then Some pid else None

abbrev pub with_signal : ℕ → SignalState → SignalState
with_signal signal state = raised state signal

-- a signal is raised at a process, where it is live
abbrev pub raised_at : ProcessTable → ℕ → ℕ → ProcessTable
raised_at p pid signal = if live_at p.tree pid then record p { signals = changed_pid (with_signal signal) p.signals pid } else p

-- the lowest signal that a live process can take
abbrev pub lowest_at : ProcessTable → ℕ → Option ℕ
lowest_at p pid = option_and_then lowest_deliverable (live_signals p pid)

-- ---- the end

-- the parent at which an end raises 17, where it is live and does not ignore that
abbrev pub parent_raised : ProcessTable → ℕ → Option ℕ
parent_raised p pid = heeding p (parent_of p.tree pid) SIGCHLD

-- a process ends so
abbrev pub ended_in : ProcessTable → ℕ → End → ProcessTable
ended_in p pid e = record (raised_at p (parent_of p.tree pid) SIGCHLD) { tree = with_end p.tree pid e }

-- ---- taking

abbrev pub is_handled : Act → Bool
is_handled Default = false
is_handled Ignore = false
is_handled (Handler entry restorer) = true

-- a signal as it is taken: a handler without room is death by 11
abbrev pub taken_of : Bool → SignalState → ℕ → Took
taken_of room state signal =
    if not room && is_handled (act_of state signal) then record { taken = Dies SIGSEGV; left = without_signal signal state } else took state signal

abbrev pub take_of : Bool → SignalState → Option Took
take_of room state = option_map (taken_of room state) (lowest_deliverable state)

-- none exactly where the process is not live or can take none
abbrev pub take_at : ProcessTable → ℕ → Bool → Option Took
take_at p pid room = option_and_then (take_of room) (live_signals p pid)

abbrev pub with_left : ProcessTable → ℕ → SignalState → ProcessTable
with_left p pid left = record p { signals = set_pid p.signals pid left }

-- ---- the calls on processes alone

-- what a call leaves, its value, and another process at which it raised a signal
pub record ProcessDone : Type 0 where
  pub table : ProcessTable
  pub value : ℤ
  pub raised : Option ℕ

abbrev pub has_done : ProcessTable → ℤ → ProcessDone
has_done p value = record { table = p; value = value; raised = None }

-- another process than the caller
abbrev pub heeding_other : ProcessTable → ℕ → ℕ → ℕ → Option ℕ
heeding_other p pid target signal = if target == pid then None else heeding p target signal

abbrev pub kill_by : ProcessTable → ℕ → ℕ → ℕ → ProcessDone
kill_by p pid target signal = record { table = raised_at p target signal; value = pos 0; raised = heeding_other p pid target signal }

-- the signal 0 changes nothing
abbrev pub kill_at : ProcessTable → ℕ → ℕ → ℕ → ProcessDone
kill_at p pid target signal = if signal == 0 then has_done p (pos 0) else kill_by p pid target signal

abbrev pub kill_result : ProcessTable → ℕ → ℕ → ℕ → ProcessDone
kill_result p pid target signal =
    if not (signal == 0) && not (is_signal_number signal) then has_done p EINVAL else
    (if live_at p.tree target || zombie_at p.tree target then kill_at p pid target signal else has_done p ESRCH)

-- 0 is the default, 1 ignores
abbrev pub act_from : ℕ → ℕ → Act
act_from handler restorer = if handler == 0 then Default else (if handler == 1 then Ignore else Handler handler restorer)

abbrev pub with_act_for : ℕ → Act → SignalState → SignalState
with_act_for signal act state = with_act state signal act

abbrev pub sigact_result : ProcessTable → ℕ → ℕ → ℕ → ℕ → ProcessDone
sigact_result p pid signal handler restorer =
    if is_signal_number signal && not (signal == SIGKILL)
    then has_done (record p { signals = changed_pid (with_act_for signal (act_from handler restorer)) p.signals pid }) (pos 0)
    else has_done p EINVAL

abbrev pub with_mask : ℕ → SignalState → SignalState
with_mask mask state = record state { mask = kept_bits mask }

abbrev pub masked : ProcessTable → ℕ → ℕ → ProcessTable
masked p pid mask = record p { signals = changed_pid (with_mask mask) p.signals pid }

abbrev pub mask_in : Option SignalState → ℕ
mask_in None = 0
mask_in (Some state) = state.mask

abbrev pub sigmask_result : ProcessTable → ℕ → ℕ → ProcessDone
sigmask_result p pid mask = has_done (masked p pid mask) (pos (mask_in (at_pid p.signals pid)))

-- ---- how an end is told to the parent that waits

abbrev pub status_number : Option End → ℕ
status_number None = 0
status_number (Some (Exit code)) = 256 * code
status_number (Some (Signal signal)) = signal

-- nothing is written at address 0
abbrev pub status_bytes : ℕ → Option End → List ℕ
status_bytes status e = if status == 0 then [] else to_le_bytes w32 (status_number e)
