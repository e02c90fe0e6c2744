-- The processes of a system: a list of all that were ever given, of which the first has pid 1.
use Rattle.std.specs.Prelude.{ℕ, zero, suc, ◌+◌, ◌≤◌, Bool, false, ◌&&◌, nat_lt, nat_le, cond, List, [], ◌∷◌, ◌++◌, map, length, slice_get, slice_set, Option, Some, None}
use Rattle.std.specs.List.{count_by, list_any, position_from}
use Rattle.std.specs.Option.{option_map, option_map_or, option_and_then}
use Rattle.call_table.specs.declared.limit.TheConstants.{PROCESSES, LAST_LAUNCHED, LAST_FORKED}
use Rattle.call_table.specs.declared.process.End.{End}
use Rattle.proc_tree.specs.declared.process.State.TheVariants.{Live}
use Rattle.proc_tree.specs.declared.process.Process.{Process}
use Rattle.proc_tree.specs.Processes.{is_live, is_zombie, is_present, is_child_of, is_zombie_of, end_of, parted_from, in_state, end_state, reaped_process}

-- the process of a pid: there is none of pid 0
abbrev pub at_pid : List Process → ℕ → Option Process
at_pid tree zero = None
at_pid tree (suc i) = slice_get tree i

abbrev pub parent_field : Process → ℕ
parent_field process = process.parent

-- the parent, 0 where there is none or the pid was never given
abbrev pub parent_of : List Process → ℕ → ℕ
parent_of tree pid = option_map_or parent_field (at_pid tree pid) 0

-- whether there is a process of this pid that passes a test
abbrev pub passes_at : (Process → Bool) → List Process → ℕ → Bool
passes_at test tree pid = option_map_or test (at_pid tree pid) false

abbrev pub live_at : List Process → ℕ → Bool
live_at tree pid = passes_at is_live tree pid

abbrev pub zombie_at : List Process → ℕ → Bool
zombie_at tree pid = passes_at is_zombie tree pid

abbrev pub ended_at : List Process → ℕ → Option End
ended_at tree pid = option_and_then end_of (at_pid tree pid)

-- how many are live or zombies
abbrev pub present_count : List Process → ℕ
present_count tree = count_by is_present tree

-- the last pid that a launch, which has no parent, or a fork can give
abbrev pub last_pid : ℕ → ℕ
last_pid zero = LAST_LAUNCHED
last_pid (suc parent) = LAST_FORKED

abbrev pub next_after : ℕ → ℕ → ℕ → Option ℕ
next_after present next last = cond (nat_lt present PROCESSES && nat_le next last) (Some next) None

-- the pid of the next child: None at 64 live or zombies, or past the last pid
abbrev pub next_pid_of : List Process → ℕ → Option ℕ
next_pid_of tree parent = next_after (present_count tree) (length tree + 1) (last_pid parent)

abbrev pub with_child : List Process → ℕ → Option ℕ → List Process
with_child tree parent None = tree
with_child tree parent (Some pid) = tree ++ record { parent = parent; state = Live } ∷ []

abbrev pub has_child_of : List Process → ℕ → Bool
has_child_of tree pid = list_any (is_child_of pid) tree

-- the lowest zombie child
abbrev pub lowest_zombie : List Process → ℕ → Option ℕ
lowest_zombie tree pid = position_from (is_zombie_of pid) 1 tree

-- the processes with another in the place of the one of a pid
abbrev pub replaced : List Process → ℕ → Option Process → List Process
replaced tree pid None = tree
replaced tree zero (Some process) = tree
replaced tree (suc i) (Some process) = slice_set tree i process

abbrev pub changed_pid : (Process → Process) → List Process → ℕ → List Process
changed_pid change tree pid = replaced tree pid (option_map change (at_pid tree pid))

-- the end of a process: it parts from its children, and is a zombie where its parent lives
abbrev pub with_end : List Process → ℕ → End → List Process
with_end tree pid status =
    changed_pid (in_state (end_state (live_at tree (parent_of tree pid)) status)) (map (parted_from pid) tree) pid

abbrev pub reaped : List Process → ℕ → List Process
reaped tree child = changed_pid reaped_process tree child

-- the limits of a system's processes
pub record IsWithinLimits (tree : List Process) : Type 0 where
  pub present : present_count tree ≤ PROCESSES
  pub pids : length tree ≤ LAST_LAUNCHED

-- the pids of those that are live or zombies, where the first of the list has this pid
abbrev pub present_from : ℕ → List Process → List ℕ
present_from pid [] = []
present_from pid (process ∷ tree) =
    cond (is_present process) (pid ∷ present_from (pid + 1) tree) (present_from (pid + 1) tree)
