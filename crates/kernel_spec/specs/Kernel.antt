-- The kernel: files, descriptors and pipes, the terminal, and the processes.
use Rattle.std.specs.Prelude.{ℕ, ◌+◌, ◌%◌, List, [], ◌++◌, Option, None, if◌then◌else◌, length, is_some, ℤ, pos, Bool, false, refl}
use Rattle.std.specs.Option.{option_map}
use Rattle.std.specs.Coded.{Coded, code_by, coded×, coded_ℕ, coded_list, coded_option, coded_bool}
use Rattle.call_table.specs.declared.request.Answer.{Answer}
use Rattle.call_table.specs.declared.request.Kind.TheVariants.{Plain}
use Rattle.call_table.specs.declared.request.Taken.{Taken}
use Rattle.call_table.specs.declared.request.Taken.TheVariants.{Dies, Enters}
use Rattle.call_table.specs.declared.process.End.{End}
use Rattle.call_table.specs.declared.process.End.TheVariants.{Exit, Signal}
use Rattle.fs_memory.specs.contracts.file.File as file_row
use Rattle.fs_memory.specs.Files.{FileTable}
use Rattle.fd_table.specs.contracts.description.Look as look_row
use Rattle.fd_table.specs.Descriptors.{FdTable, Descriptions, Processes, launched}
use Rattle.proc_tree.specs.contracts.process.Process as process_row
use Rattle.proc_tree.specs.declared.process.Process.{Process}
use Rattle.proc_tree.specs.Tree.{live_at, ended_at, next_pid_of}
use Rattle.signal_set.specs.contracts.act.Act as act_row
use Rattle.signal_set.specs.declared.act.Act.{Act}
use Rattle.signal_set.specs.Signals.{SignalState, Took, no_signals}
use Rattle.kernel_spec.specs.Io.{IoState, IoDone, PipeTable, no_files, all_closed}
use Rattle.kernel_spec.specs.Processes.{ProcessTable, ProcessDone, nobody, joined, raised_at, lowest_at, parent_raised, ended_in, take_at, with_left}

-- what was typed and not read yet, and whether no more comes
pub record Input : Type 0 where
  pub bytes : List ℕ
  pub ended : Bool

pub record KernelState : Type 0 where
  pub io : IoState
  -- what was written to the terminal
  pub terminal : List ℕ
  pub input : Input
  pub processes : ProcessTable

abbrev pub no_input : Input
no_input = record { bytes = []; ended = false }

abbrev pub no_process : KernelState
no_process = record { io = no_files; terminal = []; input = no_input; processes = nobody }

-- how many pids were given
abbrev pub given : KernelState → ℕ
given k = length k.processes.tree

-- how a process ended, none where it is live or was never given
abbrev pub end_at : KernelState → ℕ → Option End
end_at k pid = ended_at k.processes.tree pid

abbrev pub is_live : KernelState → ℕ → Bool
is_live k pid = live_at k.processes.tree pid

-- whether one more process can be launched
abbrev pub has_room : KernelState → Bool
has_room k = is_some (next_pid_of k.processes.tree 0)

-- one more process, with the terminal's descriptors and without signals
abbrev pub with_process : KernelState → KernelState
with_process k = record k {
  io = record k.io { fds = launched k.io.fds (given k + 1) };
  processes = joined k.processes 0 no_signals;
}

-- bytes are typed; after the end they change nothing
abbrev pub fed : List ℕ → Input → Input
fed bytes input = record input { bytes = if input.ended then input.bytes else input.bytes ++ bytes }

-- ---- what a call leaves

-- the kernel after a call, its answer, and another process at which it raised a signal that counts there
pub record Called : Type 0 where
  pub kernel : KernelState
  pub answer : Answer
  pub raised : Option ℕ

-- an answer of a value alone
abbrev pub value_answer : ℤ → Answer
value_answer value = record { value = value; bytes = []; kind = Plain }

abbrev pub answers : KernelState → ℤ → Called
answers k value = record { kernel = k; answer = value_answer value; raised = None }

-- a call on files and descriptors alone
abbrev pub answers_io : KernelState → IoDone → Called
answers_io k done = answers (record k { io = done.io }) done.value

-- a call on processes alone
abbrev pub answers_done : KernelState → ProcessDone → Called
answers_done k done = record { kernel = record k { processes = done.table }; answer = value_answer done.value; raised = done.raised }

-- ---- signals and the end of a process

-- a signal is raised at a process, where it is live
abbrev pub with_raised : KernelState → ℕ → ℕ → KernelState
with_raised k pid signal = record k { processes = raised_at k.processes pid signal }

-- the lowest signal that a live process can take
abbrev pub deliverable : KernelState → ℕ → Option ℕ
deliverable k pid = lowest_at k.processes pid

-- a live process ends so: its descriptors are closed, and 17 is raised at a live parent
abbrev pub with_end : KernelState → ℕ → End → KernelState
with_end k pid e = if is_live k pid then record k { io = all_closed k.io pid; processes = ended_in k.processes pid e } else k

-- the parent at which an end raises 17, where that counts there
abbrev pub raised_by_end : KernelState → ℕ → Option ℕ
raised_by_end k pid = if is_live k pid then parent_raised k.processes pid else None

abbrev pub exited : KernelState → ℕ → ℕ → Called
exited k pid code = record { kernel = with_end k pid (Exit (code % 256)); answer = value_answer (pos 0); raised = raised_by_end k pid }

-- the kernel after a signal was taken, how it was taken, and the parent at which a death raised 17
pub record AfterTake : Type 0 where
  pub kernel : KernelState
  pub taken : Taken
  pub raised : Option ℕ

abbrev pub after_taken : KernelState → ℕ → Taken → AfterTake
after_taken k pid (Dies signal) = record { kernel = with_end k pid (Signal signal); taken = Dies signal; raised = raised_by_end k pid }
after_taken k pid (Enters signal handler restorer mask) = record { kernel = k; taken = Enters signal handler restorer mask; raised = None }

abbrev pub after_took : KernelState → ℕ → Took → AfterTake
after_took k pid took = after_taken (record k { processes = with_left k.processes pid took.left }) pid took.taken

-- a process takes its lowest signal; none exactly where there is none. Without room a handler is death by 11
abbrev pub take_result : KernelState → ℕ → Bool → Option AfterTake
take_result k pid room = option_map (after_took k pid) (take_at k.processes pid room)

-- ---- how these are told apart

unfoldable pub coded_files : Coded FileTable
coded_files = coded_list (coded_option file_row.the_row.coded)

unfoldable pub coded_descriptions : Coded Descriptions
coded_descriptions = coded_list (coded_option look_row.the_row.coded)

unfoldable pub coded_processes : Coded Processes
coded_processes = coded_list (coded_option (coded_list (coded_option coded_ℕ)))

unfoldable pub coded_fds : Coded FdTable
coded_fds = code_by (Descriptions × Processes) (coded× coded_descriptions coded_processes)
    (λ t. (t.descriptions, t.processes)) (λ p. record { descriptions = p.0; processes = p.1 }) (λ _. refl)

unfoldable pub coded_pipes : Coded PipeTable
coded_pipes = coded_list (coded_option (coded_list coded_ℕ))

unfoldable pub coded_io : Coded IoState
coded_io = code_by (FileTable × (FdTable × PipeTable)) (coded× coded_files (coded× coded_fds coded_pipes))
    (λ io. (io.files, (io.fds, io.pipes))) (λ p. record { files = p.0; fds = p.1.0; pipes = p.1.1 }) (λ _. refl)

unfoldable pub coded_input : Coded Input
coded_input = code_by (List ℕ × Bool) (coded× (coded_list coded_ℕ) coded_bool)
    (λ i. (i.bytes, i.ended)) (λ p. record { bytes = p.0; ended = p.1 }) (λ _. refl)

unfoldable pub coded_tree : Coded (List Process)
coded_tree = coded_list process_row.the_row.coded

unfoldable pub coded_signals : Coded SignalState
coded_signals = code_by (List Bool × (ℕ × List Act)) (coded× (coded_list coded_bool) (coded× coded_ℕ (coded_list act_row.the_row.coded)))
    (λ s. (s.pending, (s.mask, s.acts))) (λ p. record { pending = p.0; mask = p.1.0; acts = p.1.1 }) (λ _. refl)

unfoldable pub coded_table : Coded ProcessTable
coded_table = code_by (List Process × List SignalState) (coded× coded_tree (coded_list coded_signals))
    (λ t. (t.tree, t.signals)) (λ p. record { tree = p.0; signals = p.1 }) (λ _. refl)

abbrev pub KernelParts : Type 0
KernelParts = (IoState × List ℕ) × (Input × ProcessTable)

unfoldable pub coded_kernel : Coded KernelState
coded_kernel = code_by KernelParts (coded× (coded× coded_io (coded_list coded_ℕ)) (coded× coded_input coded_table))
    (λ k. ((k.io, k.terminal), (k.input, k.processes)))
    (λ p. record { io = p.0.0; terminal = p.0.1; input = p.1.0; processes = p.1.1 }) (λ _. refl)
