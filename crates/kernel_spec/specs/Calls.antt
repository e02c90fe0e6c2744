-- A call of a process, where it is built.
use Rattle.std.specs.Prelude.{◌≡◌, ℕ, ◌+◌, ◌-◌, ◌/◌, ◌%◌, List, [], ◌++◌, Option, Some, None, ◌==◌, if◌then◌else◌, slice_index, min, take, drop, length, pos, Bool, nat_le}
use Rattle.std.specs.Int.{w32, cast_signed}
use Rattle.call_table.specs.declared.request.Request.{Request}
use Rattle.call_table.specs.declared.request.Answer.{Answer}
use Rattle.call_table.specs.declared.request.Kind.{Kind}
use Rattle.call_table.specs.declared.request.Kind.TheVariants.{Plain, Fork, Return}
use Rattle.call_table.specs.declared.call.TheConstants.{EXIT, GETPPID, FORK, WAIT, OPEN, CLOSE, READ, WRITE, LSEEK, PIPE, DUP, UNLINK, KILL, SIGACT, SIGRETURN, SIGMASK, YIELD}
use Rattle.call_table.specs.declared.limit.TheConstants.{FILE_BYTES, TRANSFER_BYTES, TERMINAL_BYTES}
use Rattle.call_table.specs.declared.signal.TheConstants.{SIGPIPE}
use Rattle.call_table.specs.declared.error.TheConstants.{EINTR, EBADF, ECHILD, EAGAIN, EFBIG, ENOSPC, EPIPE, ENOSYS}
use Rattle.id_table.specs.Places.{at_id, changed}
use Rattle.fs_memory.specs.Files.{FileTable, content_of, fitting, rewritten}
use Rattle.fd_table.specs.Descriptors.{look_at, sought, forked, end_count}
use Rattle.fd_table.specs.declared.description.Look.{Look}
use Rattle.fd_table.specs.declared.description.Target.{Target}
use Rattle.fd_table.specs.declared.description.Target.TheVariants.{TermIn, TermOut, File, ReadEnd, WriteEnd}
use Rattle.pipe_table.specs.Table.{bytes_at, room_at, changed_at, with_more}
use Rattle.proc_tree.specs.Tree.{next_pid_of, parent_of, has_child_of, lowest_zombie, reaped}
use Rattle.signal_set.specs.Signals.{SignalState, no_signals, child_signals}
use Rattle.kernel_spec.specs.Pids.{at_pid}
use Rattle.kernel_spec.specs.Io.{IoState, IoGiven, open_result, close_result, seek_result, dup_result, unlink_result, pipe_result}
use Rattle.kernel_spec.specs.Processes.{joined, masked, kill_result, sigact_result, sigmask_result, status_bytes}
use Rattle.kernel_spec.specs.Kernel.{KernelState, Input, Called, given, end_at, with_raised, answers, answers_io, answers_done, exited}

-- ---- read

-- an answer of bytes and their count
abbrev pub bytes_answer : List ℕ → Answer
bytes_answer bytes = record { value = pos (length bytes); bytes = bytes; kind = Plain }

-- at most 4,096 bytes of a file from an offset on
abbrev pub file_part : FileTable → ℕ → ℕ → ℕ → List ℕ
file_part files id offset len = take (min len TRANSFER_BYTES) (drop offset (content_of (at_id files id)))

-- a descriptor's description has an offset moved
abbrev pub with_offset_at : KernelState → ℕ → ℕ → ℕ → KernelState
with_offset_at k pid fd offset = record k { io = record k.io { fds = sought k.io.fds pid fd offset } }

-- the offset moves by what is read
abbrev pub read_file : KernelState → ℕ → ℕ → ℕ → List ℕ → Called
read_file k pid fd offset bytes = record { kernel = with_offset_at k pid fd (offset + length bytes); answer = bytes_answer bytes; raised = None }

-- so many bytes of what was typed
abbrev pub typed : Input → ℕ → List ℕ
typed input len = take (min len TRANSFER_BYTES) input.bytes

abbrev pub untyped : Input → ℕ → Input
untyped input len = record input { bytes = drop (length (typed input len)) input.bytes }

abbrev pub read_typed : KernelState → ℕ → Called
read_typed k len = record { kernel = record k { input = untyped k.input len }; answer = bytes_answer (typed k.input len); raised = None }

-- an empty input blocks until it ends
abbrev pub read_input : KernelState → ℕ → Option Called
read_input k len = if length k.input.bytes == 0 then (if k.input.ended then Some (answers k (pos 0)) else None) else Some (read_typed k len)

-- an empty pipe blocks while an end that writes is held
abbrev pub read_empty : KernelState → ℕ → Option Called
read_empty k pipe = if end_count (WriteEnd pipe) k.io.fds.descriptions == 0 then Some (answers k (pos 0)) else None

-- so many bytes of a pipe
abbrev pub piped : KernelState → ℕ → ℕ → List ℕ
piped k pipe len = take (min len TRANSFER_BYTES) (bytes_at k.io.pipes pipe)

abbrev pub with_less : KernelState → ℕ → ℕ → KernelState
with_less k pipe len = record k { io = record k.io { pipes = changed_at (drop (min len TRANSFER_BYTES)) k.io.pipes pipe } }

abbrev pub read_pipe : KernelState → ℕ → ℕ → Option Called
read_pipe k pipe len =
    if length (bytes_at k.io.pipes pipe) == 0 then read_empty k pipe
    else Some (record { kernel = with_less k pipe len; answer = bytes_answer (piped k pipe len); raised = None })

abbrev pub read_in : Target → ℕ → KernelState → ℕ → ℕ → ℕ → Option Called
read_in (File id) offset k pid fd len = Some (read_file k pid fd offset (file_part k.io.files id offset len))
read_in TermIn offset k pid fd len = read_input k len
read_in TermOut offset k pid fd len = Some (answers k EBADF)
read_in (ReadEnd pipe) offset k pid fd len = read_pipe k pipe len
read_in (WriteEnd pipe) offset k pid fd len = Some (answers k EBADF)

-- right 1 is to read
abbrev pub can_read : Look → Bool
can_read look = look.rights % 2 == 1

abbrev pub read_at : Option Look → KernelState → ℕ → ℕ → ℕ → Option Called
read_at None k pid fd len = Some (answers k EBADF)
read_at (Some look) k pid fd len =
    if can_read look then (if len == 0 then Some (answers k (pos 0)) else read_in look.target look.offset k pid fd len)
    else Some (answers k EBADF)

abbrev pub read_result : KernelState → ℕ → ℕ → ℕ → Option Called
read_result k pid fd len = read_at (look_at k.io.fds pid fd) k pid fd len

-- ---- write

-- the terminal holds at most 16,777,216 bytes
abbrev pub room_of : List ℕ → ℕ
room_of terminal = TERMINAL_BYTES - length terminal

abbrev pub shown : List ℕ → List ℕ → List ℕ
shown terminal bytes = take (room_of terminal) bytes

-- as many bytes as fit; ENOSPC where the terminal is full
abbrev pub write_terminal : KernelState → List ℕ → Called
write_terminal k bytes =
    if room_of k.terminal == 0 then answers k ENOSPC
    else answers (record k { terminal = k.terminal ++ shown k.terminal bytes }) (pos (length (shown k.terminal bytes)))

-- the offset moves by what is written
abbrev pub with_write : IoState → ℕ → ℕ → ℕ → ℕ → List ℕ → IoState
with_write io pid fd id offset bytes = record io {
  files = changed io.files id (rewritten offset bytes);
  fds = sought io.fds pid fd (offset + length (fitting offset bytes));
}

-- as many bytes as fit below 1,048,576; EFBIG where the offset is there
abbrev pub write_file : KernelState → ℕ → ℕ → ℕ → ℕ → List ℕ → Called
write_file k pid fd id offset bytes =
    if nat_le FILE_BYTES offset then answers k EFBIG
    else answers (record k { io = with_write k.io pid fd id offset bytes }) (pos (length (fitting offset bytes)))

-- the caller has signal 13 where no end reads
abbrev pub broken_pipe : KernelState → ℕ → Called
broken_pipe k pid = answers (with_raised k pid SIGPIPE) EPIPE

abbrev pub piped_in : KernelState → ℕ → List ℕ → List ℕ
piped_in k pipe bytes = take (room_at k.io.pipes pipe) bytes

abbrev pub with_piped : KernelState → ℕ → List ℕ → KernelState
with_piped k pipe bytes = record k { io = record k.io { pipes = changed_at (with_more (piped_in k pipe bytes)) k.io.pipes pipe } }

-- a full pipe blocks; else it takes as many bytes as fit
abbrev pub write_pipe : KernelState → ℕ → ℕ → List ℕ → Option Called
write_pipe k pid pipe bytes =
    if end_count (ReadEnd pipe) k.io.fds.descriptions == 0 then Some (broken_pipe k pid) else
    (if room_at k.io.pipes pipe == 0 then None else Some (answers (with_piped k pipe bytes) (pos (length (piped_in k pipe bytes)))))

abbrev pub write_in : Target → ℕ → KernelState → ℕ → ℕ → List ℕ → Option Called
write_in (File id) offset k pid fd bytes = Some (write_file k pid fd id offset bytes)
write_in TermOut offset k pid fd bytes = Some (write_terminal k bytes)
write_in TermIn offset k pid fd bytes = Some (answers k EBADF)
write_in (ReadEnd pipe) offset k pid fd bytes = Some (answers k EBADF)
write_in (WriteEnd pipe) offset k pid fd bytes = write_pipe k pid pipe bytes

-- right 2 is to write
abbrev pub can_write : Look → Bool
can_write look = look.rights / 2 % 2 == 1

abbrev pub write_at : Option Look → KernelState → ℕ → ℕ → List ℕ → Option Called
write_at None k pid fd bytes = Some (answers k EBADF)
write_at (Some look) k pid fd bytes =
    if can_write look then (if length bytes == 0 then Some (answers k (pos 0)) else write_in look.target look.offset k pid fd bytes)
    else Some (answers k EBADF)

abbrev pub write_result : KernelState → ℕ → ℕ → List ℕ → Option Called
write_result k pid fd bytes = write_at (look_at k.io.fds pid fd) k pid fd bytes

-- ---- fork, wait and pipe

abbrev pub fork_io : IoState → ℕ → ℕ → IoState
fork_io io parent child = record io { fds = forked io.fds parent child }

-- what a child has of its parent's signals
abbrev pub inherited : Option SignalState → SignalState
inherited None = no_signals
inherited (Some state) = child_signals state

-- a child has its parent's descriptions, mask and actions, and nothing pending
abbrev pub with_fork : KernelState → ℕ → ℕ → KernelState
with_fork k pid child = record k {
  io = fork_io k.io pid child;
  processes = joined k.processes pid (inherited (at_pid k.processes.signals pid));
}

abbrev pub fork_answer : ℕ → Answer
fork_answer child = record { value = pos child; bytes = []; kind = Fork }

abbrev pub fork_to : Option ℕ → KernelState → ℕ → Called
fork_to None k pid = answers k EAGAIN
fork_to (Some child) k pid = record { kernel = with_fork k pid child; answer = fork_answer child; raised = None }

abbrev pub fork_result : KernelState → ℕ → Called
fork_result k pid = fork_to (next_pid_of k.processes.tree pid) k pid

abbrev pub without_zombie : KernelState → ℕ → KernelState
without_zombie k child = record k { processes = record k.processes { tree = reaped k.processes.tree child } }

abbrev pub wait_answer : KernelState → ℕ → ℕ → Answer
wait_answer k child status = record { value = cast_signed w32 child; bytes = status_bytes status (end_at k child); kind = Plain }

-- the lowest zombie is told and goes; without one a process with children waits
abbrev pub wait_for : Option ℕ → KernelState → ℕ → ℕ → Option Called
wait_for (Some child) k pid status = Some (record { kernel = without_zombie k child; answer = wait_answer k child status; raised = None })
wait_for None k pid status = if has_child_of k.processes.tree pid then None else Some (answers k ECHILD)

abbrev pub wait_result : KernelState → ℕ → ℕ → Option Called
wait_result k pid status = wait_for (lowest_zombie k.processes.tree pid) k pid status

abbrev pub given_answer : IoGiven → Answer
given_answer g = record { value = g.value; bytes = g.bytes; kind = Plain }

-- a call on files, descriptors and pipes that gives bytes
abbrev pub answers_given : KernelState → IoGiven → Called
answers_given k g = record { kernel = record k { io = g.io }; answer = given_answer g; raised = None }

-- ---- the return from a handler

-- the mask becomes that of the frame
abbrev pub sigreturn_result : KernelState → ℕ → ℕ → Called
sigreturn_result k pid mask = record {
  kernel = record k { processes = masked k.processes pid mask };
  answer = record { value = pos 0; bytes = []; kind = Return };
  raised = None;
}

-- ---- a call by its number

-- what a call leaves, none exactly where it blocks
unfoldable pub call_row : ℕ → KernelState → ℕ → List ℕ → List ℕ → Option Called
call_row number k pid args bytes =
    if number == EXIT then Some (exited k pid (slice_index args 0)) else
    (if number == GETPPID then Some (answers k (cast_signed w32 (parent_of k.processes.tree pid))) else
    (if number == FORK then Some (fork_result k pid) else
    (if number == WAIT then wait_result k pid (slice_index args 0) else
    (if number == OPEN then Some (answers_io k (open_result k.io pid (slice_index args 1) bytes (slice_index args 2))) else
    (if number == CLOSE then Some (answers_io k (close_result k.io pid (slice_index args 0))) else
    (if number == READ then read_result k pid (slice_index args 0) (slice_index args 2) else
    (if number == WRITE then write_result k pid (slice_index args 0) bytes else
    (if number == LSEEK then Some (answers_io k (seek_result k.io pid (slice_index args 0) (slice_index args 1) (slice_index args 2))) else
    (if number == PIPE then Some (answers_given k (pipe_result k.io pid)) else
    (if number == DUP then Some (answers_io k (dup_result k.io pid (slice_index args 0))) else
    (if number == UNLINK then Some (answers_io k (unlink_result k.io (slice_index args 1) bytes)) else
    (if number == KILL then Some (answers_done k (kill_result k.processes pid (slice_index args 0) (slice_index args 1))) else
    (if number == SIGACT then Some (answers_done k (sigact_result k.processes pid (slice_index args 0) (slice_index args 1) (slice_index args 2))) else
    (if number == SIGRETURN then Some (sigreturn_result k pid (slice_index args 0)) else
    (if number == SIGMASK then Some (answers_done k (sigmask_result k.processes pid (slice_index args 0))) else
    (if number == YIELD then Some (answers k (pos 0)) else
    Some (answers k ENOSYS)))))))))))))))))

abbrev pub call_result : KernelState → ℕ → Request → Option Called
call_result k pid asked = call_row asked.number k pid asked.args asked.bytes

-- ---- how many pids a call gives

abbrev pub children_of : Kind → ℕ
children_of Plain = 0
children_of Fork = 1
children_of Return = 0

-- a fork gives one pid, and no other call gives or takes one
abbrev pub GivesPids : Option Called → ℕ → Type 0
GivesPids None before = Unit {0}
GivesPids (Some called) before = given called.kernel ≡ before + children_of called.answer.kind

-- what a call that is broken off answers; the kernel stays as it is
abbrev pub broken : KernelState → Called
broken k = answers k EINTR
