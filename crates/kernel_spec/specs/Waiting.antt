-- What a call that blocks waits for, and when that has come.
use Rattle.std.specs.Prelude.{ℕ, ◌==◌, ◌||◌, ◌&&◌, not, Bool, false, List, length, slice_index, Option, Some, None, IsSome, is_some, if◌then◌else◌}
use Rattle.call_table.specs.declared.call.TheConstants.{EXIT, WAIT, READ, WRITE, CLOSE}
use Rattle.call_table.specs.declared.request.Request.{Request}
use Rattle.fd_table.specs.Descriptors.{look_at, end_count}
use Rattle.fd_table.specs.declared.description.Look.{Look}
use Rattle.fd_table.specs.declared.description.Target.{Target}
use Rattle.fd_table.specs.declared.description.Target.TheVariants.{TermIn, TermOut, File, ReadEnd, WriteEnd}
use Rattle.pipe_table.specs.Table.{pipe_at, bytes_at, room_at}
use Rattle.proc_tree.specs.Tree.{has_child_of, lowest_zombie}
use Rattle.kernel_spec.specs.Kernel.{KernelState}
use Rattle.kernel_spec.specs.Calls.{can_read, can_write}

pub data Waiting : Type 0 where
  -- the end of a child
  ForChild : Waiting
  -- typed bytes, or the end of the input
  ForInput : Waiting
  -- bytes in a pipe, or the end of its last writer
  ForBytes : ℕ → Waiting
  -- room in a pipe, or the end of its last reader
  ForRoom : ℕ → Waiting

abbrev pub has_come : Waiting → KernelState → ℕ → Bool
has_come ForChild k p = is_some (lowest_zombie k.processes.tree p)
has_come ForInput k p = k.input.ended || not (length k.input.bytes == 0)
has_come (ForBytes pipe) k p = not (length (bytes_at k.io.pipes pipe) == 0) || (end_count (WriteEnd pipe) k.io.fds.descriptions == 0)
has_come (ForRoom pipe) k p = not (room_at k.io.pipes pipe == 0) || (end_count (ReadEnd pipe) k.io.fds.descriptions == 0)

-- the pipe whose room is waited for is there
abbrev pub HasPipe : Waiting → KernelState → Type 0
HasPipe ForChild k = Unit {0}
HasPipe ForInput k = Unit {0}
HasPipe (ForBytes pipe) k = Unit {0}
HasPipe (ForRoom pipe) k = IsSome (pipe_at k.io.pipes pipe)

-- what a read of a target, or a write to it, waits for
abbrev pub read_awaits : Target → Option Waiting
read_awaits TermIn = Some ForInput
read_awaits (ReadEnd pipe) = Some (ForBytes pipe)
read_awaits TermOut = None
read_awaits (File id) = None
read_awaits (WriteEnd pipe) = None

abbrev pub write_awaits : Target → Option Waiting
write_awaits (WriteEnd pipe) = Some (ForRoom pipe)
write_awaits TermIn = None
write_awaits TermOut = None
write_awaits (File id) = None
write_awaits (ReadEnd pipe) = None

abbrev pub read_look : Option Look → ℕ → Option Waiting
read_look None len = None
read_look (Some look) len = if can_read look && not (len == 0) then read_awaits look.target else None

abbrev pub write_look : Option Look → ℕ → Option Waiting
write_look None len = None
write_look (Some look) len = if can_write look && not (len == 0) then write_awaits look.target else None

abbrev pub awaited_row : ℕ → KernelState → ℕ → List ℕ → List ℕ → Option Waiting
awaited_row number k p args bytes =
    if number == WAIT then (if has_child_of k.processes.tree p then Some ForChild else None) else
    (if number == READ then read_look (look_at k.io.fds p (slice_index args 0)) (slice_index args 2) else
    (if number == WRITE then write_look (look_at k.io.fds p (slice_index args 0)) (length bytes) else None))

-- what a call may have to wait for, whether it has come or not
abbrev pub awaited : KernelState → ℕ → Request → Option Waiting
awaited k p asked = awaited_row asked.number k p asked.args asked.bytes

-- it has not come yet
abbrev pub still_waits : Option Waiting → KernelState → ℕ → Bool
still_waits None k p = false
still_waits (Some waiting) k p = not (has_come waiting k p)

-- the calls of another process that may bring it: an exit for a child; a write into the pipe, or the closing of its last writer; a read of it, or the closing of its last reader
abbrev pub may_bring : Waiting → ℕ → Bool
may_bring ForChild number = number == EXIT
may_bring ForInput number = false
may_bring (ForBytes pipe) number = (number == WRITE) || ((number == CLOSE) || (number == EXIT))
may_bring (ForRoom pipe) number = (number == READ) || ((number == CLOSE) || (number == EXIT))
