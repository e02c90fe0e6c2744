-- The table of the calls.
use Rattle.std.specs.Prelude.{ℕ, ◌==◌, ◌||◌, ◌&&◌, not, nat_le, Bool, List, [], ◌∷◌, Option, Some, None, if◌then◌else◌, slice_index, min}
use Rattle.std.specs.List.{list_any}
use Rattle.call_table.specs.declared.request.Need.{Need}
use Rattle.call_table.specs.declared.limit.TheConstants.{TRANSFER_BYTES}
use Rattle.call_table.specs.declared.signal.TheConstants.{SIGINT, SIGILL, SIGTRAP, SIGKILL, SIGUSR1, SIGSEGV, SIGUSR2, SIGPIPE, SIGTERM, SIGCHLD, SIGXCPU}
use Rattle.call_table.specs.declared.table.TheConstants.{RIGHT_READ, RIGHT_WRITE, NAME_LOOK, FRAME_SIZE}
use Rattle.call_table.specs.declared.call.TheConstants.{EXIT, GETPID, WAIT, OPEN, READ, WRITE, PIPE, UNLINK, SIGRETURN, BRK, YIELD}

-- bytes that the call reads
abbrev pub readable : ℕ → ℕ → Need
readable addr len = record { addr = addr; len = len; right = RIGHT_READ }

-- bytes that the call writes
abbrev pub writable : ℕ → ℕ → Need
writable addr len = record { addr = addr; len = len; right = RIGHT_WRITE }

-- where `wait` writes how a child ended: nowhere at address 0
abbrev pub need_of_wait : ℕ → Option Need
need_of_wait status = if status == 0 then None else Some (writable status 4)

-- a name, up to the byte after the longest
abbrev pub need_of_name : ℕ → ℕ → Option Need
need_of_name path len = Some (readable path (min len NAME_LOOK))

abbrev pub need_of_read : ℕ → ℕ → Option Need
need_of_read addr len = Some (writable addr (min len TRANSFER_BYTES))

abbrev pub need_of_write : ℕ → ℕ → Option Need
need_of_write addr len = Some (readable addr (min len TRANSFER_BYTES))

-- the two descriptors of a pipe
abbrev pub need_of_pipe : ℕ → Option Need
need_of_pipe ends = Some (writable ends 8)

-- a signal frame at the top of the stack: pc, 31 registers and the mask
abbrev pub need_of_return : ℕ → Option Need
need_of_return sp = Some (readable sp FRAME_SIZE)

-- the buffer of a call, by its number, its arguments a0 to a5 and the stack pointer
abbrev pub need_of : ℕ → List ℕ → ℕ → Option Need
need_of number args sp =
    if number == WAIT then need_of_wait (slice_index args 0) else
    (if number == OPEN then need_of_name (slice_index args 0) (slice_index args 1) else
    (if number == READ then need_of_read (slice_index args 1) (slice_index args 2) else
    (if number == WRITE then need_of_write (slice_index args 1) (slice_index args 2) else
    (if number == PIPE then need_of_pipe (slice_index args 0) else
    (if number == UNLINK then need_of_name (slice_index args 0) (slice_index args 1) else
    (if number == SIGRETURN then need_of_return sp else None))))))

-- whether a number is a call's
abbrev pub is_call : ℕ → Bool
is_call number = nat_le EXIT number && nat_le number YIELD

-- whether a call is answered where the process runs: two calls, and every number that is no call's
abbrev pub is_site_local : ℕ → Bool
is_site_local number = (number == GETPID) || (number == BRK) || not (is_call number)

-- the signals
abbrev pub signals : List ℕ
signals = SIGINT ∷ SIGILL ∷ SIGTRAP ∷ SIGKILL ∷ SIGUSR1 ∷ SIGSEGV ∷ SIGUSR2 ∷ SIGPIPE ∷ SIGTERM ∷ SIGCHLD ∷ SIGXCPU ∷ []

abbrev pub is_signal_number : ℕ → Bool
is_signal_number number = list_any (λ signal. signal == number) signals
