-- Which requests a process makes, and which answers and signals it can get.
use Rattle.std.specs.Prelude.{ℕ, zero, suc, ◌==◌, ◌&&◌, ◌||◌, not, nat_le, Bool, true, false, Option, Some, None, List, length, slice_index, ℤ, int_lt, pos, negsuc, cond}
use Rattle.call_table.specs.Calls.{need_of, is_site_local, is_signal_number}
use Rattle.call_table.specs.declared.call.TheConstants.{FORK, READ, SIGRETURN}
use Rattle.call_table.specs.declared.table.TheConstants.{RIGHT_WRITE}
use Rattle.call_table.specs.declared.request.Need.{Need}
use Rattle.call_table.specs.declared.request.Kind.{Kind}
use Rattle.call_table.specs.declared.request.Kind.TheVariants.{Plain, Fork, Return}
use Rattle.call_table.specs.declared.request.Request.{Request}
use Rattle.call_table.specs.declared.request.Answer.{Answer}
use Rattle.call_table.specs.declared.request.Taken.{Taken}
use Rattle.call_table.specs.declared.request.Taken.TheVariants.{Dies, Enters}
use Rattle.user_spec.specs.User.{UserState}
use Rattle.user_spec.specs.Request.{number_of, buffer_of, is_read, has_frame_room, stack_pointer, returned, entered}
use Rattle.user_spec.specs.Advance.{request_of}

-- ---- requests

-- how many bytes a call hands over: those of a buffer that is read, and none for the return from a handler
abbrev pub read_len : Option Need → ℕ
read_len None = 0
read_len (Some need) = cond (is_read (Some need)) need.len 0

abbrev pub handed_len : ℕ → List ℕ → ℕ
handed_len number args = cond (number == SIGRETURN) 0 (read_len (need_of number args 0))

-- a fault names its signal
abbrev pub fits_fault : Request → Bool
fits_fault r = is_signal_number (slice_index r.args 0)

abbrev pub fits_call : Request → Bool
fits_call r = not (is_site_local r.number) && (length r.bytes == handed_len r.number r.args)

-- a fault, or a forwarded call with as many bytes as it hands over
abbrev pub fits_request : Request → Bool
fits_request r = cond (r.number == 0) (fits_fault r) (fits_call r)

-- ---- answers

-- a read may give fewer bytes than its buffer has, each other call fills its buffer
abbrev pub fills : Bool → ℕ → ℕ → Bool
fills true len room = nat_le len room
fills false len room = len == room

-- an answer's bytes fit the buffer that the call writes; there may be none
abbrev pub fits_buffer : ℕ → Option Need → ℕ → Bool
fits_buffer number None len = len == 0
fits_buffer number (Some need) len = (len == 0) || ((need.right == RIGHT_WRITE) && fills (number == READ) len need.len)

-- the return from a handler is of its own kind; a fork that makes a child is too; each other answer is plain
abbrev pub fits_kind : Kind → UserState → Answer → Bool
fits_kind Plain u a = not (number_of u == SIGRETURN) && fits_buffer (number_of u) (buffer_of u) (length a.bytes)
fits_kind Fork u a = (number_of u == FORK) && (int_lt (pos 0) a.value && (length a.bytes == 0))
fits_kind Return u a = (number_of u == SIGRETURN) && (length a.bytes == 0)

abbrev pub fits_answer : UserState → Answer → Bool
fits_answer u a = fits_kind a.kind u a

-- the child that an answer brings: that of a fork, which is above 0
abbrev pub positive : ℤ → Option ℕ
positive (pos zero) = None
positive (pos (suc n)) = Some (suc n)
positive (negsuc n) = None

abbrev pub child_as : Kind → ℤ → Option ℕ
child_as Plain value = None
child_as Fork value = positive value
child_as Return value = None

abbrev pub child_of : Answer → Option ℕ
child_of a = child_as a.kind a.value

-- ---- signals

-- whether a signal's frame has room below the stack pointer
abbrev pub has_room_at : UserState → Bool
has_room_at u = has_frame_room u.pages (stack_pointer u)

-- a handler is entered only where there is room for its frame
abbrev pub fits_taken : UserState → Taken → Bool
fits_taken u (Dies signal) = true
fits_taken u (Enters signal handler restorer mask) = has_room_at u

-- the process after a signal is taken: at the handler, unless it dies of it
abbrev pub entered_by : UserState → Taken → UserState
entered_by u (Dies signal) = u
entered_by u (Enters signal handler restorer mask) = entered u signal handler restorer mask

-- ---- what a call or a pause comes to: an answer, and then a signal

abbrev pub given_by : UserState → Option Answer → UserState
given_by u None = u
given_by u (Some a) = returned u a

abbrev pub taken_by : UserState → Option Taken → UserState
taken_by u None = u
taken_by u (Some t) = entered_by u t

-- whether a forwarded call is asked, and no fault
abbrev pub forwards : Option Request → Bool
forwards None = false
forwards (Some r) = not (r.number == 0)

-- an answer comes to a forwarded call, and none to a pause or a fault
abbrev pub fits_given : Bool → UserState → Option Answer → Bool
fits_given true u None = true
fits_given true u (Some a) = false
fits_given false u None = not (forwards (request_of u))
fits_given false u (Some a) = forwards (request_of u) && fits_answer u a

abbrev pub fits_entered : UserState → Option Taken → Bool
fits_entered u None = true
fits_entered u (Some t) = fits_taken u t
