-- What the answer of a call can be: its kind, and how many bytes it brings for the call's buffer.
use Rattle.std.specs.Prelude.{ℕ, ◌==◌, ◌&&◌, ◌||◌, not, nat_le, int_lt, pos, Bool, true, false, Option, Some, None, length}
use Rattle.call_table.specs.declared.request.Need.{Need}
use Rattle.call_table.specs.declared.request.Answer.{Answer}
use Rattle.call_table.specs.declared.request.Kind.{Kind}
use Rattle.call_table.specs.declared.request.Kind.TheVariants.{Plain, Fork, Return}
use Rattle.call_table.specs.declared.call.TheConstants.{FORK, READ, SIGRETURN}
use Rattle.call_table.specs.declared.table.TheConstants.{RIGHT_WRITE}

-- a read may give fewer bytes than its buffer has, each other call fills its buffer
abbrev pub fills : Bool → ℕ → ℕ → Bool
fills true len room = nat_le len room
fills false len room = len == room

-- the bytes fit the buffer that the call writes, and there may be none
abbrev pub fits_buffer : ℕ → Option Need → ℕ → Bool
fits_buffer number None len = len == 0
fits_buffer number (Some need) len = (len == 0) || ((need.right == RIGHT_WRITE) && fills (number == READ) len need.len)

-- the return from a handler is of its own kind; a fork that makes a child is too; each other answer is plain
abbrev pub fits_kind : Kind → ℕ → Option Need → Answer → Bool
fits_kind Plain number buffer answer = not (number == SIGRETURN) && fits_buffer number buffer (length answer.bytes)
fits_kind Fork number buffer answer = (number == FORK) && (int_lt (pos 0) answer.value && (length answer.bytes == 0))
fits_kind Return number buffer answer = (number == SIGRETURN) && (length answer.bytes == 0)

-- whether a call of this number and with this buffer can be answered so
abbrev pub fits_answer : ℕ → Option Need → Answer → Bool
fits_answer number buffer answer = fits_kind answer.kind number buffer answer
