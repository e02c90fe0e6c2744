-- That every answer fits its call.
use Rattle.std.proofs.Common.{◌≡◌, ℕ, ◌<◌, ◌≤◌, ◌==◌, ◌&&◌, nat_le, min, Bool, true, false, cond, ℤ, pos, List, [], length, take, slice_index, Option, Some, None, is_none, refl, ap, subst, sym, inl, inr, ◌∙◌, arith}
use Rattle.std.specs.Int.{to_le_bytes, w32, cast_signed}
use Rattle.std.proofs.lemmas.Bool.{cases_Bool, eqb-true, lt-ltb, le-leb, or_right}
use Rattle.std.proofs.lemmas.List.{length-take}
use Rattle.call_table.specs.Calls.{need_of}
use Rattle.call_table.specs.declared.call.TheConstants.{EXIT, GETPPID, FORK, WAIT, OPEN, CLOSE, READ, WRITE, LSEEK, PIPE, DUP, UNLINK, KILL, SIGACT, SIGRETURN, SIGMASK, YIELD}
use Rattle.call_table.specs.declared.error.TheConstants.{ECHILD, EINTR, ENOSYS}
use Rattle.call_table.specs.declared.limit.TheConstants.{FILE_BYTES, TRANSFER_BYTES}
use Rattle.call_table.specs.declared.request.Request.{Request}
use Rattle.call_table.specs.declared.request.Need.{Need}
use Rattle.call_table.specs.declared.request.Kind.TheVariants.{Plain}
use Rattle.fd_table.specs.Descriptors.{look_at, end_count}
use Rattle.fd_table.specs.declared.description.Look.{Look}
use Rattle.fd_table.specs.declared.description.Target.{Target}
use Rattle.fd_table.specs.declared.description.Target.TheVariants.{TermIn, TermOut, File, ReadEnd, WriteEnd}
use Rattle.pipe_table.specs.Table.{bytes_at, room_at, free_id}
use Rattle.proc_tree.specs.Tree.{next_pid_of, lowest_zombie, has_child_of}
use Rattle.kernel_spec.specs.Processes.{status_number}
use Rattle.kernel_spec.specs.Io.{IoState, pipe_result, pipe_unless, pipe_to, ends_error}
use Rattle.kernel_spec.specs.Kernel.{KernelState, Called, end_at, answers, value_answer}
use Rattle.kernel_spec.specs.Calls.{call_result, call_row, fork_to, wait_for, read_input, read_pipe, read_in, read_at, can_read, room_of, write_pipe, write_in, write_at, can_write, broken, given_answer, bytes_answer}
use Rattle.kernel_spec.specs.Answers.{fits_answer, fits_buffer, fits_kind}
use Rattle.kernel_spec.proofs.TreeFacts.{room_below}
use Rattle.kernel_spec.proofs.Blocking.{never_blocks}

-- what is answered fits a call of this number with this buffer
abbrev Fits : ℕ → Option Need → Option Called → Type 0
Fits number buffer None = Unit {0}
Fits number buffer (Some called) = fits_answer number buffer called.answer ≡ true

empty_fits : (number : ℕ) (buffer : Option Need) → fits_buffer number buffer 0 ≡ true
empty_fits number None = refl
empty_fits number (Some need) = refl

plain_fits : (number : ℕ) (buffer : Option Need) (value : ℤ) → (number == SIGRETURN) ≡ false → fits_answer number buffer (value_answer value) ≡ true
plain_fits number buffer value other = rw other (empty_fits number buffer)

either : (number : ℕ) (buffer : Option Need) (b : Bool) (x y : Option Called) → Fits number buffer x → Fits number buffer y → Fits number buffer (cond b x y)
either number buffer true x y f g = f
either number buffer false x y f g = g

called_by : (number : ℕ) (buffer : Option Need) (b : Bool) (x y : Called) → Fits number buffer (Some x) → Fits number buffer (Some y) → Fits number buffer (Some (cond b x y))
called_by number buffer true x y f g = f
called_by number buffer false x y f g = g

fork_fits : (buffer : Option Need) (next : Option ℕ) (k : KernelState) (p : ℕ) → next_pid_of k.processes.tree p ≡ next → Fits FORK buffer (Some (fork_to next k p))
fork_fits buffer None k p is = empty_fits FORK buffer
fork_fits buffer (Some child) k p is =
    let made = (room_below k.processes.tree p child is).1 in
    let positive : 0 < child = omega (arith, made) in ap (λ b. b && true) (lt-ltb 0 child positive)

-- 4 bytes where a status is wanted
status_fits : (status n : ℕ) (value : ℤ) (b : Bool) → fits_kind Plain WAIT (cond b None (Some (record { addr = status; len = 4; right = 2 }))) (record { value = value; bytes = cond b [] (to_le_bytes w32 n); kind = Plain }) ≡ true
status_fits status n value true = refl
status_fits status n value false = refl

wait_fits : (sp : ℕ) (zombie : Option ℕ) (k : KernelState) (p : ℕ) (args : List ℕ) → Fits WAIT (need_of WAIT args sp) (wait_for zombie k p (slice_index args 0))
wait_fits sp None k p args = either WAIT (need_of WAIT args sp) (has_child_of k.processes.tree p) None (Some (answers k ECHILD)) tt (empty_fits WAIT (need_of WAIT args sp))
wait_fits sp (Some child) k p args = status_fits (slice_index args 0) (status_number (end_at k child)) (cast_signed w32 child) (slice_index args 0 == 0)

-- at most as many bytes as the buffer has
taken_fits : (addr room : ℕ) (bytes : List ℕ) (value : ℤ) → fits_kind Plain READ (Some (record { addr = addr; len = room; right = 2 })) (record { value = value; bytes = take room bytes; kind = Plain }) ≡ true
taken_fits addr room bytes value =
    let few : length (take room bytes) ≤ room = omega (arith, length-take room bytes) in
    or_right (length (take room bytes) == 0) _ (le-leb _ room few)

module _ (args : List ℕ) (sp : ℕ) where
  abbrev buffer_for : Option Need
  buffer_for = Some (record { addr = slice_index args 1; len = min (slice_index args 2) TRANSFER_BYTES; right = 2 })

  read_some : (bytes : List ℕ) → fits_answer READ buffer_for (bytes_answer (take (min (slice_index args 2) TRANSFER_BYTES) bytes)) ≡ true
  read_some bytes = taken_fits (slice_index args 1) (min (slice_index args 2) TRANSFER_BYTES) bytes (pos (length (take (min (slice_index args 2) TRANSFER_BYTES) bytes)))

  typed_fits : (k : KernelState) → Fits READ buffer_for (read_input k (slice_index args 2))
  typed_fits k = either READ buffer_for (length k.input.bytes == 0) _ _ (either READ buffer_for k.input.ended _ None refl tt) (read_some k.input.bytes)

  pipe_fits : (k : KernelState) (pipe : ℕ) → Fits READ buffer_for (read_pipe k pipe (slice_index args 2))
  pipe_fits k pipe =
      either READ buffer_for (length (bytes_at k.io.pipes pipe) == 0) _ _
      (either READ buffer_for (end_count (WriteEnd pipe) k.io.fds.descriptions == 0) _ None refl tt) (read_some (bytes_at k.io.pipes pipe))

  read_in_fits : (target : Target) (offset : ℕ) (k : KernelState) (p fd : ℕ) → Fits READ buffer_for (read_in target offset k p fd (slice_index args 2))
  read_in_fits (File id) offset k p fd = read_some _
  read_in_fits TermIn offset k p fd = typed_fits k
  read_in_fits TermOut offset k p fd = refl
  read_in_fits (ReadEnd pipe) offset k p fd = pipe_fits k pipe
  read_in_fits (WriteEnd pipe) offset k p fd = refl

  read_fits : (look : Option Look) (k : KernelState) (p fd : ℕ) → Fits READ buffer_for (read_at look k p fd (slice_index args 2))
  read_fits None k p fd = refl
  read_fits (Some look) k p fd =
      either READ buffer_for (can_read look) _ _
      (either READ buffer_for (slice_index args 2 == 0) _ _ refl (read_in_fits look.target look.offset k p fd)) refl

  abbrev written : Option Need
  written = need_of WRITE args sp

  into_pipe_fits : (k : KernelState) (p pipe : ℕ) (bytes : List ℕ) → Fits WRITE written (write_pipe k p pipe bytes)
  into_pipe_fits k p pipe bytes =
      either WRITE written (end_count (ReadEnd pipe) k.io.fds.descriptions == 0) _ _ refl (either WRITE written (room_at k.io.pipes pipe == 0) None _ tt refl)

  write_in_fits : (target : Target) (offset : ℕ) (k : KernelState) (p fd : ℕ) (bytes : List ℕ) → Fits WRITE written (write_in target offset k p fd bytes)
  write_in_fits (File id) offset k p fd bytes = called_by WRITE written (nat_le FILE_BYTES offset) _ _ refl refl
  write_in_fits TermOut offset k p fd bytes = called_by WRITE written (room_of k.terminal == 0) _ _ refl refl
  write_in_fits TermIn offset k p fd bytes = refl
  write_in_fits (ReadEnd pipe) offset k p fd bytes = refl
  write_in_fits (WriteEnd pipe) offset k p fd bytes = into_pipe_fits k p pipe bytes

  write_fits : (look : Option Look) (k : KernelState) (p fd : ℕ) (bytes : List ℕ) → Fits WRITE written (write_at look k p fd bytes)
  write_fits None k p fd bytes = refl
  write_fits (Some look) k p fd bytes =
      either WRITE written (can_write look) _ _
      (either WRITE written (length bytes == 0) _ _ refl (write_in_fits look.target look.offset k p fd bytes)) refl

-- two descriptors, or none
ends_fit : (addr : ℕ) (io : IoState) (p : ℕ) → fits_kind Plain PIPE (Some (record { addr = addr; len = 8; right = 2 })) (given_answer (pipe_result io p)) ≡ true
ends_fit addr io p = by_error (ends_error io.fds p)
  where
    by_free : (o : Option ℕ) → fits_kind Plain PIPE (Some (record { addr = addr; len = 8; right = 2 })) (given_answer (pipe_to o io p)) ≡ true
    by_free None = refl
    by_free (Some pipe) = refl

    by_error : (o : Option ℤ) → fits_kind Plain PIPE (Some (record { addr = addr; len = 8; right = 2 })) (given_answer (pipe_unless o io p)) ≡ true
    by_error None = by_free (free_id io.pipes)
    by_error (Some error) = refl

-- ---- all calls

-- one row of the table, and the rest where the number is another
row : (number this : ℕ) (args : List ℕ) (sp : ℕ) (x y : Option Called) → Fits this (need_of this args sp) x → ((number == this) ≡ false → Fits number (need_of number args sp) y) → Fits number (need_of number args sp) (cond (number == this) x y)
row number this args sp x y f g =
    elim (cases_Bool (number == this)) [
      | inl e ↦
          let here : Fits number (need_of number args sp) x = subst (λ n. Fits n (need_of n args sp) x) (sym (eqb-true number this e)) f in
          subst (λ b. Fits number (need_of number args sp) (cond b x y)) (sym e) here
      | inr e ↦ subst (λ b. Fits number (need_of number args sp) (cond b x y)) (sym e) (g e)
    ]

row_fits : (number : ℕ) (k : KernelState) (p : ℕ) (args bytes : List ℕ) (sp : ℕ) → Fits number (need_of number args sp) (call_row number k p args bytes)
unfolding call_row
row_fits number k p args bytes sp =
    row number EXIT args sp _ _ refl (λ _.
    row number GETPPID args sp _ _ refl (λ _.
    row number FORK args sp _ _ (fork_fits None (next_pid_of k.processes.tree p) k p refl) (λ _.
    row number WAIT args sp _ _ (wait_fits sp (lowest_zombie k.processes.tree p) k p args) (λ _.
    row number OPEN args sp _ _ refl (λ _.
    row number CLOSE args sp _ _ refl (λ _.
    row number READ args sp _ _ (read_fits args sp (look_at k.io.fds p (slice_index args 0)) k p (slice_index args 0)) (λ _.
    row number WRITE args sp _ _ (write_fits args sp (look_at k.io.fds p (slice_index args 0)) k p (slice_index args 0) bytes) (λ _.
    row number LSEEK args sp _ _ refl (λ _.
    row number PIPE args sp _ _ (ends_fit (slice_index args 0) k.io p) (λ _.
    row number DUP args sp _ _ refl (λ _.
    row number UNLINK args sp _ _ refl (λ _.
    row number KILL args sp _ _ refl (λ _.
    row number SIGACT args sp _ _ refl (λ _.
    row number SIGRETURN args sp _ _ refl (λ other.
    row number SIGMASK args sp _ _ refl (λ _.
    row number YIELD args sp _ _ refl (λ _. plain_fits number (need_of number args sp) ENOSYS other)))))))))))))))))

-- every answer fits its call
pub answer_fits : (k : KernelState) (p : ℕ) (asked : Request) (called : Called) (sp : ℕ) → call_result k p asked ≡ Some called → fits_answer asked.number (need_of asked.number asked.args sp) called.answer ≡ true
answer_fits k p asked called sp e =
    subst (Fits asked.number (need_of asked.number asked.args sp)) e (row_fits asked.number k p asked.args asked.bytes sp)

-- a call that blocks is wait, read or write, so it is no return from a handler
pub blocks_is_no_return : (k : KernelState) (p : ℕ) (asked : Request) → call_result k p asked ≡ None → (asked.number == SIGRETURN) ≡ false
blocks_is_no_return k p asked blocks =
    elim (cases_Bool (asked.number == SIGRETURN)) [
      | inl e ↦
          let n : asked.number ≡ SIGRETURN = eqb-true asked.number SIGRETURN e in
          let goes = never_blocks asked.number k p asked.args asked.bytes (ap (λ m. m == WAIT) n) (ap (λ m. m == READ) n) (ap (λ m. m == WRITE) n) in
          let no : true ≡ false = sym (ap is_none blocks) ∙ goes in absurd (cc)
      | inr e ↦ e
    ]

-- and what it answers when it is broken off fits too
pub broken_fits : (k : KernelState) (p : ℕ) (asked : Request) (sp : ℕ) → call_result k p asked ≡ None → fits_answer asked.number (need_of asked.number asked.args sp) (broken k).answer ≡ true
broken_fits k p asked sp blocks = plain_fits asked.number (need_of asked.number asked.args sp) EINTR (blocks_is_no_return k p asked blocks)
