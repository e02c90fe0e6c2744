-- A call blocks exactly where what it waits for has not come.
use Rattle.std.proofs.Common.{◌≡◌, ℕ, ◌==◌, ◌&&◌, ◌||◌, not, Bool, true, false, cond, List, length, slice_index, Option, Some, None, is_some, is_none, refl, ap, subst, sym, inl, inr, ◌∙◌}
use Rattle.std.proofs.lemmas.Bool.{cases_Bool, eqb-true}
use Rattle.call_table.specs.declared.call.TheConstants.{WAIT, READ, WRITE}
use Rattle.call_table.specs.declared.error.TheConstants.{ECHILD}
use Rattle.call_table.specs.declared.request.Request.{Request}
use Rattle.fd_table.specs.Descriptors.{look_at, end_count}
use Rattle.fd_table.specs.declared.description.Look.{Look}
use Rattle.fd_table.specs.declared.description.Target.{Target}
use Rattle.fd_table.specs.declared.description.Target.TheVariants.{TermIn, TermOut, File, ReadEnd, WriteEnd}
use Rattle.pipe_table.specs.Table.{bytes_at, room_at}
use Rattle.proc_tree.specs.Tree.{has_child_of, lowest_zombie}
use Rattle.kernel_spec.specs.Kernel.{KernelState, Called, answers}
use Rattle.kernel_spec.specs.Calls.{call_result, call_row, wait_for, read_at, read_in, can_read, write_at, write_in, can_write}
use Rattle.kernel_spec.specs.Waiting.{Waiting, ForChild, read_awaits, write_awaits, read_look, write_look, awaited, awaited_row, still_waits}
use Rattle.kernel_spec.proofs.Blocking.{never_blocks}

wait_blocks : (zombie : Option ℕ) (k : KernelState) (p status : ℕ) → lowest_zombie k.processes.tree p ≡ zombie → is_none (wait_for zombie k p status) ≡ still_waits (cond (has_child_of k.processes.tree p) (Some ForChild) None) k p
wait_blocks None k p status is = by_child (has_child_of k.processes.tree p)
  where
    by_child : (b : Bool) → is_none (cond b None (Some (answers k ECHILD))) ≡ still_waits (cond b (Some ForChild) None) k p
    by_child true = ap (λ (z : Option ℕ). not (is_some z)) (sym is)
    by_child false = refl
wait_blocks (Some c) k p status is = by_child (has_child_of k.processes.tree p)
  where
    by_child : (b : Bool) → false ≡ still_waits (cond b (Some ForChild) None) k p
    by_child true = ap (λ (z : Option ℕ). not (is_some z)) (sym is)
    by_child false = refl

-- the checks before
gate : (k : KernelState) (p : ℕ) (b c : Bool) (x z : Called) (y : Option Called) (w : Option Waiting) → is_none y ≡ still_waits w k p → is_none (cond b (cond c (Some x) y) (Some z)) ≡ still_waits (cond (b && not c) w None) k p
gate k p true true x z y w h = refl
gate k p true false x z y w h = h
gate k p false true x z y w h = refl
gate k p false false x z y w h = refl

-- an empty one waits until it ends
empty : (none over : Bool) (x y : Called) → is_none (cond none (cond over (Some x) None) (Some y)) ≡ not (over || not none)
empty true true x y = refl
empty true false x y = refl
empty false true x y = refl
empty false false x y = refl

emptied : (none over : Bool) (x y : Called) → is_none (cond none (cond over (Some x) None) (Some y)) ≡ not (not none || over)
emptied true true x y = refl
emptied true false x y = refl
emptied false true x y = refl
emptied false false x y = refl

-- a full one waits while it has a reader
full : (broken none : Bool) (x y : Called) → is_none (cond broken (Some x) (cond none None (Some y))) ≡ not (not none || broken)
full true true x y = refl
full true false x y = refl
full false true x y = refl
full false false x y = refl

read_in_blocks : (target : Target) (offset : ℕ) (k : KernelState) (p fd len : ℕ) → is_none (read_in target offset k p fd len) ≡ still_waits (read_awaits target) k p
read_in_blocks (File id) offset k p fd len = refl
read_in_blocks TermIn offset k p fd len = empty (length k.input.bytes == 0) k.input.ended _ _
read_in_blocks TermOut offset k p fd len = refl
read_in_blocks (ReadEnd pipe) offset k p fd len = emptied (length (bytes_at k.io.pipes pipe) == 0) (end_count (WriteEnd pipe) k.io.fds.descriptions == 0) _ _
read_in_blocks (WriteEnd pipe) offset k p fd len = refl

read_blocks : (look : Option Look) (k : KernelState) (p fd len : ℕ) → is_none (read_at look k p fd len) ≡ still_waits (read_look look len) k p
read_blocks None k p fd len = refl
read_blocks (Some look) k p fd len = gate k p (can_read look) (len == 0) _ _ _ (read_awaits look.target) (read_in_blocks look.target look.offset k p fd len)

some_called : (b : Bool) (x y : Called) → is_none (Some (cond b x y)) ≡ false
some_called b x y = refl

write_in_blocks : (target : Target) (offset : ℕ) (k : KernelState) (p fd : ℕ) (bytes : List ℕ) → is_none (write_in target offset k p fd bytes) ≡ still_waits (write_awaits target) k p
write_in_blocks (File id) offset k p fd bytes = refl
write_in_blocks TermOut offset k p fd bytes = refl
write_in_blocks TermIn offset k p fd bytes = refl
write_in_blocks (ReadEnd pipe) offset k p fd bytes = refl
write_in_blocks (WriteEnd pipe) offset k p fd bytes = full (end_count (ReadEnd pipe) k.io.fds.descriptions == 0) (room_at k.io.pipes pipe == 0) _ _

write_blocks : (look : Option Look) (k : KernelState) (p fd : ℕ) (bytes : List ℕ) → is_none (write_at look k p fd bytes) ≡ still_waits (write_look look (length bytes)) k p
write_blocks None k p fd bytes = refl
write_blocks (Some look) k p fd bytes = gate k p (can_write look) (length bytes == 0) _ _ _ (write_awaits look.target) (write_in_blocks look.target look.offset k p fd bytes)

abbrev Agrees : ℕ → KernelState → ℕ → List ℕ → List ℕ → Type 0
Agrees number k p args bytes = is_none (call_row number k p args bytes) ≡ still_waits (awaited_row number k p args bytes) k p

wait_agrees : (k : KernelState) (p : ℕ) (args bytes : List ℕ) → Agrees WAIT k p args bytes
unfolding call_row
wait_agrees k p args bytes = wait_blocks (lowest_zombie k.processes.tree p) k p (slice_index args 0) refl

read_agrees : (k : KernelState) (p : ℕ) (args bytes : List ℕ) → Agrees READ k p args bytes
unfolding call_row
read_agrees k p args bytes = read_blocks (look_at k.io.fds p (slice_index args 0)) k p (slice_index args 0) (slice_index args 2)

write_agrees : (k : KernelState) (p : ℕ) (args bytes : List ℕ) → Agrees WRITE k p args bytes
unfolding call_row
write_agrees k p args bytes = write_blocks (look_at k.io.fds p (slice_index args 0)) k p (slice_index args 0) bytes

-- a number, or another one
pub by_number : (number this : ℕ) (P : ℕ → Type 0) → P this → ((number == this) ≡ false → P number) → P number
by_number number this P f g = elim (cases_Bool (number == this)) [ inl e ↦ subst P (sym (eqb-true number this e)) f | inr e ↦ g e ]

none_awaited : (number : ℕ) (k : KernelState) (p : ℕ) (args bytes : List ℕ) → (number == WAIT) ≡ false → (number == READ) ≡ false → (number == WRITE) ≡ false → still_waits (awaited_row number k p args bytes) k p ≡ false
none_awaited number k p args bytes wait read write = rw (wait, read, write) refl

row_agrees : (number : ℕ) (k : KernelState) (p : ℕ) (args bytes : List ℕ) → Agrees number k p args bytes
row_agrees number k p args bytes =
    let P = λ (n : ℕ). Agrees n k p args bytes in
    by_number number WAIT P (wait_agrees k p args bytes) (λ wait.
    by_number number READ P (read_agrees k p args bytes) (λ read.
    by_number number WRITE P (write_agrees k p args bytes) (λ write.
    never_blocks number k p args bytes wait read write ∙ sym (none_awaited number k p args bytes wait read write))))

pub blocks_as_it_waits : (k : KernelState) (p : ℕ) (asked : Request) → is_none (call_result k p asked) ≡ still_waits (awaited k p asked) k p
blocks_as_it_waits k p asked = row_agrees asked.number k p asked.args asked.bytes
