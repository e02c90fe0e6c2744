-- What a process waits for stays the same under every step of another, and which steps may bring it.
use Rattle.std.proofs.Common.{◌≡◌, ◌≢◌, ℕ, zero, suc, ◌≤◌, ◌==◌, ◌&&◌, ◌||◌, not, nat_le, ◌%◌, ◌/◌, min, Bool, true, false, cond, List, [], ◌∷◌, length, drop, slice_index, Option, Some, None, is_some, refl, ap, subst, sym, inl, inr, ◌∙◌, arith}
use Rattle.std.specs.Option.{option_map}
use Rattle.std.proofs.lemmas.Bool.{cases_Bool, or_parts, or_from, eqb-true, eqb-false, eq-eqb, ne_eqb, not-false, not_from_true, false≢true}
use Rattle.std.proofs.lemmas.Option.{none-some}
use Rattle.std.proofs.lemmas.List.{length-drop, length-append}
use Rattle.call_table.specs.Calls.{is_signal_number}
use Rattle.call_table.specs.declared.call.TheConstants.{EXIT, GETPPID, FORK, WAIT, OPEN, CLOSE, READ, WRITE, LSEEK, PIPE, DUP, UNLINK, KILL, SIGACT, SIGRETURN, SIGMASK, YIELD}
use Rattle.call_table.specs.declared.limit.TheConstants.{FILE_BYTES, TRANSFER_BYTES}
use Rattle.call_table.specs.declared.error.TheConstants.{ECHILD}
use Rattle.call_table.specs.declared.signal.TheConstants.{SIGKILL, SIGPIPE}
use Rattle.call_table.specs.declared.process.End.{End}
use Rattle.call_table.specs.declared.process.End.TheVariants.{Signal}
use Rattle.call_table.specs.declared.request.Taken.{Taken}
use Rattle.call_table.specs.declared.request.Taken.TheVariants.{Dies, Enters}
use Rattle.signal_set.specs.Signals.{Took}
use Rattle.call_table.specs.declared.request.Request.{Request}
use Rattle.fd_table.specs.Descriptors.{FdTable, look_at, end_count, slots_at, sought}
use Rattle.fd_table.specs.declared.description.Look.{Look}
use Rattle.fd_table.specs.declared.description.Target.{Target}
use Rattle.fd_table.specs.declared.description.Target.TheVariants.{TermIn, TermOut, File, ReadEnd, WriteEnd}
use Rattle.fd_table.proofs.EndLemmas.{end_count_sought}
use Rattle.pipe_table.specs.Table.{bytes_at, room_at, changed_at, with_more}
use Rattle.proc_tree.specs.declared.process.Process.{Process}
use Rattle.proc_tree.specs.Tree.{live_at, zombie_at, parent_of, has_child_of, lowest_zombie, next_pid_of}
use Rattle.kernel_spec.specs.Io.{all_closed, close_result}
use Rattle.kernel_spec.specs.Processes.{ProcessDone, ended_in, kill_result, sigact_result, with_left, take_at}
use Rattle.kernel_spec.specs.Kernel.{KernelState, Input, Called, AfterTake, given, is_live, with_end, with_raised, answers, take_result, after_took, after_taken}
use Rattle.kernel_spec.specs.Calls.{call_result, call_row, fork_to, with_fork, wait_for, without_zombie, read_input, untyped, typed, read_pipe, with_less, read_in, read_at, can_read, room_of, write_pipe, with_piped, piped_in, write_in, write_at, can_write}
use Rattle.kernel_spec.specs.Waiting.{Waiting, ForChild, ForInput, ForBytes, ForRoom, HasPipe, has_come, read_awaits, write_awaits, read_look, write_look, awaited, awaited_row, may_bring}
use Rattle.kernel_spec.proofs.GivenLemmas.{tree_raised}
use Rattle.kernel_spec.proofs.TreeFacts.{room_below}
use Rattle.kernel_spec.proofs.BlockFacts.{by_number}
use Rattle.kernel_spec.proofs.LookFacts.{Keeps, LooksStay, looks_same, sought_looks, put_looks, closing_looks, close_call_looks, IsStill, stays, open_call_still, seek_call_still, dup_call_still, unlink_call_still, pipe_call_still}
use Rattle.kernel_spec.proofs.ChildFacts.{ChildrenStay, NoZombie, children_same, zombies_same, joined_children, joined_zombies, reaped_children, reaped_zombies, ended_children, ended_zombies}

-- ---- what is awaited

pub record LeavesWaiting (k new : KernelState) (p : ℕ) : Type 0 where
  pub looks : LooksStay k.io.fds new.io.fds p
  pub children : ChildrenStay k.processes.tree new.processes.tree p

read_kept : (old new : Option Look) (len : ℕ) (w : Waiting) → Keeps old new → read_look old len ≡ Some w → read_look new len ≡ Some w
read_kept None new len w keeps h = absurd (none-some w h)
read_kept (Some look) new len w keeps h =
    ap (λ o. read_look o len) keeps.1
    ∙ ap (λ r. cond ((r % 2 == 1) && not (len == 0)) (read_awaits keeps.0.target) None) keeps.3
    ∙ ap (λ t. cond (can_read look && not (len == 0)) (read_awaits t) None) keeps.2 ∙ h

write_kept : (old new : Option Look) (len : ℕ) (w : Waiting) → Keeps old new → write_look old len ≡ Some w → write_look new len ≡ Some w
write_kept None new len w keeps h = absurd (none-some w h)
write_kept (Some look) new len w keeps h =
    ap (λ o. write_look o len) keeps.1
    ∙ ap (λ r. cond ((r / 2 % 2 == 1) && not (len == 0)) (write_awaits keeps.0.target) None) keeps.3
    ∙ ap (λ t. cond (can_write look && not (len == 0)) (write_awaits t) None) keeps.2 ∙ h

child_kept : (old new : Bool) (w : Waiting) → (old ≡ true → new ≡ true) → cond old (Some ForChild) None ≡ Some w → cond new (Some ForChild) None ≡ Some w
child_kept true new w kept h = ap (λ b. cond b (Some ForChild) None) (kept refl) ∙ h
child_kept false new w kept h = absurd (none-some w h)

other_kept : (number : ℕ) (k new : KernelState) (p : ℕ) (args bytes : List ℕ) (w : Waiting) → (number == WAIT) ≡ false → (number == READ) ≡ false → (number == WRITE) ≡ false → awaited_row number k p args bytes ≡ Some w → awaited_row number new p args bytes ≡ Some w
other_kept number k new p args bytes w wait read write h =
    let none : awaited_row number k p args bytes ≡ None = rw (wait, read, write) refl in absurd (none-some w (sym none ∙ h))

row_kept : (number : ℕ) (k new : KernelState) (p : ℕ) (args bytes : List ℕ) (w : Waiting) → LeavesWaiting k new p → awaited_row number k p args bytes ≡ Some w → awaited_row number new p args bytes ≡ Some w
row_kept number k new p args bytes w leaves =
    let P = λ (n : ℕ). awaited_row n k p args bytes ≡ Some w → awaited_row n new p args bytes ≡ Some w in
    by_number number WAIT P (child_kept (has_child_of k.processes.tree p) (has_child_of new.processes.tree p) w leaves.children.children) (λ wait.
    by_number number READ P (read_kept (look_at k.io.fds p (slice_index args 0)) (look_at new.io.fds p (slice_index args 0)) (slice_index args 2) w (leaves.looks (slice_index args 0))) (λ read.
    by_number number WRITE P (write_kept (look_at k.io.fds p (slice_index args 0)) (look_at new.io.fds p (slice_index args 0)) (length bytes) w (leaves.looks (slice_index args 0))) (λ write.
    other_kept number k new p args bytes w wait read write)))

pub awaited_kept : (k new : KernelState) (p : ℕ) (asked : Request) (w : Waiting) → LeavesWaiting k new p → awaited k p asked ≡ Some w → awaited new p asked ≡ Some w
awaited_kept k new p asked w leaves h = row_kept asked.number k new p asked.args asked.bytes w leaves h

-- ---- what has come

-- an empty pipe stays empty, and no writer goes
bytes_wait : (k new : KernelState) (p pipe : ℕ) → (length (bytes_at k.io.pipes pipe) ≡ 0 → length (bytes_at new.io.pipes pipe) ≡ 0) → end_count (WriteEnd pipe) k.io.fds.descriptions ≤ end_count (WriteEnd pipe) new.io.fds.descriptions → has_come (ForBytes pipe) k p ≡ false → has_come (ForBytes pipe) new p ≡ false
bytes_wait k new p pipe stays ends h =
    let parts = or_parts _ _ h in
    let none = eqb-true (length (bytes_at k.io.pipes pipe)) 0 (not-false _ parts.0) in
    let some = eqb-false (end_count (WriteEnd pipe) k.io.fds.descriptions) 0 parts.1 in
    or_from _ _ (not_from_true _ (eq-eqb _ 0 (stays none))) (ne_eqb _ 0 (λ e. some (omega (arith, e, ends))))

-- a full pipe stays full, and no reader goes
room_wait : (k new : KernelState) (p pipe : ℕ) → (room_at k.io.pipes pipe ≡ 0 → room_at new.io.pipes pipe ≡ 0) → end_count (ReadEnd pipe) k.io.fds.descriptions ≤ end_count (ReadEnd pipe) new.io.fds.descriptions → has_come (ForRoom pipe) k p ≡ false → has_come (ForRoom pipe) new p ≡ false
room_wait k new p pipe stays ends h =
    let parts = or_parts _ _ h in
    let none = eqb-true (room_at k.io.pipes pipe) 0 (not-false _ parts.0) in
    let some = eqb-false (end_count (ReadEnd pipe) k.io.fds.descriptions) 0 parts.1 in
    or_from _ _ (not_from_true _ (eq-eqb _ 0 (stays none))) (ne_eqb _ 0 (λ e. some (omega (arith, e, ends))))

-- no zombie comes
child_wait : (k new : KernelState) (p : ℕ) → NoZombie k.processes.tree new.processes.tree p → has_come ForChild k p ≡ false → has_come ForChild new p ≡ false
child_wait k new p none h = ap is_some (none.none (is_none_of (lowest_zombie k.processes.tree p) h))
  where
    is_none_of : (o : Option ℕ) → is_some o ≡ false → o ≡ None
    is_none_of None e = refl
    is_none_of (Some x) e = absurd (cc)

-- the input as it was
input_wait : (k new : KernelState) (p : ℕ) → new.input ≡ k.input → has_come ForInput k p ≡ false → has_come ForInput new p ≡ false
input_wait k new p same h = ap (λ (i : Input). i.ended || not (length i.bytes == 0)) same ∙ h

-- ---- of a call: what is awaited stays, and what its number does not bring has not come

pub record BringsFor (k new : KernelState) (p number : ℕ) : Type 0 where
  pub waiting : LeavesWaiting k new p
  pub come : (w : Waiting) → HasPipe w k → may_bring w number ≡ false → has_come w k p ≡ false → has_come w new p ≡ false

-- nothing comes at all
quiet : (k new : KernelState) (p number : ℕ) → IsStill k.io new.io p → ChildrenStay k.processes.tree new.processes.tree p → NoZombie k.processes.tree new.processes.tree p → new.input ≡ k.input → BringsFor k new p number
quiet k new p number io children zombies input = record {
  waiting = record { looks = io.looks; children = children };
  come = λ w here bring h. by_kind w here h;
}
  where
    by_kind : (w : Waiting) → HasPipe w k → has_come w k p ≡ false → has_come w new p ≡ false
    by_kind ForChild here h = child_wait k new p zombies h
    by_kind ForInput here h = input_wait k new p input h
    by_kind (ForBytes pipe) here h = bytes_wait k new p pipe (λ e. ap (λ (bytes : List ℕ). length bytes) (io.bytes pipe) ∙ e) (io.ends (WriteEnd pipe)) h
    by_kind (ForRoom pipe) here h = room_wait k new p pipe (λ e. io.room pipe here ∙ e) (io.ends (ReadEnd pipe)) h

-- the same tree of processes
quiet_io : (k new : KernelState) (p number : ℕ) → IsStill k.io new.io p → new.processes.tree ≡ k.processes.tree → new.input ≡ k.input → BringsFor k new p number
quiet_io k new p number io tree input =
    quiet k new p number io (subst (λ t. ChildrenStay k.processes.tree t p) (sym tree) (children_same k.processes.tree p)) (subst (λ t. NoZombie k.processes.tree t p) (sym tree) (zombies_same k.processes.tree p)) input

still_io : (k new : KernelState) (p : ℕ) → new.io ≡ k.io → IsStill k.io new.io p
still_io k new p e = subst (λ io. IsStill k.io io p) (sym e) (stays k.io p)

-- neither files nor processes
unmoved : (k new : KernelState) (p number : ℕ) → new.io ≡ k.io → new.processes.tree ≡ k.processes.tree → new.input ≡ k.input → BringsFor k new p number
unmoved k new p number io tree input = quiet_io k new p number (still_io k new p io) tree input

-- a description's offset moves, and files change
moved_offset : (k new : KernelState) (p number q fd offset : ℕ) → new.io.fds ≡ sought k.io.fds q fd offset → new.io.pipes ≡ k.io.pipes → new.processes.tree ≡ k.processes.tree → new.input ≡ k.input → BringsFor k new p number
moved_offset k new p number q fd offset fds pipes tree input = quiet_io k new p number (record {
  looks = subst (λ t. LooksStay k.io.fds t p) (sym fds) (sought_looks k.io.fds q fd offset p);
  ends = λ one. let e : end_count one new.io.fds.descriptions ≡ end_count one k.io.fds.descriptions = ap (λ (t : FdTable). end_count one t.descriptions) fds ∙ end_count_sought one k.io.fds q fd offset in omega (arith, e);
  bytes = λ pipe. ap (λ all. bytes_at all pipe) pipes;
  room = λ pipe here. ap (λ all. room_at all pipe) pipes;
}) tree input

module _ (k : KernelState) (p q : ℕ) (other : p ≢ q) where
  -- what each answer of a call of q leaves of p
  abbrev Brings : ℕ → Option Called → Type 0
  Brings number None = Unit {0}
  Brings number (Some called) = BringsFor k called.kernel p number

  either : (number : ℕ) (b : Bool) (x y : Option Called) → Brings number x → Brings number y → Brings number (cond b x y)
  either number true x y f g = f
  either number false x y f g = g

  called_by : (number : ℕ) (b : Bool) (x y : Called) → Brings number (Some x) → Brings number (Some y) → Brings number (Some (cond b x y))
  called_by number true x y f g = f
  called_by number false x y f g = g

  -- no step at all
  same : (number : ℕ) → BringsFor k k p number
  same number = unmoved k k p number refl refl refl

  -- ---- read

  less_bytes : (pipes : List (Option (List ℕ))) (n id here : ℕ) → length (bytes_at pipes here) ≡ 0 → length (bytes_at (changed_at (drop n) pipes id) here) ≡ 0
  less_bytes [] n id here e = e
  less_bytes (None ∷ pipes) n zero zero e = e
  less_bytes (Some bytes ∷ pipes) n zero zero e = omega (arith, e, length-drop n bytes)
  less_bytes (pipe ∷ pipes) n zero (suc here) e = e
  less_bytes (pipe ∷ pipes) n (suc id) zero e = e
  less_bytes (pipe ∷ pipes) n (suc id) (suc here) e = less_bytes pipes n id here e

  less_in_pipe : (pipe len : ℕ) → BringsFor k (with_less k pipe len) p READ
  less_in_pipe pipe len = record {
    waiting = record { looks = looks_same k.io.fds p; children = children_same k.processes.tree p };
    come = λ w here bring h. by_kind w bring h;
  }
    where
      by_kind : (w : Waiting) → may_bring w READ ≡ false → has_come w k p ≡ false → has_come w (with_less k pipe len) p ≡ false
      by_kind ForChild bring h = h
      by_kind ForInput bring h = h
      by_kind (ForBytes one) bring h = bytes_wait k (with_less k pipe len) p one (less_bytes k.io.pipes (min len TRANSFER_BYTES) pipe one) (omega arith) h
      by_kind (ForRoom one) bring h = absurd (false≢true (sym bring))

  less_typed : (len : ℕ) → BringsFor k (record k { input = untyped k.input len }) p READ
  less_typed len = record {
    waiting = record { looks = looks_same k.io.fds p; children = children_same k.processes.tree p };
    come = λ w here bring h. by_kind w h;
  }
    where
      by_kind : (w : Waiting) → has_come w k p ≡ false → has_come w (record k { input = untyped k.input len }) p ≡ false
      by_kind ForChild h = h
      by_kind ForInput h =
          let parts = or_parts k.input.ended (not (length k.input.bytes == 0)) h in
          let none = eqb-true (length k.input.bytes) 0 (not-false _ parts.1) in
          let left : length (drop (length (typed k.input len)) k.input.bytes) ≡ 0 = omega (arith, none, length-drop (length (typed k.input len)) k.input.bytes) in
          or_from _ _ parts.0 (not_from_true _ (eq-eqb _ 0 left))
      by_kind (ForBytes pipe) h = h
      by_kind (ForRoom pipe) h = h

  typed_brings : (len : ℕ) → Brings READ (read_input k len)
  typed_brings len = either READ (length k.input.bytes == 0) _ _ (either READ k.input.ended _ None (same READ) tt) (less_typed len)

  pipe_brings : (pipe len : ℕ) → Brings READ (read_pipe k pipe len)
  pipe_brings pipe len =
      either READ (length (bytes_at k.io.pipes pipe) == 0) _ _ (either READ (end_count (WriteEnd pipe) k.io.fds.descriptions == 0) _ None (same READ) tt) (less_in_pipe pipe len)

  read_in_brings : (target : Target) (offset fd len : ℕ) → Brings READ (read_in target offset k q fd len)
  read_in_brings (File id) offset fd len = moved_offset k _ p READ q fd _ refl refl refl refl
  read_in_brings TermIn offset fd len = typed_brings len
  read_in_brings TermOut offset fd len = same READ
  read_in_brings (ReadEnd pipe) offset fd len = pipe_brings pipe len
  read_in_brings (WriteEnd pipe) offset fd len = same READ

  read_brings : (look : Option Look) (fd len : ℕ) → Brings READ (read_at look k q fd len)
  read_brings None fd len = same READ
  read_brings (Some look) fd len =
      either READ (can_read look) _ _ (either READ (len == 0) _ _ (same READ) (read_in_brings look.target look.offset fd len)) (same READ)

  -- ---- write

  more_room : (more : List ℕ) (pipes : List (Option (List ℕ))) (id here : ℕ) → room_at pipes here ≡ 0 → room_at (changed_at (with_more more) pipes id) here ≡ 0
  more_room more [] id here e = e
  more_room more (None ∷ pipes) zero zero e = e
  more_room more (Some bytes ∷ pipes) zero zero e = omega (arith, e, length-append bytes more)
  more_room more (pipe ∷ pipes) zero (suc here) e = e
  more_room more (pipe ∷ pipes) (suc id) zero e = e
  more_room more (pipe ∷ pipes) (suc id) (suc here) e = more_room more pipes id here e

  more_in_pipe : (pipe : ℕ) (bytes : List ℕ) → BringsFor k (with_piped k pipe bytes) p WRITE
  more_in_pipe pipe bytes = record {
    waiting = record { looks = looks_same k.io.fds p; children = children_same k.processes.tree p };
    come = λ w here bring h. by_kind w bring h;
  }
    where
      by_kind : (w : Waiting) → may_bring w WRITE ≡ false → has_come w k p ≡ false → has_come w (with_piped k pipe bytes) p ≡ false
      by_kind ForChild bring h = h
      by_kind ForInput bring h = h
      by_kind (ForBytes one) bring h = absurd (false≢true (sym bring))
      by_kind (ForRoom one) bring h = room_wait k (with_piped k pipe bytes) p one (more_room (piped_in k pipe bytes) k.io.pipes pipe one) (omega arith) h

  into_pipe_brings : (pipe : ℕ) (bytes : List ℕ) → Brings WRITE (write_pipe k q pipe bytes)
  into_pipe_brings pipe bytes =
      either WRITE (end_count (ReadEnd pipe) k.io.fds.descriptions == 0) _ _ (unmoved k (with_raised k q SIGPIPE) p WRITE refl (tree_raised k.processes q SIGPIPE) refl)
      (either WRITE (room_at k.io.pipes pipe == 0) None _ tt (more_in_pipe pipe bytes))

  write_in_brings : (target : Target) (offset fd : ℕ) (bytes : List ℕ) → Brings WRITE (write_in target offset k q fd bytes)
  write_in_brings (File id) offset fd bytes = called_by WRITE (nat_le FILE_BYTES offset) _ _ (same WRITE) (moved_offset k _ p WRITE q fd _ refl refl refl refl)
  write_in_brings TermOut offset fd bytes = called_by WRITE (room_of k.terminal == 0) _ _ (same WRITE) (unmoved k _ p WRITE refl refl refl)
  write_in_brings TermIn offset fd bytes = same WRITE
  write_in_brings (ReadEnd pipe) offset fd bytes = same WRITE
  write_in_brings (WriteEnd pipe) offset fd bytes = into_pipe_brings pipe bytes

  write_brings : (look : Option Look) (fd : ℕ) (bytes : List ℕ) → Brings WRITE (write_at look k q fd bytes)
  write_brings None fd bytes = same WRITE
  write_brings (Some look) fd bytes =
      either WRITE (can_write look) _ _ (either WRITE (length bytes == 0) _ _ (same WRITE) (write_in_brings look.target look.offset fd bytes)) (same WRITE)

  -- ---- processes

  wait_brings : (zombie : Option ℕ) (status : ℕ) → lowest_zombie k.processes.tree q ≡ zombie → Brings WAIT (wait_for zombie k q status)
  wait_brings None status is = either WAIT (has_child_of k.processes.tree q) None (Some (answers k ECHILD)) tt (same WAIT)
  wait_brings (Some c) status is =
      quiet k (without_zombie k c) p WAIT (still_io k (without_zombie k c) p refl) (reaped_children k.processes.tree p q c other is) (reaped_zombies k.processes.tree p c) refl

  fork_brings : (next : Option ℕ) → p ≤ given k → next_pid_of k.processes.tree q ≡ next → Brings FORK (Some (fork_to next k q))
  fork_brings None old is = same FORK
  fork_brings (Some child) old is =
      let made = (room_below k.processes.tree q child is).1 in
      quiet k (with_fork k q child) p FORK (record {
        looks = put_looks k.io.fds child (slots_at k.io.fds.processes q) p (λ e. absurd (omega (arith, old, made, e)));
        ends = λ one. omega arith;
        bytes = λ pipe. refl;
        room = λ pipe here. refl;
      }) (joined_children k.processes.tree q p) (joined_zombies k.processes.tree q p) refl

  -- an end, which may bring a child's end, or that of the last holder of a pipe's other end
  end_leaves_waiting : (e : End) → is_live k p ≡ true → LeavesWaiting k (with_end k q e) p
  end_leaves_waiting e live = by_live (is_live k q)
    where
      by_live : (b : Bool) → LeavesWaiting k (cond b (record k { io = all_closed k.io q; processes = ended_in k.processes q e }) k) p
      by_live true = record { looks = closing_looks k.io q p other; children = ended_children k.processes.tree p q e other live }
      by_live false = record { looks = looks_same k.io.fds p; children = children_same k.processes.tree p }

  -- but not what is typed
  end_brings_no_input : (e : End) → has_come ForInput k p ≡ false → has_come ForInput (with_end k q e) p ≡ false
  end_brings_no_input e h = by_live (is_live k q)
    where
      by_live : (b : Bool) → has_come ForInput (cond b (record k { io = all_closed k.io q; processes = ended_in k.processes q e }) k) p ≡ false
      by_live true = h
      by_live false = h

  -- and of children only the parent's own
  end_brings_no_child : (e : End) → is_live k p ≡ true → parent_of k.processes.tree q ≢ p → has_come ForChild k p ≡ false → has_come ForChild (with_end k q e) p ≡ false
  end_brings_no_child e live foreign h = by_live (is_live k q)
    where
      from : (n : ℕ) → live_at k.processes.tree n ≡ true → 1 ≤ n
      from zero l = absurd (false≢true l)
      from (suc n) l = omega arith

      by_live : (b : Bool) → has_come ForChild (cond b (record k { io = all_closed k.io q; processes = ended_in k.processes q e }) k) p ≡ false
      by_live true = child_wait k (record k { io = all_closed k.io q; processes = ended_in k.processes q e }) p (ended_zombies k.processes.tree p q e (from p live) foreign) h
      by_live false = h

  exit_brings : (e : End) → is_live k p ≡ true → BringsFor k (with_end k q e) p EXIT
  exit_brings e live = record { waiting = end_leaves_waiting e live; come = λ w here bring h. by_kind w bring h }
    where
      by_kind : (w : Waiting) → may_bring w EXIT ≡ false → has_come w k p ≡ false → has_come w (with_end k q e) p ≡ false
      by_kind ForChild bring h = absurd (false≢true (sym bring))
      by_kind ForInput bring h = end_brings_no_input e h
      by_kind (ForBytes pipe) bring h = absurd (false≢true (sym bring))
      by_kind (ForRoom pipe) bring h = absurd (false≢true (sym bring))

  close_brings : (fd : ℕ) → BringsFor k (record k { io = (close_result k.io q fd).io }) p CLOSE
  close_brings fd = record {
    waiting = record { looks = close_call_looks k.io q fd p other; children = children_same k.processes.tree p };
    come = λ w here bring h. by_kind w bring h;
  }
    where
      by_kind : (w : Waiting) → may_bring w CLOSE ≡ false → has_come w k p ≡ false → has_come w (record k { io = (close_result k.io q fd).io }) p ≡ false
      by_kind ForChild bring h = h
      by_kind ForInput bring h = h
      by_kind (ForBytes pipe) bring h = absurd (false≢true (sym bring))
      by_kind (ForRoom pipe) bring h = absurd (false≢true (sym bring))

  -- the tree stays
  abbrev SameTree : ProcessDone → Type 0
  SameTree done = done.table.tree ≡ k.processes.tree

  tree_by : (b : Bool) (x y : ProcessDone) → SameTree x → SameTree y → SameTree (cond b x y)
  tree_by true x y f g = f
  tree_by false x y f g = g

  kill_tree : (target signal : ℕ) → SameTree (kill_result k.processes q target signal)
  kill_tree target signal =
      tree_by (not (signal == 0) && not (is_signal_number signal)) _ _ refl
      (tree_by (live_at k.processes.tree target || zombie_at k.processes.tree target) _ _
      (tree_by (signal == 0) _ _ refl (tree_raised k.processes target signal)) refl)

  sigact_tree : (signal handler restorer : ℕ) → SameTree (sigact_result k.processes q signal handler restorer)
  sigact_tree signal handler restorer = tree_by (is_signal_number signal && not (signal == SIGKILL)) _ _ refl refl

  -- ---- all calls

  row : (number this : ℕ) (x y : Option Called) → Brings this x → ((number == this) ≡ false → Brings number y) → Brings number (cond (number == this) x y)
  row number this x y f g =
      elim (cases_Bool (number == this)) [
        | inl e ↦
            let here : Brings number x = subst (λ n. Brings n x) (sym (eqb-true number this e)) f in
            subst (λ b. Brings number (cond b x y)) (sym e) here
        | inr e ↦ subst (λ b. Brings number (cond b x y)) (sym e) (g e)
      ]

  row_brings : (number : ℕ) (args bytes : List ℕ) → is_live k p ≡ true → p ≤ given k → Brings number (call_row number k q args bytes)
  unfolding call_row
  row_brings number args bytes live old =
      row number EXIT _ _ (exit_brings _ live) (λ _.
      row number GETPPID _ _ (same GETPPID) (λ _.
      row number FORK _ _ (fork_brings (next_pid_of k.processes.tree q) old refl) (λ _.
      row number WAIT _ _ (wait_brings (lowest_zombie k.processes.tree q) (slice_index args 0) refl) (λ _.
      row number OPEN _ _ (quiet_io k _ p OPEN (open_call_still k.io q (slice_index args 1) bytes (slice_index args 2) p other) refl refl) (λ _.
      row number CLOSE _ _ (close_brings (slice_index args 0)) (λ _.
      row number READ _ _ (read_brings (look_at k.io.fds q (slice_index args 0)) (slice_index args 0) (slice_index args 2)) (λ _.
      row number WRITE _ _ (write_brings (look_at k.io.fds q (slice_index args 0)) (slice_index args 0) bytes) (λ _.
      row number LSEEK _ _ (quiet_io k _ p LSEEK (seek_call_still k.io q (slice_index args 0) (slice_index args 1) (slice_index args 2) p) refl refl) (λ _.
      row number PIPE _ _ (quiet_io k _ p PIPE (pipe_call_still k.io q p other) refl refl) (λ _.
      row number DUP _ _ (quiet_io k _ p DUP (dup_call_still k.io q (slice_index args 0) p other) refl refl) (λ _.
      row number UNLINK _ _ (quiet_io k _ p UNLINK (unlink_call_still k.io (slice_index args 1) bytes p) refl refl) (λ _.
      row number KILL _ _ (unmoved k _ p KILL refl (kill_tree (slice_index args 0) (slice_index args 1)) refl) (λ _.
      row number SIGACT _ _ (unmoved k _ p SIGACT refl (sigact_tree (slice_index args 0) (slice_index args 1) (slice_index args 2)) refl) (λ _.
      row number SIGRETURN _ _ (unmoved k _ p SIGRETURN refl refl refl) (λ _.
      row number SIGMASK _ _ (unmoved k _ p SIGMASK refl refl refl) (λ _.
      row number YIELD _ _ (same YIELD) (λ _. same number)))))))))))))))))

-- a process that lives was given
pub live_given : (k : KernelState) (p : ℕ) → is_live k p ≡ true → p ≤ given k
live_given k zero live = absurd (false≢true live)
live_given k (suc i) live = by_place k.processes.tree i live
  where
    by_place : (tree : List Process) (j : ℕ) → live_at tree (suc j) ≡ true → suc j ≤ length tree
    by_place [] j l = absurd (false≢true l)
    by_place (x ∷ tree) zero l = omega arith
    by_place (x ∷ tree) (suc j) l = let rest = by_place tree j l in omega (arith, rest)

pub call_brings : (k : KernelState) (p q : ℕ) (asked : Request) (called : Called) → is_live k p ≡ true → p ≢ q → call_result k q asked ≡ Some called → BringsFor k called.kernel p asked.number
call_brings k p q asked called live other e =
    subst (Brings k p q other asked.number) e (row_brings k p q other asked.number asked.args asked.bytes live (live_given k p live))

-- a raised signal brings nothing
pub raise_brings : (k : KernelState) (p target signal number : ℕ) → BringsFor k (with_raised k target signal) p number
raise_brings k p target signal number = unmoved k (with_raised k target signal) p number refl (tree_raised k.processes target signal) refl

-- ---- of an end, a taken signal, a raised one and of input

pub end_waiting : (k : KernelState) (p q : ℕ) (e : End) → is_live k p ≡ true → p ≢ q → LeavesWaiting k (with_end k q e) p
end_waiting k p q e live other = end_leaves_waiting k p q other e live

pub end_no_input : (k : KernelState) (p q : ℕ) (e : End) → p ≢ q → has_come ForInput k p ≡ false → has_come ForInput (with_end k q e) p ≡ false
end_no_input k p q e other h = end_brings_no_input k p q other e h

pub end_no_child : (k : KernelState) (p q : ℕ) (e : End) → is_live k p ≡ true → p ≢ q → parent_of k.processes.tree q ≢ p → has_come ForChild k p ≡ false → has_come ForChild (with_end k q e) p ≡ false
end_no_child k p q e live other foreign h = end_brings_no_child k p q other e live foreign h

taken_waiting : (k : KernelState) (p q : ℕ) (t : Taken) → is_live k p ≡ true → p ≢ q → LeavesWaiting k (after_taken k q t).kernel p
taken_waiting k p q (Dies signal) live other = end_waiting k p q (Signal signal) live other
taken_waiting k p q (Enters signal handler restorer mask) live other = record { looks = looks_same k.io.fds p; children = children_same k.processes.tree p }

took_waiting : (k : KernelState) (p q : ℕ) (t : Took) → is_live k p ≡ true → p ≢ q → LeavesWaiting k (after_took k q t).kernel p
took_waiting k p q t live other = let new = taken_waiting (record k { processes = with_left k.processes q t.left }) p q t.taken live other in record { looks = new.looks; children = new.children }

abbrev TakenWaiting : KernelState → ℕ → Option AfterTake → Type 0
TakenWaiting k p None = Unit {0}
TakenWaiting k p (Some after) = LeavesWaiting k after.kernel p

pub take_waiting : (k : KernelState) (p q : ℕ) (room : Bool) (after : AfterTake) → is_live k p ≡ true → p ≢ q → take_result k q room ≡ Some after → LeavesWaiting k after.kernel p
take_waiting k p q room after live other e = subst (TakenWaiting k p) e (by_took (take_at k.processes q room))
  where
    by_took : (o : Option Took) → TakenWaiting k p (option_map (after_took k q) o)
    by_took None = tt
    by_took (Some t) = took_waiting k p q t live other

pub raise_waiting : (k : KernelState) (p q signal : ℕ) → LeavesWaiting k (with_raised k q signal) p
raise_waiting k p q signal = (raise_brings k p q signal YIELD).waiting

pub raise_no_waiting : (k : KernelState) (p q signal : ℕ) (waiting : Waiting) → HasPipe waiting k → has_come waiting k p ≡ false → has_come waiting (with_raised k q signal) p ≡ false
raise_no_waiting k p q signal waiting here h = (raise_brings k p q signal YIELD).come waiting here (none_by waiting) h
  where
    none_by : (w : Waiting) → may_bring w YIELD ≡ false
    none_by ForChild = refl
    none_by ForInput = refl
    none_by (ForBytes pipe) = refl
    none_by (ForRoom pipe) = refl

pub typed_no_waiting : (k : KernelState) (p : ℕ) (input : Input) (waiting : Waiting) → waiting ≢ ForInput → has_come waiting k p ≡ false → has_come waiting (record k { input = input }) p ≡ false
typed_no_waiting k p input ForChild other h = h
typed_no_waiting k p input ForInput other h = absurd (other refl)
typed_no_waiting k p input (ForBytes pipe) other h = h
typed_no_waiting k p input (ForRoom pipe) other h = h
