-- A call makes a child exactly where it is a fork that answers so.
use Rattle.std.proofs.Common.{◌≡◌, ℕ, ◌==◌, List, length, slice_index, Option, Some, None, Bool, true, false, cond, refl, subst, arith, nat_le}
use Rattle.call_table.specs.declared.call.TheConstants.{EXIT, GETPPID, FORK, WAIT, OPEN, CLOSE, READ, WRITE, LSEEK, PIPE, DUP, UNLINK, KILL, SIGACT, SIGRETURN, SIGMASK, YIELD}
use Rattle.call_table.specs.declared.error.TheConstants.{ECHILD}
use Rattle.call_table.specs.declared.limit.TheConstants.{FILE_BYTES}
use Rattle.call_table.specs.declared.request.Request.{Request}
use Rattle.call_table.specs.declared.request.Kind.{Kind}
use Rattle.call_table.specs.declared.request.Kind.TheVariants.{Plain, Fork, Return}
use Rattle.fd_table.specs.Descriptors.{look_at, end_count}
use Rattle.fd_table.specs.declared.description.Look.{Look}
use Rattle.fd_table.specs.declared.description.Target.{Target}
use Rattle.fd_table.specs.declared.description.Target.TheVariants.{TermIn, TermOut, File, ReadEnd, WriteEnd}
use Rattle.pipe_table.specs.Table.{bytes_at, room_at}
use Rattle.proc_tree.specs.Tree.{has_child_of, lowest_zombie}
use Rattle.user_spec.specs.User.{UserState}
use Rattle.user_spec.specs.Request.{forked}
use Rattle.kernel_spec.specs.Kernel.{KernelState, Called, answers}
use Rattle.kernel_spec.specs.Calls.{call_result, call_row, read_in, read_at, can_read, write_in, write_at, can_write, room_of, wait_for, children_of}
use Rattle.one_node.specs.Machine.{children}
use Rattle.one_node.specs.Going.{copied_for, HasChild, child_in}

abbrev NoChild : Option Called → Type 0
NoChild None = Unit {0}
NoChild (Some c) = children_of c.answer.kind ≡ 0

either : (b : Bool) (x y : Option Called) → NoChild x → NoChild y → NoChild (cond b x y)
either true x y p q = p
either false x y p q = q

one_of : (b : Bool) (x y : Called) → NoChild (Some x) → NoChild (Some y) → NoChild (Some (cond b x y))
one_of true x y p q = p
one_of false x y p q = q

past : (b : Bool) (x y : Option Called) → b ≡ false → NoChild y → NoChild (cond b x y)
past false x y e q = q
past true x y e q = absurd (cc)

read_target : (target : Target) (offset : ℕ) (k : KernelState) (pid fd len : ℕ) → NoChild (read_in target offset k pid fd len)
read_target (File id) offset k pid fd len = refl
read_target TermIn offset k pid fd len = either (length k.input.bytes == 0) _ _ (either k.input.ended _ None refl tt) refl
read_target TermOut offset k pid fd len = refl
read_target (ReadEnd pipe) offset k pid fd len = either (length (bytes_at k.io.pipes pipe) == 0) _ _ (either (end_count (WriteEnd pipe) k.io.fds.descriptions == 0) _ None refl tt) refl
read_target (WriteEnd pipe) offset k pid fd len = refl

read_look : (look : Option Look) (k : KernelState) (pid fd len : ℕ) → NoChild (read_at look k pid fd len)
read_look None k pid fd len = refl
read_look (Some look) k pid fd len = either (can_read look) _ _ (either (len == 0) _ _ refl (read_target look.target look.offset k pid fd len)) refl

write_target : (target : Target) (offset : ℕ) (k : KernelState) (pid fd : ℕ) (bytes : List ℕ) → NoChild (write_in target offset k pid fd bytes)
write_target (File id) offset k pid fd bytes = one_of (nat_le FILE_BYTES offset) _ _ refl refl
write_target TermOut offset k pid fd bytes = one_of (room_of k.terminal == 0) _ _ refl refl
write_target TermIn offset k pid fd bytes = refl
write_target (ReadEnd pipe) offset k pid fd bytes = refl
write_target (WriteEnd pipe) offset k pid fd bytes = either (end_count (ReadEnd pipe) k.io.fds.descriptions == 0) _ _ refl (either (room_at k.io.pipes pipe == 0) None _ tt refl)

write_look : (look : Option Look) (k : KernelState) (pid fd : ℕ) (bytes : List ℕ) → NoChild (write_at look k pid fd bytes)
write_look None k pid fd bytes = refl
write_look (Some look) k pid fd bytes = either (can_write look) _ _ (either (length bytes == 0) _ _ refl (write_target look.target look.offset k pid fd bytes)) refl

wait_zombie : (zombie : Option ℕ) (k : KernelState) (pid status : ℕ) → NoChild (wait_for zombie k pid status)
wait_zombie None k pid status = either (has_child_of k.processes.tree pid) None (Some (answers k ECHILD)) tt refl
wait_zombie (Some child) k pid status = refl

row_without : (number : ℕ) (k : KernelState) (pid : ℕ) (args bytes : List ℕ) → (number == FORK) ≡ false → NoChild (call_row number k pid args bytes)
unfolding call_row
row_without number k pid args bytes other =
    either (number == EXIT) _ _ refl
    (either (number == GETPPID) _ _ refl
    (past (number == FORK) _ _ other
    (either (number == WAIT) _ _ (wait_zombie (lowest_zombie k.processes.tree pid) k pid (slice_index args 0))
    (either (number == OPEN) _ _ refl
    (either (number == CLOSE) _ _ refl
    (either (number == READ) _ _ (read_look (look_at k.io.fds pid (slice_index args 0)) k pid (slice_index args 0) (slice_index args 2))
    (either (number == WRITE) _ _ (write_look (look_at k.io.fds pid (slice_index args 0)) k pid (slice_index args 0) bytes)
    (either (number == LSEEK) _ _ refl
    (either (number == PIPE) _ _ refl
    (either (number == DUP) _ _ refl
    (either (number == UNLINK) _ _ refl
    (either (number == KILL) _ _ refl
    (either (number == SIGACT) _ _ refl
    (either (number == SIGRETURN) _ _ refl
    (either (number == SIGMASK) _ _ refl
    (either (number == YIELD) _ _ refl refl))))))))))))))))

-- another call than a fork makes no child
pub none_without : (k : KernelState) (pid : ℕ) (asked : Request) (c : Called) → (asked.number == FORK) ≡ false → call_result k pid asked ≡ Some c → children_of c.answer.kind ≡ 0
none_without k pid asked c other h = subst NoChild h (row_without asked.number k pid asked.args asked.bytes other)

abbrev copy_by : Bool → UserState → Option UserState
copy_by b u = cond b (Some (forked u 0)) None

has_by : (b : Bool) (kind : Kind) (u : UserState) → (b ≡ false → children_of kind ≡ 0) → HasChild kind (copy_by b u)
has_by b Plain u h = tt
has_by true Fork u h = refl
has_by false Fork u h = absurd (let e : 1 ≡ 0 = h refl in omega (arith, e))
has_by b Return u h = tt

-- where a child is made its copy is there
pub has_child : (k : KernelState) (pid : ℕ) (asked : Request) (c : Called) (u : UserState) → call_result k pid asked ≡ Some c → HasChild c.answer.kind (copied_for asked.number u)
has_child k pid asked c u h = has_by (asked.number == FORK) c.answer.kind u (λ e. none_without k pid asked c e h)

child_by : (b : Bool) (kind : Kind) (u : UserState) (pid : ℕ) → (b ≡ false → children_of kind ≡ 0) → child_in kind (copy_by b u) pid ≡ children kind u pid
child_by b Plain u pid h = refl
child_by true Fork u pid h = refl
child_by false Fork u pid h = absurd (let e : 1 ≡ 0 = h refl in omega (arith, e))
child_by b Return u pid h = refl

-- and it is the child
pub child_is : (k : KernelState) (pid : ℕ) (asked : Request) (c : Called) (u : UserState) (newest : ℕ) → call_result k pid asked ≡ Some c → child_in c.answer.kind (copied_for asked.number u) newest ≡ children c.answer.kind u newest
child_is k pid asked c u newest h = child_by (asked.number == FORK) c.answer.kind u newest (λ e. none_without k pid asked c e h)
