-- How many pids were given, after each step on processes.
use Rattle.std.proofs.Common.{◌≡◌, ℕ, zero, suc, ◌+◌, ◌==◌, ◌&&◌, ◌||◌, not, nat_le, Bool, true, false, cond, List, length, map, slice_index, Option, Some, None, refl, ap, ◌∙◌, arith}
use Rattle.std.proofs.lemmas.List.{length-set, length-map, length_push}
use Rattle.call_table.specs.Calls.{is_signal_number}
use Rattle.call_table.specs.declared.call.TheConstants.{EXIT, GETPPID, FORK, WAIT, OPEN, CLOSE, READ, WRITE, LSEEK, PIPE, DUP, UNLINK, KILL, SIGACT, SIGRETURN, SIGMASK, YIELD}
use Rattle.call_table.specs.declared.error.TheConstants.{ECHILD}
use Rattle.call_table.specs.declared.limit.TheConstants.{FILE_BYTES}
use Rattle.call_table.specs.declared.signal.TheConstants.{SIGKILL, SIGPIPE}
use Rattle.call_table.specs.declared.process.End.{End}
use Rattle.call_table.specs.declared.request.Request.{Request}
use Rattle.fd_table.specs.Descriptors.{look_at, end_count}
use Rattle.fd_table.specs.declared.description.Look.{Look}
use Rattle.fd_table.specs.declared.description.Target.{Target}
use Rattle.fd_table.specs.declared.description.Target.TheVariants.{TermIn, TermOut, File, ReadEnd, WriteEnd}
use Rattle.pipe_table.specs.Table.{bytes_at, room_at}
use Rattle.proc_tree.specs.declared.process.Process.{Process}
use Rattle.proc_tree.specs.Processes.{parted_from}
use Rattle.proc_tree.specs.Tree.{live_at, zombie_at, replaced, with_end as tree_end, reaped, next_pid_of, lowest_zombie, has_child_of}
use Rattle.signal_set.specs.Signals.{SignalState}
use Rattle.kernel_spec.specs.Pids.{at_pid}
use Rattle.kernel_spec.specs.Processes.{ProcessTable, ProcessDone, raised_at, ended_in, joined, kill_result, sigact_result}
use Rattle.kernel_spec.specs.Io.{all_closed}
use Rattle.kernel_spec.specs.Kernel.{KernelState, Called, given, is_live, with_end, answers}
use Rattle.kernel_spec.specs.Calls.{GivesPids, call_result, call_row, fork_to, inherited, wait_for, read_input, read_pipe, read_in, read_at, can_read, room_of, write_pipe, write_in, write_at, can_write}

length-replaced : (tree : List Process) (pid : ℕ) (x : Option Process) → length (replaced tree pid x) ≡ length tree
length-replaced tree pid None = refl
length-replaced tree zero (Some x) = refl
length-replaced tree (suc i) (Some x) = length-set tree i x

pub length-with_end : (tree : List Process) (pid : ℕ) (e : End) → length (tree_end tree pid e) ≡ length tree
length-with_end tree pid e = length-replaced (map (parted_from pid) tree) pid _ ∙ length-map tree (parted_from pid)

pub length-reaped : (tree : List Process) (child : ℕ) → length (reaped tree child) ≡ length tree
length-reaped tree child = length-replaced tree child _

tree_by : (b : Bool) (p q : ProcessTable) → q.tree ≡ p.tree → (cond b q p).tree ≡ p.tree
tree_by true p q h = h
tree_by false p q h = refl

pub tree_raised : (p : ProcessTable) (pid signal : ℕ) → (raised_at p pid signal).tree ≡ p.tree
tree_raised p pid signal = tree_by (live_at p.tree pid) p _ refl

pub given_ended : (p : ProcessTable) (pid : ℕ) (e : End) → length (ended_in p pid e).tree ≡ length p.tree
given_ended p pid e = length-with_end p.tree pid e

pub given_joined : (p : ProcessTable) (parent : ℕ) (state : SignalState) → length (joined p parent state).tree ≡ length p.tree + 1
given_joined p parent state = length_push p.tree _

-- ---- of each call

pub given_end : (k : KernelState) (pid : ℕ) (e : End) → given (with_end k pid e) ≡ given k
given_end k pid e = by_live (is_live k pid)
  where
    by_live : (b : Bool) → given (cond b (record k { io = all_closed k.io pid; processes = ended_in k.processes pid e }) k) ≡ given k
    by_live true = given_ended k.processes pid e
    by_live false = refl

plain : (n m : ℕ) → m ≡ n → m ≡ n + 0
plain n m h = omega (arith, h)

either : (b : Bool) (x y : Option Called) (n : ℕ) → GivesPids x n → GivesPids y n → GivesPids (cond b x y) n
either true x y n p q = p
either false x y n p q = q

same : (k : KernelState) → given k ≡ given k + 0
same k = omega arith

fork_gives : (next : Option ℕ) (k : KernelState) (pid : ℕ) → GivesPids (Some (fork_to next k pid)) (given k)
fork_gives None k pid = same k
fork_gives (Some child) k pid = given_joined k.processes pid (inherited (at_pid k.processes.signals pid))

wait_gives : (zombie : Option ℕ) (k : KernelState) (pid status : ℕ) → GivesPids (wait_for zombie k pid status) (given k)
wait_gives None k pid status = either (has_child_of k.processes.tree pid) None (Some (answers k ECHILD)) (given k) tt (same k)
wait_gives (Some child) k pid status = plain (given k) _ (length-reaped k.processes.tree child)

typed_gives : (k : KernelState) (len : ℕ) → GivesPids (read_input k len) (given k)
typed_gives k len = either (length k.input.bytes == 0) _ _ (given k) (either k.input.ended _ None (given k) (same k) tt) (same k)

pipe_gives : (k : KernelState) (pipe len : ℕ) → GivesPids (read_pipe k pipe len) (given k)
pipe_gives k pipe len = either (length (bytes_at k.io.pipes pipe) == 0) _ _ (given k) (either (end_count (WriteEnd pipe) k.io.fds.descriptions == 0) _ None (given k) (same k) tt) (same k)

read_in_gives : (target : Target) (offset : ℕ) (k : KernelState) (pid fd len : ℕ) → GivesPids (read_in target offset k pid fd len) (given k)
read_in_gives (File id) offset k pid fd len = same k
read_in_gives TermIn offset k pid fd len = typed_gives k len
read_in_gives TermOut offset k pid fd len = same k
read_in_gives (ReadEnd pipe) offset k pid fd len = pipe_gives k pipe len
read_in_gives (WriteEnd pipe) offset k pid fd len = same k

read_gives : (look : Option Look) (k : KernelState) (pid fd len : ℕ) → GivesPids (read_at look k pid fd len) (given k)
read_gives None k pid fd len = same k
read_gives (Some look) k pid fd len =
    either (can_read look) _ _ (given k) (either (len == 0) _ _ (given k) (same k) (read_in_gives look.target look.offset k pid fd len)) (same k)

called_by : (b : Bool) (x y : Called) (n : ℕ) → GivesPids (Some x) n → GivesPids (Some y) n → GivesPids (Some (cond b x y)) n
called_by true x y n p q = p
called_by false x y n p q = q

into_pipe_gives : (k : KernelState) (pid pipe : ℕ) (bytes : List ℕ) → GivesPids (write_pipe k pid pipe bytes) (given k)
into_pipe_gives k pid pipe bytes =
    either (end_count (ReadEnd pipe) k.io.fds.descriptions == 0) _ _ (given k) (plain (given k) _ (ap (λ (t : List Process). length t) (tree_raised k.processes pid SIGPIPE)))
    (either (room_at k.io.pipes pipe == 0) None _ (given k) tt (same k))

write_in_gives : (target : Target) (offset : ℕ) (k : KernelState) (pid fd : ℕ) (bytes : List ℕ) → GivesPids (write_in target offset k pid fd bytes) (given k)
write_in_gives (File id) offset k pid fd bytes = called_by (nat_le FILE_BYTES offset) _ _ (given k) (same k) (same k)
write_in_gives TermOut offset k pid fd bytes = called_by (room_of k.terminal == 0) _ _ (given k) (same k) (same k)
write_in_gives TermIn offset k pid fd bytes = same k
write_in_gives (ReadEnd pipe) offset k pid fd bytes = same k
write_in_gives (WriteEnd pipe) offset k pid fd bytes = into_pipe_gives k pid pipe bytes

write_gives : (look : Option Look) (k : KernelState) (pid fd : ℕ) (bytes : List ℕ) → GivesPids (write_at look k pid fd bytes) (given k)
write_gives None k pid fd bytes = same k
write_gives (Some look) k pid fd bytes =
    either (can_write look) _ _ (given k) (either (length bytes == 0) _ _ (given k) (same k) (write_in_gives look.target look.offset k pid fd bytes)) (same k)

done_by : (b : Bool) (x y : ProcessDone) (n : ℕ) → length x.table.tree ≡ n → length y.table.tree ≡ n → length (cond b x y).table.tree ≡ n
done_by true x y n p q = p
done_by false x y n p q = q

kill_keeps : (p : ProcessTable) (pid target signal : ℕ) → length (kill_result p pid target signal).table.tree ≡ length p.tree
kill_keeps p pid target signal =
    done_by (not (signal == 0) && not (is_signal_number signal)) _ _ (length p.tree) refl
    (done_by (live_at p.tree target || zombie_at p.tree target) _ _ (length p.tree)
    (done_by (signal == 0) _ _ (length p.tree) refl (ap (λ (t : List Process). length t) (tree_raised p target signal))) refl)

sigact_keeps : (p : ProcessTable) (pid signal handler restorer : ℕ) → length (sigact_result p pid signal handler restorer).table.tree ≡ length p.tree
sigact_keeps p pid signal handler restorer = done_by (is_signal_number signal && not (signal == SIGKILL)) _ _ (length p.tree) refl refl

row_gives : (number : ℕ) (k : KernelState) (pid : ℕ) (args bytes : List ℕ) → GivesPids (call_row number k pid args bytes) (given k)
unfolding call_row
row_gives number k pid args bytes =
    let n = given k in
    either (number == EXIT) _ _ n (plain n _ (given_end k pid _))
    (either (number == GETPPID) _ _ n (same k)
    (either (number == FORK) _ _ n (fork_gives (next_pid_of k.processes.tree pid) k pid)
    (either (number == WAIT) _ _ n (wait_gives (lowest_zombie k.processes.tree pid) k pid (slice_index args 0))
    (either (number == OPEN) _ _ n (same k)
    (either (number == CLOSE) _ _ n (same k)
    (either (number == READ) _ _ n (read_gives (look_at k.io.fds pid (slice_index args 0)) k pid (slice_index args 0) (slice_index args 2))
    (either (number == WRITE) _ _ n (write_gives (look_at k.io.fds pid (slice_index args 0)) k pid (slice_index args 0) bytes)
    (either (number == LSEEK) _ _ n (same k)
    (either (number == PIPE) _ _ n (same k)
    (either (number == DUP) _ _ n (same k)
    (either (number == UNLINK) _ _ n (same k)
    (either (number == KILL) _ _ n (plain n _ (kill_keeps k.processes pid (slice_index args 0) (slice_index args 1)))
    (either (number == SIGACT) _ _ n (plain n _ (sigact_keeps k.processes pid (slice_index args 0) (slice_index args 1) (slice_index args 2)))
    (either (number == SIGRETURN) _ _ n (same k)
    (either (number == SIGMASK) _ _ n (same k)
    (either (number == YIELD) _ _ n (same k) (same k)))))))))))))))))

-- a fork gives one pid, and no other call gives or takes one
pub call_gives : (k : KernelState) (pid : ℕ) (asked : Request) → GivesPids (call_result k pid asked) (given k)
call_gives k pid asked = row_gives asked.number k pid asked.args asked.bytes
