-- What a call of one process leaves of the others.
use Rattle.std.proofs.Common.{◌≡◌, ◌≢◌, ℕ, ◌+◌, ◌==◌, ◌&&◌, ◌||◌, not, nat_le, Bool, true, false, cond, pos, List, length, slice_index, Option, Some, None, refl, ap, subst, sym, inl, inr, ◌∙◌}
use Rattle.std.proofs.lemmas.Bool.{cases_Bool, eqb-true, eqb-false}
use Rattle.std.proofs.lemmas.Option.{none-some, same_Some}
use Rattle.call_table.specs.Calls.{is_signal_number}
use Rattle.call_table.specs.declared.call.TheConstants.{EXIT, GETPPID, FORK, WAIT, OPEN, CLOSE, READ, WRITE, LSEEK, PIPE, DUP, UNLINK, KILL, SIGACT, SIGRETURN, SIGMASK, YIELD}
use Rattle.call_table.specs.declared.error.TheConstants.{ECHILD}
use Rattle.call_table.specs.declared.limit.TheConstants.{FILE_BYTES}
use Rattle.call_table.specs.declared.signal.TheConstants.{SIGKILL, SIGPIPE}
use Rattle.call_table.specs.declared.process.End.{End}
use Rattle.call_table.specs.declared.request.Request.{Request}
use Rattle.call_table.specs.declared.request.Answer.{Answer}
use Rattle.fd_table.specs.Descriptors.{look_at, end_count}
use Rattle.fd_table.specs.declared.description.Look.{Look}
use Rattle.fd_table.specs.declared.description.Target.{Target}
use Rattle.fd_table.specs.declared.description.Target.TheVariants.{TermIn, TermOut, File, ReadEnd, WriteEnd}
use Rattle.pipe_table.specs.Table.{bytes_at, room_at}
use Rattle.proc_tree.specs.Tree.{live_at, zombie_at, next_pid_of, lowest_zombie, has_child_of}
use Rattle.signal_set.specs.Signals.{SignalState}
use Rattle.kernel_spec.specs.Pids.{at_pid, changed_pid}
use Rattle.kernel_spec.specs.Io.{all_closed}
use Rattle.kernel_spec.specs.Processes.{ProcessTable, ProcessDone, raised_at, lowest_at, heeding, heeding_other, parent_raised, ended_in, kill_result, sigact_result}
use Rattle.kernel_spec.specs.Kernel.{KernelState, Called, given, is_live, with_end, with_raised, raised_by_end, answers}
use Rattle.kernel_spec.specs.Calls.{call_result, call_row, fork_to, with_fork, inherited, without_zombie, wait_for, read_input, read_pipe, read_in, read_at, can_read, room_of, write_pipe, write_in, write_at, can_write}
use Rattle.kernel_spec.specs.Others.{LeavesOthers, LeavesProcesses, child_after, is_at}
use Rattle.kernel_spec.proofs.GivenLemmas.{given_ended, given_joined, length-reaped, tree_raised}
use Rattle.kernel_spec.proofs.TreeFacts.{live_ended, live_reaped, live_joined, live_new, room_below}
use Rattle.kernel_spec.proofs.SignalFacts.{lowest_same, live_raised, raised_other, quiet_raised, quiet_ended, quiet_joined, inherits_none, quiet_changed}

-- ---- steps without a child

-- the processes stay as they are
pub untouched : (k new : KernelState) (p : ℕ) → new.processes ≡ k.processes → LeavesOthers k new p None None
untouched k new p e = record {
  count = ap (λ (t : ProcessTable). length t.tree) e;
  live = λ q other child. ap (λ (t : ProcessTable). live_at t.tree q) e;
  quiet = λ q other child elsewhere. ap (λ (t : ProcessTable). lowest_at t q) e;
}

-- the signals of p alone are written anew
changed_signals : (k new : KernelState) (p : ℕ) (change : SignalState → SignalState) → new.processes ≡ record k.processes { signals = changed_pid change k.processes.signals p } → LeavesOthers k new p None None
changed_signals k new p change e = record {
  count = ap (λ (t : ProcessTable). length t.tree) e;
  live = λ q other child. ap (λ (t : ProcessTable). live_at t.tree q) e;
  quiet = λ q other child elsewhere. ap (λ (t : ProcessTable). lowest_at t q) e ∙ quiet_changed k.processes p change q other;
}

-- the end of p
pub end_leaves : (k : KernelState) (p : ℕ) (e : End) → LeavesOthers k (with_end k p e) p None (raised_by_end k p)
end_leaves k p e = by_live (is_live k p)
  where
    by_live : (b : Bool) → LeavesOthers k (cond b (record k { io = all_closed k.io p; processes = ended_in k.processes p e }) k) p None (cond b (parent_raised k.processes p) None)
    by_live true = record {
      count = given_ended k.processes p e;
      live = λ q other child. live_ended k.processes.tree p e q other;
      quiet = λ q other child elsewhere. quiet_ended k.processes p e q other elsewhere;
    }
    by_live false = untouched k k p refl

-- a signal is raised at p itself
pub raise_leaves : (k : KernelState) (p signal : ℕ) → LeavesOthers k (with_raised k p signal) p None None
raise_leaves k p signal = record {
  count = ap (λ (t : List _). length t) (tree_raised k.processes p signal);
  live = λ q other child. live_raised k.processes p signal q;
  quiet = λ q other child elsewhere. raised_other k.processes p signal q other;
}

-- ---- calls

abbrev Leaves : KernelState → ℕ → Option Called → Type 0
Leaves k p None = Unit {0}
Leaves k p (Some called) = LeavesProcesses k p called

childless : (k new : KernelState) (p : ℕ) (answer : Answer) (raised : Option ℕ) → child_after answer.kind (given k) ≡ None → LeavesOthers k new p None raised → LeavesProcesses k p (record { kernel = new; answer = answer; raised = raised })
childless k new p answer raised none leaves = record {
  others = subst (λ child. LeavesOthers k new p child raised) (sym none) leaves;
  told = λ c e. absurd (none-some c (sym none ∙ e));
  child = λ c e. absurd (none-some c (sym none ∙ e));
  few = λ c e. absurd (none-some c (sym none ∙ e));
}

-- an answer, with the processes as they are
still : (k new : KernelState) (p : ℕ) (answer : Answer) → child_after answer.kind (given k) ≡ None → new.processes ≡ k.processes → Leaves k p (Some (record { kernel = new; answer = answer; raised = None }))
still k new p answer none e = childless k new p answer None none (untouched k new p e)

either : (k : KernelState) (p : ℕ) (b : Bool) (x y : Option Called) → Leaves k p x → Leaves k p y → Leaves k p (cond b x y)
either k p true x y f g = f
either k p false x y f g = g

called_by : (k : KernelState) (p : ℕ) (b : Bool) (x y : Called) → Leaves k p (Some x) → Leaves k p (Some y) → Leaves k p (Some (cond b x y))
called_by k p true x y f g = f
called_by k p false x y f g = g

fork_leaves : (next : Option ℕ) (k : KernelState) (p : ℕ) → next_pid_of k.processes.tree p ≡ next → Leaves k p (Some (fork_to next k p))
fork_leaves None k p is = still k k p _ refl refl
fork_leaves (Some child) k p is = record {
  others = record {
    count = given_joined k.processes p (inherited (at_pid k.processes.signals p));
    live = λ q other elsewhere. live_joined k.processes.tree p q (not_child q elsewhere);
    quiet = λ q other elsewhere unraised. quiet_joined k.processes p (inherited (at_pid k.processes.signals p)) q (inherits_none (at_pid k.processes.signals p)) (not_child q elsewhere);
  };
  told = λ c e. ap pos ((room_below k.processes.tree p child is).1 ∙ same_Some (given k + 1) c e);
  child = λ c e. subst (λ (n : ℕ). is_live (with_fork k p child) n ≡ true) (same_Some (given k + 1) c e) (live_new k.processes.tree p);
  few = λ c e. (room_below k.processes.tree p child is).0;
}
  where
    not_child : (q : ℕ) → (given k + 1 == q) ≡ false → q ≢ given k + 1
    not_child q elsewhere e = eqb-false (given k + 1) q elsewhere (sym e)

wait_leaves : (zombie : Option ℕ) (k : KernelState) (p status : ℕ) → Leaves k p (wait_for zombie k p status)
wait_leaves None k p status = either k p (has_child_of k.processes.tree p) None (Some (answers k ECHILD)) tt (still k k p _ refl refl)
wait_leaves (Some child) k p status = childless k (without_zombie k child) p _ None refl (record {
  count = length-reaped k.processes.tree child;
  live = λ q other elsewhere. live_reaped k.processes.tree child q;
  quiet = λ q other elsewhere unraised. lowest_same k.processes (without_zombie k child).processes q (live_reaped k.processes.tree child q) refl;
})

typed_leaves : (k : KernelState) (p len : ℕ) → Leaves k p (read_input k len)
typed_leaves k p len = either k p (length k.input.bytes == 0) _ _ (either k p k.input.ended _ None (still k _ p _ refl refl) tt) (still k _ p _ refl refl)

pipe_leaves : (k : KernelState) (p pipe len : ℕ) → Leaves k p (read_pipe k pipe len)
pipe_leaves k p pipe len =
    either k p (length (bytes_at k.io.pipes pipe) == 0) _ _
    (either k p (end_count (WriteEnd pipe) k.io.fds.descriptions == 0) _ None (still k _ p _ refl refl) tt) (still k _ p _ refl refl)

read_in_leaves : (target : Target) (offset : ℕ) (k : KernelState) (p fd len : ℕ) → Leaves k p (read_in target offset k p fd len)
read_in_leaves (File id) offset k p fd len = still k _ p _ refl refl
read_in_leaves TermIn offset k p fd len = typed_leaves k p len
read_in_leaves TermOut offset k p fd len = still k _ p _ refl refl
read_in_leaves (ReadEnd pipe) offset k p fd len = pipe_leaves k p pipe len
read_in_leaves (WriteEnd pipe) offset k p fd len = still k _ p _ refl refl

read_leaves : (look : Option Look) (k : KernelState) (p fd len : ℕ) → Leaves k p (read_at look k p fd len)
read_leaves None k p fd len = still k _ p _ refl refl
read_leaves (Some look) k p fd len =
    either k p (can_read look) _ _
    (either k p (len == 0) _ _ (still k _ p _ refl refl) (read_in_leaves look.target look.offset k p fd len)) (still k _ p _ refl refl)

into_pipe_leaves : (k : KernelState) (p pipe : ℕ) (bytes : List ℕ) → Leaves k p (write_pipe k p pipe bytes)
into_pipe_leaves k p pipe bytes =
    either k p (end_count (ReadEnd pipe) k.io.fds.descriptions == 0) _ _
    (childless k (with_raised k p SIGPIPE) p _ None refl (raise_leaves k p SIGPIPE))
    (either k p (room_at k.io.pipes pipe == 0) None _ tt (still k _ p _ refl refl))

write_in_leaves : (target : Target) (offset : ℕ) (k : KernelState) (p fd : ℕ) (bytes : List ℕ) → Leaves k p (write_in target offset k p fd bytes)
write_in_leaves (File id) offset k p fd bytes = called_by k p (nat_le FILE_BYTES offset) _ _ (still k _ p _ refl refl) (still k _ p _ refl refl)
write_in_leaves TermOut offset k p fd bytes = called_by k p (room_of k.terminal == 0) _ _ (still k _ p _ refl refl) (still k _ p _ refl refl)
write_in_leaves TermIn offset k p fd bytes = still k _ p _ refl refl
write_in_leaves (ReadEnd pipe) offset k p fd bytes = still k _ p _ refl refl
write_in_leaves (WriteEnd pipe) offset k p fd bytes = into_pipe_leaves k p pipe bytes

write_leaves : (look : Option Look) (k : KernelState) (p fd : ℕ) (bytes : List ℕ) → Leaves k p (write_at look k p fd bytes)
write_leaves None k p fd bytes = still k _ p _ refl refl
write_leaves (Some look) k p fd bytes =
    either k p (can_write look) _ _
    (either k p (length bytes == 0) _ _ (still k _ p _ refl refl) (write_in_leaves look.target look.offset k p fd bytes)) (still k _ p _ refl refl)

-- ---- calls on processes alone

abbrev done_in : KernelState → ProcessDone → KernelState
done_in k done = record k { processes = done.table }

abbrev DoneLeaves : KernelState → ℕ → ProcessDone → Type 0
DoneLeaves k p done = LeavesOthers k (done_in k done) p None done.raised

done_by : (k : KernelState) (p : ℕ) (b : Bool) (x y : ProcessDone) → DoneLeaves k p x → DoneLeaves k p y → DoneLeaves k p (cond b x y)
done_by k p true x y f g = f
done_by k p false x y f g = g

-- a raised signal counts at another process alone
raised_by : (k : KernelState) (p target signal : ℕ) → DoneLeaves k p (record { table = raised_at k.processes target signal; value = pos 0; raised = heeding_other k.processes p target signal })
raised_by k p target signal = record {
  count = ap (λ (t : List _). length t) (tree_raised k.processes target signal);
  live = λ q other elsewhere. live_raised k.processes target signal q;
  quiet = λ q other elsewhere unraised. elim (cases_Bool (target == p)) [
    | inl own ↦ raised_other k.processes target signal q (λ e. other (e ∙ eqb-true target p own))
    | inr foreign ↦ quiet_raised k.processes target signal q (ap (λ b. is_at (cond b None (heeding k.processes target signal)) q) (sym foreign) ∙ unraised)
  ];
}

kill_leaves : (k : KernelState) (p target signal : ℕ) → DoneLeaves k p (kill_result k.processes p target signal)
kill_leaves k p target signal =
    let same = untouched k k p refl in
    done_by k p (not (signal == 0) && not (is_signal_number signal)) _ _ same
    (done_by k p (live_at k.processes.tree target || zombie_at k.processes.tree target) _ _
    (done_by k p (signal == 0) _ _ same (raised_by k p target signal)) same)

sigact_leaves : (k : KernelState) (p signal handler restorer : ℕ) → DoneLeaves k p (sigact_result k.processes p signal handler restorer)
sigact_leaves k p signal handler restorer =
    done_by k p (is_signal_number signal && not (signal == SIGKILL)) _ _ (changed_signals k _ p _ refl) (untouched k k p refl)

-- ---- all calls

row_leaves : (number : ℕ) (k : KernelState) (p : ℕ) (args bytes : List ℕ) → Leaves k p (call_row number k p args bytes)
unfolding call_row
row_leaves number k p args bytes =
    let same = λ (new : KernelState) (answer : Answer) (none : child_after answer.kind (given k) ≡ None) (e : new.processes ≡ k.processes). still k new p answer none e in
    either k p (number == EXIT) _ _ (childless k _ p _ _ refl (end_leaves k p _))
    (either k p (number == GETPPID) _ _ (same _ _ refl refl)
    (either k p (number == FORK) _ _ (fork_leaves (next_pid_of k.processes.tree p) k p refl)
    (either k p (number == WAIT) _ _ (wait_leaves (lowest_zombie k.processes.tree p) k p (slice_index args 0))
    (either k p (number == OPEN) _ _ (same _ _ refl refl)
    (either k p (number == CLOSE) _ _ (same _ _ refl refl)
    (either k p (number == READ) _ _ (read_leaves (look_at k.io.fds p (slice_index args 0)) k p (slice_index args 0) (slice_index args 2))
    (either k p (number == WRITE) _ _ (write_leaves (look_at k.io.fds p (slice_index args 0)) k p (slice_index args 0) bytes)
    (either k p (number == LSEEK) _ _ (same _ _ refl refl)
    (either k p (number == PIPE) _ _ (same _ _ refl refl)
    (either k p (number == DUP) _ _ (same _ _ refl refl)
    (either k p (number == UNLINK) _ _ (same _ _ refl refl)
    (either k p (number == KILL) _ _ (childless k _ p _ _ refl (kill_leaves k p (slice_index args 0) (slice_index args 1)))
    (either k p (number == SIGACT) _ _ (childless k _ p _ _ refl (sigact_leaves k p (slice_index args 0) (slice_index args 1) (slice_index args 2)))
    (either k p (number == SIGRETURN) _ _ (childless k _ p _ _ refl (changed_signals k _ p _ refl))
    (either k p (number == SIGMASK) _ _ (childless k _ p _ _ refl (changed_signals k _ p _ refl))
    (either k p (number == YIELD) _ _ (same _ _ refl refl) (same _ _ refl refl)))))))))))))))))

of_called : (k : KernelState) (p : ℕ) (o : Option Called) (called : Called) → Leaves k p o → o ≡ Some called → LeavesProcesses k p called
of_called k p o called leaves e = subst (Leaves k p) e leaves

-- of every call: who else lives, what each other one can take, and its child
pub call_leaves : (k : KernelState) (p : ℕ) (asked : Request) (called : Called) → call_result k p asked ≡ Some called → LeavesProcesses k p called
call_leaves k p asked called e = of_called k p (call_result k p asked) called (row_leaves asked.number k p asked.args asked.bytes) e
