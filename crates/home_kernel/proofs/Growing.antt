-- What holds of every kernel, after each change of it.
use Rattle.std.proofs.Common.{nat_lt, nat_le, ◌&&◌, cond}
use Rattle.std.specs.Option.{option_map}
use Rattle.std.proofs.lemmas.Option.{cond_some}
use Rattle.call_table.specs.declared.limit.TheConstants.{PROCESSES}
use Rattle.call_table.specs.declared.request.Taken.{Taken}
use Rattle.proc_tree.specs.declared.process.Process.{Process}
use Rattle.proc_tree.specs.Tree.{next_pid_of, present_count, last_pid}
use Rattle.kernel_spec.specs.Processes.{take_at}
use Rattle.kernel_spec.specs.Kernel.{take_result, after_taken, after_took}
use Rattle.home_kernel.specs.Taking.{TakesAt}
use Rattle.std.proofs.Common.{◌≡◌, ◌≢◌, ◌⊎◌, inl, inr, ◌+◌, ◌-◌, ◌<◌, ◌≤◌, ℕ, Bool, true, false, List, [], ◌∷◌, ◌++◌, length, take, Option, Some, None, is_some, IsSome, refl, sym, ap, subst, ◌∙◌, arith}
use Rattle.std.proofs.lemmas.Bool.{cases_eq}
use Rattle.std.proofs.lemmas.List.{get_or_past, length_push}
use Rattle.std.proofs.Math.Seq.{take-append_seam}
use Rattle.call_table.specs.declared.process.End.{End}
use Rattle.call_table.specs.declared.signal.TheConstants.{SIGCHLD}
use Rattle.id_table.specs.Places.{at_id}
use Rattle.fd_table.specs.Descriptors.{FdTable, launched, forked}
use Rattle.fd_table.proofs.EndLemmas.{at_launched, some_launched, length-launched, at_forked, some_forked, length-forked}
use Rattle.signal_set.specs.Signals.{SignalState}
use Rattle.kernel_spec.specs.Io.{IoState}
use Rattle.kernel_spec.specs.Processes.{ProcessTable, joined, ended_in}
use Rattle.kernel_spec.specs.Kernel.{KernelState, given}
use Rattle.kernel_spec.specs.Calls.{fork_io}
use Rattle.kernel_spec.proofs.GivenLemmas.{given_joined, given_ended}
use Rattle.home_kernel.specs.Rules.{IsKernel, AreKept, launched_io}

-- a pid that was not given has no descriptors
pub not_there : (k : KernelState) → IsKernel k → at_id k.io.fds.processes (given k + 1) ≡ None
not_there k h = get_or_past k.io.fds.processes (given k + 1) None h.not_given

pub launched_kernel : (k : KernelState) (parent : ℕ) (state : SignalState) → IsKernel k → IsKernel (record k { io = launched_io k.io (given k + 1); processes = joined k.processes parent state })
launched_kernel k parent state h =
    let more = given_joined k.processes parent state in
    let table = k.io.fds in
    record {
      descriptors = λ pid low high. elim (cases_eq pid (given k + 1)) [
        | inl e ↦ ap is_some (ap (at_id (launched table (given k + 1)).processes) e ∙ at_launched table (given k + 1))
        | inr ne ↦ some_launched table (given k + 1) pid (h.descriptors pid low (omega (arith, high, more, ne)))
      ];
      not_given = omega (arith, length-launched table (given k + 1), h.not_given, more);
      shown = h.shown;
    }

pub forked_kernel : (k : KernelState) (parent : ℕ) (state : SignalState) → IsKernel k → IsKernel (record k { io = fork_io k.io parent (given k + 1); processes = joined k.processes parent state })
forked_kernel k parent state h =
    let more = given_joined k.processes parent state in
    let table = k.io.fds in
    record {
      descriptors = λ pid low high. elim (cases_eq pid (given k + 1)) [
        | inl e ↦ ap is_some (ap (at_id (forked table parent (given k + 1)).processes) e ∙ at_forked table parent (given k + 1))
        | inr ne ↦ some_forked table parent (given k + 1) pid (h.descriptors pid low (omega (arith, high, more, ne)))
      ];
      not_given = omega (arith, length-forked table parent (given k + 1), h.not_given, more);
      shown = h.shown;
    }

-- as many processes, and descriptors of the same
pub changed_kernel : (k : KernelState) (io : IoState) (p : ProcessTable) → IsKernel k → AreKept k.io.fds.processes io.fds.processes → length p.tree ≡ given k → IsKernel (record k { io = io; processes = p })
changed_kernel k io p h kept same = record {
  descriptors = λ pid low high. kept.some pid ∙ h.descriptors pid low (omega (arith, high, same));
  not_given = omega (arith, kept.len, h.not_given, same);
  shown = h.shown;
}

pub kept_kernel : (k : KernelState) (io : IoState) → IsKernel k → AreKept k.io.fds.processes io.fds.processes → IsKernel (record k { io = io })
kept_kernel k io h kept = changed_kernel k io k.processes h kept refl

pub processes_kernel : (k : KernelState) (p : ProcessTable) → IsKernel k → length p.tree ≡ given k → IsKernel (record k { processes = p })
processes_kernel k p h same = changed_kernel k k.io p h (record { some = λ pid. refl; len = refl }) same

pub ended_kernel : (k : KernelState) (io : IoState) (pid : ℕ) (e : End) → IsKernel k → AreKept k.io.fds.processes io.fds.processes → IsKernel (record k { io = io; processes = ended_in k.processes pid e })
ended_kernel k io pid e h kept = changed_kernel k io (ended_in k.processes pid e) h kept (given_ended k.processes pid e)

-- a process that joined last is taken back
pub taken_back : {A : Type 0} (xs ys : List A) (x : A) → ys ≡ xs ++ x ∷ [] → take (length ys - 1) ys ≡ xs
taken_back xs ys x e =
    let len : length (xs ++ x ∷ []) ≡ length xs + 1 = length_push xs x in
    let n : length ys - 1 ≡ length xs = omega (arith, len, ap length e) in
    ap (λ m. take m ys) n ∙ ap (take (length xs)) e ∙ take-append_seam xs (x ∷ [])

-- the pid of a process that joins is the next
pub next_is : (tree : List Process) (parent pid : ℕ) → next_pid_of tree parent ≡ Some pid → length tree + 1 ≡ pid
next_is tree parent pid h = (cond_some (nat_lt (present_count tree) PROCESSES && nat_le (length tree + 1) (last_pid parent)) (length tree + 1) pid h).1

-- a signal that was taken, as a step of the kernel
pub taken_result : (k : KernelState) (p : ProcessTable) (pid : ℕ) (room : Bool) (taken : Taken) → TakesAt (Some taken) k.processes pid (take_at k.processes pid room) p → take_result k pid room ≡ Some (after_taken (record k { processes = p }) pid taken)
taken_result k p pid room taken h =
    ap (option_map (after_took k pid)) h.1 ∙ ap (λ (q : ProcessTable). Some (after_taken (record k { processes = q }) pid taken)) (sym h.2)
