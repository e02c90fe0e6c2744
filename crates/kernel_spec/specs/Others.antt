-- What a step of one process leaves of all others.
use Rattle.std.specs.Prelude.{◌≡◌, ◌≢◌, ◌<◌, ℕ, ◌+◌, ◌==◌, Bool, true, false, pos, Option, Some, None}
use Rattle.std.specs.List.{count_by}
use Rattle.call_table.specs.declared.request.Kind.{Kind}
use Rattle.call_table.specs.declared.request.Kind.TheVariants.{Plain, Fork, Return}
use Rattle.call_table.specs.declared.limit.TheConstants.{PROCESSES}
use Rattle.proc_tree.specs.Processes.{is_live}
use Rattle.kernel_spec.specs.Kernel.{KernelState, Called, given, is_live as lives, deliverable}

-- whether a pid stands there
abbrev pub is_at : Option ℕ → ℕ → Bool
is_at None q = false
is_at (Some p) q = p == q

-- the child that a call made, after so many pids
abbrev pub child_after : Kind → ℕ → Option ℕ
child_after Plain before = None
child_after Fork before = Some (before + 1)
child_after Return before = None

abbrev pub child_of : KernelState → Called → Option ℕ
child_of k called = child_after called.answer.kind (given k)

-- so many pids, and one more for a child
abbrev pub counted : Option ℕ → ℕ → ℕ
counted None before = before
counted (Some child) before = before + 1

-- how many processes live
abbrev pub live_count : KernelState → ℕ
live_count k = count_by is_live k.processes.tree

-- Between two kernels, with a step of p, perhaps a child that it made, and perhaps another process at which it raised a signal that counts there:
-- of all other processes the same live, and at each other one the same signal can be taken, unless one was raised there.
pub record LeavesOthers (k new : KernelState) (p : ℕ) (child raised : Option ℕ) : Type 0 where
  pub count : given new ≡ counted child (given k)
  pub live : (q : ℕ) → q ≢ p → is_at child q ≡ false → lives new q ≡ lives k q
  pub quiet : (q : ℕ) → q ≢ p → is_at child q ≡ false → is_at raised q ≡ false → deliverable new q ≡ deliverable k q

-- What a call does to the processes besides: a child's pid is its value, it lives, and it is made only while fewer than 64 live.
pub record LeavesProcesses (k : KernelState) (p : ℕ) (called : Called) : Type 0 where
  pub others : LeavesOthers k called.kernel p (child_of k called) called.raised
  pub told : (c : ℕ) → child_of k called ≡ Some c → called.answer.value ≡ pos c
  pub child : (c : ℕ) → child_of k called ≡ Some c → lives called.kernel c ≡ true
  pub few : (c : ℕ) → child_of k called ≡ Some c → live_count k < PROCESSES
