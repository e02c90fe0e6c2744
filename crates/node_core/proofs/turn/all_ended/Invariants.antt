use Rattle.std.proofs.Common.{ℕ, ◌≡◌, ◌≤◌, false}
use Rattle.kernel_spec.specs.Kernel.{is_live}
use Rattle.node_core.proofs.turn.all_ended.Given as goal

abbrev pub invariant-loop-pid : goal.invariant-loop-pid
invariant-loop-pid l = (q : ℕ) → q ≤ l.pid → is_live l.kernel q ≡ false
