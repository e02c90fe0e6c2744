use Rattle.std.proofs.Common.{◌≡◌, ◌∷◌, ◌≤◌, ◌-◌, drop, Some}
use Rattle.user_spec.specs.Instruction.{ran}
use Rattle.user_ctx.specs.Stopping.{core}
use Rattle.user_ctx.specs.Windows.{AreReady}
use Rattle.user_ctx.proofs.steps.run_ready.Given as goal

abbrev pub invariant-loop-done : goal.invariant-loop-done
invariant-loop-done l = record {
  zero : l.registers ≡ 0 ∷ drop 1 l.registers;
  most : l.done ≤ l.n;
  went : ran l.done (core l.fn.pc l.fn.x l.fn.pages) ≡ Some (core l.at l.registers l.cached);
  ready : AreReady l.cached l.windows;
}

abbrev pub decreases-loop-done : goal.decreases-loop-done
decreases-loop-done l = l.n - l.done
