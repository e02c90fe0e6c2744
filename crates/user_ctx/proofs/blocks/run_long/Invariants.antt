use Rattle.std.proofs.Common.{◌≡◌, ◌∷◌, ◌≤◌, ◌+◌, ◌-◌, ◌*◌, drop, Some}
use Rattle.user_spec.specs.Instruction.{ran}
use Rattle.user_ctx.specs.Stopping.{core}
use Rattle.user_ctx.specs.Windows.{IsWatched, SameWords}
use Rattle.user_ctx.proofs.blocks.run_long.Given as goal

abbrev pub invariant-loop-at : goal.invariant-loop-at
invariant-loop-at l = record {
  zero : l.x ≡ 0 ∷ drop 1 l.x;
  place : l.at ≤ 1024;
  room : 1024 ≤ l.last + 1;
  most : l.last + 1 - l.at ≤ l.n;
  went : ran (l.n - (l.last + 1 - l.at)) (core l.fn.pc l.fn.x l.fn.pages) ≡ Some (core (l.window.base + 4 * l.at) l.x l.pages);
  same : SameWords l.low l.high l.fn.pages l.pages;
  window : IsWatched l.pages l.low l.high l.window;
}

abbrev pub decreases-loop-at : goal.decreases-loop-at
decreases-loop-at l = l.last + 1 - l.at
