use Rattle.std.proofs.Common.{◌≡◌, ◌∷◌, ◌≤◌, ◌+◌, ◌*◌, drop, Some}
use Rattle.user_spec.specs.Instruction.{ran}
use Rattle.user_ctx.specs.Stopping.{core}
use Rattle.user_ctx.specs.Windows.{IsWatched, SameWords}
use Rattle.user_ctx.proofs.blocks.run_short.Given as goal

abbrev pub invariant-loop-i : goal.invariant-loop-i
invariant-loop-i l = record {
  zero : l.x ≡ 0 ∷ drop 1 l.x;
  place : l.at ≤ 1024;
  went : ran l.i (core l.fn.pc l.fn.x l.fn.pages) ≡ Some (core (l.window.base + 4 * l.at) l.x l.pages);
  same : SameWords l.windows.low l.windows.end l.fn.pages l.pages;
  window : IsWatched l.pages l.windows.low l.windows.end l.window;
}
