use Rattle.std.proofs.Common.{◌≡◌, ◌∷◌, ◌-◌, length, take}
use Rattle.user_spec.specs.Request.{frame_registers}
use Rattle.user_ctx.proofs.frame.load_registers.Given as goal

abbrev pub invariant-loop-i : goal.invariant-loop-i
invariant-loop-i l = record {
  len : length l.x ≡ 32;
  loaded : take l.i l.x ≡ 0 ∷ frame_registers l.pages l.at 1 (l.i - 1);
}
