use Rattle.std.proofs.Common.{◌≡◌, ◌∷◌, ◌++◌, [], drop}
use Rattle.user_spec.specs.Request.{with_words}
use Rattle.user_ctx.proofs.frame.write_frame.Given as goal

abbrev pub invariant-loop-i : goal.invariant-loop-i
invariant-loop-i l = with_words l.pages l.place (drop l.i (l.pc ∷ (drop 1 l.x ++ l.mask ∷ []))) ≡ with_words l.fn.pages l.at (l.pc ∷ (drop 1 l.x ++ l.mask ∷ []))
