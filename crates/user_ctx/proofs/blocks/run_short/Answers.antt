use Rattle.std.proofs.Common.{◌≡◌, ◌∙◌, ◌+◌, refl, ap, sym, arith, Some}
use Rattle.user_ctx.specs.Stopping.{core}
use Rattle.user_ctx.proofs.Running.{ran_next}
use Rattle.user_ctx.proofs.Stored.{same_words, same_on}
use Rattle.user_ctx.proofs.Made.{watched_same, one_watched}
use Rattle.user_ctx.proofs.Going.{placed}
use Rattle.user_ctx.proofs.blocks.run_short.Goals as goal
use Rattle.user_ctx.proofs.blocks.run_short.Goals.{in-Next, in-Jumped}

pub loop-i-init : goal.loop-i-init
loop-i-init c = record {
  zero = c.requires.zero;
  place = omega (arith, c.in-Some.ensures.0);
  went = ap (λ p. Some (core p c.args.x.now c.args.pages.now)) (sym c.in-Some.ensures.1);
  same = same_words _ _ _ _ refl;
  window = one_watched c.args.pages.now c.args.pages.now c.args.windows.now c.window_at-window.result.now c.requires.ready (same_words c.args.windows.now.low c.args.windows.now.end c.args.pages.now c.args.pages.now refl) c.window_at-window.ensures;
}

pub returns-in-Away-clause-went : goal.returns-in-Away-clause-went
returns-in-Away-clause-went c = ran_next c.loop-i.i (c.loop-i.i + 1) _ _ _ c.loop-i.invariant.went c.in-Away.ensures.gone refl

pub returns-in-Wrote-clause-went : goal.returns-in-Wrote-clause-went
returns-in-Wrote-clause-went c = ran_next c.loop-i.i (c.loop-i.i + 1) _ _ _ c.loop-i.invariant.went c.in-Wrote.ensures.gone refl

pub loop-i-preserved : goal.loop-i-preserved
loop-i-preserved c = elim c.match-step_ready.branch [
  | in-Next w ↦
      let is : c.match-step_ready.at ≡ c.step_ready.new.place = w.at-is ∙ w.same_place-at.ensures in
      record {
        zero = c.step_ready.ensures.zero;
        place = omega (arith, is, c.step_ready.ensures.place);
        went = ran_next c.loop-i.i (c.loop-i.i + 1) _ _ _ c.loop-i.invariant.went (placed c.window_at-window.result.now.base c.step_ready.new.place c.match-step_ready.at c.step_ready.new.x c.step_ready.new.pages _ w.in-Next.ensures.gone is) refl;
        same = same_on _ _ _ _ _ c.loop-i.invariant.same w.in-Next.ensures.keeps;
        window = watched_same _ _ _ _ _ c.loop-i.invariant.window w.in-Next.ensures.keeps;
      }
  | in-Jumped w ↦
      let is : c.match-step_ready.at ≡ c.step_ready.new.place = w.at-is in
      record {
        zero = c.step_ready.ensures.zero;
        place = omega (arith, is, c.step_ready.ensures.place);
        went = ran_next c.loop-i.i (c.loop-i.i + 1) _ _ _ c.loop-i.invariant.went (placed c.window_at-window.result.now.base c.step_ready.new.place c.match-step_ready.at c.step_ready.new.x c.step_ready.new.pages _ w.in-Jumped.ensures.gone is) refl;
        same = same_on _ _ _ _ _ c.loop-i.invariant.same w.in-Jumped.ensures.keeps;
        window = watched_same _ _ _ _ _ c.loop-i.invariant.window w.in-Jumped.ensures.keeps;
      }
]
