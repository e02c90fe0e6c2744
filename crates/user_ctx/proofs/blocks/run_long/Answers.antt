use Rattle.std.proofs.Common.{◌≡◌, ◌∙◌, ◌<◌, ◌+◌, ◌-◌, ◌*◌, refl, ap, sym, arith, Some}
use Rattle.user_spec.specs.Instruction.{ran}
use Rattle.user_ctx.specs.Stopping.{core}
use Rattle.user_ctx.proofs.Running.{ran_next}
use Rattle.user_ctx.proofs.Stored.{same_words, same_on}
use Rattle.user_ctx.proofs.Made.{watched_same, one_watched}
use Rattle.user_ctx.proofs.Going.{below, placed, moved, next_on, jumped_on, away_on, wrote_on}
use Rattle.user_ctx.proofs.blocks.run_long.Goals as goal

pub loop-at-init : goal.loop-at-init
loop-at-init c =
    let none : c.args.n - (c.in-Some.place + c.args.n - 1 + 1 - c.in-Some.place) ≡ 0 = omega (arith, c.requires.many) in
    record {
      zero = c.requires.zero;
      place = omega (arith, c.in-Some.ensures.0);
      room = omega (arith, c.requires.many);
      most = omega arith;
      went = ap (λ k. ran k (core c.args.pc.now c.args.x.now c.args.pages.now)) none ∙ ap (λ p. Some (core p c.args.x.now c.args.pages.now)) (sym c.in-Some.ensures.1);
      same = same_words _ _ _ _ refl;
      window = one_watched c.args.pages.now c.args.pages.now c.args.windows.now c.window_at-window.result.now c.requires.ready (same_words c.args.windows.now.low c.args.windows.now.end c.args.pages.now c.args.pages.now refl) c.window_at-window.ensures;
    }

pub loop-at-preserved-in-Next : goal.loop-at-preserved-in-Next
loop-at-preserved-in-Next c =
    let next : c.same_place-at.result ≡ c.loop-at.at + 1 = c.same_place-at.ensures ∙ c.step_ready.ensures.next c.in-Next.is in
    let inside : c.loop-at.at < 1024 = below _ _ c.loop-at.at _ c.loop-at.invariant.window.page c.loop-at.invariant.place (c.step_ready.ensures.idle (next_on _ c.in-Next.is)) in
    record {
      zero = c.step_ready.ensures.zero;
      place = omega (arith, c.same_place-at.ensures, c.step_ready.ensures.place);
      room = c.loop-at.invariant.room;
      most = omega (arith, next, c.loop-at.invariant.most);
      went = ran_next (c.args.n - ((c.loop-at.last + 1) - c.loop-at.at)) (c.args.n - ((c.loop-at.last + 1) - c.same_place-at.result)) _ _ _ c.loop-at.invariant.went (placed c.loop-at.window.now.base c.step_ready.new.place c.same_place-at.result c.step_ready.new.x c.step_ready.new.pages _ c.in-Next.ensures.gone c.same_place-at.ensures) (omega (arith, next, inside, c.loop-at.invariant.room, c.loop-at.invariant.most));
      same = same_on _ _ _ _ _ c.loop-at.invariant.same c.in-Next.ensures.keeps;
      window = watched_same _ _ _ _ _ c.loop-at.invariant.window c.in-Next.ensures.keeps;
    }

pub returns-then-left-clause-went : goal.returns-then-left-clause-went
returns-then-left-clause-went c =
    let inside : c.loop-at.at < 1024 = below _ _ c.loop-at.at _ c.loop-at.invariant.window.page c.loop-at.invariant.place (c.step_ready.ensures.idle (jumped_on _ c.in-Jumped.is)) in
    ran_next (c.args.n - ((c.loop-at.last + 1) - c.loop-at.at)) (c.args.n - (c.loop-at.last - c.loop-at.at)) _ _ _ c.loop-at.invariant.went c.in-Jumped.ensures.gone (omega (arith, inside, c.loop-at.invariant.room, c.loop-at.invariant.most))

pub returns-in_default-clause-went : goal.returns-in_default-clause-went
returns-in_default-clause-went c =
    let inside : c.loop-at.at < 1024 = below _ _ c.loop-at.at _ c.loop-at.invariant.window.page c.loop-at.invariant.place (c.step_ready.ensures.idle (away_on _ _ c.in-Away.is)) in
    ran_next (c.args.n - ((c.loop-at.last + 1) - c.loop-at.at)) (c.args.n - (c.loop-at.last - c.loop-at.at)) _ _ _ c.loop-at.invariant.went c.in-Away.ensures.gone (omega (arith, inside, c.loop-at.invariant.room, c.loop-at.invariant.most))

pub returns-in-Wrote-clause-went : goal.returns-in-Wrote-clause-went
returns-in-Wrote-clause-went c =
    let inside : c.loop-at.at < 1024 = below _ _ c.loop-at.at _ c.loop-at.invariant.window.page c.loop-at.invariant.place (c.step_ready.ensures.idle (wrote_on _ _ c.in-Wrote.is)) in
    ran_next (c.args.n - ((c.loop-at.last + 1) - c.loop-at.at)) (c.args.n - (c.loop-at.last - c.loop-at.at)) _ _ _ c.loop-at.invariant.went c.in-Wrote.ensures.gone (omega (arith, inside, c.loop-at.invariant.room, c.loop-at.invariant.most))

pub loop-at-preserved-in-Jumped : goal.loop-at-preserved-in-Jumped
loop-at-preserved-in-Jumped c =
    let inside : c.loop-at.at < 1024 = below _ _ c.loop-at.at _ c.loop-at.invariant.window.page c.loop-at.invariant.place (c.step_ready.ensures.idle (jumped_on _ c.in-Jumped.is)) in
    record {
      zero = c.step_ready.ensures.zero;
      place = c.step_ready.ensures.place;
      room = omega (arith, c.if-left.false);
      most = omega (arith, c.loop-at.invariant.most);
      went = ran_next (c.args.n - ((c.loop-at.last + 1) - c.loop-at.at)) (c.args.n - (c.step_ready.new.place + (c.loop-at.last - c.loop-at.at) - 1 + 1 - c.step_ready.new.place)) _ _ _ c.loop-at.invariant.went c.in-Jumped.ensures.gone (omega (arith, inside, c.if-left.false, c.loop-at.invariant.room, c.loop-at.invariant.most));
      same = same_on _ _ _ _ _ c.loop-at.invariant.same c.in-Jumped.ensures.keeps;
      window = watched_same _ _ _ _ _ c.loop-at.invariant.window c.in-Jumped.ensures.keeps;
    }

pub loop-at-preserved : goal.loop-at-preserved
loop-at-preserved c =
    let inside : c.loop-at.at < 1024 = below _ _ c.loop-at.at _ c.loop-at.invariant.window.page c.loop-at.invariant.place (c.step_ready.ensures.idle (away_on _ _ c.in-Away.is)) in
    record {
      zero = c.step_ready.ensures.zero;
      place = omega (arith, c.in-Some-place_in.ensures.0);
      room = omega (arith, c.if-left-2.true);
      most = omega (arith, c.loop-at.invariant.most);
      went = ran_next (c.args.n - ((c.loop-at.last + 1) - c.loop-at.at)) (c.args.n - (c.in-Some-place_in.place + (c.loop-at.last - c.loop-at.at) - 1 + 1 - c.in-Some-place_in.place)) _ _ _ c.loop-at.invariant.went (moved c.in-Away.to (c.window_at-other.result.now.base + 4 * c.in-Some-place_in.place) c.step_ready.new.x c.step_ready.new.pages _ c.in-Away.ensures.gone c.in-Some-place_in.ensures.1) (omega (arith, inside, c.if-left-2.true, c.loop-at.invariant.room, c.loop-at.invariant.most));
      same = same_on _ _ _ _ _ c.loop-at.invariant.same c.in-Away.ensures.keeps;
      window = one_watched c.args.pages.now c.step_ready.new.pages c.args.windows.now c.window_at-other.result.now c.requires.ready (same_on _ _ _ _ _ c.loop-at.invariant.same c.in-Away.ensures.keeps) c.window_at-other.ensures;
    }
