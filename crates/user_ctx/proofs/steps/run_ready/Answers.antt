use Rattle.std.proofs.Common.{◌≡◌, ◌+◌, ◌∙◌, ap, sym, arith, Some}
use Rattle.user_spec.specs.Instruction.{Core, one_instruction}
use Rattle.user_ctx.specs.Stopping.{core}
use Rattle.user_ctx.proofs.Running.{ran_on, ran_to, ran_more, stays, done_is}
use Rattle.user_ctx.proofs.steps.run_ready.Goals as goal

pub loop-done-init : goal.loop-done-init
loop-done-init c = record {
  zero = c.requires;
  most = omega arith;
  went = ap (λ p. Some (core c.args.pc.now c.args.x.now p)) (sym (c.new-cached.ensures ∙ c.replace.ensures.value));
  ready = c.new-windows.ensures c.new-cached.result;
}

pub returns-then-done-n-clause-went : goal.returns-then-done-n-clause-went
returns-then-done-n-clause-went c =
    rw c.into_pages.ensures (ran_to c.loop-done.done c.run-more.result.0 c.args.n _ _ _ c.loop-done.invariant.went c.run-more.ensures.went c.if-done-n.true)

pub returns-in_default : goal.returns-in_default
returns-in_default c =
    let same : core c.step-outcome.new.pc c.step-outcome.new.x c.step-outcome.result.1 ≡ core c.run-more.new.pc c.run-more.new.x c.run-more.new.pages = stays c.step-outcome.result.0 _ _ c.step-outcome.ensures.is c.in_default.not-Done in
    record {
      zero = c.step-outcome.ensures.zero;
      most = omega (arith, c.run-more.ensures.most, c.loop-done.invariant.most);
      went = rw c.into_pages-in_default.ensures (ran_on c.loop-done.done c.run-more.result.0 _ _ _ c.loop-done.invariant.went c.run-more.ensures.went ∙ ap (λ (x : Core). Some x) (sym same));
      whole = λ e. absurd (c.in_default.not-Done e);
      short = λ _. omega (arith, c.run-more.ensures.most, c.loop-done.invariant.most, c.if-done-n.false);
      stop = λ _. rw c.into_pages-in_default.ensures (ap one_instruction same ∙ c.step-outcome.ensures.is);
    }

pub loop-done-preserved : goal.loop-done-preserved
loop-done-preserved c = record {
  zero = c.step-outcome.ensures.zero;
  most = omega (arith, c.run-more.ensures.most, c.loop-done.invariant.most, c.if-done-n.false);
  went = ran_more (c.loop-done.done + c.run-more.result.0) _ _ _ (ran_on c.loop-done.done c.run-more.result.0 _ _ _ c.loop-done.invariant.went c.run-more.ensures.went) (done_is _ _ _ c.step-outcome.ensures.is c.in-Done.is);
  ready = c.step-outcome.ensures.ready;
}

pub loop-done-preserved-then-goes_on : goal.loop-done-preserved-then-goes_on
loop-done-preserved-then-goes_on c = record {
  zero = c.run-more.ensures.zero;
  most = omega (arith, c.run-more.ensures.most, c.loop-done.invariant.most);
  went = ran_on c.loop-done.done c.run-more.result.0 _ _ _ c.loop-done.invariant.went c.run-more.ensures.went;
  ready = c.run-more.ensures.ready;
}
