use Rattle.std.proofs.Common.{◌≡◌, ◌∙◌, ap, sym, arith, Some}
use Rattle.user_spec.specs.Instruction.{Core, one_instruction}
use Rattle.user_ctx.specs.Stopping.{core}
use Rattle.user_ctx.proofs.Running.{ran_more, stays, done_is}
use Rattle.user_ctx.proofs.steps.run_plain.Goals as goal

pub loop-i-preserved : goal.loop-i-preserved
loop-i-preserved c = record {
  zero = c.step-outcome.ensures.zero;
  went = ran_more c.loop-i.i _ _ _ c.loop-i.invariant.went (done_is _ _ _ c.step-outcome.ensures.is c.in-Done.is);
}

pub returns-in_default : goal.returns-in_default
returns-in_default c =
    let same : core c.step-outcome.new.pc c.step-outcome.new.x c.step-outcome.new.pages ≡ core c.loop-i.at c.loop-i.x c.loop-i.pages = stays c.step-outcome.result.0 _ _ c.step-outcome.ensures.is c.in_default.not-Done in
    record {
      zero = c.step-outcome.ensures.zero;
      most = omega arith;
      went = c.loop-i.invariant.went ∙ ap (λ (x : Core). Some x) (sym same);
      whole = λ e. absurd (c.in_default.not-Done e);
      short = λ _. omega arith;
      stop = λ _. ap one_instruction same ∙ c.step-outcome.ensures.is;
    }
