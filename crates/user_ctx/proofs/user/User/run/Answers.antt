use Rattle.std.proofs.Common.{arith, refl, ◌+◌, ◌<◌}
use Rattle.user_ctx.proofs.Walks.{walked_on, walked_step, walked_stop, walked_whole, stopped}
use Rattle.user_spec.specs.declared.outcome.Stop.TheVariants as stop
use Rattle.user_ctx.proofs.user.User.run.Goals as goal

pub returns-in-Done-clause-went : goal.returns-in-Done-clause-went
returns-in-Done-clause-went c =
    let end = rw c.in-Done.is at c.instructions-more.ensures.end in
    walked_whole c.args.k _ _ _ (omega (arith, end)) (walked_on c.args.k c.loop-i.went _ _ _ _ (omega arith) c.loop-i.invariant.walk c.instructions-more.ensures.went)

pub returns-in-Fault-clause-went : goal.returns-in-Fault-clause-went
returns-in-Fault-clause-went c =
    let end = rw c.in-Fault.is at c.instructions-more.ensures.end in
    walked_stop c.args.k _ _ _ _ (stop.Fault c.in-Fault.signal) (walked_on c.args.k c.loop-i.went _ _ _ _ (omega arith) c.loop-i.invariant.walk c.instructions-more.ensures.went) end.1 refl

pub returns-in_default : goal.returns-in_default
returns-in_default c =
    let end = rw c.in-Call.is at c.instructions-more.ensures.end in
    let lt : c.loop-i.went + c.instructions-more.result.0 < c.args.k = omega (arith, end.0) in
    let told = stopped c.local_step.result c.args.k _ _ _ _ c.in_default.not-Went c.local_step.ensures (walked_on c.args.k c.loop-i.went _ _ _ _ (omega arith) c.loop-i.invariant.walk c.instructions-more.ensures.went) in
    record {
      most = omega arith;
      went = told.0;
      whole = λ e. absurd (c.in_default.not-Went e);
      short = λ _. lt;
      stop = λ _. told.1;
    }

pub loop-i-preserved : goal.loop-i-preserved
loop-i-preserved c =
    let end = rw c.in-Call.is at c.instructions-more.ensures.end in
    let lt : c.loop-i.went + c.instructions-more.result.0 < c.args.k = omega (arith, end.0) in
    record {
      bound = omega arith;
      passed = omega arith;
      walk = walked_step c.args.k _ _ _ _ lt (walked_on c.args.k c.loop-i.went _ _ _ _ (omega arith) c.loop-i.invariant.walk c.instructions-more.ensures.went) c.in-Went.ensures;
    }
