use Rattle.one_node.proofs.Plays.{step_before, step_rest, did_step, not_step, refused_at}
use Rattle.one_node.proofs.play.play.Goals as goal

pub returns-in-Ok-Not-clause-err : goal.returns-in-Ok-Not-clause-err
returns-in-Ok-Not-clause-err c = (
  c.loop-at.at,
  refused_at c.args.setup.now c.args.steps.now c.loop-at.at _ c.loop-at.home c.loop-at-test.true c.loop-at.invariant.before (not_step _ _ _ _ _ c.in-Ok-Not.field-0-is c.in-Ok-Not.ensures),
  c.number_of.ensures,
)

pub loop-at-preserved : goal.loop-at-preserved
loop-at-preserved c =
    let step = did_step _ _ _ _ _ _ _ c.in-Ok-Did.field-0-is c.in-Ok-Did.ensures in
    record {
      before = step_before c.args.setup.now c.args.steps.now c.loop-at.at _ c.loop-at.home c.apply.new.self c.loop-at-test.true c.loop-at.invariant.before step;
      rest = step_rest c.args.setup.now c.args.steps.now c.loop-at.at _ c.loop-at.home c.apply.new.self _ c.loop-at-test.true c.loop-at.invariant.rest step;
    }
