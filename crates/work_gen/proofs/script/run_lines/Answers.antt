use Rattle.std.proofs.Common.{◌∙◌}
use Rattle.work_gen.specs.Work.{run_lines}
use Rattle.work_gen.proofs.LineLemmas.{runs_next}
use Rattle.work_gen.proofs.script.run_lines.Goals as goal

pub loop-index-preserved : goal.loop-index-preserved
loop-index-preserved c =
    runs_next c.args.count c.loop-index.index c.loop-index.lines c.push_slice.new.self c.as_slice.result.now (run_lines 0 c.args.count) c.loop-index-test.true c.loop-index.invariant c.in_ok-push_slice.ensures.ok (c.as_slice.ensures ∙ c.in_ok-line.ensures)
