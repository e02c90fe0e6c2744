use Rattle.std.proofs.Common.{◌+◌, ◌∙◌, refl}
use Rattle.work_gen.specs.Work.{move_lines}
use Rattle.work_gen.proofs.LineLemmas.{moves_next}
use Rattle.work_gen.proofs.script.move_lines.Goals as goal

pub loop-index-preserved : goal.loop-index-preserved
loop-index-preserved c =
    moves_next c.args.nodes c.args.count c.loop-index.index (c.loop-index.index + 1) c.loop-index.lines c.push_slice.new.self c.as_slice.result.now (move_lines c.args.nodes 1 c.args.count) c.loop-index-test.true refl c.loop-index.invariant c.in_ok-push_slice.ensures.ok (c.as_slice.ensures ∙ c.in_ok-line.ensures)
