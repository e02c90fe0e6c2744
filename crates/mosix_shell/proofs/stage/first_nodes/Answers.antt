use Rattle.std.proofs.Common.{[], ap, ◌∙◌}
use Rattle.node_core.specs.declared.shape.Shape.{Shape}
use Rattle.node_core.specs.Making.{new_node}
use Rattle.mosix_shell.proofs.Nodes.{away_next}
use Rattle.mosix_shell.proofs.stage.first_nodes.Goals as goal

pub loop-id-preserved : goal.loop-id-preserved
loop-id-preserved c =
    away_next c.args.settings.now c.args.seeds.now c.loop-id.id c.loop-id.nodes c.push-in-loop-id.new.self _ c.in_ok-away.field-0 c.loop-id-test.true c.loop-id.invariant c.in_ok-push-2.ensures.ok
    (c.in_ok-away.ensures.new ∙ ap (λ (s : Shape). new_node c.loop-id.id s [] []) c.shape_of-shape.ensures)
