use Rattle.node_core.proofs.node.Node.act_on_choice.Goals as goal

-- src/halves.rt
pub follow-requires : goal.follow-requires
follow-requires g c = c.in_ok-choice.ensures.runs
