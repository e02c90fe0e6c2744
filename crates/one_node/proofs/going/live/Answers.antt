use Rattle.std.proofs.Common.{◌∙◌, sym}
use Rattle.one_node.proofs.Lives.{live_low, live_within}
use Rattle.one_node.proofs.going.live.Goals as goal

pub returns-clause-bounds : goal.returns-clause-bounds
returns-clause-bounds c = λ alive. (live_low c.args.kernel.now c.args.pid (sym c.live.ensures ∙ alive), live_within c.args.kernel.now c.args.pid (sym c.live.ensures ∙ alive))

pub returns-clause-live : goal.returns-clause-live
returns-clause-live c = λ alive. sym c.live.ensures ∙ alive
