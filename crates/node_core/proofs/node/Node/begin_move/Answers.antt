use Rattle.node_core.proofs.Doing.{begun}
use Rattle.node_core.proofs.node.Node.begin_move.Goals as goal

-- src/moves.rt:67:5
pub returns : goal.returns
returns c = begun c.args.pid c.args.to c.args.line c.args.self.now c.begin.new.self c.in_ok-mail.mail c.unwrap_or-need.result c.need.result c.begin.ensures c.need.ensures c.unwrap_or-need.ensures c.in_ok-mail.ensures
