use Rattle.node_core.proofs.Deciding.{departed}
use Rattle.node_core.proofs.node.Node.depart.Goals as goal

-- src/landing.rt
pub returns-in_ok-mail-in-Some : goal.returns-in_ok-mail-in-Some
returns-in_ok-mail-in-Some c = departed c.args.pid c.args.to c.args.line c.in-Some.user c.in-Some.hops c.args.self.now c.depart.new.self c.in_ok-mail-in-Some.mail c.in-Some.ensures c.in_ok-mail-in-Some.ensures
