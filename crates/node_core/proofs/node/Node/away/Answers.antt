use Rattle.std.proofs.Common.{◌≡◌, List, [], IfOk, subst}
use Rattle.node_event.specs.declared.script.ScriptLine.{ScriptLine}
use Rattle.user_spec.specs.User.{UserState}
use Rattle.node_core.specs.declared.node.Node.{Node}
use Rattle.node_core.specs.Making.{new_node}
use Rattle.node_core.proofs.Starting.{new_suits_ok}
use Rattle.node_core.proofs.node.Node.away.Goals as goal

-- src/node.rt
pub returns-clause-suits : goal.returns-clause-suits
returns-clause-suits c =
    let fresh = subst (λ (u : List UserState). IfOk c.new-3.result (λ (n : Node). n ≡ new_node c.args.id c.args.shape c.new.result u)) c.new-2.ensures c.new-3.ensures in
    let is = subst (λ (s : List ScriptLine). IfOk c.new-3.result (λ (n : Node). n ≡ new_node c.args.id c.args.shape s [])) c.new.ensures fresh in
    new_suits_ok c.args.id c.args.shape [] [] c.new-3.result is
