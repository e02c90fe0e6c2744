use Rattle.std.proofs.Common.{◌≡◌, ◌∙◌, false, sym, ap, rules}
use Rattle.node_core.specs.Kinds.{is_stray}
use Rattle.node_core.proofs.Doing.{got_is}
use Rattle.node_core.proofs.node.Node.got.Goals as goal

-- src/letters.rt
pub returns : goal.returns
returns c =
    let stray : is_stray c.args.self.now c.child_in.result ≡ false = search rules in
    got_is c.args.pid c.args.done c.in_ok-acted.acted c.args.self.now c.got.new.self (ap (is_stray c.args.self.now) (sym c.child_in.ensures) ∙ stray) c.in_ok-acted.ensures.ok
