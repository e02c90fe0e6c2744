use Rattle.std.proofs.Common.{◌≡◌, false, rules}
use Rattle.node_core.specs.Turning.{is_odd}
use Rattle.node_core.proofs.Doing.{heard_room, heard_took}
use Rattle.node_core.proofs.node.Node.take_letter.Goals as goal

-- src/turn.rt
pub settle-requires : goal.settle-requires
settle-requires g c = heard_room (g.C.Chooser.answers c.args.policy.now) c.later-stamp.result c.args.letter.from c.args.letter.message c.in_ok-acted.acted c.args.self.now c.hear_any.new.self c.in_ok-acted.ensures c.requires

-- src/turn.rt
pub returns : goal.returns
returns g c =
    let usual : is_odd c.args.self.now c.args.letter ≡ false = search rules in
    heard_took (g.C.Chooser.answers c.args.policy.now) c.args.letter c.args.self.now c.hear_any.new.self c.settle.new.self c.later-stamp.result c.in_ok-acted.acted usual c.requires c.later-stamp.ensures c.in_ok-acted.ensures c.in_ok-settle.ensures
