use Rattle.std.proofs.Common.{◌≡◌, ◌<◌, ◌≤◌, Option, Some, length, subst, rules}
use Rattle.call_forward.specs.declared.acted.Acted.{Acted}
use Rattle.node_core.specs.Kinds.{CarriesSome}
use Rattle.node_core.specs.Rotation.{picked}
use Rattle.node_core.proofs.Doing.{went_is, lacks_is}
use Rattle.node_core.proofs.node.Node.go_on.Goals as goal

-- src/turn.rt
pub returns : goal.returns
returns g c =
    let answers = g.C.Chooser.answers c.args.policy.now in
    let ready = c.ready-ready.result in
    let picks : picked c.args.self.now.rotation.last ready ≡ Some c.in-Some.kind = search rules in
    let space : length c.args.self.now.journal.events < c.args.self.now.journal.room = search rules in
    let carries = subst (λ (o : Option Acted). CarriesSome answers c.later-stamp.result c.in-Some.kind ready.context o c.args.self.now c.carry_out.new.self) c.in-Some-2.is c.in_ok-acted.ensures in
    went_is answers c.args.self.now c.carry_out.new.self c.settle.new.self c.in-Some.kind ready c.later-stamp.result c.in-Some-2.acted c.take.new.self c.ready-ready.ensures picks c.has_room-room.ensures.most space c.later-stamp.ensures carries c.take.ensures c.in_ok-settle.ensures
