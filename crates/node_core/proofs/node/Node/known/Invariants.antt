use Rattle.std.proofs.Common.{◌≡◌, ◌≢◌, All, map}
use Rattle.policy_box.specs.Policies.{FitsEntry}
use Rattle.protocol.specs.Gossip.{known_below}
use Rattle.node_core.specs.Locals.{entry_of, places_of}
use Rattle.node_core.proofs.node.Node.known.Given as goal

abbrev pub invariant-loop-node : goal.invariant-loop-node
invariant-loop-node l = record {
  is : map entry_of l.known ≡ known_below l.node l.self.id (places_of l.self.talk.vector);
  range : All (λ e. FitsEntry e) l.known;
  others : All (λ e. e.node ≢ l.self.id) l.known;
}
