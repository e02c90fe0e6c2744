use Rattle.node_links.specs.Sides.{IsGrown}
use Rattle.node_links.specs.Rings.{ring_pair, IsNew}
use Rattle.node_links.proofs.rings.ring_carriers.Given as goal

abbrev pub invariant-loop-node : goal.invariant-loop-node
invariant-loop-node l = IsGrown ring_pair IsNew l.node l.sides.items
