use Rattle.node_links.specs.Rings.{ring_pair, IsNew}
use Rattle.node_links.proofs.SideLemmas.{IsGrowing}
use Rattle.node_links.proofs.rings.add_node.Given as goal

abbrev pub invariant-loop-at : goal.invariant-loop-at
invariant-loop-at l = IsGrowing ring_pair IsNew l.at l.node l.sides.items l.row
