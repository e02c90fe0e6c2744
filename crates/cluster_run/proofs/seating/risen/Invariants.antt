use Rattle.std.proofs.Common.{◌≡◌, map}
use Rattle.cluster_run.specs.Seating.{node_of, side_of}
use Rattle.cluster_run.proofs.seating.risen.Given as goal

abbrev pub invariant-loop-seat : goal.invariant-loop-seat
invariant-loop-seat g l = record {
  nodes : l.nodes.items ≡ map node_of l.yielded;
  sides : l.sides.items ≡ map side_of l.yielded;
}
