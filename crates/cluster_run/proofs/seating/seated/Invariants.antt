use Rattle.std.proofs.Common.{◌≡◌, drop, length, reverse}
use Rattle.cluster_run.specs.Seating.{seats_of}
use Rattle.cluster_run.proofs.seating.seated.Given as goal

abbrev pub invariant-loop-node : goal.invariant-loop-node
invariant-loop-node g l = record {
  seats : l.seats.items ≡ seats_of l.last l.yielded l.fn.carriers;
  sides : l.sides.items ≡ reverse (drop (length l.yielded) l.fn.carriers);
}
