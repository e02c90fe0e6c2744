use Rattle.std.proofs.Common.{◌≡◌, ◌<◌, ℕ, Some, false, slice_get}
use Rattle.node_core.specs.declared.node.Node.{Node}
use Rattle.node_core.specs.Letters.{any_to}
use Rattle.cluster_run.specs.declared.seat.Seat.{Seat}
use Rattle.cluster_run.specs.Seats.{waiting}
use Rattle.cluster_run.proofs.full.one_waits.Given as goal

abbrev pub invariant-loop-at : goal.invariant-loop-at
invariant-loop-at g l = (a : ℕ) (t : Seat Node g.row.C.Denot) → a < l.at → slice_get l.seats a ≡ Some t → any_to l.node (waiting t) ≡ false
