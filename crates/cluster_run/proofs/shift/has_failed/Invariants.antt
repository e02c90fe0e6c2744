use Rattle.std.proofs.Common.{◌≡◌, ◌<◌, ℕ, Some, false, slice_get}
use Rattle.node_core.specs.declared.node.Node.{Node}
use Rattle.cluster_run.specs.declared.seat.Seat.{Seat}
use Rattle.cluster_run.proofs.shift.has_failed.Given as goal

abbrev pub invariant-loop-seat : goal.invariant-loop-seat
invariant-loop-seat g l = (k : ℕ) (s : Seat Node g.row.C.Denot) → k < l.seat-index → slice_get l.seats k ≡ Some s → s.failed ≡ false
