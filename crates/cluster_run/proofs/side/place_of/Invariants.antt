use Rattle.std.proofs.Common.{◌≡◌, ◌≢◌, ◌<◌, ℕ, Some, slice_get}
use Rattle.node_links.specs.declared.side.Towards.{Towards}
use Rattle.cluster_run.proofs.side.place_of.Given as goal

abbrev pub invariant-loop-at : goal.invariant-loop-at
invariant-loop-at g l = (i : ℕ) (u : Towards g.row.C.Denot) → i < l.at → slice_get l.side i ≡ Some u → u.node ≢ l.node
