-- Nodes at their seats.
use Rattle.std.specs.Prelude.{ℕ, false, None, List, [], ◌∷◌}
use Rattle.node_links.specs.declared.side.Towards.{Towards}
use Rattle.node_core.specs.declared.node.Node.{Node}
use Rattle.cluster_run.specs.declared.seat.Seat.{Seat}
use Rattle.cluster_run.specs.declared.seat.Rest.TheVariants as rested

module _ {C : Type 0} where
  -- a node before its first turn
  abbrev pub seat_of : ℕ → Node → List (Towards C) → Seat Node C
  seat_of last node side = record { node = node; waits = None; side = side; source = last; rest = rested.Busy; failed = false }

  -- each node with its side of the carriers
  abbrev pub seats_of : ℕ → List Node → List (List (Towards C)) → List (Seat Node C)
  seats_of last [] sides = []
  seats_of last (n ∷ nodes) [] = []
  seats_of last (n ∷ nodes) (s ∷ sides) = seat_of last n s ∷ seats_of last nodes sides

  abbrev pub node_of : Seat Node C → Node
  node_of s = s.node

  abbrev pub side_of : Seat Node C → List (Towards C)
  side_of s = s.side
