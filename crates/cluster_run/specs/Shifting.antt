-- What a shift makes of a seat, by itself, and of all seats.
use Rattle.std.specs.Prelude.{◌≡◌, ◌≢◌, ℕ, ◌<◌, Some, List, length, slice_get}
use Rattle.call_forward.specs.declared.letter.Letter.{Letter}
use Rattle.node_machine.specs.Plan.{Plan}
use Rattle.node_machine.specs.Machine.{Policy}
use Rattle.node_core.specs.declared.node.Node.{Node}
use Rattle.cluster_run.specs.declared.pass.Passed.{Passed}
use Rattle.cluster_run.specs.declared.pass.Passed.TheVariants as passed
use Rattle.cluster_run.specs.declared.seat.Seat.{Seat}
use Rattle.cluster_run.specs.declared.seat.Rest.{Rest}
use Rattle.cluster_run.specs.declared.seat.Rest.TheVariants as rested
use Rattle.cluster_run.specs.Sides.{SameSide}
use Rattle.cluster_run.specs.Seats.{Ready, Filled}

module _ (policy : Policy) {C : Type 0} (puts gives : C → List Letter) where
  -- a seat after a shift, by the answer of its last turn
  abbrev pub SettledBy : Rest → Plan → ℕ → ℕ → Seat Node C → Type 0
  SettledBy rested.Full plan room n s = Filled policy plan puts gives room n s
  SettledBy rested.Busy plan room n s = Ready policy plan puts gives room n s
  SettledBy rested.Idle plan room n s = Ready policy plan puts gives room n s
  SettledBy rested.Over plan room n s = Ready policy plan puts gives room n s

  -- one seat made a shift
  pub record Shifted (pair : C → C → Type 0) (old new : Seat Node C) : Type 0 where
    pub settles : (plan : Plan) (room n : ℕ) → Ready policy plan puts gives room n old → SettledBy new.rest plan room n new
    pub side : SameSide pair old.side new.side

-- at no seat below n the last turn found its journal full
abbrev pub NoneStopped : {C : Type 0} → ℕ → List (Seat Node C) → Type 0
NoneStopped {C} n seats = (k : ℕ) (s : Seat Node C) → k < n → slice_get seats k ≡ Some s → s.rest ≢ rested.Full

-- the first at which it did, or there is none
abbrev pub FirstStopped : {C : Type 0} → ℕ → Passed → List (Seat Node C) → Type 0
FirstStopped {C} nodes passed.Whole seats = NoneStopped nodes seats
FirstStopped {C} nodes (passed.Full at) seats = (at < nodes) × ((s : Seat Node C) → slice_get seats at ≡ Some s → s.rest ≡ rested.Full) × NoneStopped at seats
