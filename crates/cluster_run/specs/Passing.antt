-- What a pass over all seats makes of them.
use Rattle.std.specs.Prelude.{◌≡◌, ◌≢◌, ◌⊎◌, ℕ, ◌<◌, ◌≤◌, Bool, true, Option, Some, None, List, [], length, slice_get}
use Rattle.call_forward.specs.declared.letter.Letter.{Letter}
use Rattle.node_links.specs.Sides.{carrier_to}
use Rattle.node_machine.specs.Plan.{Plan}
use Rattle.node_machine.specs.Machine.{Policy}
use Rattle.node_core.specs.declared.node.Node.{Node}
use Rattle.cluster_run.specs.declared.pass.Passed.{Passed}
use Rattle.cluster_run.specs.declared.pass.Passed.TheVariants as passed
use Rattle.cluster_run.specs.declared.seat.Seat.{Seat}
use Rattle.cluster_run.specs.declared.seat.Rest.{Rest}
use Rattle.cluster_run.specs.declared.seat.Rest.TheVariants as rested
use Rattle.cluster_run.specs.Sides.{SameSide}
use Rattle.cluster_run.specs.Standing.{BothFront}
use Rattle.cluster_run.specs.Seats.{waiting, Step, Ready, Filled}

-- no carrier leads past the seats
abbrev pub AreWithin : {C : Type 0} → ℕ → List (Seat Node C) → Type 0
AreWithin {C} nodes seats = (k m : ℕ) (s : Seat Node C) → slice_get seats k ≡ Some s → nodes ≤ m → carrier_to s.side m ≡ None

module _ {C : Type 0} (pair : C → C → Type 0) where
  -- the same carriers at each seat
  pub record SameSides (old new : List (Seat Node C)) : Type 0 where
    pub count : length new ≡ length old
    pub each : (k : ℕ) (t : Seat Node C) → slice_get new k ≡ Some t → (s : Seat Node C) × (slice_get old k ≡ Some s) × SameSide pair s.side t.side

module _ {C : Type 0} (puts gives : C → List Letter) (pair : C → C → Type 0) where
  -- at each seat letters went out at most; each node is as it was
  pub record AllStep (old new : List (Seat Node C)) : Type 0 where
    pub count : length new ≡ length old
    pub each : (k : ℕ) (t : Seat Node C) → slice_get new k ≡ Some t → (s : Seat Node C) × (slice_get old k ≡ Some s) × Step puts gives pair None s t

module _ (policy : Policy) {C : Type 0} (puts gives : C → List Letter) where
  abbrev pub AllReady : Plan → ℕ → List (Seat Node C) → Type 0
  AllReady plan room seats = (k : ℕ) (s : Seat Node C) → slice_get seats k ≡ Some s → Ready policy plan puts gives room k s

  -- at least one found its journal full, and `at` is the first of them
  pub record SomeFull (plan : Plan) (room at : ℕ) (seats : List (Seat Node C)) : Type 0 where
    pub below : (k : ℕ) (s : Seat Node C) → k < at → slice_get seats k ≡ Some s → Ready policy plan puts gives room k s
    pub full : (s : Seat Node C) → slice_get seats at ≡ Some s → Filled policy plan puts gives room at s
    pub above : (k : ℕ) (s : Seat Node C) → at < k → slice_get seats k ≡ Some s → Ready policy plan puts gives room k s ⊎ Filled policy plan puts gives room k s

  abbrev pub StayReady : List (Seat Node C) → List (Seat Node C) → Type 0
  StayReady old new = (plan : Plan) (room : ℕ) → AllReady plan room old → AllReady plan room new

  abbrev pub BecomeFull : ℕ → List (Seat Node C) → List (Seat Node C) → Type 0
  BecomeFull at old new = (plan : Plan) (room : ℕ) → AllReady plan room old → SomeFull plan room at new

  -- by the answer of a turn at one seat
  abbrev pub TurnsAt : Rest → ℕ → List (Seat Node C) → List (Seat Node C) → Type 0
  TurnsAt rested.Full at old new = BecomeFull at old new
  TurnsAt rested.Busy at old new = StayReady old new
  TurnsAt rested.Idle at old new = StayReady old new
  TurnsAt rested.Over at old new = StayReady old new

  -- one seat made a round
  pub record RoundAt (pair : C → C → Type 0) (answer : Rest) (at : ℕ) (old new : List (Seat Node C)) : Type 0 where
    pub turns : TurnsAt answer at old new
    pub sides : SameSides pair old new

  -- by the end of a pass
  abbrev pub Passes : ℕ → Passed → List (Seat Node C) → List (Seat Node C) → Type 0
  Passes nodes passed.Whole old new = StayReady old new
  Passes nodes (passed.Full node) old new = (node < nodes) × BecomeFull node old new

  pub record PassedAs (pair : C → C → Type 0) (nodes : ℕ) (how : Passed) (old new : List (Seat Node C)) : Type 0 where
    pub passes : Passes nodes how old new
    pub sides : SameSides pair old new

-- ---- where nothing is left to be done

-- the last turn found nothing due
abbrev pub IsRest : Rest → Type 0
IsRest rested.Idle = Unit {0}
IsRest rested.Over = Unit {0}
IsRest rested.Busy = ⊥
IsRest rested.Full = ⊥

module _ {C : Type 0} where
  -- so it was at this seat, and no letter waits there
  pub record IsAtRest (s : Seat Node C) : Type 0 where
    pub rest : IsRest s.rest
    pub none : waiting s ≡ []

  -- at each seat, and nothing lies on the links
  pub record AreStill (puts gives : C → List Letter) (pair : C → C → Type 0) (nodes : ℕ) (seats : List (Seat Node C)) : Type 0 where
    pub each : (k : ℕ) (s : Seat Node C) → k < nodes → slice_get seats k ≡ Some s → IsAtRest s
    pub links : (a b : ℕ) → a < nodes → b < nodes → BothFront puts gives pair true a b seats

-- one seat was looked at
pub record LookedAt {C : Type 0} (puts gives : C → List Letter) (pair : C → C → Type 0) (at : ℕ) (rests : Bool) (old new : List (Seat Node C)) : Type 0 where
  pub steps : AllStep puts gives pair old new
  pub off : (k : ℕ) (s : Seat Node C) → k ≢ at → slice_get new k ≡ Some s → slice_get old k ≡ Some s
  pub here : rests ≡ true → (s : Seat Node C) → slice_get new at ≡ Some s → IsAtRest s

-- the first so many were
pub record LookedAll {C : Type 0} (puts gives : C → List Letter) (pair : C → C → Type 0) (nodes : ℕ) (rest : Bool) (old new : List (Seat Node C)) : Type 0 where
  pub steps : AllStep puts gives pair old new
  pub each : rest ≡ true → (k : ℕ) (s : Seat Node C) → k < nodes → slice_get new k ≡ Some s → IsAtRest s

-- whether nothing is left to be done
pub record Stilled {C : Type 0} (puts gives : C → List Letter) (pair : C → C → Type 0) (nodes : ℕ) (still : Bool) (old new : List (Seat Node C)) : Type 0 where
  pub steps : AllStep puts gives pair old new
  pub are : still ≡ true → AreStill puts gives pair nodes new
