-- What is found after a run stopped at a full journal: the least node with a full journal at which an event is due.
use Rattle.std.specs.Prelude.{◌≡◌, ◌≢◌, ◌⊎◌, ℕ, ◌<◌, ◌≤◌, Bool, true, false, Option, Some, None, List, length, slice_get, slice_set, MatchOption}
use Rattle.std.specs.Option.{option_map}
use Rattle.call_forward.specs.declared.letter.Letter.{Letter}
use Rattle.protocol.specs.Rests.{Rests, HasMore}
use Rattle.node_machine.specs.Plan.{Plan}
use Rattle.node_machine.specs.Machine.{Policy, machine}
use Rattle.node_core.specs.declared.node.Node.{Node}
use Rattle.node_core.specs.Letters.{any_to}
use Rattle.node_core.specs.Locals.{local, post_at}
use Rattle.cluster_run.specs.declared.seat.Seat.{Seat}
use Rattle.cluster_run.specs.declared.seat.Rest.{Rest}
use Rattle.cluster_run.specs.declared.seat.Rest.TheVariants as rested
use Rattle.cluster_run.specs.Sides.{towards, knows}
use Rattle.cluster_run.specs.Standing.{SeatCalm, Calm}
use Rattle.cluster_run.specs.Seats.{waiting, Step, LivesAt}

-- the journal of this seat is full
abbrev pub IsFilled : {C : Type 0} → Seat Node C → Type 0
IsFilled s = length s.node.journal.events ≡ s.node.journal.room

-- ---- asking nodes with full journals whether they go on by themselves

module _ (policy : Policy) (plan : Plan) {C : Type 0} (puts gives : C → List Letter) where
  -- what each node did, with the letters in hand
  pub record AllLive (room : ℕ) (hands : ℕ → Option Letter) (seats : List (Seat Node C)) : Type 0 where
    pub lives : (k : ℕ) (s : Seat Node C) → slice_get seats k ≡ Some s → LivesAt policy plan puts gives room k (hands k) s
    pub none : (k : ℕ) → slice_get seats k ≡ None → hands k ≡ None

  -- node n has a full journal, and more is due there
  abbrev pub GoesOn : (ℕ → Option Letter) → ℕ → List (Seat Node C) → Type 0
  GoesOn hands n seats = (s : Seat Node C) → slice_get seats n ≡ Some s → IsFilled s × HasMore (machine policy plan) n (option_map (post_at policy plan n) (hands n)) (local policy plan s.node)

  -- without a letter nothing is due at node n if its journal is full
  abbrev pub RestsFilled : ℕ → List (Seat Node C) → Type 0
  RestsFilled n seats = (s : Seat Node C) → slice_get seats n ≡ Some s → IsFilled s → Rests (machine policy plan) n (local policy plan s.node)

  -- nodes below n with full journals rest, and n goes on
  pub record AreAsked (room : ℕ) (hands : ℕ → Option Letter) (n : ℕ) (seats : List (Seat Node C)) : Type 0 where
    pub live : AllLive room hands seats
    pub goes : GoesOn hands n seats
    pub below : (k : ℕ) → k < n → RestsFilled k seats

-- nothing but the answer of its last turn changed at a seat
abbrev pub SameButRest : {C : Type 0} → Seat Node C → Seat Node C → Type 0
SameButRest s t = t ≡ record s { rest = t.rest }

-- nor at any
pub record AllSameButRest {C : Type 0} (old new : List (Seat Node C)) : Type 0 where
  pub count : length new ≡ length old
  pub each : (k : ℕ) (t : Seat Node C) → slice_get new k ≡ Some t → (s : Seat Node C) × (slice_get old k ≡ Some s) × SameButRest s t

module _ (policy : Policy) {C : Type 0} (puts gives : C → List Letter) where
  -- what a seat was asked, and its answer
  abbrev pub AskedSeat : Rest → Seat Node C → Seat Node C → Type 0
  AskedSeat rested.Full s t = (plan : Plan) (room n : ℕ) → LivesAt policy plan puts gives room n None s → SameButRest s t × IsFilled s × HasMore (machine policy plan) n None (local policy plan s.node)
  AskedSeat rested.Busy s t = (plan : Plan) (room n : ℕ) → LivesAt policy plan puts gives room n None s → SameButRest s t × (IsFilled s → Rests (machine policy plan) n (local policy plan s.node))
  AskedSeat rested.Idle s t = (plan : Plan) (room n : ℕ) → LivesAt policy plan puts gives room n None s → SameButRest s t × (IsFilled s → Rests (machine policy plan) n (local policy plan s.node))
  AskedSeat rested.Over s t = (plan : Plan) (room n : ℕ) → LivesAt policy plan puts gives room n None s → SameButRest s t × (IsFilled s → Rests (machine policy plan) n (local policy plan s.node))

  -- one of all seats was asked
  pub record AskedAt (answer : Rest) (at : ℕ) (old new : List (Seat Node C)) : Type 0 where
    pub s : Seat Node C
    pub t : Seat Node C
    pub is : slice_get old at ≡ Some s
    pub now : new ≡ slice_set old at t
    pub side : t.side ≡ s.side
    pub asked : AskedSeat answer s t

  -- where the run stopped at node `at`, the least one that found its journal full: what came there, and at others above it, is in hand
  pub record Stopped (plan : Plan) (room : ℕ) (hands : ℕ → Option Letter) (at : ℕ) (seats : List (Seat Node C)) : Type 0 where
    pub live : AllLive policy plan puts gives room hands seats
    pub goes : GoesOn policy plan puts gives hands at seats
    pub off : (k : ℕ) → k < at → hands k ≡ None

  -- the first that goes on by itself was found below `at`, or is `at`
  abbrev pub FirstFound : ℕ → ℕ → List (Seat Node C) → List (Seat Node C) → Type 0
  FirstFound at n old new = (n ≤ at) × ((plan : Plan) (room : ℕ) (hands : ℕ → Option Letter) → Stopped plan room hands at old → AreAsked policy plan puts gives room hands n new × (AllSameButRest old new))

-- ---- looking for letters to nodes with full journals

module _ {C : Type 0} (puts gives : C → List Letter) (known : C → ℕ) (pair : C → C → Type 0) where
  -- a letter that was known was taken, or none was
  pub record TookAny (nodes : ℕ) (came : Option Letter) (old new : Seat Node C) : Type 0 where
    pub step : Step puts gives pair came old new
    pub put_same : (m : ℕ) → towards puts new.side m ≡ towards puts old.side m
    pub waits_same : waiting new ≡ waiting old
    pub calm : came ≡ None → SeatCalm puts gives pair old new
    pub none : came ≡ None → (m : ℕ) → m < nodes → knows known old.side m ≡ 0

module _ {C : Type 0} (puts gives : C → List Letter) (pair : C → C → Type 0) where
  -- if the journal of node `at` is full, no letter lies or waits for it
  abbrev pub NoneComes : ℕ → ℕ → List (Seat Node C) → Type 0
  NoneComes nodes at seats = (s : Seat Node C) → slice_get seats at ≡ Some s → IsFilled s → (a : ℕ) (t : Seat Node C) → a < nodes → slice_get seats a ≡ Some t → (towards gives s.side a ≡ towards puts t.side at) × (any_to at (waiting t) ≡ false)

  -- a letter waits for it
  pub record OneWaits (nodes at : ℕ) (seats : List (Seat Node C)) : Type 0 where
    pub from : ℕ
    pub seat : Seat Node C
    pub below : from < nodes
    pub is : slice_get seats from ≡ Some seat
    pub one : any_to at (waiting seat) ≡ true

  -- one was taken there
  pub record OneTaken (at : ℕ) (old new : List (Seat Node C)) : Type 0 where
    pub letter : Letter
    pub s : Seat Node C
    pub t : Seat Node C
    pub is : slice_get old at ≡ Some s
    pub now : new ≡ slice_set old at t
    pub step : Step puts gives pair (Some letter) s t
    pub put_same : (m : ℕ) → towards puts t.side m ≡ towards puts s.side m
    pub waits_same : waiting t ≡ waiting s

  -- its journal is full, and a letter waits for it, or was taken
  pub record IsAwaited (nodes at : ℕ) (old new : List (Seat Node C)) : Type 0 where
    pub full : (s : Seat Node C) → slice_get new at ≡ Some s → IsFilled s
    pub mid : List (Seat Node C)
    pub calm : Calm puts gives pair old mid
    pub comes : ((new ≡ mid) × OneWaits nodes at mid) ⊎ OneTaken at mid new

  abbrev pub AwaitedAs : Bool → ℕ → ℕ → List (Seat Node C) → List (Seat Node C) → Type 0
  AwaitedAs false nodes at old new = Calm puts gives pair old new × NoneComes nodes at new
  AwaitedAs true nodes at old new = IsAwaited nodes at old new

  -- n is the first node below `at` that is awaited, or there is none and it is `at`
  pub record FirstAwaited (nodes at n : ℕ) (old new : List (Seat Node C)) : Type 0 where
    pub least : n ≤ at
    pub mid : List (Seat Node C)
    pub calm : Calm puts gives pair old mid
    pub below : (k : ℕ) → k < n → NoneComes nodes k mid
    pub found : ((n ≡ at) × (new ≡ mid)) ⊎ ((n < at) × IsAwaited nodes n mid new)
