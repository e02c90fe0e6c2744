-- All seats together, between two turns.
use Rattle.std.specs.Prelude.{◌≡◌, ℕ, ◌+◌, ◌<◌, ◌≤◌, Bool, true, Option, Some, List, length, slice_get}
use Rattle.call_forward.specs.declared.letter.Letter.{Letter}
use Rattle.node_links.specs.Sides.{carrier_to}
use Rattle.cluster_run.specs.Sides.{towards, knows, OthersStay}
use Rattle.cluster_run.specs.Meeting.{Linked, Fronts, SideCalm}
use Rattle.cluster_run.specs.declared.seat.Seat.{Seat}

-- the carriers of any two seats towards each other are a pair
abbrev pub AreLinked : {N C : Type 0} → (C → C → Type 0) → List (Seat N C) → Type 0
AreLinked {N} {C} pair seats = (a b : ℕ) (s t : Seat N C) → slice_get seats a ≡ Some s → slice_get seats b ≡ Some t → Linked pair (carrier_to s.side b) (carrier_to t.side a)

module _ {N C : Type 0} (puts gives : C → List Letter) (pair : C → C → Type 0) where
  -- nothing was put, taken or done at a seat
  pub record SeatCalm (old new : Seat N C) : Type 0 where
    pub same : new ≡ record old { side = new.side }
    pub side : SideCalm puts gives pair old.side new.side

  -- nor at any
  pub record Calm (old new : List (Seat N C)) : Type 0 where
    pub count : length new ≡ length old
    pub each : (k : ℕ) (t : Seat N C) → slice_get new k ≡ Some t → (s : Seat N C) × (slice_get old k ≡ Some s) × SeatCalm s t

  -- on both links between two nodes what came out begins what went in; where none lies on them it is all
  pub record BothFront (none : Bool) (a b : ℕ) (seats : List (Seat N C)) : Type 0 where
    pub there : (s t : Seat N C) → slice_get seats a ≡ Some s → slice_get seats b ≡ Some t → Fronts none (towards gives t.side a) (towards puts s.side b)
    pub back : (s t : Seat N C) → slice_get seats a ≡ Some s → slice_get seats b ≡ Some t → Fronts none (towards gives s.side b) (towards puts t.side a)

  -- the carriers of two nodes met
  pub record Met (none : Bool) (a b : ℕ) (old new : List (Seat N C)) : Type 0 where
    pub calm : Calm old new
    pub both : BothFront none a b new

  -- those of node a and of each node below n
  pub record RowMet (none : Bool) (a n : ℕ) (old new : List (Seat N C)) : Type 0 where
    pub calm : Calm old new
    pub both : (b : ℕ) → b < n → BothFront none a b new

  -- those of each node below m and of each node below n
  pub record AllMet (none : Bool) (m n : ℕ) (old new : List (Seat N C)) : Type 0 where
    pub calm : Calm old new
    pub both : (a b : ℕ) → a < m → b < n → BothFront none a b new

module _ {N C : Type 0} (puts gives : C → List Letter) (known : C → ℕ) where
  -- after the carriers of two nodes met, the taking ends of their links know of all that lies there; no other carrier was touched
  pub record Counted (a b : ℕ) (old new : List (Seat N C)) : Type 0 where
    pub here : (s t : Seat N C) → slice_get old a ≡ Some s → slice_get new a ≡ Some t → OthersStay b s.side t.side
    pub there : (s t : Seat N C) → slice_get old b ≡ Some s → slice_get new b ≡ Some t → OthersStay a s.side t.side
    pub comes : (s t : Seat N C) → slice_get new a ≡ Some s → slice_get new b ≡ Some t → length (towards gives s.side b) + knows known s.side b ≡ length (towards puts t.side a)
    pub goes : (s t : Seat N C) → slice_get new a ≡ Some s → slice_get new b ≡ Some t → length (towards gives t.side a) + knows known t.side a ≡ length (towards puts s.side b)

  -- node a knows of all that lies on the links from nodes below n
  abbrev pub RowCounted : ℕ → ℕ → List (Seat N C) → Type 0
  RowCounted a n seats = (b : ℕ) (s t : Seat N C) → b < n → slice_get seats a ≡ Some s → slice_get seats b ≡ Some t → length (towards gives s.side b) + knows known s.side b ≡ length (towards puts t.side a)
