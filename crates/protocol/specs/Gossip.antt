-- Load vectors, what a policy sees, and what it chooses.
use Rattle.std.specs.Prelude.{◌≡◌, ℕ, zero, suc, nat_lt, ◌+◌, ◌<◌, ◌≤◌, ◌==◌, ◌⊎◌, Bool, true, false, cond, Option, Some, None, List, [], ◌∷◌, ◌++◌}
use Rattle.protocol.specs.Deeds.{Deed, Steps, Begin, Chosen, Gossips}

-- what a node told of itself: its contexts and its free pages at a stamp
pub record Entry : Type 0 where
  pub node : ℕ
  pub load : ℕ
  pub free : ℕ
  pub stamp : ℕ

-- what a node keeps of gossip: its vector of eight places, how many halves it sent, the quanta of steps since the last one, and the load and the free
-- pages that it told last
pub record Gossip : Type 0 where
  pub vector : List (Option Entry)
  pub sent : ℕ
  pub steps : ℕ
  pub load : ℕ
  pub free : ℕ

abbrev pub no_gossip : Gossip
no_gossip = record { vector = None ∷ None ∷ None ∷ None ∷ None ∷ None ∷ None ∷ None ∷ []; sent = 0; steps = 0; load = 0; free = 0 }

-- one more quantum of steps
abbrev pub one_step : Gossip → Gossip
one_step g = record { vector = g.vector; sent = g.sent; steps = g.steps + 1; load = g.load; free = g.free }

-- the own entry at place 0
abbrev pub renewed : Entry → List (Option Entry) → List (Option Entry)
renewed own [] = []
renewed own (x ∷ rest) = Some own ∷ rest

abbrev pub first_places : ℕ → List (Option Entry) → List (Option Entry)
first_places zero v = []
first_places (suc k) [] = []
first_places (suc k) (x ∷ v) = x ∷ first_places k v

-- old place i goes to place 2i, heard place i to place 2i + 1
abbrev pub woven : List (Option Entry) → List (Option Entry) → List (Option Entry)
woven [] ys = []
woven (x ∷ xs) [] = []
woven (x ∷ xs) (y ∷ ys) = x ∷ y ∷ woven xs ys

-- the places that a half tells: the first four, after the own entry is renewed
abbrev pub told_places : Entry → Gossip → List (Option Entry)
told_places own g = first_places 4 (renewed own g.vector)

-- what a half that is sent makes of a node's gossip, and what one that is heard makes of it, with the places that it tells
abbrev pub gossip_after : Bool → Entry → List (Option Entry) → Gossip → Gossip
gossip_after false own places g = record { vector = renewed own g.vector; sent = g.sent + 1; steps = 0; load = own.load; free = own.free }
gossip_after true own places g = record { vector = woven (told_places own g) places; sent = g.sent; steps = g.steps; load = g.load; free = g.free }

-- the newest entry of a node: the one of the greatest stamp, and of equal stamps the one at the lowest place
abbrev pub later : Entry → Option Entry → Option Entry
later e None = Some e
later e (Some f) = cond (nat_lt e.stamp f.stamp) (Some f) (Some e)

abbrev pub newest : ℕ → List (Option Entry) → Option Entry
newest m [] = None
newest m (None ∷ rest) = newest m rest
newest m (Some e ∷ rest) = cond (e.node == m) (later e (newest m rest)) (newest m rest)

abbrev pub one_entry : Option Entry → List Entry
one_entry None = []
one_entry (Some e) = e ∷ []

-- of each other node than n the newest entry, in their order, of nodes below a number
abbrev pub known_below : ℕ → ℕ → List (Option Entry) → List Entry
known_below zero n v = []
known_below (suc m) n v = known_below m n v ++ cond (m == n) [] (one_entry (newest m v))

-- the k-th other node than n, from 0
abbrev pub other_at : ℕ → ℕ → ℕ
other_at n k = cond (nat_lt k n) k (k + 1)

-- all places name nodes of a cluster of so many
abbrev pub NearPlaces : ℕ → List (Option Entry) → Type 0
NearPlaces nodes [] = Unit {0}
NearPlaces nodes (None ∷ rest) = NearPlaces nodes rest
NearPlaces nodes (Some e ∷ rest) = (e.node < nodes) × NearPlaces nodes rest

-- a place names a node that a cluster of so many does not have
abbrev pub FarPlaces : ℕ → List (Option Entry) → Type 0
FarPlaces nodes [] = ⊥
FarPlaces nodes (None ∷ rest) = FarPlaces nodes rest
FarPlaces nodes (Some e ∷ rest) = (nodes ≤ e.node) ⊎ FarPlaces nodes rest

-- a context that a policy may move, with its pages
pub record Movable : Type 0 where
  pub pid : ℕ
  pub pages : ℕ

-- of each pid below a number, in their order
abbrev pub listed_below : ℕ → (ℕ → List Movable) → List Movable
listed_below zero f = []
listed_below (suc p) f = listed_below p f ++ f p

-- what a policy sees: its node, the newest entry of each other node in their order, and the contexts that run there by pid
pub record Sight : Type 0 where
  pub node : ℕ
  pub cap : ℕ
  pub free : ℕ
  pub load : ℕ
  pub known : List Entry
  pub movable : List Movable

pub record Choice : Type 0 where
  pub pid : ℕ
  pub to : ℕ

abbrev pub IsKnown : ℕ → List Entry → Type 0
IsKnown n [] = ⊥
IsKnown n (e ∷ es) = (e.node ≡ n) ⊎ IsKnown n es

abbrev pub IsMovable : ℕ → List Movable → Type 0
IsMovable p [] = ⊥
IsMovable p (x ∷ xs) = (x.pid ≡ p) ⊎ IsMovable p xs

-- what an event is to gossip: nothing, a quantum of steps, or a half that is sent or heard, with the choice at it
pub data Talk : Type 0 where
  Silent : Talk
  Stepping : Talk
  Talking : (heard : Bool) (other : ℕ) (chosen : Option Choice) → Talk

abbrev pub talk_of : Deed → Talk
talk_of (Steps p k) = Stepping
talk_of (Begin p to (Chosen heard other)) = Talking heard other (Some (record { pid = p; to = to }))
talk_of (Gossips heard other) = Talking heard other None
talk_of _ = Silent
