-- What one turn of a node may do.
use Rattle.std.specs.Prelude.{◌≡◌, ◌≢◌, ℕ, nat_lt, max, ◌-◌, ◌%◌, ◌++◌, slice_get, ℤ, ◌+◌, ◌<◌, ◌≤◌, ◌==◌, ◌⊎◌, Bool, true, false, cond, Option, Some, None, List, ◌∷◌, []}
use Rattle.call_table.specs.declared.process.End.{End}
use Rattle.protocol.specs.Ops.{Ops, is_child, typed, has_text, sum_below, one_if}
use Rattle.node_event.specs.declared.script.Order.{Order}
use Rattle.node_event.specs.declared.script.Order.TheVariants as order
use Rattle.protocol.specs.Gossip.{Entry, Gossip, FarPlaces, one_step, told_places, gossip_after, known_below, other_at, listed_below, Movable, Sight, Choice}
use Rattle.protocol.specs.Deeds.{Input, Text, Finish, Nothing, Manner, Did, Broke, Fell, Paused, Why, Gone, Moving, There, KeptTold, Reason, ForLine, Chosen, line_for, Deed, Run, Kill, Bid, Unsent, Other, Steps, Sent, Heed, Held, Served, Got, Poked, Begin, Keep, Missed, Again, Allows, Denies, Depart, Stay, Land, Told, Refused, Closed, Gossips, Strange}
use Rattle.protocol.specs.Notes.{SameProgress, served_one, Kept, State, Running, Waiting, Asking, Believed, is_some, Done, Note, Call, Pause, Reply, Poke, Half, Go, NotHere, Ask, Allow, Deny, Move, Landed, NoMove, Post, letter, Turn, Body, fresh, Context, context, Called, Slot, Local}
use Rattle.protocol.specs.Home.{both, other_than, live_of, HasEnded, NeverGiven, UnsentFor, unheld, after, returned, First, last, Acts, done_of, to_poke, pokes, line_closed, Answers, born_at, first_none, fits_done}

module _ (O : Ops) where
  -- changes of a slot
  abbrev pub hosts : Option (Context O) → Slot O → Slot O
  hosts c s = record { context = c; reserve = s.reserve; call = s.call }

  abbrev pub reserves : Option ℕ → Slot O → Slot O
  reserves r s = record { context = s.context; reserve = r; call = s.call }

  abbrev pub holds : Option (Called O) → Slot O → Slot O
  holds c s = record { context = s.context; reserve = s.reserve; call = c }

  abbrev pub lands : Option (Context O) → Slot O → Slot O
  lands c s = record { context = c; reserve = None; call = s.call }

  abbrev pub same : Slot O → Slot O
  same s = s

  -- what every kind says: the letter taken, those posted, and the slots, of which at most two change
  pub record Base (p : ℕ) (child : Option ℕ) (taken : Option (Post O)) (posted : List (Post O)) (change born : Slot O → Slot O) (old : Local O) (t : Turn O) (new : Local O) : Type 0 where
    pub took : t.taken ≡ taken
    pub posts : t.posted ≡ posted
    pub slots : (q : ℕ) → new.slots q ≡ cond (q == p) (change (old.slots q)) (cond (is_child child q) (born (old.slots q)) (old.slots q))

  -- home's own part stays
  pub record Still (old new : Local O) : Type 0 where
    pub kernel : new.kernel ≡ old.kernel
    pub believed : (q : ℕ) → new.believed q ≡ old.believed q
    pub progress : new.progress ≡ old.progress
    pub gossip : new.gossip ≡ old.gossip

  -- home's own part stays, whatever becomes of gossip
  pub record Settled (old new : Local O) : Type 0 where
    pub kernel : new.kernel ≡ old.kernel
    pub believed : (q : ℕ) → new.believed q ≡ old.believed q
    pub progress : new.progress ≡ old.progress

  -- home's own part stays, and a quantum of steps is counted
  pub record Counts (old new : Local O) : Type 0 where
    pub kernel : new.kernel ≡ old.kernel
    pub believed : (q : ℕ) → new.believed q ≡ old.believed q
    pub progress : new.progress ≡ old.progress
    pub gossip : new.gossip ≡ one_step old.gossip

  -- a line of the script is enabled
  abbrev pub EnabledHere : Order → Local O → Type 0
  EnabledHere (order.Run words) old = O.launch old.kernel ≢ None
  EnabledHere (order.Wait p) old = HasEnded O old.kernel p
  EnabledHere (order.After p k) old = (k ≤ old.progress.served p) ⊎ HasEnded O old.kernel p
  EnabledHere (order.Held p) old = (unheld O (old.slots p).call ≡ false) ⊎ HasEnded O old.kernel p
  EnabledHere (order.Slots c) old = live_of (O.live old.kernel) old.progress.launched < c
  EnabledHere _ old = Unit {0}

  -- the next line of the script is carried out, after all lines before it
  pub record Ordered (line : ℕ) (what : Order) (launched : List ℕ) (old new : Local O) : Type 0 where
    pub next : slice_get O.script old.progress.done ≡ Some (record { line = line; order = what })
    pub enabled : EnabledHere what old
    pub rises : old.progress.line ≤ line
    pub is : SameProgress new.progress (record { line = line + 1; done = old.progress.done + 1; launched = launched; served = old.progress.served })

  -- the line that such an input is of
  abbrev pub Feeds : Input → Order → Type 0
  Feeds (Text j) (order.Feed text) = Unit {0}
  Feeds Finish order.Eof = Unit {0}
  Feeds Nothing (order.Wait p) = Unit {0}
  Feeds Nothing (order.After p k) = Unit {0}
  Feeds Nothing (order.Held p) = Unit {0}
  Feeds Nothing (order.Slots c) = Unit {0}
  Feeds _ _ = ⊥

  -- a quantum of steps: fewer only where the next one does not go, or maps a page
  pub record Quantum (k : ℕ) (u : O.User) : Type 0 where
    pub least : 1 ≤ k
    pub most : k ≤ O.quantum
    pub whole : (k ≡ O.quantum) ⊎ ((O.went u 1 ≡ None) ⊎ (O.grows u ≡ true))

  -- the pages of one pid at a node, of its context and of its reservation
  abbrev pub context_pages : Option (Context O) → ℕ
  context_pages None = 0
  context_pages (Some c) = O.pages c.body.user

  abbrev pub reserve_pages : Option ℕ → ℕ
  reserve_pages None = 0
  reserve_pages (Some need) = need

  abbrev pub slot_pages : Slot O → ℕ
  slot_pages s = context_pages s.context + reserve_pages s.reserve

  -- the pages in use at a node: those of all pids
  pub record InUse (l : Local O) (used : ℕ) : Type 0 where
    pub bound : ℕ
    pub beyond : (p : ℕ) → bound ≤ p → slot_pages (l.slots p) ≡ 0
    pub sum : used ≡ sum_below bound (λ p. slot_pages (l.slots p))

  -- the reservations that stand at a node
  abbrev pub is_reserved : Option ℕ → Bool
  is_reserved None = false
  is_reserved (Some need) = true

  pub record Reserved (l : Local O) (total : ℕ) : Type 0 where
    pub bound : ℕ
    pub beyond : (p : ℕ) → bound ≤ p → (l.slots p).reserve ≡ None
    pub sum : total ≡ sum_below bound (λ p. one_if (is_reserved (l.slots p).reserve))

  -- the contexts at a node
  abbrev pub is_here : Option (Context O) → Bool
  is_here None = false
  is_here (Some c) = true

  pub record Loaded (l : Local O) (load : ℕ) : Type 0 where
    pub bound : ℕ
    pub beyond : (p : ℕ) → bound ≤ p → (l.slots p).context ≡ None
    pub sum : load ≡ sum_below bound (λ p. one_if (is_here (l.slots p).context))

  -- the contexts that run at a node, by pid, with their pages
  abbrev pub movable_as : ℕ → Body O → State → List Movable
  movable_as p b Running = record { pid = p; pages = O.pages b.user } ∷ []
  movable_as p b _ = []

  abbrev pub movable_one : ℕ → Option (Context O) → List Movable
  movable_one p None = []
  movable_one p (Some c) = movable_as p c.body c.state

  pub record CanMove (l : Local O) (movable : List Movable) : Type 0 where
    pub bound : ℕ
    pub beyond : (p : ℕ) → bound ≤ p → (l.slots p).context ≡ None
    pub is : movable ≡ listed_below bound (λ p. movable_one p (l.slots p).context)

  -- no context runs at a node
  abbrev pub NoneRuns : Local O → Type 0
  NoneRuns l = (p : ℕ) (b : Body O) → (l.slots p).context ≢ Some (context O b Running)

  -- a half is due, and to this node: in the first round to the next other node in order; after it to the one that the next word names, where sixteen
  -- quanta of steps went since the last half, or where nothing runs and load or free are not those last told
  abbrev pub HalfDueTo : ℕ → ℕ → ℕ → ℕ → Type 0 → Gossip → Type 0
  HalfDueTo n other load free nothing_runs g =
      ((g.sent < O.nodes - 1) × (other ≡ other_at n g.sent))
      ⊎ ((O.nodes - 1 ≤ g.sent) × (other ≡ other_at n (O.word n (g.sent - (O.nodes - 1)) % (O.nodes - 1))) × ((16 ≤ g.steps) ⊎ (nothing_runs × ((load ≢ g.load) ⊎ (free ≢ g.free)))))

  -- one that is sent tells the first four places
  abbrev pub SendsIf : Bool → ℕ → ℕ → Entry → List (Option Entry) → Local O → Type 0
  SendsIf false n other own places l = (2 ≤ O.nodes) × HalfDueTo n other own.load own.free (NoneRuns l) l.gossip × (places ≡ told_places own l.gossip)
  SendsIf true n other own places l = Unit {0}

  abbrev pub seen : ℕ → Entry → List (Option Entry) → List Movable → Sight
  seen n own vector movable = record { node = n; cap = O.cap; free = own.free; load = own.load; known = known_below O.nodes n vector; movable = movable }

  -- a half that a node sends to another or hears from it: it renews its own entry, tells or merges, and asks its policy on what it then sees
  pub record Talks (heard : Bool) (n other : ℕ) (chosen : Option Choice) (old : Local O) (t : Turn O) (new : Local O) : Type 0 where
    pub own : Entry
    pub places : List (Option Entry)
    -- of the letter that is heard
    pub stamp : ℕ
    pub used : ℕ
    pub in_use : InUse old used
    pub loaded : Loaded old own.load
    pub own_is : own ≡ record { node = n; load = own.load; free = O.cap - used; stamp = t.event.stamp }
    pub sends : SendsIf heard n other own places old
    pub gossip : new.gossip ≡ gossip_after heard own places old.gossip
    pub movable : List Movable
    pub can_move : CanMove old movable
    pub chooses : O.Chooses (seen n own new.gossip.vector movable) chosen

  abbrev pub half_taken : Bool → ℕ → ℕ → ℕ → List (Option Entry) → Option (Post O)
  half_taken false n other stamp places = None
  half_taken true n other stamp places = Some (letter O other n stamp (Half places))

  abbrev pub half_posts : Bool → ℕ → ℕ → ℕ → List (Option Entry) → List (Post O)
  half_posts false n other stamp places = letter O n other stamp (Half places) ∷ []
  half_posts true n other stamp places = []

  -- a half without a choice
  pub record OnlyTalks (heard : Bool) (n other : ℕ) (old : Local O) (t : Turn O) (new : Local O) : Type 0 where
    pub talks : Talks heard n other None old t new
    pub base : Base 0 None (half_taken heard n other talks.stamp talks.places) (half_posts heard n other t.event.stamp talks.places) same same old t new
    pub still : Settled old new

  -- the processes that home pokes after a call of p
  abbrev pub pokes_of : ℕ → O.Kernel → (ℕ → Slot O) → Option ℕ → Option ℕ → List ℕ
  pokes_of p k slots a b = both (to_poke O k slots (other_than p a)) (to_poke O k slots (other_than p b))

  pub record Launches (n line i p : ℕ) (old : Local O) (t : Turn O) (new : Local O) : Type 0 where
    pub home : n ≡ 0
    pub image : nat_lt i O.images ≡ true
    pub launched : O.launch old.kernel ≡ Some new.kernel
    pub next : p ≡ O.count old.kernel + 1
    pub base : Base p None None [] (hosts (Some (context O (fresh O (O.loaded i p)) Running))) same old t new
    pub gossip : new.gossip ≡ old.gossip
    pub believed : (q : ℕ) → new.believed q ≡ cond (q == p) (record { place = 0; hops = 0 }) (old.believed q)
    pub words : List (List ℕ)
    pub order : Ordered line (order.Run words) (p ∷ old.progress.launched) old new

  pub record Kills (n line p s : ℕ) (poked : List ℕ) (old : Local O) (t : Turn O) (new : Local O) : Type 0 where
    pub home : n ≡ 0
    pub signal_is : O.is_signal s ≡ true
    pub kernel : new.kernel ≡ O.raise old.kernel p s
    pub tells : poked ≡ both (to_poke O new.kernel old.slots (cond (O.hit old.kernel p s) (Some p) None)) None
    pub base : Base p None None (pokes O t.event.stamp old.believed poked) same same old t new
    pub gossip : new.gossip ≡ old.gossip
    pub believed : (q : ℕ) → new.believed q ≡ old.believed q
    pub order : Ordered line (order.Kill p s) old.progress.launched old new

  pub record Bids (n line p to : ℕ) (old : Local O) (t : Turn O) (new : Local O) : Type 0 where
    pub home : n ≡ 0
    pub live : O.live old.kernel p ≡ true
    pub base : Base p None None (letter O 0 (old.believed p).place t.event.stamp (Go p to (old.believed p).hops line) ∷ []) same same old t new
    pub kernel : new.kernel ≡ old.kernel
    pub gossip : new.gossip ≡ old.gossip
    pub believed : (q : ℕ) → new.believed q ≡ old.believed q
    pub order : Ordered line (order.Move p to) old.progress.launched old new

  pub record Unsends (n line p : ℕ) (never : Bool) (old : Local O) (t : Turn O) (new : Local O) : Type 0 where
    pub home : n ≡ 0
    pub why : UnsentFor O never old.kernel p
    pub base : Base p None None [] same same old t new
    pub kernel : new.kernel ≡ old.kernel
    pub gossip : new.gossip ≡ old.gossip
    pub believed : (q : ℕ) → new.believed q ≡ old.believed q
    pub to : ℕ
    pub order : Ordered line (order.Move p to) old.progress.launched old new

  pub record Others (n line : ℕ) (input : Input) (old : Local O) (t : Turn O) (new : Local O) : Type 0 where
    pub home : n ≡ 0
    pub text : has_text O input ≡ true
    pub kernel : new.kernel ≡ typed O input old.kernel
    pub base : Base 0 None None [] same same old t new
    pub gossip : new.gossip ≡ old.gossip
    pub believed : (q : ℕ) → new.believed q ≡ old.believed q
    pub what : Order
    pub suits : Feeds input what
    pub order : Ordered line what old.progress.launched old new

  pub record Stepped (n p k : ℕ) (old : Local O) (t : Turn O) (new : Local O) : Type 0 where
    pub body : Body O
    pub user : O.User
    pub was : (old.slots p).context ≡ Some (context O body Running)
    pub unpoked : body.poked ≡ false
    pub went : O.went body.user k ≡ Some user
    pub bounds : Quantum k user
    -- with two nodes or more a half goes before the 17th quantum since the last one
    pub no_half : 2 ≤ O.nodes → old.gossip.steps < 16
    pub base : Base p None None [] (hosts (Some (context O (record body { user = user }) Running))) same old t new
    pub still : Counts old new

  pub record Sends (n p number : ℕ) (old : Local O) (t : Turn O) (new : Local O) : Type 0 where
    pub body : Body O
    pub request : O.Request
    pub was : (old.slots p).context ≡ Some (context O body Running)
    pub unpoked : body.poked ≡ false
    pub asks : O.asks body.user ≡ Some request
    pub number_is : number ≡ O.number request
    pub base : Base p None None (letter O n 0 t.event.stamp (Call p request) ∷ []) (hosts (Some (context O body (Waiting false None)))) same old t new
    pub still : Still old new

  pub record Heeds (n p : ℕ) (old : Local O) (t : Turn O) (new : Local O) : Type 0 where
    pub body : Body O
    pub was : (old.slots p).context ≡ Some (context O body Running)
    pub poked : body.poked ≡ true
    pub base : Base p None None (letter O n 0 t.event.stamp (Pause p (O.room body.user)) ∷ []) (hosts (Some (context O (record body { poked = false }) (Waiting true None)))) same old t new
    pub still : Still old new

  pub record Holding (n p number : ℕ) (old : Local O) (t : Turn O) (new : Local O) : Type 0 where
    pub home : n ≡ 0
    pub from : ℕ
    pub stamp : ℕ
    pub request : O.Request
    pub number_is : number ≡ O.number request
    pub some : O.number request ≢ 0
    pub blocks : O.serve old.kernel p request ≡ None
    pub quiet : O.lowest old.kernel p ≡ None
    pub base : Base p None (Some (letter O from n stamp (Call p request))) [] (holds (Some (record { from = from; request = request }))) same old t new
    pub still : Still old new

  -- the request comes by letter
  pub record Serves (n p : ℕ) (manner : Manner) (number : Option ℕ) (value : Option ℤ) (child signal : Option ℕ) (ends : Option End) (more : Bool) (poked : List ℕ) (old : Local O) (t : Turn O) (new : Local O) : Type 0 where
    pub home : n ≡ 0
    pub from : ℕ
    pub stamp : ℕ
    pub request : O.Request
    pub first : First O
    pub acts : Acts O manner old.kernel p request first
    pub answers : Answers O p manner value child signal ends more (O.room_of request) first old.kernel new.kernel
    pub number_is : number ≡ Some (O.number request)
    pub tells : poked ≡ pokes_of p new.kernel old.slots first.raised (last O first.kernel p (O.room_of request)).raised
    pub base : Base p None (Some (letter O from n stamp (Call p request))) (letter O n from t.event.stamp (Reply p (done_of O p first (last O first.kernel p (O.room_of request)))) ∷ pokes O t.event.stamp old.believed poked) same same old t new
    pub gossip : new.gossip ≡ old.gossip
    pub believed : (q : ℕ) → new.believed q ≡ born_at O from child old.believed q
    pub progress : SameProgress new.progress (served_one p old.progress)

  -- or it was held
  pub record Retries (n p : ℕ) (manner : Manner) (number : Option ℕ) (value : Option ℤ) (child signal : Option ℕ) (ends : Option End) (more : Bool) (poked : List ℕ) (old : Local O) (t : Turn O) (new : Local O) : Type 0 where
    pub home : n ≡ 0
    pub from : ℕ
    pub request : O.Request
    pub was : (old.slots p).call ≡ Some (record { from = from; request = request })
    pub first : First O
    pub acts : Acts O manner old.kernel p request first
    pub answers : Answers O p manner value child signal ends more (O.room_of request) first old.kernel new.kernel
    pub number_is : number ≡ Some (O.number request)
    pub tells : poked ≡ pokes_of p new.kernel old.slots first.raised (last O first.kernel p (O.room_of request)).raised
    pub base : Base p None None (letter O n from t.event.stamp (Reply p (done_of O p first (last O first.kernel p (O.room_of request)))) ∷ pokes O t.event.stamp old.believed poked) (holds None) same old t new
    pub gossip : new.gossip ≡ old.gossip
    pub believed : (q : ℕ) → new.believed q ≡ born_at O from child old.believed q
    pub progress : SameProgress new.progress (served_one p old.progress)

  pub record Pausing (n p : ℕ) (number : Option ℕ) (value : Option ℤ) (child signal : Option ℕ) (ends : Option End) (more : Bool) (poked : List ℕ) (old : Local O) (t : Turn O) (new : Local O) : Type 0 where
    pub home : n ≡ 0
    pub from : ℕ
    pub stamp : ℕ
    pub room : Bool
    pub answers : Answers O p Paused value child signal ends more room (first_none O old.kernel) old.kernel new.kernel
    pub number_is : number ≡ None
    pub tells : poked ≡ pokes_of p new.kernel old.slots None (last O old.kernel p room).raised
    pub base : Base p None (Some (letter O from n stamp (Pause p room))) (letter O n from t.event.stamp (Reply p (done_of O p (first_none O old.kernel) (last O old.kernel p room))) ∷ pokes O t.event.stamp old.believed poked) same same old t new
    pub gossip : new.gossip ≡ old.gossip
    pub believed : (q : ℕ) → new.believed q ≡ old.believed q
    pub progress : new.progress ≡ old.progress

  -- a fault is never held, so it is served at once
  abbrev pub ServedBy : Manner → ℕ → ℕ → Option ℕ → Option ℤ → Option ℕ → Option ℕ → Option End → Bool → List ℕ → Local O → Turn O → Local O → Type 0
  ServedBy Did n p number value child signal ends more poked old t new = Serves n p Did number value child signal ends more poked old t new ⊎ Retries n p Did number value child signal ends more poked old t new
  ServedBy Broke n p number value child signal ends more poked old t new = Serves n p Broke number value child signal ends more poked old t new ⊎ Retries n p Broke number value child signal ends more poked old t new
  ServedBy Fell n p number value child signal ends more poked old t new = Serves n p Fell number value child signal ends more poked old t new
  ServedBy Paused n p number value child signal ends more poked old t new = Pausing n p number value child signal ends more poked old t new

  -- what a reply makes of a context: dropped, running on, or beginning its kept move
  abbrev pub got_state : Option Kept → State
  got_state None = Running
  got_state (Some k) = Asking k.to (Some k.line)

  abbrev pub got_context : Body O → Option Kept → Done O → Option (Context O)
  got_context b k d = cond d.ended None (Some (context O (returned O b d) (got_state k)))

  abbrev pub kept_told : Option Kept → Bool → Option KeptTold
  kept_told None ends = None
  kept_told (Some k) ends = Some (record { ends = ends; to = k.to })

  abbrev pub got_posts : ℕ → ℕ → ℕ → Body O → Option Kept → Done O → List (Post O)
  got_posts n s p b None d = []
  got_posts n s p b (Some k) d = cond d.ended (letter O n 0 s (NoMove k.line) ∷ []) (letter O n k.to s (Ask p (O.pages (after O b.user d))) ∷ [])

  abbrev pub child_context : O.User → Option ℕ → Option (Context O)
  child_context u None = None
  child_context u (Some c) = Some (context O (fresh O (O.forked u c)) Running)

  pub record Gets (n p : ℕ) (child : Option ℕ) (ended : Bool) (kept : Option KeptTold) (old : Local O) (t : Turn O) (new : Local O) : Type 0 where
    pub from : ℕ
    pub stamp : ℕ
    pub body : Body O
    pub pause : Bool
    pub keeps : Option Kept
    pub done : Done O
    pub was : (old.slots p).context ≡ Some (context O body (Waiting pause keeps))
    pub child_is : child ≡ done.child
    pub ended_is : ended ≡ done.ended
    pub kept_is : kept ≡ kept_told keeps done.ended
    pub base : Base p child (Some (letter O from n stamp (Reply p done))) (got_posts n t.event.stamp p body keeps done) (hosts (got_context body keeps done)) (hosts (child_context body.user child)) old t new
    pub still : Still old new

  abbrev pub Awake : State → Type 0
  Awake Running = Unit {0}
  Awake (Waiting pause k) = ⊥
  Awake (Asking to line) = Unit {0}

  pub record Marks (n p : ℕ) (old : Local O) (t : Turn O) (new : Local O) : Type 0 where
    pub from : ℕ
    pub stamp : ℕ
    pub body : Body O
    pub state : State
    pub was : (old.slots p).context ≡ Some (context O body state)
    pub awake : Awake state
    pub base : Base p None (Some (letter O from n stamp (Poke p))) [] (hosts (Some (context O (record body { poked = true }) state))) same old t new
    pub still : Still old new

  abbrev pub Asleep : Option (Context O) → Type 0
  Asleep None = Unit {0}
  Asleep (Some c) = (pause : Bool) × (k : Option Kept) × (c.state ≡ Waiting pause k)

  pub record Ignores (n p : ℕ) (old : Local O) (t : Turn O) (new : Local O) : Type 0 where
    pub from : ℕ
    pub stamp : ℕ
    pub asleep : Asleep (old.slots p).context
    pub base : Base p None (Some (letter O from n stamp (Poke p))) [] same same old t new
    pub still : Still old new

  abbrev pub PokedBy : Bool → ℕ → ℕ → Local O → Turn O → Local O → Type 0
  PokedBy true n p old t new = Marks n p old t new
  PokedBy false n p old t new = Ignores n p old t new

  -- the letter that asks for it
  pub record AskedFor (old new : Local O) : Type 0 where
    pub from : ℕ
    pub stamp : ℕ
    pub hops : ℕ
    pub gossip : new.gossip ≡ old.gossip

  abbrev pub BeginsFor : Reason → ℕ → ℕ → ℕ → Local O → Turn O → Local O → Type 0
  BeginsFor (ForLine line) n p to old t new = AskedFor old new
  BeginsFor (Chosen heard other) n p to old t new = Talks heard n other (Some (record { pid = p; to = to })) old t new

  abbrev pub begin_taken : (reason : Reason) (n p to : ℕ) (old : Local O) (t : Turn O) (new : Local O) → BeginsFor reason n p to old t new → Option (Post O)
  begin_taken (ForLine line) n p to old t new why = Some (letter O why.from n why.stamp (Go p to why.hops line))
  begin_taken (Chosen heard other) n p to old t new why = half_taken heard n other why.stamp why.places

  abbrev pub begin_first : (reason : Reason) (n p to : ℕ) (old : Local O) (t : Turn O) (new : Local O) → BeginsFor reason n p to old t new → List (Post O)
  begin_first (ForLine line) n p to old t new why = []
  begin_first (Chosen heard other) n p to old t new why = half_posts heard n other t.event.stamp why.places

  pub record Begins (n p to : ℕ) (reason : Reason) (old : Local O) (t : Turn O) (new : Local O) : Type 0 where
    pub body : Body O
    pub was : (old.slots p).context ≡ Some (context O body Running)
    pub away : to ≢ n
    pub why : BeginsFor reason n p to old t new
    pub base : Base p None (begin_taken reason n p to old t new why) (begin_first reason n p to old t new why ++ letter O n to t.event.stamp (Ask p (O.pages body.user)) ∷ []) (hosts (Some (context O body (Asking to (line_for reason))))) same old t new
    pub still : Settled old new

  pub record Keeps (n p to line : ℕ) (old : Local O) (t : Turn O) (new : Local O) : Type 0 where
    pub from : ℕ
    pub stamp : ℕ
    pub hops : ℕ
    pub body : Body O
    pub pause : Bool
    pub was : (old.slots p).context ≡ Some (context O body (Waiting pause None))
    pub away : to ≢ n
    pub base : Base p None (Some (letter O from n stamp (Go p to hops line))) [] (hosts (Some (context O body (Waiting pause (Some (record { to = to; line = line })))))) same old t new
    pub still : Still old new

  pub record Misses (n p to line : ℕ) (old : Local O) (t : Turn O) (new : Local O) : Type 0 where
    pub from : ℕ
    pub stamp : ℕ
    pub hops : ℕ
    pub was : (old.slots p).context ≡ None
    pub base : Base p None (Some (letter O from n stamp (Go p to hops line))) (letter O n 0 t.event.stamp (NotHere p to hops line) ∷ []) same same old t new
    pub still : Still old new

  pub record SendsAgain (n p to place line : ℕ) (old : Local O) (t : Turn O) (new : Local O) : Type 0 where
    pub home : n ≡ 0
    pub from : ℕ
    pub stamp : ℕ
    pub hops : ℕ
    pub live : O.live old.kernel p ≡ true
    pub news : hops < (old.believed p).hops
    pub place_is : place ≡ (old.believed p).place
    pub base : Base p None (Some (letter O from n stamp (NotHere p to hops line))) (letter O n place t.event.stamp (Go p to (old.believed p).hops line) ∷ []) same same old t new
    pub still : Still old new

  pub record Grants (n p from need : ℕ) (old : Local O) (t : Turn O) (new : Local O) : Type 0 where
    pub stamp : ℕ
    pub used : ℕ
    pub in_use : InUse old used
    pub room : need ≤ O.cap - used
    pub base : Base p None (Some (letter O from n stamp (Ask p need))) (letter O n from t.event.stamp (Allow p) ∷ []) (reserves (Some need)) same old t new
    pub still : Still old new

  pub record Refuses (n p from need free : ℕ) (old : Local O) (t : Turn O) (new : Local O) : Type 0 where
    pub stamp : ℕ
    pub used : ℕ
    pub in_use : InUse old used
    pub free_is : free ≡ O.cap - used
    pub short : free < need
    pub base : Base p None (Some (letter O from n stamp (Ask p need))) (letter O n from t.event.stamp (Deny p need free) ∷ []) same same old t new
    pub still : Still old new

  pub record Departs (n p to : ℕ) (old : Local O) (t : Turn O) (new : Local O) : Type 0 where
    pub stamp : ℕ
    pub body : Body O
    pub line : Option ℕ
    pub was : (old.slots p).context ≡ Some (context O body (Asking to line))
    pub base : Base p None (Some (letter O to n stamp (Allow p))) (letter O n to t.event.stamp (Move p body.user body.hops line) ∷ []) (hosts None) same old t new
    pub still : Still old new

  pub record Stays (n p to need free : ℕ) (old : Local O) (t : Turn O) (new : Local O) : Type 0 where
    pub stamp : ℕ
    pub body : Body O
    pub line : Option ℕ
    pub was : (old.slots p).context ≡ Some (context O body (Asking to line))
    pub base : Base p None (Some (letter O to n stamp (Deny p need free))) (line_closed O n t.event.stamp line) (hosts (Some (context O body Running))) same old t new
    pub still : Still old new

  pub record Lands (n p source : ℕ) (old : Local O) (t : Turn O) (new : Local O) : Type 0 where
    pub stamp : ℕ
    pub user : O.User
    pub hops : ℕ
    pub line : Option ℕ
    pub base : Base p None (Some (letter O source n stamp (Move p user hops line))) (letter O n 0 t.event.stamp (Landed p source (hops + 1) line) ∷ []) (lands (Some (context O (record { user = user; hops = hops + 1; poked = false }) Running))) same old t new
    pub still : Still old new

  abbrev pub place_told : ℕ → ℕ → Bool → Believed → Believed
  place_told at hops true b = record { place = at; hops = hops }
  place_told at hops false b = b

  pub record Hears (n p at source hops : ℕ) (line : Option ℕ) (poked : Bool) (old : Local O) (t : Turn O) (new : Local O) : Type 0 where
    pub home : n ≡ 0
    pub stamp : ℕ
    pub later : Bool
    pub later_is : cond later ((old.believed p).hops < hops) (hops ≤ (old.believed p).hops)
    pub tells : poked ≡ is_some (O.lowest old.kernel p)
    pub base : Base p None (Some (letter O at n stamp (Landed p source hops line))) (cond poked (letter O n (place_told at hops later (old.believed p)).place t.event.stamp (Poke p) ∷ []) []) same same old t new
    pub kernel : new.kernel ≡ old.kernel
    pub gossip : new.gossip ≡ old.gossip
    pub believed : (q : ℕ) → new.believed q ≡ cond (q == p) (place_told at hops later (old.believed p)) (old.believed q)
    pub progress : new.progress ≡ old.progress

  -- a holder refuses a Go: it is moving already, or it is there
  abbrev pub RefusedFor : Why → ℕ → ℕ → Option (Context O) → Type 0
  RefusedFor Gone n to c = ⊥
  RefusedFor Moving n to c = ((b : Body O) × (to2 : ℕ) × (line2 : Option ℕ) × (c ≡ Some (context O b (Asking to2 line2)))) ⊎ ((b : Body O) × (pause : Bool) × (k : Kept) × (c ≡ Some (context O b (Waiting pause (Some k)))))
  RefusedFor There n to c = (((b : Body O) × (c ≡ Some (context O b Running))) ⊎ ((b : Body O) × (pause : Bool) × (c ≡ Some (context O b (Waiting pause None))))) × (to ≡ n)

  pub record RefusesGo (n p to : ℕ) (why : Why) (line : ℕ) (old : Local O) (t : Turn O) (new : Local O) : Type 0 where
    pub from : ℕ
    pub stamp : ℕ
    pub hops : ℕ
    pub was : RefusedFor why n to (old.slots p).context
    pub base : Base p None (Some (letter O from n stamp (Go p to hops line))) (letter O n 0 t.event.stamp (NoMove line) ∷ []) same same old t new
    pub still : Still old new

  -- home refuses: it has ended, or nothing newer was told
  abbrev pub NoNews : Why → ℕ → ℕ → Local O → Type 0
  NoNews Gone p hops old = O.live old.kernel p ≡ false
  NoNews Moving p hops old = (O.live old.kernel p ≡ true) × ((old.believed p).hops ≤ hops)
  NoNews There p hops old = ⊥

  pub record RefusesHome (n p to : ℕ) (why : Why) (line : ℕ) (old : Local O) (t : Turn O) (new : Local O) : Type 0 where
    pub home : n ≡ 0
    pub from : ℕ
    pub stamp : ℕ
    pub hops : ℕ
    pub was : NoNews why p hops old
    pub base : Base p None (Some (letter O from n stamp (NotHere p to hops line))) [] same same old t new
    pub still : Still old new

  pub record Closes (n line : ℕ) (old : Local O) (t : Turn O) (new : Local O) : Type 0 where
    pub home : n ≡ 0
    pub from : ℕ
    pub stamp : ℕ
    pub base : Base 0 None (Some (letter O from n stamp (NoMove line))) [] same same old t new
    pub still : Still old new

  -- when a letter does not fit
  abbrev pub NotWaiting : Option (Context O) → Type 0
  NotWaiting c = (b : Body O) (pause : Bool) (k : Option Kept) → c ≢ Some (context O b (Waiting pause k))

  -- the context waits, and what comes is no answer to it
  abbrev pub WrongDone : Option (Context O) → Done O → Type 0
  WrongDone c d = (b : Body O) × (pause : Bool) × (k : Option Kept) × (c ≡ Some (context O b (Waiting pause k))) × (fits_done O pause b.user d ≡ false)

  abbrev pub NotAsking : ℕ → Option (Context O) → Type 0
  NotAsking to c = (b : Body O) (line : Option ℕ) → c ≢ Some (context O b (Asking to line))

  -- the child that a reply brings is here already, or home never gave its pid
  abbrev pub WrongChild : ℕ → Local O → Option ℕ → Type 0
  WrongChild n old None = ⊥
  WrongChild n old (Some c) = ((old.slots c).context ≢ None) ⊎ ((n ≡ 0) × NeverGiven O old.kernel c)

  abbrev pub Misfit : ℕ → ℕ → Local O → Note O → Type 0
  Misfit n from old (Call p r) = (n ≢ 0) ⊎ ((O.live old.kernel p ≡ false) ⊎ (((old.slots p).call ≢ None) ⊎ (O.fits_request r ≡ false)))
  Misfit n from old (Pause p r) = (n ≢ 0) ⊎ ((O.live old.kernel p ≡ false) ⊎ ((old.slots p).call ≢ None))
  Misfit n from old (Reply p d) = NotWaiting (old.slots p).context ⊎ (WrongDone (old.slots p).context d ⊎ WrongChild n old d.child)
  Misfit n from old (Poke p) = ⊥
  Misfit n from old (Half places) = from ≡ n
  Misfit n from old (Go p to hops line) = ⊥
  Misfit n from old (NotHere p to hops line) = (n ≢ 0) ⊎ NeverGiven O old.kernel p
  Misfit n from old (Ask p need) = ((old.slots p).context ≢ None) ⊎ (((old.slots p).reserve ≢ None) ⊎ (((n ≡ 0) × NeverGiven O old.kernel p) ⊎ ((total : ℕ) × Reserved old total × (64 ≤ total))))
  Misfit n from old (Allow p) = NotAsking from (old.slots p).context
  Misfit n from old (Deny p need free) = NotAsking from (old.slots p).context
  Misfit n from old (Move p u hops line) = ((old.slots p).context ≢ None) ⊎ (((old.slots p).reserve ≡ None) ⊎ (O.pid_of u ≢ p))
  Misfit n from old (Landed p source hops line) = (n ≢ 0) ⊎ NeverGiven O old.kernel p
  Misfit n from old (NoMove line) = n ≢ 0

  abbrev pub pid_of_note : Note O → ℕ
  pid_of_note (Call p r) = p
  pid_of_note (Pause p r) = p
  pid_of_note (Reply p d) = p
  pid_of_note (Poke p) = p
  pid_of_note (Half places) = 0
  pid_of_note (Go p to hops line) = p
  pid_of_note (NotHere p to hops line) = p
  pid_of_note (Ask p need) = p
  pid_of_note (Allow p) = p
  pid_of_note (Deny p need free) = p
  pid_of_note (Move p u hops line) = p
  pid_of_note (Landed p source hops line) = p
  pid_of_note (NoMove line) = 0

  -- the note names a node that the cluster does not have
  abbrev pub FarNode : Note O → Type 0
  FarNode (Go p to hops line) = O.nodes ≤ to
  FarNode (NotHere p to hops line) = O.nodes ≤ to
  FarNode (Landed p source hops line) = O.nodes ≤ source
  FarNode (Half places) = FarPlaces O.nodes places
  FarNode _ = ⊥

  -- the letter does not fit, whatever its stamp
  abbrev pub Unfit : ℕ → ℕ → Local O → Note O → Type 0
  Unfit n from old note = Misfit n from old note ⊎ ((O.nodes ≤ from) ⊎ FarNode note)

  pub record Skips (n p : ℕ) (old : Local O) (t : Turn O) (new : Local O) : Type 0 where
    pub from : ℕ
    pub stamp : ℕ
    pub note : Note O
    pub pid : pid_of_note note ≡ p
    pub misfit : Unfit n from old note
    pub base : Base p None (Some (letter O from n stamp note)) [] same same old t new
    pub still : Still old new

  abbrev pub Does : Deed → ℕ → Local O → Turn O → Local O → Type 0
  Does (Run line i p) n old t new = Launches n line i p old t new
  Does (Kill line p s poked) n old t new = Kills n line p s poked old t new
  Does (Bid line p to) n old t new = Bids n line p to old t new
  Does (Unsent line p never) n old t new = Unsends n line p never old t new
  Does (Other line input) n old t new = Others n line input old t new
  Does (Steps p k) n old t new = Stepped n p k old t new
  Does (Sent p k) n old t new = Sends n p k old t new
  Does (Heed p) n old t new = Heeds n p old t new
  Does (Held p k) n old t new = Holding n p k old t new
  Does (Served p manner number value child signal ends more poked) n old t new = ServedBy manner n p number value child signal ends more poked old t new
  Does (Got p child ended kept) n old t new = Gets n p child ended kept old t new
  Does (Poked p used) n old t new = PokedBy used n p old t new
  Does (Begin p to reason) n old t new = Begins n p to reason old t new
  Does (Keep p to line) n old t new = Keeps n p to line old t new
  Does (Missed p to line) n old t new = Misses n p to line old t new
  Does (Again p to place line) n old t new = SendsAgain n p to place line old t new
  Does (Allows p from need) n old t new = Grants n p from need old t new
  Does (Denies p from need free) n old t new = Refuses n p from need free old t new
  Does (Depart p to) n old t new = Departs n p to old t new
  Does (Stay p to need free) n old t new = Stays n p to need free old t new
  Does (Land p source) n old t new = Lands n p source old t new
  Does (Told p at source hops line poked) n old t new = Hears n p at source hops line poked old t new
  Does (Refused p to why line) n old t new = RefusesGo n p to why line old t new ⊎ RefusesHome n p to why line old t new
  Does (Closed line) n old t new = Closes n line old t new
  Does (Gossips heard other) n old t new = OnlyTalks heard n other old t new
  Does (Strange p) n old t new = Skips n p old t new

  -- the stamp of an event: one more than the clock, and than the stamp of the letter that it takes
  abbrev pub next_stamp : ℕ → Option (Post O) → ℕ
  next_stamp clock None = clock + 1
  next_stamp clock (Some l) = max clock l.stamp + 1

  pub record Makes (n : ℕ) (old : Local O) (t : Turn O) (new : Local O) : Type 0 where
    pub node : t.event.node ≡ n
    pub below : n < O.nodes
    pub stamp_is : next_stamp old.clock t.taken ≤ t.event.stamp
    pub clock : new.clock ≡ t.event.stamp
    pub does : Does t.event.what n old t new
