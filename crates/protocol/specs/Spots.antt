-- Where a process is, in one word, and its pictures: what each node and each link then has of it.
use Rattle.std.specs.Prelude.{ℕ, ◌==◌, Bool, true, false, cond, Option, Some, None}
use Rattle.protocol.specs.Ops.{Ops}
use Rattle.protocol.specs.Notes.{Kept, Running, Waiting, Asking, Done, Note, Call, Pause, Reply, Poke, Half, Go, NotHere, Ask, Allow, Deny, Move, Landed, NoMove, Body, Context, context, Called, Slot, Way, way}

module _ (O : Ops) where
  -- where a process is, and what is under way for it
  pub data Spot : Type 0 where
    Nowhere : Spot
    Runs : (node : ℕ) (body : Body O) → Spot
    Calls : (node : ℕ) (body : Body O) (kept : Option Kept) (request : O.Request) → Spot
    Holds : (node : ℕ) (body : Body O) (kept : Option Kept) (request : O.Request) → Spot
    Pauses : (node : ℕ) (body : Body O) (kept : Option Kept) (room : Bool) → Spot
    Answered : (node : ℕ) (body : Body O) (kept : Option Kept) (done : Done O) (paused held : Bool) → Spot
    Asks : (node : ℕ) (body : Body O) (to : ℕ) (line : Option ℕ) (need : ℕ) → Spot
    Granted : (node : ℕ) (body : Body O) (to : ℕ) (line : Option ℕ) (need : ℕ) → Spot
    Denied : (node : ℕ) (body : Body O) (to : ℕ) (line : Option ℕ) (need free : ℕ) → Spot
    Travels : (source target : ℕ) (body : Body O) (line : Option ℕ) (need : ℕ) → Spot
    InReply : (parent : ℕ) (user : O.User) → Spot
    Ended : (last : O.User) → Spot

  -- the pictures: the context of it that its node has
  abbrev pub site : Spot → ℕ
  site Nowhere = 0
  site (Runs n b) = n
  site (Calls n b k r) = n
  site (Holds n b k r) = n
  site (Pauses n b k r) = n
  site (Answered n b k d x y) = n
  site (Asks n b to l need) = n
  site (Granted n b to l need) = n
  site (Denied n b to l need free) = n
  site (Travels s t b l need) = 0
  site (InReply q u) = 0
  site (Ended u) = 0

  abbrev pub kept_at : Spot → Option (Context O)
  kept_at Nowhere = None
  kept_at (Runs n b) = Some (context O b Running)
  kept_at (Calls n b k r) = Some (context O b (Waiting false k))
  kept_at (Holds n b k r) = Some (context O b (Waiting false k))
  kept_at (Pauses n b k r) = Some (context O b (Waiting true k))
  kept_at (Answered n b k d x y) = Some (context O b (Waiting x k))
  kept_at (Asks n b to l need) = Some (context O b (Asking to l))
  kept_at (Granted n b to l need) = Some (context O b (Asking to l))
  kept_at (Denied n b to l need free) = Some (context O b (Asking to l))
  kept_at (Travels s t b l need) = None
  kept_at (InReply q u) = None
  kept_at (Ended u) = None

  -- the reservation for it
  abbrev pub goal : Spot → ℕ
  goal Nowhere = 0
  goal (Runs n b) = 0
  goal (Calls n b k r) = 0
  goal (Holds n b k r) = 0
  goal (Pauses n b k r) = 0
  goal (Answered n b k d x y) = 0
  goal (Asks n b to l need) = 0
  goal (Granted n b to l need) = to
  goal (Denied n b to l need free) = 0
  goal (Travels s t b l need) = t
  goal (InReply q u) = 0
  goal (Ended u) = 0

  abbrev pub reserved : Spot → Option ℕ
  reserved Nowhere = None
  reserved (Runs n b) = None
  reserved (Calls n b k r) = None
  reserved (Holds n b k r) = None
  reserved (Pauses n b k r) = None
  reserved (Answered n b k d x y) = None
  reserved (Asks n b to l need) = None
  reserved (Granted n b to l need) = Some need
  reserved (Denied n b to l need free) = None
  reserved (Travels s t b l need) = Some need
  reserved (InReply q u) = None
  reserved (Ended u) = None

  -- its call that home holds
  abbrev pub call_at : Spot → Option (Called O)
  call_at Nowhere = None
  call_at (Runs n b) = None
  call_at (Calls n b k r) = None
  call_at (Holds n b k r) = Some (record { from = n; request = r })
  call_at (Pauses n b k r) = None
  call_at (Answered n b k d x y) = None
  call_at (Asks n b to l need) = None
  call_at (Granted n b to l need) = None
  call_at (Denied n b to l need free) = None
  call_at (Travels s t b l need) = None
  call_at (InReply q u) = None
  call_at (Ended u) = None

  abbrev pub slot_by : Spot → ℕ → Slot O
  slot_by s n = record { context = cond (n == site s) (kept_at s) None; reserve = cond (n == goal s) (reserved s) None; call = cond (n == 0) (call_at s) None }

  -- the one letter of it that is under way
  abbrev pub way_by : ℕ → Spot → Option (Way O)
  way_by p Nowhere = None
  way_by p (Runs n b) = None
  way_by p (Calls n b k r) = Some (way O n 0 (Call p r))
  way_by p (Holds n b k r) = None
  way_by p (Pauses n b k r) = Some (way O n 0 (Pause p r))
  way_by p (Answered n b k d x y) = Some (way O 0 n (Reply p d))
  way_by p (Asks n b to l need) = Some (way O n to (Ask p need))
  way_by p (Granted n b to l need) = Some (way O to n (Allow p))
  way_by p (Denied n b to l need free) = Some (way O to n (Deny p need free))
  way_by p (Travels s t b l need) = Some (way O s t (Move p b.user b.hops l))
  way_by p (InReply q u) = None
  way_by p (Ended u) = None

  -- a letter of which a process has at most one under way
  abbrev pub mine : ℕ → Note O → Bool
  mine p (Call q r) = q == p
  mine p (Pause q r) = q == p
  mine p (Reply q d) = q == p
  mine p (Poke q) = false
  mine p (Half places) = false
  mine p (Go q to hops line) = false
  mine p (NotHere q to hops line) = false
  mine p (Ask q need) = q == p
  mine p (Allow q) = q == p
  mine p (Deny q need free) = q == p
  mine p (Move q u hops line) = q == p
  mine p (Landed q source hops line) = false
  mine p (NoMove line) = false
