-- What each event needs of its process's spot, and what it makes of it. All laws follow from this alone.
use Rattle.std.specs.Prelude.{◌≡◌, ◌≢◌, ℕ, nat_lt, ◌-◌, ◌≤◌, ℤ, ◌+◌, ◌<◌, ◌==◌, ◌⊎◌, Bool, true, false, not, cond, Option, Some, None, List}
use Rattle.call_table.specs.declared.process.End.{End}
use Rattle.protocol.specs.Ops.{Ops, IsMove, is_child, typed, has_text}
use Rattle.protocol.specs.Deeds.{Input, Manner, Did, Broke, Fell, Paused, KeptTold, ForLine, line_for, Deed, Run, Kill, Bid, Unsent, Other, Steps, Sent, Heed, Held, Served, Got, Poked, Begin, Keep, Missed, Again, Allows, Denies, Depart, Stay, Land, Told, Refused, Closed, Gossips, Strange, pid_of, child_of}
use Rattle.protocol.specs.Notes.{Done, Body, fresh, Kept, Local, is_some}
use Rattle.protocol.specs.Home.{both, UnsentFor, returned, after, First, last, Acts, Answers, done_of, first_none, to_poke, fits_done}
use Rattle.protocol.specs.Spots.{Spot, Nowhere, Runs, Calls, Holds, Pauses, Answered, Asks, Granted, Denied, Travels, InReply, Ended}
use Rattle.protocol.specs.Does.{Quantum, InUse, pokes_of, kept_told, RefusedFor, NoNews}

module _ (O : Ops) where
  -- a call that home has not served yet: its letter is under way, or home holds it
  abbrev pub asked : Bool → ℕ → Body O → Option Kept → O.Request → Spot O
  asked false n b k r = Calls n b k r
  asked true n b k r = Holds n b k r

  abbrev pub resumes : ℕ → Body O → Option Kept → Spot O
  resumes n b None = Runs n b
  resumes n b (Some k) = Asks n b k.to (Some k.line) (O.pages b.user)

  abbrev pub got_spot : ℕ → Body O → Option Kept → Done O → Spot O
  got_spot n b k d = cond d.ended (Ended (after O b.user d)) (resumes n (returned O b d) k)

  -- the process is held by this node and does not wait
  abbrev pub AwakeAt : ℕ → Spot O → Type 0
  AwakeAt n Nowhere = ⊥
  AwakeAt n (Runs m b) = m ≡ n
  AwakeAt n (Calls m b k r) = ⊥
  AwakeAt n (Holds m b k r) = ⊥
  AwakeAt n (Pauses m b k r) = ⊥
  AwakeAt n (Answered m b k d x y) = ⊥
  AwakeAt n (Asks m b to l need) = m ≡ n
  AwakeAt n (Granted m b to l need) = m ≡ n
  AwakeAt n (Denied m b to l need free) = m ≡ n
  AwakeAt n (Travels a c b l need) = ⊥
  AwakeAt n (InReply q u) = ⊥
  AwakeAt n (Ended u) = ⊥

  -- the process waits at this node, with no move kept
  abbrev pub FreeAt : ℕ → Spot O → Type 0
  FreeAt n Nowhere = ⊥
  FreeAt n (Runs m b) = ⊥
  FreeAt n (Calls m b k r) = (m ≡ n) × (k ≡ None)
  FreeAt n (Holds m b k r) = (m ≡ n) × (k ≡ None)
  FreeAt n (Pauses m b k r) = (m ≡ n) × (k ≡ None)
  FreeAt n (Answered m b k d x y) = (m ≡ n) × (k ≡ None)
  FreeAt n (Asks m b to l need) = ⊥
  FreeAt n (Granted m b to l need) = ⊥
  FreeAt n (Denied m b to l need free) = ⊥
  FreeAt n (Travels a c b l need) = ⊥
  FreeAt n (InReply q u) = ⊥
  FreeAt n (Ended u) = ⊥

  -- the process is not held by this node
  abbrev pub AwayFrom : ℕ → Spot O → Type 0
  AwayFrom n Nowhere = Unit {0}
  AwayFrom n (Runs m b) = m ≢ n
  AwayFrom n (Calls m b k r) = m ≢ n
  AwayFrom n (Holds m b k r) = m ≢ n
  AwayFrom n (Pauses m b k r) = m ≢ n
  AwayFrom n (Answered m b k d x y) = m ≢ n
  AwayFrom n (Asks m b to l need) = m ≢ n
  AwayFrom n (Granted m b to l need) = m ≢ n
  AwayFrom n (Denied m b to l need free) = m ≢ n
  AwayFrom n (Travels a c b l need) = Unit {0}
  AwayFrom n (InReply q u) = Unit {0}
  AwayFrom n (Ended u) = Unit {0}

  -- it is not held by this node, or waits there
  abbrev pub AsleepAt : ℕ → Spot O → Type 0
  AsleepAt n Nowhere = Unit {0}
  AsleepAt n (Runs m b) = m ≢ n
  AsleepAt n (Calls m b k r) = Unit {0}
  AsleepAt n (Holds m b k r) = Unit {0}
  AsleepAt n (Pauses m b k r) = Unit {0}
  AsleepAt n (Answered m b k d x y) = Unit {0}
  AsleepAt n (Asks m b to l need) = m ≢ n
  AsleepAt n (Granted m b to l need) = m ≢ n
  AsleepAt n (Denied m b to l need free) = m ≢ n
  AsleepAt n (Travels a c b l need) = Unit {0}
  AsleepAt n (InReply q u) = Unit {0}
  AsleepAt n (Ended u) = Unit {0}

  abbrev pub mark : Spot O → Spot O
  mark Nowhere = Nowhere
  mark (Runs m b) = Runs m (record b { poked = true })
  mark (Calls m b k r) = Calls m b k r
  mark (Holds m b k r) = Holds m b k r
  mark (Pauses m b k r) = Pauses m b k r
  mark (Answered m b k d x y) = Answered m b k d x y
  mark (Asks m b to l need) = Asks m (record b { poked = true }) to l need
  mark (Granted m b to l need) = Granted m (record b { poked = true }) to l need
  mark (Denied m b to l need free) = Denied m (record b { poked = true }) to l need free
  mark (Travels a c b l need) = Travels a c b l need
  mark (InReply q u) = InReply q u
  mark (Ended u) = Ended u

  abbrev pub keep_in : Kept → Spot O → Spot O
  keep_in x Nowhere = Nowhere
  keep_in x (Runs m b) = Runs m b
  keep_in x (Calls m b k r) = Calls m b (Some x) r
  keep_in x (Holds m b k r) = Holds m b (Some x) r
  keep_in x (Pauses m b k r) = Pauses m b (Some x) r
  keep_in x (Answered m b k d p y) = Answered m b (Some x) d p y
  keep_in x (Asks m b to l need) = Asks m b to l need
  keep_in x (Granted m b to l need) = Granted m b to l need
  keep_in x (Denied m b to l need free) = Denied m b to l need free
  keep_in x (Travels a c b l need) = Travels a c b l need
  keep_in x (InReply q u) = InReply q u
  keep_in x (Ended u) = Ended u

  pub record Quiet (P : Type 0) (old new : Local O) : Type 0 where
    pub is : P
    pub kernel : new.kernel ≡ old.kernel

  pub record Launched (n i p : ℕ) (old new : Local O) (s r : Spot O) : Type 0 where
    pub home : n ≡ 0
    pub image : nat_lt i O.images ≡ true
    pub launched : O.launch old.kernel ≡ Some new.kernel
    pub next : p ≡ O.count old.kernel + 1
    pub was : s ≡ Nowhere
    pub now : r ≡ Runs n (fresh O (O.loaded i p))

  pub record Killed (n p g : ℕ) (poked : List ℕ) (old new : Local O) (s r : Spot O) : Type 0 where
    pub home : n ≡ 0
    pub signal_is : O.is_signal g ≡ true
    pub kernel : new.kernel ≡ O.raise old.kernel p g
    pub tells : poked ≡ both (to_poke O new.kernel old.slots (cond (O.hit old.kernel p g) (Some p) None)) None
    pub now : r ≡ s

  pub record Fed (n : ℕ) (input : Input) (old new : Local O) (s r : Spot O) : Type 0 where
    pub home : n ≡ 0
    pub text : has_text O input ≡ true
    pub kernel : new.kernel ≡ typed O input old.kernel
    pub now : r ≡ s

  pub record Ran (n p k : ℕ) (s r : Spot O) : Type 0 where
    pub body : Body O
    pub user : O.User
    pub was : s ≡ Runs n body
    pub unpoked : body.poked ≡ false
    pub went : O.went body.user k ≡ Some user
    pub bounds : Quantum O k user
    pub now : r ≡ Runs n (record body { user = user })

  pub record SentCall (n p number : ℕ) (s r : Spot O) : Type 0 where
    pub body : Body O
    pub request : O.Request
    pub was : s ≡ Runs n body
    pub unpoked : body.poked ≡ false
    pub asks : O.asks body.user ≡ Some request
    pub number_is : number ≡ O.number request
    pub now : r ≡ Calls n body None request

  pub record Heeded (n p : ℕ) (s r : Spot O) : Type 0 where
    pub body : Body O
    pub was : s ≡ Runs n body
    pub poked : body.poked ≡ true
    pub now : r ≡ Pauses n (record body { poked = false }) None (O.room body.user)

  pub record HeldCall (n p number : ℕ) (old : Local O) (s r : Spot O) : Type 0 where
    pub home : n ≡ 0
    pub from : ℕ
    pub body : Body O
    pub kept : Option Kept
    pub request : O.Request
    pub number_is : number ≡ O.number request
    pub some : O.number request ≢ 0
    pub blocks : O.serve old.kernel p request ≡ None
    pub quiet : O.lowest old.kernel p ≡ None
    pub was : s ≡ Calls from body kept request
    pub now : r ≡ Holds from body kept request

  pub record ServedCall (n p : ℕ) (manner : Manner) (number : Option ℕ) (value : Option ℤ) (child signal : Option ℕ) (ends : Option End) (more : Bool) (poked : List ℕ) (old new : Local O) (s r : Spot O) : Type 0 where
    pub home : n ≡ 0
    pub from : ℕ
    pub body : Body O
    pub kept : Option Kept
    pub request : O.Request
    pub held : Bool
    pub first : First O
    pub acts : Acts O manner old.kernel p request first
    pub answers : Answers O p manner value child signal ends more (O.room_of request) first old.kernel new.kernel
    pub number_is : number ≡ Some (O.number request)
    pub tells : poked ≡ pokes_of O p new.kernel old.slots first.raised (last O first.kernel p (O.room_of request)).raised
    pub was : s ≡ asked held from body kept request
    pub now : r ≡ Answered from body kept (done_of O p first (last O first.kernel p (O.room_of request))) false held

  pub record ServedPause (n p : ℕ) (number : Option ℕ) (value : Option ℤ) (child signal : Option ℕ) (ends : Option End) (more : Bool) (poked : List ℕ) (old new : Local O) (s r : Spot O) : Type 0 where
    pub home : n ≡ 0
    pub from : ℕ
    pub body : Body O
    pub kept : Option Kept
    pub room : Bool
    pub answers : Answers O p Paused value child signal ends more room (first_none O old.kernel) old.kernel new.kernel
    pub number_is : number ≡ None
    pub tells : poked ≡ pokes_of O p new.kernel old.slots None (last O old.kernel p room).raised
    pub was : s ≡ Pauses from body kept room
    pub now : r ≡ Answered from body kept (done_of O p (first_none O old.kernel) (last O old.kernel p room)) true false

  abbrev pub ServedSo : Manner → ℕ → ℕ → Option ℕ → Option ℤ → Option ℕ → Option ℕ → Option End → Bool → List ℕ → Local O → Local O → Spot O → Spot O → Type 0
  ServedSo Did n p number value child signal ends more poked old new s r = ServedCall n p Did number value child signal ends more poked old new s r
  ServedSo Broke n p number value child signal ends more poked old new s r = ServedCall n p Broke number value child signal ends more poked old new s r
  ServedSo Fell n p number value child signal ends more poked old new s r = ServedCall n p Fell number value child signal ends more poked old new s r
  ServedSo Paused n p number value child signal ends more poked old new s r = ServedPause n p number value child signal ends more poked old new s r

  pub record GotReply (n p : ℕ) (child : Option ℕ) (ended : Bool) (kept : Option KeptTold) (s r : Spot O) : Type 0 where
    pub body : Body O
    pub keeps : Option Kept
    pub done : Done O
    pub paused : Bool
    pub held : Bool
    pub child_is : child ≡ done.child
    pub ended_is : ended ≡ done.ended
    pub kept_is : kept ≡ kept_told O keeps done.ended
    pub was : s ≡ Answered n body keeps done paused held
    pub now : r ≡ got_spot n body keeps done

  pub record Marked (n : ℕ) (s r : Spot O) : Type 0 where
    pub awake : AwakeAt n s
    pub now : r ≡ mark s

  pub record Dropped (n : ℕ) (s r : Spot O) : Type 0 where
    pub asleep : AsleepAt n s
    pub now : r ≡ s

  abbrev pub PokedSo : Bool → ℕ → Spot O → Spot O → Type 0
  PokedSo true n s r = Marked n s r
  PokedSo false n s r = Dropped n s r

  pub record Begun (n to : ℕ) (line : Option ℕ) (s r : Spot O) : Type 0 where
    pub body : Body O
    pub away : to ≢ n
    pub was : s ≡ Runs n body
    pub now : r ≡ Asks n body to line (O.pages body.user)

  pub record KeptMove (n to line : ℕ) (s r : Spot O) : Type 0 where
    pub away : to ≢ n
    pub free : FreeAt n s
    pub now : r ≡ keep_in (record { to = to; line = line }) s

  pub record MissedIt (n : ℕ) (s r : Spot O) : Type 0 where
    pub away : AwayFrom n s
    pub now : r ≡ s

  pub record Stayed (P : Type 0) (s r : Spot O) : Type 0 where
    pub why : P
    pub now : r ≡ s

  pub record AllowedMove (n from need : ℕ) (old : Local O) (s r : Spot O) : Type 0 where
    pub body : Body O
    pub line : Option ℕ
    pub used : ℕ
    pub in_use : InUse O old used
    pub room : need ≤ O.cap - used
    pub was : s ≡ Asks from body n line need
    pub now : r ≡ Granted from body n line need

  pub record DeniedMove (n from need free : ℕ) (old : Local O) (s r : Spot O) : Type 0 where
    pub body : Body O
    pub line : Option ℕ
    pub used : ℕ
    pub in_use : InUse O old used
    pub free_is : free ≡ O.cap - used
    pub short : free < need
    pub was : s ≡ Asks from body n line need
    pub now : r ≡ Denied from body n line need free

  pub record Departed (n to : ℕ) (s r : Spot O) : Type 0 where
    pub body : Body O
    pub line : Option ℕ
    pub need : ℕ
    pub was : s ≡ Granted n body to line need
    pub now : r ≡ Travels n to body line need

  pub record StayedHere (n to need free : ℕ) (s r : Spot O) : Type 0 where
    pub body : Body O
    pub line : Option ℕ
    pub was : s ≡ Denied n body to line need free
    pub now : r ≡ Runs n body

  pub record LandedHere (n source : ℕ) (s r : Spot O) : Type 0 where
    pub body : Body O
    pub line : Option ℕ
    pub need : ℕ
    pub was : s ≡ Travels source n body line need
    pub now : r ≡ Runs n (record { user = body.user; hops = body.hops + 1; poked = false })

  abbrev pub Needs : Deed → ℕ → Local O → Local O → Spot O → Spot O → Type 0
  Needs (Run line i p) n old new s r = Launched n i p old new s r
  Needs (Kill line p g poked) n old new s r = Killed n p g poked old new s r
  Needs (Bid line p to) n old new s r = Quiet (Stayed ((n ≡ 0) × (O.live old.kernel p ≡ true)) s r) old new
  Needs (Unsent line p never) n old new s r = Quiet (Stayed ((n ≡ 0) × UnsentFor O never old.kernel p) s r) old new
  Needs (Other line input) n old new s r = Fed n input old new s r
  Needs (Steps p k) n old new s r = Quiet (Ran n p k s r) old new
  Needs (Sent p k) n old new s r = Quiet (SentCall n p k s r) old new
  Needs (Heed p) n old new s r = Quiet (Heeded n p s r) old new
  Needs (Held p k) n old new s r = Quiet (HeldCall n p k old s r) old new
  Needs (Served p manner number value child signal ends more poked) n old new s r = ServedSo manner n p number value child signal ends more poked old new s r
  Needs (Got p child ended kept) n old new s r = Quiet (GotReply n p child ended kept s r) old new
  Needs (Poked p used) n old new s r = Quiet (PokedSo used n s r) old new
  Needs (Begin p to reason) n old new s r = Quiet (Begun n to (line_for reason) s r) old new
  Needs (Keep p to line) n old new s r = Quiet (KeptMove n to line s r) old new
  Needs (Missed p to line) n old new s r = Quiet (MissedIt n s r) old new
  Needs (Again p to place line) n old new s r = Quiet (Stayed ((n ≡ 0) × (O.live old.kernel p ≡ true)) s r) old new
  Needs (Allows p from need) n old new s r = Quiet (AllowedMove n from need old s r) old new
  Needs (Denies p from need free) n old new s r = Quiet (DeniedMove n from need free old s r) old new
  Needs (Depart p to) n old new s r = Quiet (Departed n to s r) old new
  Needs (Stay p to need free) n old new s r = Quiet (StayedHere n to need free s r) old new
  Needs (Land p source) n old new s r = Quiet (LandedHere n source s r) old new
  Needs (Told p at source hops line poked) n old new s r = Quiet (Stayed ((n ≡ 0) × (poked ≡ is_some (O.lowest old.kernel p))) s r) old new
  Needs (Refused p to why line) n old new s r = Quiet (Stayed ((RefusedFor O why n to (old.slots p).context) ⊎ ((n ≡ 0) × ((hops : ℕ) × NoNews O why p hops old))) s r) old new
  Needs (Closed line) n old new s r = Quiet (Stayed (n ≡ 0) s r) old new
  Needs (Gossips heard other) n old new s r = Quiet (Stayed (Unit {0}) s r) old new
  Needs (Strange p) n old new s r = ⊥

  -- what an event that takes a loose letter has of it: its line asks for this move, or a landing is told with its number
  abbrev pub Names : Deed → Type 0
  Names (Begin p to (ForLine line)) = IsMove O line p to
  Names (Keep p to line) = IsMove O line p to
  Names (Missed p to line) = IsMove O line p to
  Names (Again p to place line) = IsMove O line p to
  Names (Refused p to why line) = IsMove O line p to
  Names (Told p at source hops line poked) = 1 ≤ hops
  Names _ = Unit {0}

  -- a move goes to another node
  abbrev pub KeptAims : ℕ → Option Kept → Type 0
  KeptAims n None = Unit {0}
  KeptAims n (Some k) = k.to ≢ n

  abbrev pub Aims : Spot O → Type 0
  Aims Nowhere = Unit {0}
  Aims (Runs m b) = Unit {0}
  Aims (Calls m b k r) = KeptAims m k
  Aims (Holds m b k r) = KeptAims m k
  Aims (Pauses m b k r) = KeptAims m k
  Aims (Answered m b k d x y) = KeptAims m k
  Aims (Asks m b to l need) = to ≢ m
  Aims (Granted m b to l need) = to ≢ m
  Aims (Denied m b to l need free) = to ≢ m
  Aims (Travels a c b l need) = Unit {0}
  Aims (InReply q u) = Unit {0}
  Aims (Ended u) = Unit {0}

  abbrev pub user_at : Spot O → O.User
  user_at Nowhere = O.loaded 0 0
  user_at (Runs m b) = b.user
  user_at (Calls m b k r) = b.user
  user_at (Holds m b k r) = b.user
  user_at (Pauses m b k r) = b.user
  user_at (Answered m b k d x y) = b.user
  user_at (Asks m b to l need) = b.user
  user_at (Granted m b to l need) = b.user
  user_at (Denied m b to l need free) = b.user
  user_at (Travels a c b l need) = b.user
  user_at (InReply q u) = u
  user_at (Ended u) = u

  -- the kernel has it live
  abbrev pub alive : Spot O → Bool
  alive Nowhere = false
  alive (Runs m b) = true
  alive (Calls m b k r) = true
  alive (Holds m b k r) = true
  alive (Pauses m b k r) = true
  alive (Answered m b k d x y) = not d.ended
  alive (Asks m b to l need) = true
  alive (Granted m b to l need) = true
  alive (Denied m b to l need free) = true
  alive (Travels a c b l need) = true
  alive (InReply q u) = true
  alive (Ended u) = false

  -- what is under way for a process is what its user state asks, and what comes for it fits
  abbrev pub Right : Spot O → Type 0
  Right Nowhere = Unit {0}
  Right (Runs m b) = Unit {0}
  Right (Calls m b k r) = O.asks b.user ≡ Some r
  Right (Holds m b k r) = O.asks b.user ≡ Some r
  Right (Pauses m b k r) = O.room b.user ≡ r
  Right (Answered m b k d x y) = fits_done O x b.user d ≡ true
  Right (Asks m b to l need) = need ≡ O.pages b.user
  Right (Granted m b to l need) = need ≡ O.pages b.user
  Right (Denied m b to l need free) = need ≡ O.pages b.user
  Right (Travels a c b l need) = need ≡ O.pages b.user
  Right (InReply q u) = Unit {0}
  Right (Ended u) = Unit {0}

  -- its user state is its own
  abbrev pub Named : ℕ → Spot O → Type 0
  Named p Nowhere = Unit {0}
  Named p (Runs m b) = O.pid_of b.user ≡ p
  Named p (Calls m b k r) = O.pid_of b.user ≡ p
  Named p (Holds m b k r) = O.pid_of b.user ≡ p
  Named p (Pauses m b k r) = O.pid_of b.user ≡ p
  Named p (Answered m b k d x y) = O.pid_of b.user ≡ p
  Named p (Asks m b to l need) = O.pid_of b.user ≡ p
  Named p (Granted m b to l need) = O.pid_of b.user ≡ p
  Named p (Denied m b to l need free) = O.pid_of b.user ≡ p
  Named p (Travels a c b l need) = O.pid_of b.user ≡ p
  Named p (InReply q u) = O.pid_of u ≡ p
  Named p (Ended u) = Unit {0}

  -- what an event makes of the spot of the child q that it names, its process being at s
  abbrev pub born_spot : Deed → ℕ → Spot O → ℕ → Spot O
  born_spot (Run line i p) n s q = s
  born_spot (Kill line p g poked) n s q = s
  born_spot (Bid line p to) n s q = s
  born_spot (Unsent line p never) n s q = s
  born_spot (Other line input) n s q = s
  born_spot (Steps p k) n s q = s
  born_spot (Sent p k) n s q = s
  born_spot (Heed p) n s q = s
  born_spot (Held p k) n s q = s
  born_spot (Served p manner number value child signal ends more poked) n s q = InReply p (O.forked (user_at s) q)
  born_spot (Got p child ended kept) n s q = Runs n (fresh O (O.forked (user_at s) q))
  born_spot (Poked p used) n s q = s
  born_spot (Begin p to reason) n s q = s
  born_spot (Keep p to line) n s q = s
  born_spot (Missed p to line) n s q = s
  born_spot (Again p to place line) n s q = s
  born_spot (Allows p from need) n s q = s
  born_spot (Denies p from need free) n s q = s
  born_spot (Depart p to) n s q = s
  born_spot (Stay p to need free) n s q = s
  born_spot (Land p source) n s q = s
  born_spot (Told p at source hops line poked) n s q = s
  born_spot (Refused p to why line) n s q = s
  born_spot (Closed line) n s q = s
  born_spot (Gossips heard other) n s q = s
  born_spot (Strange p) n s q = s

  -- the spots after an event, whose process is then at r
  abbrev pub next_spot : Deed → ℕ → (ℕ → Spot O) → Spot O → ℕ → Spot O
  next_spot what n sp r q = cond (q == pid_of what) r (cond (is_child (child_of what) q) (born_spot what n (sp (pid_of what)) q) (sp q))

  -- the child that a reply under way brings
  abbrev pub brings : Spot O → Option ℕ
  brings Nowhere = None
  brings (Runs m b) = None
  brings (Calls m b k r) = None
  brings (Holds m b k r) = None
  brings (Pauses m b k r) = None
  brings (Answered m b k d x y) = d.child
  brings (Asks m b to l need) = None
  brings (Granted m b to l need) = None
  brings (Denied m b to l need free) = None
  brings (Travels a c b l need) = None
  brings (InReply q u) = None
  brings (Ended u) = None

  -- a child that comes with an answer belongs to that answer alone
  pub record Coupled (sp : ℕ → Spot O) : Type 0 where
    pub child : (p c : ℕ) → brings (sp p) ≡ Some c → (sp c ≡ InReply p (O.forked (user_at (sp p)) c)) × (c ≢ p)
