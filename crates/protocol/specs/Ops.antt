-- The machine as a record of its types and operations, and the facts of them that the laws need.
use Rattle.std.specs.Prelude.{◌≡◌, ◌<◌, ◌≤◌, ◌≢◌, ℕ, zero, suc, ◌+◌, ◌==◌, ℤ, nat_lt, slice_get, Bool, true, false, cond, Option, Some, None, List}
use Rattle.call_table.specs.declared.process.End.{End}
use Rattle.node_event.specs.declared.script.Order.TheVariants as order
use Rattle.node_event.specs.declared.script.ScriptLine.{ScriptLine}
use Rattle.protocol.specs.Gossip.{Sight, Choice, IsKnown, IsMovable}
use Rattle.protocol.specs.Deeds.{order_at, Input, Text, Finish, Nothing}

-- what a call did
pub record Acted (K A : Type 0) : Type 0 where
  pub kernel : K
  pub answer : A
  pub child : Option ℕ
  pub raised : Option ℕ

-- what the taking of a signal did
pub record Took (K T : Type 0) : Type 0 where
  pub kernel : K
  pub taken : T
  pub raised : Option ℕ

pub record Fallen (K : Type 0) : Type 0 where
  pub kernel : K
  pub raised : Option ℕ

abbrev pub counted : Option ℕ → ℕ → ℕ
counted None n = n
counted (Some c) n = n + 1

abbrev pub is_child : Option ℕ → ℕ → Bool
is_child None q = false
is_child (Some c) q = Rattle.std.specs.Prelude.◌==◌ c q

abbrev pub sum_below : ℕ → (ℕ → ℕ) → ℕ
sum_below zero f = 0
sum_below (suc n) f = sum_below n f + f n

pub record Ops : Type 1 where
  pub User : Type 0
  pub Kernel : Type 0
  pub Request : Type 0
  pub Answer : Type 0
  pub Taken : Type 0
  -- what the run is given: its script, and a context for each `run` line and a text for each `type` line
  pub script : List ScriptLine
  pub images : ℕ
  pub texts : ℕ
  pub loaded : ℕ → ℕ → User
  pub nodes : ℕ
  pub cap : ℕ
  pub quantum : ℕ
  -- the user's side: k steps that all go, whether the next one maps a page, a request, a return, the entry of a handler, a child
  pub went : User → ℕ → Option User
  pub grows : User → Bool
  pub asks : User → Option Request
  pub number : Request → ℕ
  pub room_of : Request → Bool
  pub room : User → Bool
  pub given : User → Answer → User
  pub entered : User → Taken → User
  pub forked : User → ℕ → User
  pub pages : User → ℕ
  pub pid_of : User → ℕ
  -- what a letter may bring: a request that some user state makes, an answer such as this one's call can get, a signal's entry with room for its frame
  pub fits_request : Request → Bool
  pub fits_answer : User → Answer → Bool
  pub fits_taken : User → Taken → Bool
  -- what a policy may choose on what it sees, and the k-th word that chance gives to a node
  pub Chooses : Sight → Option Choice → Type 0
  pub word : ℕ → ℕ → ℕ
  -- the kernel's side
  pub new_kernel : Kernel
  pub count : Kernel → ℕ
  pub live : Kernel → ℕ → Bool
  pub end_of : Kernel → ℕ → Option End
  pub launch : Kernel → Option Kernel
  pub is_signal : ℕ → Bool
  pub raise : Kernel → ℕ → ℕ → Kernel
  pub hit : Kernel → ℕ → ℕ → Bool
  pub feed : Kernel → ℕ → Kernel
  pub finish : Kernel → Kernel
  pub serve : Kernel → ℕ → Request → Option (Acted Kernel Answer)
  pub value : Answer → ℤ
  pub broken : Answer
  pub lowest : Kernel → ℕ → Option ℕ
  pub take : Kernel → ℕ → Bool → Took Kernel Taken
  pub fall : Kernel → ℕ → Request → Fallen Kernel

-- the line of the script asks for this move
abbrev pub IsMove : (O : Ops) → ℕ → ℕ → ℕ → Type 0
IsMove O line p to = order_at line O.script ≡ Some (order.Move p to)

-- an input line's change of the kernel
abbrev pub typed : (O : Ops) → Input → O.Kernel → O.Kernel
typed O (Text i) k = O.feed k i
typed O Finish k = O.finish k
typed O Nothing k = k

-- the setup has what the line wants
abbrev pub has_text : (O : Ops) → Input → Bool
has_text O (Text i) = nat_lt i O.texts
has_text O Finish = true
has_text O Nothing = true

-- how many live, of the pids that were given
abbrev pub one_if : Bool → ℕ
one_if true = 1
one_if false = 0

abbrev pub lives_in : (O : Ops) → O.Kernel → ℕ
lives_in O k = sum_below (O.count k + 1) (λ q. one_if (O.live k q))

-- the facts of the operations that the laws need
pub record Sound (O : Ops) : Type 0 where
  -- each line stands once in the script
  pub lines : (k : ℕ) (s : ScriptLine) → slice_get O.script k ≡ Some s → order_at s.line O.script ≡ Some s.order
  -- and moves go to nodes of the cluster
  pub targets : (line p to : ℕ) → IsMove O line p to → to < O.nodes
  -- home is a node of it
  pub some : 1 ≤ O.nodes
  -- how many pids were given
  pub count_new : O.count O.new_kernel ≡ 0
  pub count_launch : (k l : O.Kernel) → O.launch k ≡ Some l → O.count l ≡ O.count k + 1
  pub count_raise : (k : O.Kernel) (p s : ℕ) → O.count (O.raise k p s) ≡ O.count k
  pub count_feed : (k : O.Kernel) (i : ℕ) → O.count (O.feed k i) ≡ O.count k
  pub count_finish : (k : O.Kernel) → O.count (O.finish k) ≡ O.count k
  pub count_serve : (k : O.Kernel) (p : ℕ) (r : O.Request) (d : Acted O.Kernel O.Answer) → O.serve k p r ≡ Some d → O.count d.kernel ≡ counted d.child (O.count k)
  pub child_serve : (k : O.Kernel) (p : ℕ) (r : O.Request) (d : Acted O.Kernel O.Answer) (c : ℕ) → O.serve k p r ≡ Some d → d.child ≡ Some c → c ≡ O.count k + 1
  pub count_take : (k : O.Kernel) (p : ℕ) (b : Bool) → O.count (O.take k p b).kernel ≡ O.count k
  pub count_fall : (k : O.Kernel) (p : ℕ) (r : O.Request) → O.count (O.fall k p r).kernel ≡ O.count k
  -- who is live: only a process's own call, signal or fault ends it
  pub live_launch : (k l : O.Kernel) (q : ℕ) → O.launch k ≡ Some l → q ≢ O.count k + 1 → O.live l q ≡ O.live k q
  pub live_new : (k l : O.Kernel) → O.launch k ≡ Some l → O.live l (O.count k + 1) ≡ true
  pub live_raise : (k : O.Kernel) (p s q : ℕ) → O.live (O.raise k p s) q ≡ O.live k q
  pub live_feed : (k : O.Kernel) (i q : ℕ) → O.live (O.feed k i) q ≡ O.live k q
  pub live_finish : (k : O.Kernel) (q : ℕ) → O.live (O.finish k) q ≡ O.live k q
  pub live_serve : (k : O.Kernel) (p : ℕ) (r : O.Request) (d : Acted O.Kernel O.Answer) (q : ℕ) → O.serve k p r ≡ Some d → q ≢ p → is_child d.child q ≡ false → O.live d.kernel q ≡ O.live k q
  pub live_empty : (q : ℕ) → O.live O.new_kernel q ≡ false
  pub live_child : (k : O.Kernel) (p : ℕ) (r : O.Request) (d : Acted O.Kernel O.Answer) (c : ℕ) → O.serve k p r ≡ Some d → d.child ≡ Some c → O.live d.kernel c ≡ true
  pub live_take : (k : O.Kernel) (p : ℕ) (b : Bool) (q : ℕ) → q ≢ p → O.live (O.take k p b).kernel q ≡ O.live k q
  pub live_fall : (k : O.Kernel) (p : ℕ) (r : O.Request) (q : ℕ) → q ≢ p → O.live (O.fall k p r).kernel q ≡ O.live k q
  pub dead_fall : (k : O.Kernel) (p : ℕ) (r : O.Request) → O.live (O.fall k p r).kernel p ≡ false
  -- one that was given and does not live has its end
  pub ended : (k : O.Kernel) (p : ℕ) → 1 ≤ p → p ≤ O.count k → O.live k p ≡ false → O.end_of k p ≢ None
  pub lowest_live : (k : O.Kernel) (p s : ℕ) → O.lowest k p ≡ Some s → O.live k p ≡ true
  -- a signal becomes deliverable at another process only where one is told to be raised
  pub quiet_raise : (k : O.Kernel) (p s q : ℕ) → is_child (cond (O.hit k p s) (Some p) None) q ≡ false → O.lowest (O.raise k p s) q ≡ O.lowest k q
  pub quiet_serve : (k : O.Kernel) (p : ℕ) (r : O.Request) (d : Acted O.Kernel O.Answer) (q : ℕ) → O.serve k p r ≡ Some d → q ≢ p → is_child d.child q ≡ false → is_child d.raised q ≡ false → O.lowest d.kernel q ≡ O.lowest k q
  pub quiet_take : (k : O.Kernel) (p : ℕ) (b : Bool) (q : ℕ) → q ≢ p → is_child (O.take k p b).raised q ≡ false → O.lowest (O.take k p b).kernel q ≡ O.lowest k q
  pub quiet_fall : (k : O.Kernel) (p : ℕ) (r : O.Request) (q : ℕ) → q ≢ p → is_child (O.fall k p r).raised q ≡ false → O.lowest (O.fall k p r).kernel q ≡ O.lowest k q
  -- the room for a frame, told before the call, takes a signal as that after its return does
  pub room_serve : (k : O.Kernel) (p : ℕ) (u : O.User) (r : O.Request) (d : Acted O.Kernel O.Answer) → O.asks u ≡ Some r → O.serve k p r ≡ Some d → O.take d.kernel p (O.room (O.given u d.answer)) ≡ O.take d.kernel p (O.room_of r)
  pub room_broken : (k : O.Kernel) (p s : ℕ) (u : O.User) (r : O.Request) → O.live k p ≡ true → O.lowest k p ≡ Some s → O.asks u ≡ Some r → O.number r ≢ 0 → O.serve k p r ≡ None → O.take k p (O.room (O.given u O.broken)) ≡ O.take k p (O.room_of r)
  -- whose user state it is
  pub pid_loaded : (i p : ℕ) → nat_lt i O.images ≡ true → O.pid_of (O.loaded i p) ≡ p
  pub pid_went : (u x : O.User) (k : ℕ) → O.went u k ≡ Some x → O.pid_of x ≡ O.pid_of u
  pub pid_given : (u : O.User) (a : O.Answer) → O.pid_of (O.given u a) ≡ O.pid_of u
  pub pid_entered : (u : O.User) (t : O.Taken) → O.pid_of (O.entered u t) ≡ O.pid_of u
  pub pid_forked : (u : O.User) (c : ℕ) → O.pid_of (O.forked u c) ≡ c
  -- a choice moves a context that runs here, to another node that is known
  pub chosen : (s : Sight) (c : Choice) → O.Chooses s (Some c) → IsMovable c.pid s.movable × IsKnown c.to s.known × (c.to ≢ s.node)
  -- what is asked, answered and entered fits
  pub fits_asks : (u : O.User) (r : O.Request) → O.asks u ≡ Some r → O.fits_request r ≡ true
  pub fits_serve : (k : O.Kernel) (p : ℕ) (u : O.User) (r : O.Request) (d : Acted O.Kernel O.Answer) → O.asks u ≡ Some r → O.number r ≢ 0 → O.serve k p r ≡ Some d → O.fits_answer u d.answer ≡ true
  pub fits_broken : (k : O.Kernel) (p s : ℕ) (u : O.User) (r : O.Request) → O.live k p ≡ true → O.lowest k p ≡ Some s → O.asks u ≡ Some r → O.number r ≢ 0 → O.serve k p r ≡ None → O.fits_answer u O.broken ≡ true
  pub fits_take : (k : O.Kernel) (p s : ℕ) (u : O.User) → O.lowest k p ≡ Some s → O.fits_taken u (O.take k p (O.room u)).taken ≡ true
  -- a process is made only while fewer than 64 live
  pub few_launch : (k l : O.Kernel) → O.launch k ≡ Some l → lives_in O k < 64
  pub few_serve : (k : O.Kernel) (p : ℕ) (r : O.Request) (d : Acted O.Kernel O.Answer) (c : ℕ) → O.serve k p r ≡ Some d → d.child ≡ Some c → lives_in O k < 64
  -- a call's return and a handler's entry map and unmap no page
  pub pages_given : (u : O.User) (a : O.Answer) → O.pages (O.given u a) ≡ O.pages u
  pub pages_entered : (u : O.User) (t : O.Taken) → O.pages (O.entered u t) ≡ O.pages u
