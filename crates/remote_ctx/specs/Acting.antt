-- What the calls on the contexts of a node do.
use Rattle.std.specs.Prelude.{◌≡◌, ℕ, ◌-◌, ◌^◌, ◌<◌, ◌≤◌, ◌⊎◌, ◌==◌, ◌&&◌, not, nat_lt, is_none, slice_get, slice_set, IsSome, cond, Bool, true, false, Option, Some, None, List, [], ◌∷◌}
use Rattle.call_table.specs.declared.request.Request.{Request}
use Rattle.call_table.specs.declared.request.Answer.{Answer}
use Rattle.call_table.specs.declared.request.Taken.{Taken}
use Rattle.call_table.specs.declared.request.Taken.TheVariants.{Dies, Enters}
use Rattle.node_event.specs.declared.event.What.{What}
use Rattle.node_event.specs.declared.event.What.TheVariants as what
use Rattle.node_event.specs.declared.event.Kept.{Kept}
use Rattle.node_event.specs.declared.event.Kept.TheVariants as kept
use Rattle.call_forward.specs.declared.acted.Acted.{Acted}
use Rattle.call_forward.specs.declared.message.Done.{Done}
use Rattle.call_forward.specs.declared.message.Message.{Message}
use Rattle.call_forward.specs.declared.message.Message.TheVariants.{Call, Pause, Reply, Poke, Go, NotHere, Ask, Allow, Deny, Move, Landed, NoMove, Half}
use Rattle.user_spec.specs.User.{UserState}
use Rattle.user_spec.specs.Request.{forked}
use Rattle.user_spec.specs.Advance.{AtCall, Faults, advance, advanced, grows, quantum_of, request_of}
use Rattle.user_spec.specs.Fits.{child_of, given_by, taken_by, fits_answer, fits_given, fits_entered, has_room_at}
use Rattle.remote_ctx.specs.declared.context.Context.{Context}
use Rattle.remote_ctx.specs.declared.context.KeptMove.{KeptMove}
use Rattle.remote_ctx.specs.declared.context.Stance.{Stance}
use Rattle.remote_ctx.specs.declared.context.Stance.TheVariants.{Running, Waiting, Asking}
use Rattle.remote_ctx.specs.declared.quantum.Ran.{Ran}
use Rattle.remote_ctx.specs.declared.standing.Change.{Change}
use Rattle.remote_ctx.specs.declared.quantum.Ran.TheVariants as ran
use Rattle.remote_ctx.specs.Hosted.{lookup, Puts, PutsBoth, Changes, pages_of, is_pid, is_running}

-- the messages that are posted, each with its node
abbrev pub Posted : Type 0
Posted = List (ℕ × Message)

-- a message that does not fit changes nothing
pub record IsStrange (acted : Acted) (old new : List Context) : Type 0 where
  pub what : acted.what ≡ what.Strange
  pub mail : acted.mail ≡ []
  pub same : new ≡ old

-- ---- a new context

abbrev pub fresh : UserState → ℕ → Context
fresh user hops = record { pid = user.pid; user = user; hops = hops; poked = false; state = Running }

-- ---- how a context stands

abbrev pub standing : Bool → Stance → Context → Context
standing poked state c = record { pid = c.pid; user = c.user; hops = c.hops; poked = poked; state = state }

abbrev pub standing_as : Stance → Context → Context
standing_as state c = standing c.poked state c

abbrev pub asking : ℕ → Option ℕ → Context → Context
asking to line c = standing_as (Asking to line) c

-- a move is kept by a context that waits
abbrev pub keeping_as : Stance → ℕ → ℕ → Stance
keeping_as Running to line = Running
keeping_as (Waiting pause kept) to line = Waiting pause (Some (record { to = to; line = line }))
keeping_as (Asking target policy) to line = Asking target policy

abbrev pub keeping : ℕ → ℕ → Context → Context
keeping to line c = standing_as (keeping_as c.state to line) c

abbrev pub is_waiting : Stance → Bool
is_waiting Running = false
is_waiting (Waiting pause kept) = true
is_waiting (Asking to line) = false

abbrev pub is_asking : Stance → Bool
is_asking Running = false
is_asking (Waiting pause kept) = false
is_asking (Asking to line) = true

abbrev pub asks_node : ℕ → Stance → Bool
asks_node node Running = false
asks_node node (Waiting pause kept) = false
asks_node node (Asking to line) = to == node

-- the stance of the context of a pid, none where it is not here
abbrev pub stance_of : Option Context → Option Stance
stance_of None = None
stance_of (Some c) = Some c.state

abbrev pub holds_for : (Stance → Bool) → Option Context → Bool
holds_for test None = false
holds_for test (Some c) = test c.state

abbrev pub waits_at : ℕ → List Context → Bool
waits_at pid contexts = holds_for is_waiting (lookup pid contexts)

abbrev pub asks_at : ℕ → List Context → Bool
asks_at pid contexts = holds_for is_asking (lookup pid contexts)

abbrev pub has_kept : Stance → Bool
has_kept Running = false
has_kept (Waiting pause None) = false
has_kept (Waiting pause (Some move)) = true
has_kept (Asking to line) = false

abbrev pub poked_as : Option Context → Bool
poked_as None = false
poked_as (Some c) = c.poked

-- ---- steps

-- at most a quantum of steps: fewer only where the next one does not go, or maps a page
pub record Went (k quantum : ℕ) (old new : UserState) : Type 0 where
  pub is : quantum_of quantum old ≡ record { went = k; user = new }
  pub went : advanced k old ≡ Some new
  pub least : 1 ≤ k
  pub most : k ≤ quantum
  pub whole : (k ≡ quantum) ⊎ ((advanced 1 new ≡ None) ⊎ (grows new ≡ true))

abbrev pub RanAs : Ran → ℕ → UserState → UserState → Type 0
RanAs (ran.Steps k) quantum old new = Went k quantum old new
RanAs ran.AtCall quantum old new = (advance old ≡ AtCall) × (new ≡ old)
RanAs ran.AtFault quantum old new = ((signal : ℕ) × (advance old ≡ Faults signal)) × (new ≡ old)

abbrev pub with_user : UserState → Context → Context
with_user user c = record { pid = c.pid; user = user; hops = c.hops; poked = c.poked; state = c.state }

-- the same of a context, with its pages before and after
pub record GoesIn (result : Ran) (change : Change) (quantum : ℕ) (old new : Context) : Type 0 where
  pub user : UserState
  pub ran : RanAs result quantum old.user user
  pub is : new ≡ with_user user old
  pub before : change.before ≡ pages_of old
  pub after : change.after ≡ pages_of new
  pub few : change.after < 2 ^ 32

-- a process makes steps
pub record StepsOn (k pid quantum : ℕ) (old new : List Context) : Type 0 where
  pub context : Context
  pub user : UserState
  pub here : lookup pid old ≡ Some context
  pub went : Went k quantum context.user user
  pub puts : Puts pid (Some (with_user user context)) old new

-- or it is at a call or a fault, and nothing changes
pub record StopsOn (stops : UserState → Type 0) (pid : ℕ) (old new : List Context) : Type 0 where
  pub context : Context
  pub here : lookup pid old ≡ Some context
  pub stop : stops context.user
  pub same : new ≡ old

abbrev pub RunsAs : Ran → ℕ → ℕ → List Context → List Context → Type 0
RunsAs (ran.Steps k) pid quantum old new = StepsOn k pid quantum old new
RunsAs ran.AtCall pid quantum old new = StopsOn (λ u. advance u ≡ AtCall) pid old new
RunsAs ran.AtFault pid quantum old new = StopsOn (λ u. (signal : ℕ) × (advance u ≡ Faults signal)) pid old new

-- what it is that a process asks then
abbrev pub AsksAfter : Ran → Option Request → Type 0
AsksAfter (ran.Steps k) request = Unit {0}
AsksAfter ran.AtCall request = IsSome request
AsksAfter ran.AtFault request = IsSome request

-- ---- what goes home

abbrev pub room_of : Option Context → Bool
room_of None = false
room_of (Some c) = has_room_at c.user

abbrev pub asked_of : Option Context → Option Request
asked_of None = None
asked_of (Some c) = request_of c.user

pub record Sends (acted : Acted) (pid : ℕ) (old new : List Context) : Type 0 where
  pub changes : Changes pid (standing_as (Waiting false None)) old new
  pub request : Request
  pub asks : request_of changes.context.user ≡ Some request
  pub what : acted.what ≡ what.Sent pid request.number
  pub mail : acted.mail ≡ (0, Call pid request) ∷ []

pub record Heeds (acted : Acted) (pid : ℕ) (old new : List Context) : Type 0 where
  pub changes : Changes pid (standing false (Waiting true None)) old new
  pub what : acted.what ≡ what.Heed pid
  pub mail : acted.mail ≡ (0, Pause pid (has_room_at changes.context.user)) ∷ []

-- ---- a poke

abbrev pub is_awake : Stance → Bool
is_awake state = not (is_waiting state)

abbrev pub poked_context : Context → Context
poked_context c = standing true c.state c

-- it is used where the process runs or asks, and dropped where it waits or is not here
pub record Marks (pid : ℕ) (old new : List Context) : Type 0 where
  pub changes : Changes pid poked_context old new
  pub awake : is_awake changes.context.state ≡ true

abbrev pub PokedBy : Bool → ℕ → List Context → List Context → Type 0
PokedBy true pid old new = Marks pid old new
PokedBy false pid old new = (holds_for is_awake (lookup pid old) ≡ false) × (new ≡ old)

pub record PokedOn (acted : Acted) (pid : ℕ) (old new : List Context) : Type 0 where
  pub used : Bool
  pub what : acted.what ≡ what.Poked pid used
  pub mail : acted.mail ≡ []
  pub is : PokedBy used pid old new

-- ---- at a place of the list

pub record StoodThere (ran : Bool) (i : ℕ) (poked : Bool) (state : Stance) (old new : List Context) : Type 0 where
  pub context : Context
  pub here : slice_get old i ≡ Some context
  pub ran_is : ran ≡ is_running context.state
  pub sets : new ≡ slice_set old i (standing poked state context)

pub record WentThere (result : Ran) (change : Change) (i quantum : ℕ) (old new : List Context) : Type 0 where
  pub context : Context
  pub after : Context
  pub here : slice_get old i ≡ Some context
  pub goes : GoesIn result change quantum context after
  pub sets : new ≡ slice_set old i after

-- ---- a reply

-- the process after an answer, and then a signal
abbrev pub replied : UserState → Done → UserState
replied user done = taken_by (given_by user done.answer) done.taken

abbrev pub with_replied : Done → Context → Context
with_replied done c = with_user (replied c.user done) c

abbrev pub fits_done : Bool → UserState → Done → Bool
fits_done pause user done = fits_given pause user done.answer && fits_entered (given_by user done.answer) done.taken

-- whether a handler is entered
abbrev pub enters : Option Taken → Bool
enters None = false
enters (Some (Dies signal)) = false
enters (Some (Enters signal handler restorer mask)) = true

-- an answer that is given is one that the call can get
abbrev pub is_possible : UserState → Option Answer → Bool
is_possible user None = true
is_possible user (Some answer) = fits_answer user answer

abbrev pub child_in : Option Answer → Option ℕ
child_in None = None
child_in (Some answer) = child_of answer

-- no context of the child is here
abbrev pub is_new_child : Option ℕ → List Context → Bool
is_new_child None contexts = true
is_new_child (Some child) contexts = is_none (lookup child contexts)

-- a reply fits a process that waits
abbrev pub fits_stance : Stance → UserState → Done → Bool
fits_stance Running user done = false
fits_stance (Waiting pause kept) user done = fits_done pause user done
fits_stance (Asking to line) user done = false

abbrev pub fits_here : Option Context → Done → Bool
fits_here None done = false
fits_here (Some c) done = fits_stance c.state c.user done

abbrev pub fits_reply : ℕ → Done → List Context → Bool
fits_reply pid done contexts = fits_here (lookup pid contexts) done && is_new_child (child_in done.answer) contexts

pub record RepliedThere (change : Change) (i : ℕ) (done : Done) (old new : List Context) : Type 0 where
  pub context : Context
  pub here : slice_get old i ≡ Some context
  pub before : change.before ≡ pages_of context
  pub after : change.after ≡ pages_of (with_replied done context)
  pub few : change.after < 2 ^ 32
  pub sets : new ≡ slice_set old i (with_replied done context)

-- the kept move of a process that waits
abbrev pub kept_move : Stance → Option KeptMove
kept_move Running = None
kept_move (Waiting pause kept) = kept
kept_move (Asking to line) = None

-- it runs on, or begins its kept move
abbrev pub resumed_stance : Option KeptMove → Stance
resumed_stance None = Running
resumed_stance (Some move) = Asking move.to (Some move.line)

abbrev pub resumed_as : Option KeptMove → Done → Context → Context
resumed_as kept done c = record { pid = c.pid; user = replied c.user done; hops = c.hops; poked = done.more; state = resumed_stance kept }

abbrev pub kept_of : Option Context → Option KeptMove
kept_of None = None
kept_of (Some c) = kept_move c.state

-- a process that ended is dropped
abbrev pub got_context : Option KeptMove → Done → Context → Option Context
got_context kept done c = cond done.ended None (Some (resumed_as kept done c))

pub record Finishes (pid : ℕ) (kept : Option KeptMove) (done : Done) (old new : List Context) : Type 0 where
  pub context : Context
  pub here : lookup pid old ≡ Some context
  pub puts : Puts pid (got_context kept done context) old new

-- the child of a process at a fork
abbrev pub child_user : ℕ → Option Context → Option UserState
child_user child None = None
child_user child (Some c) = Some (forked c.user child)

abbrev pub child_context : Option ℕ → Context → Option Context
child_context None c = None
child_context (Some child) c = Some (fresh (forked c.user child) 0)

abbrev pub born : Option ℕ → Option Context → Option Context
born child None = None
born child (Some c) = child_context child c

-- the child is here, if there is one
pub record Bears (parent : Option Context) (child : Option ℕ) (old new : List Context) : Type 0 where
  pub each : (q : ℕ) → lookup q new ≡ cond (is_pid child q) (born child parent) (lookup q old)

abbrev pub kept_word : Bool → Kept
kept_word true = kept.Ended
kept_word false = kept.Begins

abbrev pub what_of : ℕ → Option KeptMove → Option ℕ → Bool → What
what_of pid None child ended = what.Got pid child ended None None
what_of pid (Some move) child ended = what.Got pid child ended (Some (kept_word ended)) (Some move.to)

-- a kept move asks its target for room, or is closed where the process ended
abbrev pub mail_of : ℕ → Option KeptMove → Bool → ℕ → Posted
mail_of pid None ended need = []
mail_of pid (Some move) ended need = cond ended ((0, NoMove move.line) ∷ []) ((move.to, Ask pid need) ∷ [])

pub record GotOn (acted : Acted) (pid : ℕ) (done : Done) (old new : List Context) : Type 0 where
  pub context : Context
  pub pause : Bool
  pub move : Option KeptMove
  pub here : lookup pid old ≡ Some context
  pub waits : context.state ≡ Waiting pause move
  pub fits : fits_done pause context.user done ≡ true
  pub child : is_new_child (child_in done.answer) old ≡ true
  pub what : acted.what ≡ what_of pid move (child_in done.answer) done.ended
  pub mail : acted.mail ≡ mail_of pid move done.ended (pages_of (resumed_as move done context))
  pub puts : PutsBoth pid (got_context move done context) (child_in done.answer) (child_context (child_in done.answer) context) old new

-- what a reply does: it is strange exactly where it does not fit
pub record Gets (acted : Acted) (pid : ℕ) (done : Done) (old new : List Context) : Type 0 where
  pub fits : fits_reply pid done old ≡ true → GotOn acted pid done old new
  pub strange : fits_reply pid done old ≡ false → IsStrange acted old new

-- ---- a move

-- the context of a pid is taken out, if it is here
pub record TakenOut (c : Context) (pid : ℕ) (old new : List Context) : Type 0 where
  pub here : lookup pid old ≡ Some c
  pub puts : Puts pid None old new

abbrev pub TakesOut : Option Context → ℕ → List Context → List Context → Type 0
TakesOut None pid old new = (lookup pid old ≡ None) × (new ≡ old)
TakesOut (Some c) pid old new = TakenOut c pid old new

-- a process that leaves takes its landings with it
pub record Leaves (user : UserState) (hops pid : ℕ) (old new : List Context) : Type 0 where
  pub context : Context
  pub here : lookup pid old ≡ Some context
  pub asks : is_asking context.state ≡ true
  pub user_is : user ≡ context.user
  pub hops_is : hops ≡ context.hops
  pub puts : Puts pid None old new

abbrev pub LeavesOr : Option (UserState × ℕ) → ℕ → List Context → List Context → Type 0
LeavesOr None pid old new = (asks_at pid old ≡ false) × (new ≡ old)
LeavesOr (Some left) pid old new = Leaves left.0 left.1 pid old new

-- ---- whether a message to a holder fits, as far as its contexts decide it

-- a process that comes is the one that is named, is not here, and has not landed too often
abbrev pub comes : ℕ → UserState → ℕ → List Context → Bool
comes pid user hops contexts = is_none (lookup pid contexts) && ((user.pid == pid) && nat_lt hops (2 ^ 32 - 1))

abbrev pub suits : ℕ → Message → List Context → Bool
suits from (Call pid request) contexts = true
suits from (Pause pid room) contexts = true
suits from (Reply pid done) contexts = fits_reply pid done contexts
suits from (Poke pid) contexts = true
suits from (Go pid to hops line) contexts = true
suits from (NotHere pid to hops line) contexts = true
suits from (Ask pid need) contexts = is_none (lookup pid contexts)
suits from (Allow pid) contexts = holds_for (asks_node from) (lookup pid contexts)
suits from (Deny pid need free) contexts = holds_for (asks_node from) (lookup pid contexts)
suits from (Move pid user hops line) contexts = comes pid user hops contexts
suits from (Landed pid source hops line) contexts = true
suits from (NoMove line) contexts = true
suits from (Half places) contexts = true
