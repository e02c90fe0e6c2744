-- What a node makes of a message or of a kind of turn, in the words of its parts.
use Rattle.std.specs.Prelude.{◌≡◌, ◌+◌, ◌-◌, ◌^◌, ℕ, max, min, is_some, is_none, slice_get, nat_lt, nat_le, ◌&&◌, ◌||◌, ◌==◌, not, ◌⊎◌, Bool, true, false, Option, Some, None, List, [], ◌∷◌, ◌++◌, length, MatchOption}
use Rattle.call_forward.specs.declared.acted.Acted.{Acted}
use Rattle.call_forward.specs.declared.message.Message.{Message}
use Rattle.call_forward.specs.declared.message.Message.TheVariants as message
use Rattle.call_forward.specs.Messages.{is_to_home, nodes_of, are_below}
use Rattle.node_event.specs.declared.event.What.TheVariants as what
use Rattle.node_event.specs.declared.script.Order.{Order}
use Rattle.node_event.specs.declared.script.Order.TheVariants as order
use Rattle.node_event.specs.declared.script.ScriptLine.{ScriptLine}
use Rattle.protocol.specs.Home.{live_of}
use Rattle.node_core.specs.declared.rotation.Ready.{Ready}
use Rattle.node_core.specs.declared.rotation.Kind.{Kind}
use Rattle.node_core.specs.declared.rotation.Kind.TheVariants.{Retry, Context, Line, Half}
use Rattle.std.specs.Bool.{MatchBool}
use Rattle.call_forward.specs.declared.message.Done.{Done}
use Rattle.kernel_spec.specs.Kernel.{KernelState, given, is_live, has_room, fed}
use Rattle.remote_ctx.specs.declared.context.Context as code_context
use Rattle.std.specs.Option.{option_map}
use Rattle.node_event.specs.declared.event.Refusal.{Refusal}
use Rattle.node_event.specs.declared.event.Refusal.TheVariants as refusal
use Rattle.migrate_proto.specs.declared.go.GoAnswer.{GoAnswer}
use Rattle.migrate_proto.specs.declared.go.GoAnswer.TheVariants as answer
use Rattle.migrate_proto.specs.Moves.{go_answer}
use Rattle.remote_ctx.specs.Hosted.{lookup, runs_at, state_of, pages_of, IsNext, NonePasses, Puts, Changes}
use Rattle.remote_ctx.specs.Acting.{StepsOn, fresh, asking, keeping, holds_for, has_kept, Sends, Heeds, PokedOn, Gets, poked_as, child_in}
use Rattle.deputy.specs.declared.row.HeldCall.{HeldCall}
use Rattle.deputy.specs.Rows.{HomeState, held_at, served_at}
use Rattle.deputy.specs.Calls.{Turned, called_in, paused_in, retried_in, next_ready}
use Rattle.deputy.specs.Rules.{CanWait}
use Rattle.user_spec.specs.User.{UserState}
use Rattle.deputy.specs.Moves.{LaunchesAt, killed_in, went_in, missed_in, closed_acted}
use Rattle.node_core.specs.declared.course.Course.{Course}
use Rattle.node_core.specs.declared.lines.Task.{Task}
use Rattle.node_core.specs.declared.lines.Task.TheVariants as task
use Rattle.node_core.specs.declared.talk.Talk.{Talk}
use Rattle.node_core.specs.declared.node.Node.{Node}
use Rattle.node_core.specs.Sight.{Answerer, AreCounted}
use Rattle.node_core.specs.Halves.{has_others, is_late, is_half_due, SendsHalf, HearsHalf}
pub use Rattle.node_core.specs.Parts.{OnHome, OnHosted, IsStrange, is_stray_pid, is_stray, Says}
use Rattle.node_core.specs.Moves.{HearsAsk, HearsAllow, HearsDeny, HearsMove, HearsLanded}

-- ---- messages

-- a message comes from a node that the cluster does not have, or names one, or would have to go to home
abbrev pub is_misplaced : Node → ℕ → Message → Bool
is_misplaced n from m = not (are_below n.shape.nodes (from ∷ nodes_of m)) || (not (n.id == 0) && is_to_home m)

abbrev pub HearsReply : ℕ → Done → Acted → Node → Node → Type 0
HearsReply pid done acted old mid = MatchBool (is_stray old (child_in done.answer)) (IsStrange acted old mid) (OnHosted (Gets acted pid done) old mid)

-- ---- an order to move

-- the process begins its move: it asks its target for room
pub record BeginsMove (pid to line : ℕ) (acted : Acted) (old mid : Node) : Type 0 where
  pub changes : Changes pid (asking to (Some line)) old.hosted mid.hosted
  pub acted_is : acted ≡ record { what = what.Begin pid to line; mail = (to, message.Ask pid (pages_of changes.context)) ∷ [] }
  pub rest : mid ≡ record old { hosted = mid.hosted }

-- it waits, and keeps the move
pub record KeepsMove (pid to line : ℕ) (acted : Acted) (old mid : Node) : Type 0 where
  pub changes : Changes pid (keeping to line) old.hosted mid.hosted
  pub acted_is : acted ≡ record { what = what.Keep pid to line; mail = [] }
  pub rest : mid ≡ record old { hosted = mid.hosted }

abbrev pub refused : ℕ → ℕ → Refusal → ℕ → Acted
refused pid to why line = record { what = what.Refused pid to why line; mail = (0, message.NoMove line) ∷ [] }

abbrev pub missed : ℕ → ℕ → ℕ → ℕ → Acted
missed pid to hops line = record { what = what.Missed pid to line; mail = (0, message.NotHere pid to hops line) ∷ [] }

abbrev pub GoActs : GoAnswer → ℕ → ℕ → ℕ → ℕ → Acted → Node → Node → Type 0
GoActs answer.Begin pid to hops line acted old mid = BeginsMove pid to line acted old mid
GoActs answer.Keep pid to hops line acted old mid = KeepsMove pid to line acted old mid
GoActs answer.There pid to hops line acted old mid = Says (refused pid to refusal.There line) acted old mid
GoActs answer.Moving pid to hops line acted old mid = Says (refused pid to refusal.Moving line) acted old mid
GoActs answer.Missed pid to hops line acted old mid = Says (missed pid to hops line) acted old mid

-- what a node answers to an order to move
abbrev pub answer_at : Node → ℕ → ℕ → GoAnswer
answer_at n pid to = go_answer (option_map state_of (lookup pid n.hosted)) (holds_for has_kept (lookup pid n.hosted)) n.id to

-- a message is about a call or a signal
abbrev pub is_of_calls : Message → Bool
is_of_calls (message.Call pid request) = true
is_of_calls (message.Pause pid room) = true
is_of_calls (message.Reply pid done) = true
is_of_calls (message.Poke pid) = true
is_of_calls _ = false

-- or about a move; any other is a half
abbrev pub is_of_moves : Message → Bool
is_of_moves (message.Half places) = false
is_of_moves m = not (is_of_calls m)

-- what a node makes of a message about a call or a signal
abbrev pub HearsCall : ℕ → Message → Acted → Node → Node → Type 0
HearsCall from (message.Call pid request) acted old mid = (length old.deputies.rows ≡ given old.deputies.kernel) × OnHome (called_in old.deputies from pid request) acted old mid
HearsCall from (message.Pause pid room) acted old mid = OnHome (paused_in old.deputies from pid room) acted old mid
HearsCall from (message.Reply pid done) acted old mid = HearsReply pid done acted old mid
HearsCall from (message.Poke pid) acted old mid = OnHosted (PokedOn acted pid) old mid
HearsCall from _ acted old mid = ⊥

-- of one about a move
abbrev pub HearsOfMove : ℕ → Message → Acted → Node → Node → Type 0
HearsOfMove from (message.Go pid to hops line) acted old mid = GoActs (answer_at old pid to) pid to hops line acted old mid
HearsOfMove from (message.NotHere pid to hops line) acted old mid = OnHome (missed_in old.deputies pid to hops line) acted old mid
HearsOfMove from (message.NoMove line) acted old mid = Says (closed_acted line) acted old mid
HearsOfMove from (message.Ask pid need) acted old mid = HearsAsk from pid need acted old mid
HearsOfMove from (message.Allow pid) acted old mid = HearsAllow from pid acted old mid
HearsOfMove from (message.Deny pid need free) acted old mid = HearsDeny from pid need free acted old mid
HearsOfMove from (message.Move pid user hops line) acted old mid = HearsMove from pid user hops line acted old mid
HearsOfMove from (message.Landed pid source hops line) acted old mid = HearsLanded from pid source hops line acted old mid
HearsOfMove from _ acted old mid = ⊥

-- what a node makes of a message that is in its place, with an event of this stamp; a half from the node itself does not fit
abbrev pub HearsHere : Answerer → ℕ → ℕ → Message → Acted → Node → Node → Type 0
HearsHere answers stamp from (message.Half places) acted old mid = MatchBool (from == old.id) (IsStrange acted old mid) (HearsHalf answers stamp from places acted old mid)
HearsHere answers stamp from m acted old mid = MatchBool (is_of_calls m) (HearsCall from m acted old mid) (HearsOfMove from m acted old mid)

-- ---- a call that was held

-- each of them is a call of a live process
abbrev pub CallsWait : HomeState → Type 0
CallsWait home = (pid : ℕ) (call : HeldCall) → held_at home.rows pid ≡ Some call → CanWait home.kernel pid call.request

-- the lowest of those that can go on is served, and nothing changes where none can
pub record Retries (acted : Acted) (old mid : Node) : Type 0 where
  pub each : length old.deputies.rows ≡ given old.deputies.kernel
  pub held : CallsWait old.deputies
  pub is : retried_in old.deputies ≡ record { home = mid.deputies; acted = Some acted }
  pub rest : mid ≡ record old { deputies = mid.deputies }

abbrev pub RetriesSome : Option Acted → Node → Node → Type 0
RetriesSome None old mid = (next_ready old.deputies ≡ None) × (mid ≡ old)
RetriesSome (Some acted) old mid = Retries acted old mid

-- ---- the next line

-- a process has ended
abbrev pub has_ended : KernelState → ℕ → Bool
has_ended k pid = nat_le 1 pid && (nat_le pid (given k) && not (is_live k pid))

abbrev pub is_enabled : Order → Node → Bool
is_enabled (order.Run words) n = has_room n.deputies.kernel
is_enabled (order.Kill pid signal) n = true
is_enabled (order.Move pid to) n = true
is_enabled (order.Feed text) n = true
is_enabled order.Eof n = true
is_enabled (order.Wait pid) n = has_ended n.deputies.kernel pid
is_enabled (order.After pid count) n = nat_le count (served_at n.deputies.rows pid) || has_ended n.deputies.kernel pid
is_enabled (order.Held pid) n = is_some (held_at n.deputies.rows pid) || has_ended n.deputies.kernel pid
is_enabled (order.Slots count) n = nat_lt (live_of (is_live n.deputies.kernel) n.course.launched) count

abbrev pub line_enabled : Option ScriptLine → Node → Bool
line_enabled None n = false
line_enabled (Some s) n = is_enabled s.order n

-- the line was carried out
abbrev pub advanced : ℕ → Course → Course
advanced line c = record c { done = c.done + 1; line = line + 1 }

-- a process is launched: the context of this line's image gets the new pid, and runs at home
pub record Launches (line : ℕ) (acted : Acted) (old mid : Node) : Type 0 where
  pub pid : ℕ
  pub user : UserState
  pub users : List UserState
  pub each : length old.deputies.rows ≡ given old.deputies.kernel
  pub launched : LaunchesAt (Some pid) old.deputies mid.deputies
  pub left : old.course.users ≡ users ++ user ∷ []
  pub puts : Puts pid (Some (fresh (record user { pid = pid }) 0)) old.hosted mid.hosted
  pub what : acted.what ≡ what.Command line (Some pid) None None
  pub mail : acted.mail ≡ []
  pub course : mid.course ≡ record (advanced line old.course) { users = users; launched = old.course.launched ++ pid ∷ [] }
  pub rest : mid ≡ record old { deputies = mid.deputies; hosted = mid.hosted; course = mid.course }

-- a line that launches nothing leaves this of home
pub record Passes (line : ℕ) (turned : Turned) (acted : Acted) (old mid : Node) : Type 0 where
  pub is : turned ≡ record { home = mid.deputies; acted = acted }
  pub rest : mid ≡ record old { deputies = mid.deputies; course = advanced line old.course }

-- the event of a line that does nothing to a process
abbrev pub passed : ℕ → Acted
passed line = record { what = what.Command line None None None; mail = [] }

-- its text is typed
pub record FeedsText (line : ℕ) (acted : Acted) (old mid : Node) : Type 0 where
  pub text : List ℕ
  pub here : slice_get old.course.script old.course.done ≡ Some (record { line = line; order = order.Feed text })
  pub passes : Passes line (record { home = record old.deputies { kernel = record old.deputies.kernel { input = fed text old.deputies.kernel.input } }; acted = passed line }) acted old mid

-- nothing more is typed
abbrev pub EndsInput : ℕ → Acted → Node → Node → Type 0
EndsInput line acted old mid = Passes line (record { home = record old.deputies { kernel = record old.deputies.kernel { input = record old.deputies.kernel.input { ended = true } } }; acted = passed line }) acted old mid

-- ---- what is ready

-- whether each kind of turn has something to do
pub record IsReady (n : Node) (ready : Ready) : Type 0 where
  pub retry : ready.retry ≡ ((n.id == 0) && is_some (next_ready n.deputies))
  pub waits : ready.retry ≡ true → CallsWait n.deputies
  pub context : MatchOption ready.context (NonePasses (λ q. runs_at q n.hosted)) (IsNext (λ q. runs_at q n.hosted) n.rotation.after)
  pub line : ready.line ≡ ((n.id == 0) && line_enabled (slice_get n.course.script n.course.done) n)
  pub half : ready.half ≡ is_half_due (is_none ready.context) n
  pub late : ready.late ≡ (has_others n && is_late n)
  pub counted : AreCounted n.hosted

-- ---- a context's turn

-- one more quantum of steps; the count stays at its end
abbrev pub stepped : Talk → Talk
stepped t = record t { steps = min (t.steps + 1) (2 ^ 32 - 1) }

-- it makes steps
pub record Steps (k pid : ℕ) (acted : Acted) (old mid : Node) : Type 0 where
  pub ran : StepsOn k pid (max old.shape.quantum 1) old.hosted mid.hosted
  pub what : acted.what ≡ what.Steps pid k
  pub mail : acted.mail ≡ []
  pub rest : mid ≡ record old { hosted = mid.hosted; talk = stepped old.talk }

-- a poked process pauses, one at a call or a fault sends it home, any other makes steps
abbrev pub ContextActs : ℕ → Acted → Node → Node → Type 0
ContextActs pid acted old mid = MatchBool (poked_as (lookup pid old.hosted)) (OnHosted (Heeds acted pid) old mid) (((k : ℕ) × Steps k pid acted old mid) ⊎ OnHosted (Sends acted pid) old mid)

-- ---- all kinds

abbrev pub task_of : Order → Task
task_of (order.Run words) = task.Launch
task_of (order.Kill pid signal) = task.Kill pid signal
task_of (order.Move pid to) = task.Move pid to
task_of (order.Feed text) = task.Feed
task_of order.Eof = task.End
task_of (order.Wait pid) = task.Pass
task_of (order.After pid count) = task.Pass
task_of (order.Held pid) = task.Pass
task_of (order.Slots count) = task.Pass

abbrev pub task_at : Option ScriptLine → Option (ℕ × Task)
task_at None = None
task_at (Some s) = Some (s.line, task_of s.order)

abbrev pub LineActs : ℕ → Task → Acted → Node → Node → Type 0
LineActs line task.Launch acted old mid = Launches line acted old mid
LineActs line (task.Kill pid signal) acted old mid = Passes line (killed_in old.deputies pid signal line) acted old mid
LineActs line (task.Move pid to) acted old mid = Passes line (went_in old.deputies pid to line) acted old mid
LineActs line task.Feed acted old mid = FeedsText line acted old mid
LineActs line task.End acted old mid = EndsInput line acted old mid
LineActs line task.Pass acted old mid = Passes line (record { home = old.deputies; acted = passed line }) acted old mid

abbrev pub TaskActs : Option (ℕ × Task) → Acted → Node → Node → Type 0
TaskActs None acted old mid = ⊥
TaskActs (Some next) acted old mid = LineActs next.0 next.1 acted old mid

-- the next line cannot be carried out: it launches a process, and there is no room for one, or no context of a `run` line is left; or there is no next line
abbrev pub LineFails : Task → Node → Type 0
LineFails task.Launch n = (has_room n.deputies.kernel ≡ false) ⊎ (n.course.users ≡ [])
LineFails _ n = ⊥

abbrev pub TaskFails : Option (ℕ × Task) → Node → Type 0
TaskFails None n = Unit {0}
TaskFails (Some next) n = LineFails next.1 n

abbrev pub TasksSome : Option (ℕ × Task) → Option Acted → Node → Node → Type 0
TasksSome next None old mid = TaskFails next old × (mid ≡ old)
TasksSome next (Some acted) old mid = TaskActs next acted old mid

abbrev pub RunsContext : Option ℕ → Acted → Node → Node → Type 0
RunsContext None acted old mid = ⊥
RunsContext (Some pid) acted old mid = ContextActs pid acted old mid

abbrev pub RunsSome : Option ℕ → Option Acted → Node → Node → Type 0
RunsSome pid None old mid = (pid ≡ None) × (mid ≡ old)
RunsSome pid (Some acted) old mid = RunsContext pid acted old mid

abbrev pub CarriesOut : Answerer → ℕ → Kind → Option ℕ → Acted → Node → Node → Type 0
CarriesOut answers stamp Retry context acted old mid = Retries acted old mid
CarriesOut answers stamp Context context acted old mid = RunsContext context acted old mid
CarriesOut answers stamp Line context acted old mid = TaskActs (task_at (slice_get old.course.script old.course.done)) acted old mid
CarriesOut answers stamp Half context acted old mid = SendsHalf answers stamp acted old mid

-- nothing of this kind can be carried out
abbrev pub KindFails : Kind → Option ℕ → Node → Type 0
KindFails Retry context n = next_ready n.deputies ≡ None
KindFails Context context n = context ≡ None
KindFails Line context n = TaskFails (task_at (slice_get n.course.script n.course.done)) n
KindFails Half context n = ⊥

abbrev pub CarriesSome : Answerer → ℕ → Kind → Option ℕ → Option Acted → Node → Node → Type 0
CarriesSome answers stamp kind context None old mid = KindFails kind context old × (mid ≡ old)
CarriesSome answers stamp kind context (Some acted) old mid = CarriesOut answers stamp kind context acted old mid
