-- What functions of a node did, put together from what the functions that they call did.
use Rattle.std.proofs.Common.{◌≡◌, ◌⊎◌, inl, inr, ℕ, ◌==◌, ◌<◌, ◌≤◌, Bool, true, false, Option, Some, None, List, [], ◌∷◌, ◌++◌, length, take, refl, sym, ap, ◌∙◌, subst}
use Rattle.std.specs.Prelude.{max, unwrap_or, is_some, slice_get}
use Rattle.std.specs.Bool.{MatchBool}
use Rattle.std.specs.Option.{option_map}
use Rattle.call_forward.specs.declared.acted.Acted.{Acted}
use Rattle.call_forward.specs.declared.letter.Letter.{Letter}
use Rattle.call_forward.specs.declared.message.Done.{Done}
use Rattle.call_forward.specs.declared.message.Message.{Message}
use Rattle.call_forward.specs.declared.message.Message.TheVariants as message
use Rattle.node_event.specs.declared.event.What.TheVariants as what
use Rattle.node_event.specs.Journals.{JournalState}
use Rattle.migrate_proto.specs.declared.go.GoAnswer.{GoAnswer}
use Rattle.migrate_proto.specs.declared.go.GoAnswer.TheVariants as answer
use Rattle.user_spec.specs.User.{UserState}
use Rattle.kernel_spec.specs.Kernel.{given}
use Rattle.remote_ctx.specs.declared.context.Context as code_context
use Rattle.remote_ctx.specs.declared.quantum.Ran.{Ran}
use Rattle.remote_ctx.specs.declared.quantum.Ran.TheVariants as ran
use Rattle.remote_ctx.specs.Hosted.{lookup, pages_of, Changes, Puts}
use Rattle.remote_ctx.specs.Acting.{RunsAs, StepsOn, asking, fresh, child_in, poked_as, Heeds, Sends, Gets}
use Rattle.deputy.specs.Rows.{HomeState}
use Rattle.deputy.specs.Calls.{Retried, next_ready, retried_in, retry_by}
use Rattle.deputy.specs.Moves.{LaunchesAt}
use Rattle.node_core.specs.declared.course.Course.{Course}
use Rattle.node_core.specs.declared.lines.Task.{Task}
use Rattle.node_core.specs.declared.lines.Task.TheVariants as task
use Rattle.mem_usher.specs.declared.sight.Choice.{Choice}
use Rattle.call_table.specs.declared.process.Entry.{Entry}
use Rattle.node_core.specs.declared.talk.Talk.{Talk}
use Rattle.node_core.specs.declared.turn.Turned.TheVariants as turned
use Rattle.node_core.specs.declared.node.Node.{Node}
use Rattle.node_core.specs.declared.rotation.Kind.{Kind}
use Rattle.node_core.specs.declared.rotation.Kind.TheVariants as kind
use Rattle.node_core.specs.declared.rotation.Ready.{Ready}
use Rattle.node_core.specs.declared.rotation.Rotation.{Rotation}
use Rattle.node_core.specs.Rotation.{picked, rotated}
use Rattle.node_core.specs.Turns.{settled_in}
use Rattle.node_core.specs.Kinds.{BeginsMove, IsReady, IsStrange, OnHosted, HearsHere, HearsReply, GoActs, answer_at, is_misplaced, is_stray, stepped, ContextActs, RunsContext, TaskActs, LineActs, RetriesSome, RunsSome, TasksSome, task_at, CarriesOut, CarriesSome, Launches, advanced}
use Rattle.node_core.specs.Kinds as kinds
use Rattle.node_core.specs.Sight.{Answerer, AreCounted, free_of, own_entry}
use Rattle.node_core.specs.Halves.{BeginsChosen, ActsOnChoice, Follows, SendsHalf, HearsHalf, target_of, chance_after, told_talk, heard_talk, told_half, told_heard}
use Rattle.load_gossip.specs.Vectors.{renewed}
use Rattle.node_event.specs.declared.event.What.{What}
use Rattle.migrate_proto.specs.declared.reserve.Decision.{Decision}
use Rattle.migrate_proto.specs.declared.reserve.Decision.TheVariants as decided
use Rattle.migrate_proto.specs.Reservations.{decision}
use Rattle.node_core.specs.Moves.{may_come, AnswersAsk, Decides, asked_of, AllowedFor, DeniedFor, may_land, landings, LandsHere}
use Rattle.node_core.specs.Turning.{is_odd, IsStamp, HearsAny, Heard, Passed, Lacks, Went, WentOn}

-- ---- a move begins

abbrev begin_acted : ℕ → ℕ → ℕ → List (ℕ × Message) → Acted
begin_acted pid to line mail = record { what = what.Begin pid to line; mail = mail }

pub begun : (pid to line : ℕ) (old : Node) (h : List code_context.Context) (mail : List (ℕ × Message)) (need : ℕ) (found : Option ℕ) → Changes pid (asking to (Some line)) old.hosted h
    → found ≡ option_map pages_of (lookup pid old.hosted) → need ≡ unwrap_or found 0 → mail ≡ (to, message.Ask pid need) ∷ [] → BeginsMove pid to line (begin_acted pid to line mail) old (record old { hosted = h })
begun pid to line old h mail need found changes found_is need_is mail_is =
    let at : need ≡ pages_of changes.context = need_is ∙ ap (λ (o : Option ℕ). unwrap_or o 0) (found_is ∙ ap (option_map pages_of) changes.here) in
    record {
      changes = changes;
      acted_is = ap (begin_acted pid to line) (mail_is ∙ ap (λ (n : ℕ). (to, message.Ask pid n) ∷ []) at);
      rest = refl;
    }

-- ---- a quantum of steps

pub steps_went : (k pid quantum : ℕ) (did : Ran) (old mid : Node) (h : List code_context.Context) (mail : List (ℕ × Message)) → RunsAs did pid quantum old.hosted h → did ≡ ran.Steps k → quantum ≡ max old.shape.quantum 1 → mail ≡ []
    → mid ≡ record old { hosted = h; talk = stepped old.talk } → kinds.Steps k pid (record { what = what.Steps pid k; mail = mail }) old mid
steps_went k pid quantum did old mid h mail runs did_is quantum_is mail_is mid_is =
    let on : StepsOn k pid quantum old.hosted h = subst (λ (r : Ran). RunsAs r pid quantum old.hosted h) did_is runs in
    let long : StepsOn k pid (max old.shape.quantum 1) old.hosted h = subst (λ (q : ℕ). StepsOn k pid q old.hosted h) quantum_is on in
    record {
      ran = subst (λ (n : Node). StepsOn k pid (max old.shape.quantum 1) old.hosted n.hosted) (sym mid_is) long;
      what = refl;
      mail = mail_is;
      rest = subst (λ (n : Node). n ≡ record old { hosted = n.hosted; talk = stepped old.talk }) (sym mid_is) refl;
    }

-- ---- a process is launched

pub launched_is : (line pid : ℕ) (user : UserState) (users : List UserState) (found : Option ℕ) (old : Node) (d : HomeState) (h : List code_context.Context) (course : Course) (pushed : List ℕ) (mail : List (ℕ × Message))
    → length old.deputies.rows ≡ given old.deputies.kernel → LaunchesAt found old.deputies d → found ≡ Some pid → old.course.users ≡ users ++ user ∷ [] → Puts pid (Some (fresh (record user { pid = pid }) 0)) old.hosted h → mail ≡ []
    → pushed ≡ old.course.launched ++ pid ∷ [] → course ≡ advanced line (record old.course { users = users; launched = pushed })
    → Launches line (record { what = what.Command line (Some pid) None None; mail = mail }) old (record old { deputies = d; hosted = h; course = course })
launched_is line pid user users found old d h course pushed mail each launches found_is left puts mail_is pushed_is course_is = record {
  pid = pid;
  user = user;
  users = users;
  each = each;
  launched = subst (λ (o : Option ℕ). LaunchesAt o old.deputies d) found_is launches;
  left = left;
  puts = puts;
  what = refl;
  mail = mail_is;
  course = course_is ∙ ap (λ (ps : List ℕ). advanced line (record old.course { users = users; launched = ps })) pushed_is;
  rest = refl;
}

-- ---- no held call goes on

abbrev nothing_retried : HomeState → Retried
nothing_retried home = record { home = home; acted = None }

pub none_retried : (d new : HomeState) (o : Option Acted) → o ≡ None → is_some o ≡ is_some (next_ready d) → retried_in d ≡ record { home = new; acted = o } → (next_ready d ≡ None) × (new ≡ d)
none_retried d new o none some is = go (next_ready d) refl (sym (ap is_some none) ∙ some)
  where
    go : (n : Option ℕ) → next_ready d ≡ n → false ≡ is_some n → (next_ready d ≡ None) × (new ≡ d)
    go None e f = (e, ap (λ (r : Retried). r.home) (sym is ∙ ap (λ (n : Option ℕ). retry_by n d) e))
    go (Some p) e f = absurd cc

-- ---- what a node keeps as it hears a message or carries out a kind of turn: its journal and its rotation

pub record Keeps (old mid : Node) : Type 0 where
  pub journal : mid.journal ≡ old.journal
  pub rotation : mid.rotation ≡ old.rotation

same_keeps : (old mid : Node) → mid ≡ old → Keeps old mid
same_keeps old mid e = record { journal = ap (λ (n : Node). n.journal) e; rotation = ap (λ (n : Node). n.rotation) e }

home_keeps : (old mid : Node) → mid ≡ record old { deputies = mid.deputies } → Keeps old mid
home_keeps old mid e = record { journal = ap (λ (n : Node). n.journal) e; rotation = ap (λ (n : Node). n.rotation) e }

hosted_keeps : (old mid : Node) → mid ≡ record old { hosted = mid.hosted } → Keeps old mid
hosted_keeps old mid e = record { journal = ap (λ (n : Node). n.journal) e; rotation = ap (λ (n : Node). n.rotation) e }

reply_keeps : (b : Bool) (Does : List code_context.Context → List code_context.Context → Type 0) (acted : Acted) (old mid : Node) → MatchBool b (IsStrange acted old mid) (OnHosted Does old mid) → Keeps old mid
reply_keeps true Does acted old mid s = same_keeps old mid s.same
reply_keeps false Does acted old mid o = hosted_keeps old mid o.rest

go_keeps : (a : GoAnswer) (pid to hops line : ℕ) (acted : Acted) (old mid : Node) → GoActs a pid to hops line acted old mid → Keeps old mid
go_keeps answer.Begin pid to hops line acted old mid g = hosted_keeps old mid g.rest
go_keeps answer.Keep pid to hops line acted old mid g = hosted_keeps old mid g.rest
go_keeps answer.There pid to hops line acted old mid g = same_keeps old mid g.same
go_keeps answer.Moving pid to hops line acted old mid g = same_keeps old mid g.same
go_keeps answer.Missed pid to hops line acted old mid g = same_keeps old mid g.same

decided_keeps : (d : Decision) (pid from need : ℕ) (acted : Acted) (old mid : Node) → AnswersAsk d pid from need acted old mid → Keeps old mid
decided_keeps decided.Allow pid from need acted old mid r = record { journal = ap (λ (n : Node). n.journal) r.rest; rotation = ap (λ (n : Node). n.rotation) r.rest }
decided_keeps (decided.Deny wanted free) pid from need acted old mid s = same_keeps old mid s.same

ask_keeps : (b : Bool) (from pid need : ℕ) (acted : Acted) (old mid : Node) → MatchBool b (Decides pid from need acted old mid) (IsStrange acted old mid) → Keeps old mid
ask_keeps true from pid need acted old mid d = decided_keeps (decision need (free_of old)) pid from need acted old mid d.does
ask_keeps false from pid need acted old mid s = same_keeps old mid s.same

allow_keeps : (o : Option (Option ℕ)) (from pid : ℕ) (acted : Acted) (old mid : Node) → AllowedFor o from pid acted old mid → Keeps old mid
allow_keeps None from pid acted old mid s = same_keeps old mid s.same
allow_keeps (Some line) from pid acted old mid d = hosted_keeps old mid d.rest

deny_keeps : (o : Option (Option ℕ)) (from pid need free : ℕ) (acted : Acted) (old mid : Node) → DeniedFor o from pid need free acted old mid → Keeps old mid
deny_keeps None from pid need free acted old mid s = same_keeps old mid s.same
deny_keeps (Some line) from pid need free acted old mid r = hosted_keeps old mid r.rest

move_keeps : (b : Bool) (from pid : ℕ) (user : UserState) (hops : ℕ) (line : Option ℕ) (acted : Acted) (old mid : Node) → MatchBool b (LandsHere pid from user hops line acted old mid) (IsStrange acted old mid) → Keeps old mid
move_keeps true from pid user hops line acted old mid l = record { journal = ap (λ (n : Node). n.journal) l.rest; rotation = ap (λ (n : Node). n.rotation) l.rest }
move_keeps false from pid user hops line acted old mid s = same_keeps old mid s.same

follows_keeps : (chosen : Option Choice) (first mail : List (ℕ × Message)) (old mid : Node) → Follows chosen first mail old mid → Keeps old mid
follows_keeps None first mail old mid f = same_keeps old mid f.1
follows_keeps (Some c) first mail old mid f = hosted_keeps old mid f.rest

told_keeps : (t : Talk) (old mid : Node) → Keeps (record old { talk = t }) mid → Keeps old mid
told_keeps t old mid k = record { journal = k.journal; rotation = k.rotation }

here_keeps : (answers : Answerer) (stamp from : ℕ) (m : Message) (acted : Acted) (old mid : Node) → HearsHere answers stamp from m acted old mid → Keeps old mid
here_keeps answers stamp from (message.Call p r) acted old mid h = home_keeps old mid h.1.rest
here_keeps answers stamp from (message.Pause p room) acted old mid h = home_keeps old mid h.rest
here_keeps answers stamp from (message.Reply p d) acted old mid h = reply_keeps (is_stray old (child_in d.answer)) (Gets acted p d) acted old mid h
here_keeps answers stamp from (message.Poke p) acted old mid h = hosted_keeps old mid h.rest
here_keeps answers stamp from (message.Go p to hops line) acted old mid h = go_keeps (answer_at old p to) p to hops line acted old mid h
here_keeps answers stamp from (message.NotHere p to hops line) acted old mid h = home_keeps old mid h.rest
here_keeps answers stamp from (message.NoMove line) acted old mid h = same_keeps old mid h.same
here_keeps answers stamp from (message.Ask p need) acted old mid h = ask_keeps (may_come old p) from p need acted old mid h
here_keeps answers stamp from (message.Allow p) acted old mid h = allow_keeps (asked_of old from p) from p acted old mid h
here_keeps answers stamp from (message.Deny p need free) acted old mid h = deny_keeps (asked_of old from p) from p need free acted old mid h
here_keeps answers stamp from (message.Move p u hops line) acted old mid h = move_keeps (may_land old p u) from p u (landings hops) line acted old mid h
here_keeps answers stamp from (message.Landed p source hops line) acted old mid h = home_keeps old mid h.home.rest
here_keeps answers stamp from (message.Half places) acted old mid h = go (from == old.id) h
  where
    go : (b : Bool) → MatchBool b (IsStrange acted old mid) (HearsHalf answers stamp from places acted old mid) → Keeps old mid
    go true s = same_keeps old mid s.same
    go false x = told_keeps _ old mid (follows_keeps x.chosen _ _ _ mid x.decides.follows)

any_keeps : (answers : Answerer) (stamp from : ℕ) (m : Message) (acted : Acted) (old mid : Node) → HearsAny answers stamp from m acted old mid → Keeps old mid
any_keeps answers stamp from m acted old mid h = go (is_misplaced old from m) h
  where
    go : (b : Bool) → MatchBool b (IsStrange acted old mid) (HearsHere answers stamp from m acted old mid) → Keeps old mid
    go true s = same_keeps old mid s.same
    go false x = here_keeps answers stamp from m acted old mid x

context_keeps : (pid : ℕ) (acted : Acted) (old mid : Node) → ContextActs pid acted old mid → Keeps old mid
context_keeps pid acted old mid c = go (poked_as (lookup pid old.hosted)) c
  where
    steps : (k : ℕ) → kinds.Steps k pid acted old mid → Keeps old mid
    steps k s = record { journal = ap (λ (n : Node). n.journal) s.rest; rotation = ap (λ (n : Node). n.rotation) s.rest }

    unpoked : ((k : ℕ) × kinds.Steps k pid acted old mid) ⊎ OnHosted (Sends acted pid) old mid → Keeps old mid
    unpoked (inl (k, s)) = steps k s
    unpoked (inr o) = hosted_keeps old mid o.rest

    go : (b : Bool) → MatchBool b (OnHosted (Heeds acted pid) old mid) (((k : ℕ) × kinds.Steps k pid acted old mid) ⊎ OnHosted (Sends acted pid) old mid) → Keeps old mid
    go true o = hosted_keeps old mid o.rest
    go false x = unpoked x

line_keeps : (line : ℕ) (t : Task) (acted : Acted) (old mid : Node) → LineActs line t acted old mid → Keeps old mid
line_keeps line task.Launch acted old mid l = record { journal = ap (λ (n : Node). n.journal) l.rest; rotation = ap (λ (n : Node). n.rotation) l.rest }
line_keeps line (task.Kill pid signal) acted old mid l = record { journal = ap (λ (n : Node). n.journal) l.rest; rotation = ap (λ (n : Node). n.rotation) l.rest }
line_keeps line (task.Move pid to) acted old mid l = record { journal = ap (λ (n : Node). n.journal) l.rest; rotation = ap (λ (n : Node). n.rotation) l.rest }
line_keeps line task.Feed acted old mid l = record { journal = ap (λ (n : Node). n.journal) l.passes.rest; rotation = ap (λ (n : Node). n.rotation) l.passes.rest }
line_keeps line task.End acted old mid l = record { journal = ap (λ (n : Node). n.journal) l.rest; rotation = ap (λ (n : Node). n.rotation) l.rest }
line_keeps line task.Pass acted old mid l = record { journal = ap (λ (n : Node). n.journal) l.rest; rotation = ap (λ (n : Node). n.rotation) l.rest }

runs_keeps : (context : Option ℕ) (acted : Acted) (old mid : Node) → RunsContext context acted old mid → Keeps old mid
runs_keeps None acted old mid r = absurd r
runs_keeps (Some pid) acted old mid r = context_keeps pid acted old mid r

task_keeps : (next : Option (ℕ × Task)) (acted : Acted) (old mid : Node) → TaskActs next acted old mid → Keeps old mid
task_keeps None acted old mid t = absurd t
task_keeps (Some next) acted old mid t = line_keeps next.0 next.1 acted old mid t

carries_keeps : (answers : Answerer) (stamp : ℕ) (k : Kind) (context : Option ℕ) (acted : Acted) (old mid : Node) → CarriesOut answers stamp k context acted old mid → Keeps old mid
carries_keeps answers stamp kind.Retry context acted old mid c = home_keeps old mid c.rest
carries_keeps answers stamp kind.Context context acted old mid c = runs_keeps context acted old mid c
carries_keeps answers stamp kind.Line context acted old mid c = task_keeps _ acted old mid c
carries_keeps answers stamp kind.Half context acted old mid c = told_keeps _ old mid (follows_keeps c.chosen _ _ _ mid c.decides.follows)

-- ---- a letter was heard

pub misplaced_any : (answers : Answerer) (stamp from : ℕ) (m : Message) (acted : Acted) (old mid : Node) → is_misplaced old from m ≡ true → IsStrange acted old mid → HearsAny answers stamp from m acted old mid
misplaced_any answers stamp from m acted old mid e s = subst (λ (b : Bool). MatchBool b (IsStrange acted old mid) (HearsHere answers stamp from m acted old mid)) (sym e) s

pub heard_any : (answers : Answerer) (stamp from : ℕ) (m : Message) (acted : Acted) (old mid : Node) → is_misplaced old from m ≡ false → HearsHere answers stamp from m acted old mid → HearsAny answers stamp from m acted old mid
heard_any answers stamp from m acted old mid e h = subst (λ (b : Bool). MatchBool b (IsStrange acted old mid) (HearsHere answers stamp from m acted old mid)) (sym e) h

pub heard_room : (answers : Answerer) (stamp from : ℕ) (m : Message) (acted : Acted) (old mid : Node) → HearsAny answers stamp from m acted old mid → length old.journal.events < old.journal.room → length mid.journal.events < mid.journal.room
heard_room answers stamp from m acted old mid h room = let k = any_keeps answers stamp from m acted old mid h in subst (λ (j : JournalState). length j.events < j.room) (sym k.journal) room

pub heard_took : (answers : Answerer) (l : Letter) (old mid new : Node) (stamp : ℕ) (acted : Acted) → is_odd old l ≡ false → length old.journal.events < old.journal.room → IsStamp old.clock l.stamp stamp → HearsAny answers stamp l.from l.message acted old mid
    → new ≡ settled_in stamp acted mid → Heard answers l old new ⊎ Passed l old new
heard_took answers l old mid new stamp acted usual space stamp_is hears settled = inl (record { usual = usual; space = space; stamp = stamp; stamp_is = stamp_is; acted = acted; mid = mid; hears = hears; settled = settled })

-- ---- a reply

pub got_is : (pid : ℕ) (done : Done) (acted : Acted) (old : Node) (h : List code_context.Context) → is_stray old (child_in done.answer) ≡ false → Gets acted pid done old.hosted h → HearsReply pid done acted old (record old { hosted = h })
got_is pid done acted old h known g = subst (λ (b : Bool). MatchBool b (IsStrange acted old (record old { hosted = h })) (OnHosted (Gets acted pid done) old (record old { hosted = h }))) (sym known) (record { does = g; rest = refl })

-- ---- a kind of turn was carried out

pub carried_room : (answers : Answerer) (stamp : ℕ) (k : Kind) (context : Option ℕ) (acted : Acted) (old mid : Node) → CarriesOut answers stamp k context acted old mid → length old.journal.events < old.journal.room → length mid.journal.events < mid.journal.room
carried_room answers stamp k context acted old mid c room = let s = carries_keeps answers stamp k context acted old mid c in subst (λ (j : JournalState). length j.events < j.room) (sym s.journal) room

pub went_is : (answers : Answerer) (old mid new : Node) (k : Kind) (ready : Ready) (stamp : ℕ) (acted : Acted) (r : Rotation) → IsReady old ready → picked old.rotation.last ready ≡ Some k → length old.journal.events ≤ old.journal.room → length old.journal.events < old.journal.room
    → IsStamp old.clock 0 stamp → CarriesOut answers stamp k ready.context acted old mid → r ≡ rotated mid.rotation k ready.context → new ≡ settled_in stamp acted (record mid { rotation = r }) → Went answers old new
went_is answers old mid new k ready stamp acted r is picks most space stamp_is carries r_is settled =
    let s = carries_keeps answers stamp k ready.context acted old mid carries in
    record {
      kind = k;
      picks = record { ready = ready; is = is; picked = picks; most = most };
      space = space;
      stamp = stamp;
      stamp_is = stamp_is;
      acted = acted;
      mid = mid;
      carries = carries;
      settled = settled ∙ ap (λ (x : Rotation). settled_in stamp acted (record mid { rotation = x })) (r_is ∙ ap (λ (x : Rotation). rotated x k ready.context) s.rotation);
    }

pub lacks_is : (answers : Answerer) (old mid : Node) (k : Kind) (ready : Ready) (stamp : ℕ) (acted : Option Acted) → IsReady old ready → picked old.rotation.last ready ≡ Some k → length old.journal.events ≤ old.journal.room → acted ≡ None
    → CarriesSome answers stamp k ready.context acted old mid → WentOn answers turned.Idle old mid
lacks_is answers old mid k ready stamp acted is picks most none carries =
    let fails = subst (λ (o : Option Acted). CarriesSome answers stamp k ready.context o old mid) none carries in
    (inr (record { kind = k; picks = record { ready = ready; is = is; picked = picks; most = most }; fails = fails.0 }), fails.1)

pub carried_retry : (answers : Answerer) (stamp : ℕ) (context : Option ℕ) (acted : Option Acted) (old mid : Node) → RetriesSome acted old mid → CarriesSome answers stamp kind.Retry context acted old mid
carried_retry answers stamp context None old mid r = r
carried_retry answers stamp context (Some acted) old mid r = r

pub carried_context : (answers : Answerer) (stamp : ℕ) (context : Option ℕ) (acted : Option Acted) (old mid : Node) → RunsSome context acted old mid → CarriesSome answers stamp kind.Context context acted old mid
carried_context answers stamp context None old mid r = r
carried_context answers stamp context (Some acted) old mid r = r

pub carried_line : (answers : Answerer) (stamp : ℕ) (context : Option ℕ) (acted : Option Acted) (old mid : Node) → TasksSome (task_at (slice_get old.course.script old.course.done)) acted old mid → CarriesSome answers stamp kind.Line context acted old mid
carried_line answers stamp context None old mid r = r
carried_line answers stamp context (Some acted) old mid r = r

-- ---- a half

pub chosen_begun : (choice : Choice) (old : Node) (h : List code_context.Context) (first mail : List (ℕ × Message)) (need : ℕ) (found : Option ℕ) → Changes choice.pid (asking choice.to None) old.hosted h
    → found ≡ option_map pages_of (lookup choice.pid old.hosted) → need ≡ unwrap_or found 0 → mail ≡ first ++ (choice.to, message.Ask choice.pid need) ∷ [] → BeginsChosen choice first mail old (record old { hosted = h })
chosen_begun choice old h first mail need found changes found_is need_is mail_is =
    let at : need ≡ pages_of changes.context = need_is ∙ ap (λ (o : Option ℕ). unwrap_or o 0) (found_is ∙ ap (option_map pages_of) changes.here) in
    record {
      changes = changes;
      mail_is = mail_is ∙ ap (λ (n : ℕ). first ++ (choice.to, message.Ask choice.pid n) ∷ []) at;
      rest = refl;
    }

abbrev sent_node : ℕ → Node → Node
sent_node stamp old = record old { talk = told_talk (own_entry stamp old) (record old.talk { chance = chance_after old }) }

abbrev sent_mail : ℕ → Node → List (ℕ × Message)
sent_mail stamp old = (target_of old, message.Half (take 4 (renewed (own_entry stamp old) old.talk.vector))) ∷ []

abbrev heard_node : ℕ → List (Option Entry) → Node → Node
heard_node stamp heard old = record old { talk = heard_talk (own_entry stamp old) heard old.talk }

pub half_sent : (answers : Answerer) (stamp : ℕ) (old drawn mid : Node) (own : Entry) (target : ℕ) (t : Talk) (places : List (Option Entry)) (first mail : List (ℕ × Message)) (chosen : Option Choice) (said : What)
    → AreCounted old.hosted → own ≡ own_entry stamp old → target ≡ target_of old → drawn ≡ record old { talk = record old.talk { chance = chance_after old } } → t ≡ told_talk own drawn.talk → places ≡ take 4 t.vector
    → first ≡ (target, message.Half places) ∷ [] → ActsOnChoice answers own first mail chosen (record drawn { talk = t }) mid → said ≡ told_half target chosen → SendsHalf answers stamp (record { what = said; mail = mail }) old mid
half_sent answers stamp old drawn mid own target t places first mail chosen said counted own_is target_is drawn_is t_is places_is first_is decides said_is =
    let now : t ≡ told_talk (own_entry stamp old) (record old.talk { chance = chance_after old }) = t_is ∙ (λ i. told_talk (own_is i) (drawn_is i).talk) in
    let told : places ≡ take 4 (renewed (own_entry stamp old) old.talk.vector) = places_is ∙ ap (λ (x : Talk). take 4 x.vector) now in
    let posts : first ≡ sent_mail stamp old = first_is ∙ (λ i. (target_is i, message.Half (told i)) ∷ []) in
    let before : record drawn { talk = t } ≡ sent_node stamp old = (λ i. record (drawn_is i) { talk = now i }) in
    record {
      counted = counted;
      chosen = chosen;
      decides = subst (λ (o : Entry). ActsOnChoice answers o (sent_mail stamp old) mail chosen (sent_node stamp old) mid) own_is (subst (λ (f : List (ℕ × Message)). ActsOnChoice answers own f mail chosen (sent_node stamp old) mid) posts (subst (λ (n : Node). ActsOnChoice answers own first mail chosen n mid) before decides));
      what = said_is ∙ ap (λ (n : ℕ). told_half n chosen) target_is;
    }

pub half_heard : (answers : Answerer) (stamp from : ℕ) (heard : List (Option Entry)) (old mid : Node) (own : Entry) (t : Talk) (first mail : List (ℕ × Message)) (chosen : Option Choice) (said : What)
    → AreCounted old.hosted → own ≡ own_entry stamp old → t ≡ heard_talk own heard old.talk → first ≡ [] → ActsOnChoice answers own first mail chosen (record old { talk = t }) mid → said ≡ told_heard from chosen
    → HearsHalf answers stamp from heard (record { what = said; mail = mail }) old mid
half_heard answers stamp from heard old mid own t first mail chosen said counted own_is t_is first_is decides said_is =
    let now : t ≡ heard_talk (own_entry stamp old) heard old.talk = t_is ∙ ap (λ (o : Entry). heard_talk o heard old.talk) own_is in
    record {
      counted = counted;
      chosen = chosen;
      decides = subst (λ (o : Entry). ActsOnChoice answers o [] mail chosen (heard_node stamp heard old) mid) own_is (subst (λ (f : List (ℕ × Message)). ActsOnChoice answers own f mail chosen (heard_node stamp heard old) mid) first_is (subst (λ (x : Talk). ActsOnChoice answers own first mail chosen (record old { talk = x }) mid) now decides));
      what = said_is;
    }
