-- The worked programs show what is said of them.
use Rattle.std.proofs.Common.{◌≡◌, ℕ, false, Option, Some, None, List, [], ◌∷◌, refl, sym, ap, ◌∙◌}
use Rattle.std.specs.Prelude.{option_and_then}
use Rattle.std.specs.Option.{option_map}
use Rattle.call_table.specs.declared.request.Request.{Request}
use Rattle.node_event.specs.declared.event.Event.{Event}
use Rattle.node_event.specs.declared.script.ScriptLine.{ScriptLine}
use Rattle.user_spec.specs.Advance.{Went, request_of, asked_at}
use Rattle.kernel_spec.specs.Pids.{at_pid}
use Rattle.kernel_spec.specs.Kernel.{KernelState, deliverable}
use Rattle.run_laws.specs.Machine.{Step, MachineState, play}
use Rattle.run_laws.specs.Schedule.{schedule}
use Rattle.run_laws.specs.Ends.{live_state, blocked_by, blocked_number}
use Rattle.run_laws.specs.Histories.{read}
use Rattle.node_machine.specs.Machine.{machine, serve_at}
use Rattle.node_machine.specs.Policy.{never}
use Rattle.worked_plays.specs.Programs.{Small, user_of, Shown, shown_by, Shows, plan_of, hello, hello_script, hello_plan, hello_events, hello_shown, forker, forker_script, forker_plan, forker_events, forker_shown, intr, intr_script, intr_plan, intr_events, intr_shown, both, both_plan, both_events, both_shown, parent, parent_plan, parent_events, parent_shown, killed_script, killed_plan, killed_events, killed_shown}
use Rattle.worked_plays.proofs.Small.{asks_at, at_call}
use Rattle.worked_plays.proofs.Plays.{SmallState, big, nothing, small_steps, plays}

-- what a small state plays and shows
shows_by : (script : List ScriptLine) (program : Small) (events : List Event) (n : SmallState) (shown : Shown) → small_steps script program (schedule (read script events)) (nothing script program) ≡ Some n → shown_by (plan_of script program) (big script program n) ≡ shown → Shows (plan_of script program) events shown
shows_by script program events n shown e f =
    ap (option_map (shown_by (plan_of script program))) (plays script program (schedule (read script events)) n e)
    ∙ ap (λ (x : Shown). let z : Option Shown = Some x in z) f

pub hello_shows : Shows hello_plan hello_events hello_shown
unfolding Rattle.kernel_spec.specs.Calls.call_row Rattle.kernel_spec.specs.Io.closed_from Rattle.kernel_spec.specs.Io.descriptor_count
hello_shows = shows_by hello_script hello hello_events _ hello_shown refl refl

pub forker_shows : Shows forker_plan forker_events forker_shown
unfolding Rattle.kernel_spec.specs.Calls.call_row Rattle.kernel_spec.specs.Io.closed_from Rattle.kernel_spec.specs.Io.descriptor_count
forker_shows = shows_by forker_script forker forker_events _ forker_shown refl refl

pub intr_shows : Shows intr_plan intr_events intr_shown
unfolding Rattle.kernel_spec.specs.Calls.call_row Rattle.kernel_spec.specs.Io.closed_from Rattle.kernel_spec.specs.Io.descriptor_count
intr_shows = shows_by intr_script intr intr_events _ intr_shown refl refl

pub parent_shows : Shows parent_plan parent_events parent_shown
unfolding Rattle.kernel_spec.specs.Calls.call_row Rattle.kernel_spec.specs.Io.closed_from Rattle.kernel_spec.specs.Io.descriptor_count
parent_shows = shows_by hello_script parent parent_events _ parent_shown refl refl

pub killed_shows : Shows killed_plan killed_events killed_shown
unfolding Rattle.kernel_spec.specs.Calls.call_row Rattle.kernel_spec.specs.Io.closed_from Rattle.kernel_spec.specs.Io.descriptor_count
killed_shows = shows_by killed_script hello killed_events _ killed_shown refl refl

-- ---- both

state_or : Option SmallState → SmallState
state_or None = nothing hello_script both
state_or (Some n) = n

user_or : Option Small → Small
user_or None = both
user_or (Some s) = s

request_or : Option Request → Request
request_or None = record { number = 0; args = []; bytes = []; room = false }
request_or (Some r) = r

asks_is : (s : Small) (r : Request) → asks_at s ≡ Some r → request_of (user_of s) ≡ Some r
asks_is s r e = let c = at_call s r e in ap (λ (w : Went). asked_at w (user_of s)) c.0 ∙ ap (λ (x : Request). let z : Option Request = Some x in z) c.1

-- the number of the call at which a process is blocked
blocked_is : (k : KernelState) (p : ℕ) (s : Small) (r : Request) (o : Option ℕ) → asks_at s ≡ Some r → blocked_by (machine never both_plan) (serve_at k p r) (deliverable k p) r.number ≡ o → option_and_then (λ (x : Request). blocked_by (machine never both_plan) (serve_at k p x) (deliverable k p) x.number) (request_of (user_of s)) ≡ o
blocked_is k p s r o e f = ap (option_and_then (λ (x : Request). blocked_by (machine never both_plan) (serve_at k p x) (deliverable k p) x.number)) (asks_is s r e) ∙ f

both_end : SmallState
both_end = state_or (small_steps hello_script both (schedule (read hello_script both_events)) (nothing hello_script both))

first_blocked : blocked_number (machine never both_plan) (big hello_script both both_end) 1 ≡ Some 8
unfolding both_end state_or user_or request_or Rattle.kernel_spec.specs.Calls.call_row Rattle.kernel_spec.specs.Io.closed_from Rattle.kernel_spec.specs.Io.descriptor_count
first_blocked = blocked_is both_end.kernel 1 (user_or (at_pid both_end.users 1)) (request_or (asks_at (user_or (at_pid both_end.users 1)))) (Some 8) refl refl

second_blocked : blocked_number (machine never both_plan) (big hello_script both both_end) 2 ≡ Some 8
unfolding both_end state_or user_or request_or Rattle.kernel_spec.specs.Calls.call_row Rattle.kernel_spec.specs.Io.closed_from Rattle.kernel_spec.specs.Io.descriptor_count
second_blocked = blocked_is both_end.kernel 2 (user_or (at_pid both_end.users 2)) (request_or (asks_at (user_or (at_pid both_end.users 2)))) (Some 8) refl refl

both_is : shown_by both_plan (big hello_script both both_end) ≡ both_shown
unfolding both_end state_or Rattle.kernel_spec.specs.Calls.call_row Rattle.kernel_spec.specs.Io.closed_from Rattle.kernel_spec.specs.Io.descriptor_count
both_is = λ i. record { terminal = []; typed = []; statuses = (1, live_state (first_blocked i)) ∷ (2, live_state (second_blocked i)) ∷ []; replies = both_shown.replies }

both_plays : small_steps hello_script both (schedule (read hello_script both_events)) (nothing hello_script both) ≡ Some both_end
unfolding both_end state_or Rattle.kernel_spec.specs.Calls.call_row Rattle.kernel_spec.specs.Io.closed_from Rattle.kernel_spec.specs.Io.descriptor_count
both_plays = refl

pub both_shows : Shows both_plan both_events both_shown
both_shows = shows_by hello_script both both_events both_end both_shown both_plays both_is
