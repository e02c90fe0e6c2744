-- What home and the journals of the nodes tell at the end of a run.
use Rattle.std.specs.Prelude.{◌≡◌, ℕ, zero, suc, cond, [], ◌∷◌, ◌++◌, Option, Some, None, List, map, slice_get, filter_map}
use Rattle.call_table.specs.declared.process.PidState.{PidState}
use Rattle.call_table.specs.declared.process.PidState.TheVariants as states
use Rattle.call_table.specs.declared.process.Reply3.{Reply3}
use Rattle.node_event.specs.declared.event.Event.{Event}
use Rattle.node_event.specs.declared.event.What.{What}
use Rattle.node_event.specs.declared.event.What.TheVariants.{Served}
use Rattle.node_event.specs.Journals.{JournalState}
use Rattle.fs_memory.specs.Files.{named_files}
use Rattle.kernel_spec.specs.Kernel.{given, end_at, is_live}
use Rattle.deputy.specs.Rows.{HomeState, held_at}
use Rattle.deputy.specs.Moves.{held_number}
use Rattle.run_laws.specs.Ends.{end_state, live_state}
use Rattle.node_core.specs.declared.node.Node.{Node}
use Rattle.weave.specs.Weaves.{AreJournals, IsRising, own_events, events_at}
use Rattle.shell_text.specs.declared.run.Last.{Last}
use Rattle.shell_text.specs.declared.run.Last.TheVariants as last
use Rattle.shell_text.specs.declared.run.Run.{Run}
use Rattle.mosix_shell.specs.declared.left.Shown.{Shown}

-- a process that has not ended is blocked where home holds a call of it; with a full journal it is told as live
abbrev pub going_state : Last → Option ℕ → PidState
going_state (last.Full node) held = states.Live
going_state last.Done held = live_state held
going_state last.Stuck held = live_state held

abbrev pub state_at : Last → HomeState → ℕ → PidState
state_at last home pid = cond (is_live home.kernel pid) (going_state last (held_number (held_at home.rows pid))) (end_state (end_at home.kernel pid))

abbrev pub states_to : (ℕ → PidState) → ℕ → List (ℕ × PidState)
states_to state zero = []
states_to state (suc p) = states_to state p ++ (suc p, state (suc p)) ∷ []

-- of each pid ever given
abbrev pub states_at : Last → HomeState → List (ℕ × PidState)
states_at last home = states_to (state_at last home) (given home.kernel)

-- the reply of a call that was served
abbrev pub reply_in : What → Option Reply3
reply_in (Served pid way (Some number) (Some value) taken ended more poked poked_too) = Some (record { pid = pid; number = number; value = value })
reply_in _ = None

abbrev pub reply_of : Event → Option Reply3
reply_of e = reply_in e.what

-- after those of the events before
abbrev pub and_reply : List Reply3 → Option Reply3 → List Reply3
and_reply replies None = replies
and_reply replies (Some reply) = replies ++ reply ∷ []

abbrev pub replies_in : List Event → List Reply3
replies_in events = filter_map reply_of events

abbrev pub journals_of : List Node → List JournalState
journals_of nodes = map (λ (n : Node). n.journal) nodes

-- the first node is home
pub record HasHome (nodes : List Node) : Type 0 where
  pub home : Node
  pub first : slice_get nodes 0 ≡ Some home
  pub is_home : home.id ≡ 0

pub record IsHomeOf (nodes : List Node) (home : HomeState) : Type 0 where
  pub node : Node
  pub first : slice_get nodes 0 ≡ Some node
  pub is : node.deputies ≡ home

-- what home tells at the end
pub record HomeTells (shown : Shown) (last : Last) (home : HomeState) : Type 0 where
  pub statuses_are : shown.statuses ≡ states_at last home
  pub terminal_is : shown.terminal ≡ home.kernel.terminal
  pub files_are : shown.files ≡ named_files home.kernel.io.files

-- a run that ended so tells what home, which is the first node, has, and the woven journals of all
pub record TellsEnd (nodes : List Node) (last : Last) (run : Run) : Type 0 where
  pub home : Node
  pub first : slice_get nodes 0 ≡ Some home
  pub last_is : run.last ≡ last
  pub statuses_are : run.statuses ≡ states_at last home.deputies
  pub terminal_is : run.terminal ≡ home.deputies.kernel.terminal
  pub files_are : run.files ≡ named_files home.deputies.kernel.io.files
  pub replies_are : run.replies ≡ replies_in run.events
  pub rising : AreJournals 0 (journals_of nodes) → IsRising run.events
  pub own : AreJournals 0 (journals_of nodes) → (n : ℕ) → own_events n run.events ≡ events_at n (journals_of nodes)
