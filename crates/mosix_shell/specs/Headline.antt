-- The headline of a run: its own events, played on one node, give what it tells; they are lawful and carried; and so it ended.
use Rattle.std.specs.Prelude.{◌≡◌, ◌≤◌, ℕ, List, map, length, reverse, Some}
use Rattle.call_table.specs.declared.process.PidState.{PidState}
use Rattle.call_table.specs.declared.process.Reply3.{Reply3}
use Rattle.fs_memory.specs.Files.{named_files}
use Rattle.protocol.specs.Deeds.{Noted}
use Rattle.protocol.specs.Cluster.{World}
use Rattle.protocol.specs.Rests.{AllRest}
use Rattle.run_laws.specs.Machine.{ReplyGiven, MachineState, play}
use Rattle.run_laws.specs.Schedule.{schedule}
use Rattle.run_laws.specs.Carried.{Sorted, own_events, CarriedRun}
use Rattle.run_laws.specs.Lawful.{Lawful}
use Rattle.run_laws.specs.OnePlace.{OnePlace}
use Rattle.run_laws.specs.Grounds.{Grounded}
use Rattle.run_laws.specs.Whole.{Holds}
use Rattle.run_laws.specs.Due.{IsFull}
use Rattle.run_laws.specs.Ending.{Ending}
use Rattle.run_laws.specs.Ends.{status, status_cut, statuses_to, IsDone, IsStuck, AllSettled, SettledOrOpen}
use Rattle.node_machine.specs.Plan.{Plan}
use Rattle.node_machine.specs.Machine.{Policy, machine}
use Rattle.node_machine.specs.Laws.{as_read}
use Rattle.shell_text.specs.declared.run.Last.{Last}
use Rattle.shell_text.specs.declared.run.Last.TheVariants as last
use Rattle.shell_text.specs.declared.run.Run.{Run}

abbrev pub reply_given : Reply3 → ReplyGiven
reply_given r = record { pid = r.pid; number = r.number; value = r.value }

-- the machine's replies stand the newest first
abbrev pub replies_given : List Reply3 → List ReplyGiven
replies_given replies = map reply_given (reverse replies)

module _ (policy : Policy) (plan : Plan) where
  -- the events of a run as the laws read them, the newest first
  abbrev pub history : Run → List Noted
  history run = as_read (machine policy plan) (reverse run.events)

  -- sorted by stamp and node, and each node made at most so many events
  pub record IsOrdered (room : ℕ) (es : List Noted) : Type 0 where
    pub sorted : Sorted es
    pub most : (n : ℕ) → length (own_events n es) ≤ room

  -- the status of a process: with a full journal one that has not ended is told as live
  abbrev pub status_at : Last → MachineState (machine policy plan) → ℕ → PidState
  status_at last.Done m = status (machine policy plan) m
  status_at last.Stuck m = status (machine policy plan) m
  status_at (last.Full node) m = status_cut (machine policy plan) m

  -- the run tells what the machine has: the status of each pid ever given, the terminal, the files and the replies
  pub record Tells (run : Run) (m : MachineState (machine policy plan)) : Type 0 where
    pub statuses_are : run.statuses ≡ statuses_to (machine policy plan) (status_at run.last m) ((machine policy plan).count m.kernel)
    pub terminal_is : run.terminal ≡ m.kernel.terminal
    pub files_are : run.files ≡ named_files m.kernel.io.files
    pub replies_are : replies_given run.replies ≡ m.replies

  -- done: every link is empty and nothing is due, every line has its command, every process has ended, and each move line has an outcome. Stuck: nothing is due
  -- either, each live process is blocked, and the next line is not enabled. Full: this is the least node with a full journal at which an event is due
  abbrev pub EndsAs : ℕ → Last → List Noted → MachineState (machine policy plan) → World (machine policy plan) → Type 0
  EndsAs room last.Done es m w = AllRest (machine policy plan) w × IsDone (machine policy plan) es m × AllSettled (machine policy plan) es
  EndsAs room last.Stuck es m w = AllRest (machine policy plan) w × IsStuck (machine policy plan) es m × SettledOrOpen (machine policy plan) es m
  EndsAs room (last.Full node) es m w = IsFull (machine policy plan) room node es m w

  pub record Headline (room : ℕ) (run : Run) : Type 0 where
    pub ordered : IsOrdered room (history run)
    -- replay: the schedule of its own events, played on one node, leads to this state, and the run tells that
    pub state : MachineState (machine policy plan)
    pub plays : play (machine policy plan) (schedule (history run)) ≡ Some state
    pub tells : Tells run state
    -- its events keep every law, after each of them each live process is in one place, and each refused move has its ground
    pub lawful : Lawful (machine policy plan) (history run)
    pub one_place : OnePlace (machine policy plan) (history run)
    pub grounded : Grounded (machine policy plan) (history run)
    -- how the nodes and links stand at its end: its letters were carried there, and whatever else holds of a run
    pub world : World (machine policy plan)
    pub carried : CarriedRun (machine policy plan) (history run) world
    pub holds : Holds (machine policy plan) (history run) world
    -- what is due at its end, and who is blocked, by its events alone
    pub ending : Ending (machine policy plan) (history run) world
    pub ended : EndsAs room run.last (history run) state world
