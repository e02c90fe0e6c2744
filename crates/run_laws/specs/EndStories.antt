-- Worked ends on the small machine: a run that is done, one that is stuck at a read, and one that is stuck with an open move. The events stand the oldest first.
use Rattle.std.specs.Prelude.{◌≡◌, ℕ, pos, false, Some, None, List, [], ◌∷◌}
use Rattle.call_table.specs.declared.process.PidState.TheVariants as states
use Rattle.node_event.specs.declared.event.Event.{Event}
use Rattle.node_event.specs.declared.event.What.TheVariants as what
use Rattle.node_event.specs.declared.event.Way.TheVariants as way
use Rattle.node_event.specs.declared.script.Order.TheVariants as order
use Rattle.node_event.specs.declared.script.ScriptLine.{ScriptLine}
use Rattle.protocol.specs.Ops.{Ops}
use Rattle.protocol.specs.Deeds.{Noted}
use Rattle.protocol.specs.Cluster.{World}
use Rattle.protocol.specs.Rests.{Kind, Retry}
use Rattle.run_laws.specs.Machine.{MachineState}
use Rattle.run_laws.specs.Schedule.{machine_at, With}
use Rattle.run_laws.specs.Outcomes.{outcomes}
use Rattle.run_laws.specs.Due.{DueAs, IsFull}
use Rattle.run_laws.specs.Owned.{as_of_stop, HasUser}
use Rattle.run_laws.specs.Ends.{IsDone, IsStuck, IsOpen, statuses}
use Rattle.run_laws.specs.SmallMachine.{ExitCall, ReadCall, WriteCall, Goes, Calls, no_choice, small_of, small}
use Rattle.run_laws.specs.Histories.{read, at, line, program, hello_script, hello, hello_events, break_script, breaker, move_script, mover, first_events}

module _ (O : Ops) where
  -- nothing is due without a letter
  abbrev pub NothingDue : List Noted → MachineState O → Type 0
  NothingDue es m = (k : Kind) (n : ℕ) → DueAs O k n es m → ⊥

-- a program that reads, and nothing comes
abbrev pub reader_script : List ScriptLine
reader_script = line 1 (order.Run []) ∷ []

abbrev pub reader : Ops
reader = small_of 1 no_choice reader_script (program (Calls ReadCall ∷ []) ∷ [])

abbrev pub reader_events : List Event
reader_events =
    at 1 0 (what.Command 1 (Some 1) None None)
    ∷ at 2 0 (what.Sent 1 8)
    ∷ at 3 0 (what.Held 1 8)
    ∷ []

-- and is to move meanwhile, after each of two nodes has told the other of itself
abbrev pub keeper_script : List ScriptLine
keeper_script = line 1 (order.Run []) ∷ line 2 (order.Move 1 1) ∷ []

abbrev pub keeper : Ops
keeper = small keeper_script (program (Calls ReadCall ∷ []) ∷ [])

abbrev pub keeper_events : List Event
keeper_events =
    at 1 0 (what.Command 1 (Some 1) None None)
    ∷ at 2 0 (what.Half 1 None None)
    ∷ at 3 1 (what.Heard 0 None None)
    ∷ at 4 1 (what.Half 0 None None)
    ∷ at 5 0 (what.Heard 1 None None)
    ∷ at 6 0 (what.Sent 1 8)
    ∷ at 7 0 (what.Held 1 8)
    ∷ at 8 0 (what.Command 2 None None None)
    ∷ at 9 0 (what.Keep 1 1 2)
    ∷ []

-- a held read that a signal has reached
abbrev pub reached_events : List Event
reached_events =
    at 1 0 (what.Command 1 (Some 1) None None)
    ∷ at 2 0 (what.Sent 1 8)
    ∷ at 3 0 (what.Held 1 8)
    ∷ at 4 0 (what.Command 2 None None None)
    ∷ []

abbrev pub HelloEnds : MachineState hello → Type 0
HelloEnds m = NothingDue hello (read hello_script hello_events) m × IsDone hello (read hello_script hello_events) m × (statuses hello m ≡ (1, states.Exit 0) ∷ [])

abbrev pub ReaderEnds : MachineState reader → Type 0
ReaderEnds m = NothingDue reader (read reader_script reader_events) m × IsStuck reader (read reader_script reader_events) m × (statuses reader m ≡ (1, states.Blocked 8) ∷ [])

abbrev pub KeeperEnds : MachineState keeper → Type 0
KeeperEnds m = NothingDue keeper (read keeper_script keeper_events) m × IsStuck keeper (read keeper_script keeper_events) m × (outcomes 2 (read keeper_script keeper_events) ≡ 0) × IsOpen keeper 2 1 1 (read keeper_script keeper_events) m × (statuses keeper m ≡ (1, states.Blocked 8) ∷ [])

abbrev pub hello_ends : Type 0
hello_ends = With (machine_at hello (read hello_script hello_events)) HelloEnds

abbrev pub reader_ends : Type 0
reader_ends = With (machine_at reader (read reader_script reader_events)) ReaderEnds

abbrev pub keeper_ends : Type 0
keeper_ends = With (machine_at keeper (read keeper_script keeper_events)) KeeperEnds

-- it may go on, so home has more to do, and the run is not stuck
abbrev pub ReachedGoesOn : MachineState breaker → Type 0
ReachedGoesOn m = DueAs breaker (Retry 1) 0 (read break_script reached_events) m × (IsStuck breaker (read break_script reached_events) m → ⊥)

abbrev pub reached_goes_on : Type 0
reached_goes_on = With (machine_at breaker (read break_script reached_events)) ReachedGoesOn

-- a journal with room for one event is full at home, where more is due
abbrev pub one_event_full : Type 0
one_event_full = With (machine_at mover (read move_script first_events)) (λ m. (w : World mover) → IsFull mover 1 0 (read move_script first_events) m w)

-- between its `served` and its `got` a context is that of its `sent`: the machine's after the first three events
abbrev pub served_events : List Event
served_events =
    at 1 0 (what.Command 1 (Some 1) None None)
    ∷ at 2 0 (what.Steps 1 5)
    ∷ at 3 0 (what.Sent 1 9)
    ∷ at 4 0 (what.Served 1 way.Did (Some 9) (Some (pos 3)) None None false None None)
    ∷ []

abbrev pub context_before : Type 0
context_before = HasUser hello (as_of_stop 1 (read hello_script served_events)) 1 (record { pid = 1; pages = 1; todo = Calls (WriteCall 3) ∷ Goes ∷ Goes ∷ Calls (ExitCall 0) ∷ [] }) × HasUser hello (read hello_script served_events) 1 (record { pid = 1; pages = 1; todo = Goes ∷ Goes ∷ Calls (ExitCall 0) ∷ [] })
