-- Worked histories of gossip, and of what the laws refuse besides, on the small machine. The events stand the oldest first.
use Rattle.std.specs.Prelude.{ℕ, ◌==◌, pos, false, true, cond, Option, Some, None, List, [], ◌∷◌}
use Rattle.call_table.specs.declared.process.End.TheVariants as end
use Rattle.node_event.specs.declared.event.Event.{Event}
use Rattle.node_event.specs.declared.event.What.TheVariants as what
use Rattle.node_event.specs.declared.event.Way.TheVariants as way
use Rattle.protocol.specs.Ops.{Ops}
use Rattle.protocol.specs.Gossip.{Entry, Movable, Sight, Choice}
use Rattle.run_laws.specs.Schedule.{machine_at, With}
use Rattle.run_laws.specs.Ends.{DoneOrStuck}
use Rattle.run_laws.specs.SmallMachine.{ExitCall, FaultAt, Goes, Calls, no_choice, small_of, small}
use Rattle.run_laws.specs.Histories.{read, at, program, hello_script, move_script, mover}

-- a policy that moves the first process that it may move to the first other node that it knows
abbrev pub push_to : ℕ → List Movable → List Entry → Option Choice
push_to n [] known = None
push_to n (x ∷ xs) [] = None
push_to n (x ∷ xs) (e ∷ es) = cond (e.node == n) None (Some (record { pid = x.pid; to = e.node }))

abbrev pub push : Sight → Option Choice
push s = push_to s.node s.movable s.known

-- node 1 tells home of itself, and home moves its process there
abbrev pub pusher : Ops
pusher = small_of 2 push hello_script (program (Goes ∷ Goes ∷ Calls (ExitCall 0) ∷ []) ∷ [])

abbrev pub push_events : List Event
push_events =
    at 1 0 (what.Command 1 (Some 1) None None)
    ∷ at 1 1 (what.Half 0 None None)
    ∷ at 2 0 (what.Heard 1 (Some 1) (Some 1))
    ∷ at 3 1 (what.Allow 1 0 1)
    ∷ at 4 0 (what.Depart 1 1)
    ∷ at 5 1 (what.Land 1 0)
    ∷ at 6 0 (what.Told 1 1 0 1 None None)
    ∷ at 6 1 (what.Steps 1 2)
    ∷ []

-- a process of five pages, where four fit
abbrev pub heavy : Ops
heavy = small_of 2 push hello_script (record { pid = 0; pages = 5; todo = Goes ∷ [] } ∷ [])

abbrev pub denied_events : List Event
denied_events =
    at 1 0 (what.Command 1 (Some 1) None None)
    ∷ at 1 1 (what.Half 0 None None)
    ∷ at 2 0 (what.Heard 1 (Some 1) (Some 1))
    ∷ at 3 1 (what.Deny 1 0 5 4)
    ∷ at 4 0 (what.Stay 1 1 5 4)
    ∷ []

-- home hears, and does not do as its policy says
abbrev pub unchosen_events : List Event
unchosen_events =
    at 1 0 (what.Command 1 (Some 1) None None)
    ∷ at 1 1 (what.Half 0 None None)
    ∷ at 2 0 (what.Heard 1 None None)
    ∷ []

-- what was heard was not sent
abbrev pub unsent_events : List Event
unsent_events =
    at 1 0 (what.Command 1 (Some 1) None None)
    ∷ at 2 0 (what.Heard 1 None None)
    ∷ []

-- an entry that node 1 never told: it holds no process
abbrev pub invented : Entry
invented = record { node = 1; load = 7; free = 4; stamp = 1 }

-- of three nodes home begins with node 2
abbrev pub three : Ops
three = small_of 3 no_choice hello_script []

abbrev pub wrong_events : List Event
wrong_events = at 1 0 (what.Half 2 None None) ∷ []

-- seventeen quanta without a half
abbrev pub walker : Ops
walker = small hello_script (program (Goes ∷ Goes ∷ Goes ∷ Goes ∷ Goes ∷ Goes ∷ Goes ∷ Goes ∷ Goes ∷ Goes ∷ Goes ∷ Goes ∷ Goes ∷ Goes ∷ Goes ∷ Goes ∷ Goes ∷ []) ∷ [])

abbrev pub quanta : ℕ → List ℕ → List Event
quanta n [] = []
quanta n (s ∷ ss) = at s 0 (what.Steps 1 1) ∷ quanta n ss

abbrev pub walk_events : List Event
walk_events = at 1 0 (what.Command 1 (Some 1) None None) ∷ quanta 0 (2 ∷ 3 ∷ 4 ∷ 5 ∷ 6 ∷ 7 ∷ 8 ∷ 9 ∷ 10 ∷ 11 ∷ 12 ∷ 13 ∷ 14 ∷ 15 ∷ 16 ∷ 17 ∷ 18 ∷ [])

-- a fault is held
abbrev pub faulter : Ops
faulter = small hello_script (program (Calls (FaultAt 11) ∷ []) ∷ [])

abbrev pub fault_events : List Event
fault_events =
    at 1 0 (what.Command 1 (Some 1) None None)
    ∷ at 2 0 (what.Sent 1 0)
    ∷ at 3 0 (what.Held 1 0)
    ∷ []

-- a pause is served with a value
abbrev pub valued_events : List Event
valued_events =
    at 1 0 (what.Command 1 (Some 1) None None)
    ∷ at 2 0 (what.Command 2 None None (Some 1))
    ∷ at 3 0 (what.Poked 1 true)
    ∷ at 4 0 (what.Heed 1)
    ∷ at 5 0 (what.Served 1 way.Paused None (Some (pos 0)) (Some 15) None false None None)
    ∷ []

-- a child exits, and its parent, at which that raises a signal, is not poked
abbrev pub unpoked_events : List Event
unpoked_events =
    at 1 0 (what.Command 1 (Some 1) None None)
    ∷ at 2 0 (what.Sent 1 4)
    ∷ at 3 0 (what.Served 1 way.Did (Some 4) (Some (pos 2)) None None false None None)
    ∷ at 4 0 (what.Got 1 (Some 2) false None None)
    ∷ at 5 0 (what.Sent 2 1)
    ∷ at 6 0 (what.Served 2 way.Did (Some 1) (Some (pos 0)) None (Some (end.Exit 7)) false None None)
    ∷ []

-- every process has ended, and the move line has no outcome
abbrev pub loose_events : List Event
loose_events =
    at 1 0 (what.Command 1 (Some 1) None None)
    ∷ at 2 0 (what.Command 2 None None None)
    ∷ at 3 0 (what.Steps 1 2)
    ∷ at 4 0 (what.Sent 1 1)
    ∷ at 5 0 (what.Served 1 way.Did (Some 1) (Some (pos 0)) None (Some (end.Exit 0)) false None None)
    ∷ at 6 0 (what.Got 1 None true None None)
    ∷ []

abbrev pub loose_not_over : Type 0
loose_not_over = With (machine_at mover (read move_script loose_events)) (λ m. DoneOrStuck mover (read move_script loose_events) m → ⊥)
