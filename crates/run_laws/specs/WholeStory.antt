-- A whole history, from the launch to the end: a program forks, tells the other node, moves there by a line of the script, and both processes exit. The events
-- stand the oldest first.
use Rattle.std.specs.Prelude.{pos, false, true, Some, None, List, [], ◌∷◌}
use Rattle.call_table.specs.declared.process.End.TheVariants as end
use Rattle.node_event.specs.declared.event.Event.{Event}
use Rattle.node_event.specs.declared.event.What.TheVariants as what
use Rattle.node_event.specs.declared.event.Way.TheVariants as way
use Rattle.protocol.specs.Ops.{Ops}
use Rattle.run_laws.specs.Schedule.{machine_at, With}
use Rattle.run_laws.specs.Ends.{IsDone}
use Rattle.run_laws.specs.SmallMachine.{ExitCall, ForkCall, Calls, small}
use Rattle.run_laws.specs.Histories.{read, at, program, move_script}

abbrev pub traveller : Ops
traveller = small move_script (program (Calls ForkCall ∷ Calls (ExitCall 7) ∷ []) ∷ [])

abbrev pub travel_events : List Event
travel_events =
    at 1 0 (what.Command 1 (Some 1) None None)
    ∷ at 2 0 (what.Half 1 None None)
    ∷ at 3 1 (what.Heard 0 None None)
    ∷ at 3 0 (what.Sent 1 4)
    ∷ at 4 0 (what.Served 1 way.Did (Some 4) (Some (pos 2)) None None false None None)
    ∷ at 5 0 (what.Got 1 (Some 2) false None None)
    ∷ at 6 0 (what.Command 2 None None None)
    ∷ at 7 0 (what.Begin 1 1 2)
    ∷ at 8 1 (what.Allow 1 0 1)
    ∷ at 9 0 (what.Depart 1 1)
    ∷ at 10 1 (what.Land 1 0)
    ∷ at 11 0 (what.Told 1 1 0 1 (Some 2) None)
    ∷ at 11 1 (what.Sent 1 1)
    ∷ at 12 0 (what.Served 1 way.Did (Some 1) (Some (pos 0)) None (Some (end.Exit 7)) false None None)
    ∷ at 13 1 (what.Got 1 None true None None)
    ∷ at 13 0 (what.Sent 2 1)
    ∷ at 14 0 (what.Served 2 way.Did (Some 1) (Some (pos 0)) None (Some (end.Exit 7)) false None None)
    ∷ at 15 0 (what.Got 2 None true None None)
    ∷ []

-- and then the run is done
abbrev pub travel_done : Type 0
travel_done = With (machine_at traveller (read move_script travel_events)) (λ m. IsDone traveller (read move_script travel_events) m)
