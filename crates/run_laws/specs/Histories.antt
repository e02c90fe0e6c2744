-- Worked histories on the small machine, as the nodes record them. The events stand the oldest first.
use Rattle.std.specs.Prelude.{ℕ, zero, suc, pos, negsuc, true, false, Some, None, List, [], ◌∷◌, reverse}
use Rattle.call_table.specs.declared.process.End.TheVariants as end
use Rattle.node_event.specs.declared.event.Event.{Event}
use Rattle.node_event.specs.declared.event.What.{What}
use Rattle.node_event.specs.declared.event.What.TheVariants as what
use Rattle.node_event.specs.declared.event.Way.TheVariants as way
use Rattle.node_event.specs.declared.event.Refusal.TheVariants as refusal
use Rattle.node_event.specs.declared.script.Order.{Order}
use Rattle.node_event.specs.declared.script.Order.TheVariants as order
use Rattle.node_event.specs.declared.script.ScriptLine.{ScriptLine}
use Rattle.protocol.specs.Ops.{Ops}
use Rattle.protocol.specs.Deeds.{Noted, all_noted}
use Rattle.run_laws.specs.SmallMachine.{ExitCall, ForkCall, ReadCall, WriteCall, Thing, Goes, Calls, Program, no_choice, small_of, small}

abbrev pub at : ℕ → ℕ → What → Event
at stamp node w = record { stamp = stamp; node = node; what = w }

-- a history as the laws read it: by its script, the newest first
abbrev pub read : List ScriptLine → List Event → List Noted
read script es = all_noted script (reverse es)

abbrev pub line : ℕ → Order → ScriptLine
line n o = record { line = n; order = o }

abbrev pub program : List Thing → Program
program todo = record { pid = 0; pages = 1; todo = todo }

-- a program that writes three bytes and exits
abbrev pub hello_script : List ScriptLine
hello_script = line 1 (order.Run []) ∷ []

abbrev pub hello : Ops
hello = small_of 1 no_choice hello_script (program (Goes ∷ Goes ∷ Goes ∷ Goes ∷ Goes ∷ Calls (WriteCall 3) ∷ Goes ∷ Goes ∷ Calls (ExitCall 0) ∷ []) ∷ [])

abbrev pub hello_events : List Event
hello_events =
    at 1 0 (what.Command 1 (Some 1) None None)
    ∷ at 2 0 (what.Steps 1 5)
    ∷ at 3 0 (what.Sent 1 9)
    ∷ at 4 0 (what.Served 1 way.Did (Some 9) (Some (pos 3)) None None false None None)
    ∷ at 5 0 (what.Got 1 None false None None)
    ∷ at 6 0 (what.Steps 1 2)
    ∷ at 7 0 (what.Sent 1 1)
    ∷ at 8 0 (what.Served 1 way.Did (Some 1) (Some (pos 0)) None (Some (end.Exit 0)) false None None)
    ∷ at 9 0 (what.Got 1 None true None None)
    ∷ []

-- all but the k-th event, from 0
abbrev pub left_out : ℕ → List Event → List Event
left_out k [] = []
left_out zero (e ∷ es) = es
left_out (suc k) (e ∷ es) = e ∷ left_out k es

-- a call is served twice, and the machine could: the next thing of the program is such a call too
abbrev pub writer : Ops
writer = small hello_script (program (Calls (WriteCall 3) ∷ Calls (WriteCall 3) ∷ []) ∷ [])

abbrev pub twice_events : List Event
twice_events =
    at 1 0 (what.Command 1 (Some 1) None None)
    ∷ at 2 0 (what.Sent 1 9)
    ∷ at 3 0 (what.Served 1 way.Did (Some 9) (Some (pos 3)) None None false None None)
    ∷ at 4 0 (what.Served 1 way.Did (Some 9) (Some (pos 3)) None None false None None)
    ∷ []

-- a program that forks, and its child, which exits: its parent gets a signal, and is poked
abbrev pub fork_script : List ScriptLine
fork_script = line 1 (order.Run []) ∷ []

abbrev pub forker : Ops
forker = small fork_script (program (Calls ForkCall ∷ Calls (ExitCall 7) ∷ []) ∷ [])

abbrev pub fork_events : List Event
fork_events =
    at 1 0 (what.Command 1 (Some 1) None None)
    ∷ at 2 0 (what.Sent 1 4)
    ∷ at 3 0 (what.Served 1 way.Did (Some 4) (Some (pos 2)) None None false None None)
    ∷ at 4 0 (what.Got 1 (Some 2) false None None)
    ∷ at 5 0 (what.Sent 2 1)
    ∷ at 6 0 (what.Served 2 way.Did (Some 1) (Some (pos 0)) None (Some (end.Exit 7)) false (Some 1) None)
    ∷ at 7 0 (what.Got 2 None true None None)
    ∷ []

-- a move of a program of one page from node 0 to node 1
abbrev pub move_script : List ScriptLine
move_script = line 1 (order.Run []) ∷ line 2 (order.Move 1 1) ∷ []

abbrev pub move_programs : List Program
move_programs = program (Goes ∷ Goes ∷ Calls (ExitCall 0) ∷ []) ∷ []

abbrev pub mover : Ops
mover = small move_script move_programs

abbrev pub move_events : List Event
move_events =
    at 1 0 (what.Command 1 (Some 1) None None)
    ∷ at 2 0 (what.Command 2 None None None)
    ∷ at 3 0 (what.Begin 1 1 2)
    ∷ at 4 1 (what.Allow 1 0 1)
    ∷ at 5 0 (what.Depart 1 1)
    ∷ at 6 1 (what.Land 1 0)
    ∷ at 7 0 (what.Told 1 1 0 1 (Some 2) None)
    ∷ at 7 1 (what.Steps 1 2)
    ∷ []

-- its first event
abbrev pub first_events : List Event
first_events = at 1 0 (what.Command 1 (Some 1) None None) ∷ []

-- the source steps after the process has left
abbrev pub copy_events : List Event
copy_events =
    at 1 0 (what.Command 1 (Some 1) None None)
    ∷ at 2 0 (what.Command 2 None None None)
    ∷ at 3 0 (what.Begin 1 1 2)
    ∷ at 4 1 (what.Allow 1 0 1)
    ∷ at 5 0 (what.Depart 1 1)
    ∷ at 6 0 (what.Steps 1 2)
    ∷ []

-- a refusal without a move under way
abbrev pub refused_events : List Event
refused_events =
    at 1 0 (what.Command 1 (Some 1) None None)
    ∷ at 2 0 (what.Command 2 None None None)
    ∷ at 3 0 (what.Refused 1 1 refusal.Moving 2)
    ∷ []

-- a line with two outcomes: it is refused after its move has landed
abbrev pub again_events : List Event
again_events =
    at 1 0 (what.Command 1 (Some 1) None None)
    ∷ at 2 0 (what.Command 2 None None None)
    ∷ at 3 0 (what.Begin 1 1 2)
    ∷ at 4 1 (what.Allow 1 0 1)
    ∷ at 5 0 (what.Depart 1 1)
    ∷ at 6 1 (what.Land 1 0)
    ∷ at 7 1 (what.Refused 1 1 refusal.There 2)
    ∷ []

-- a read that blocks, is held, and is broken by signal 15
abbrev pub break_script : List ScriptLine
break_script = line 1 (order.Run []) ∷ line 2 (order.Kill 1 15) ∷ []

abbrev pub breaker : Ops
breaker = small break_script (program (Calls ReadCall ∷ Goes ∷ []) ∷ [])

abbrev pub break_events : List Event
break_events =
    at 1 0 (what.Command 1 (Some 1) None None)
    ∷ at 2 0 (what.Sent 1 8)
    ∷ at 3 0 (what.Held 1 8)
    ∷ at 4 0 (what.Command 2 None None None)
    ∷ at 5 0 (what.Served 1 way.Broke (Some 8) (Some (negsuc 3)) (Some 15) None false None None)
    ∷ at 6 0 (what.Got 1 None false None None)
    ∷ []

-- the signal is left pending
abbrev pub left_events : List Event
left_events =
    at 1 0 (what.Command 1 (Some 1) None None)
    ∷ at 2 0 (what.Sent 1 8)
    ∷ at 3 0 (what.Held 1 8)
    ∷ at 4 0 (what.Command 2 None None None)
    ∷ at 5 0 (what.Served 1 way.Broke (Some 8) (Some (negsuc 3)) None None true None None)
    ∷ []

-- a program that steps on after a poke, without a pause
abbrev pub poke_script : List ScriptLine
poke_script = line 1 (order.Run []) ∷ line 2 (order.Kill 1 15) ∷ []

abbrev pub poker : Ops
poker = small poke_script (program (Goes ∷ Goes ∷ []) ∷ [])

abbrev pub poke_events : List Event
poke_events =
    at 1 0 (what.Command 1 (Some 1) None None)
    ∷ at 2 0 (what.Command 2 None None (Some 1))
    ∷ at 3 0 (what.Poked 1 true)
    ∷ at 4 0 (what.Heed 1)
    ∷ at 5 0 (what.Served 1 way.Paused None None (Some 15) None false None None)
    ∷ at 6 0 (what.Got 1 None false None None)
    ∷ at 7 0 (what.Steps 1 2)
    ∷ []

abbrev pub unheeded_events : List Event
unheeded_events =
    at 1 0 (what.Command 1 (Some 1) None None)
    ∷ at 2 0 (what.Command 2 None None (Some 1))
    ∷ at 3 0 (what.Poked 1 true)
    ∷ at 4 0 (what.Steps 1 2)
    ∷ []
