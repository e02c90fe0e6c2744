-- Moves of the script that were carried out and have no outcome.
use Rattle.std.specs.Prelude.{ℕ, ◌==◌, Bool, true, false, List, [], ◌∷◌, ◌++◌, Option, Some, None, codes, if◌then◌else◌}
use Rattle.std.specs.Fmt.{decimal}
use Rattle.node_event.specs.declared.event.Event.{Event}
use Rattle.node_event.specs.declared.event.Unsent.{Unsent}
use Rattle.node_event.specs.declared.event.Kept.{Kept}
use Rattle.node_event.specs.declared.event.Kept.TheVariants as kept
use Rattle.node_event.specs.declared.event.What.{What}
use Rattle.node_event.specs.declared.event.What.TheVariants.{Command, Keep, Begin, Refused, Got, Stay, Land}
use Rattle.node_event.specs.declared.script.ScriptLine.{ScriptLine}
use Rattle.shell_text.specs.declared.open.Progress.{Progress}
use Rattle.shell_text.specs.declared.open.Progress.TheVariants as progress
use Rattle.shell_text.specs.Outcomes.{ordered_move}

-- a command that sends nothing is an outcome
abbrev pub commanded : Option Unsent → Progress
commanded None = progress.Sent
commanded (Some why) = progress.Over

-- an answer begins a kept move, or ends it
abbrev pub answered : Progress → Option Kept → Progress
answered progress.Kept None = progress.Kept
answered progress.Kept (Some kept.Begins) = progress.Begun
answered progress.Kept (Some kept.Ended) = progress.Over
answered progress.Unsent came = progress.Unsent
answered progress.Sent came = progress.Sent
answered progress.Begun came = progress.Begun
answered progress.Over came = progress.Over

-- the first `stay` or `land` of the process is the outcome of a move that began
abbrev pub closed : Progress → Progress
closed progress.Begun = progress.Over
closed progress.Unsent = progress.Unsent
closed progress.Sent = progress.Sent
closed progress.Kept = progress.Kept
closed progress.Over = progress.Over

abbrev pub stepped : Bool → Progress → Progress → Progress
stepped is_it old new = if is_it then new else old

-- how far the move of this line and process has come after a further event
abbrev pub after : ℕ → ℕ → Progress → What → Progress
after number mover p (Command line launched why poked) = stepped (line == number) p (commanded why)
after number mover p (Keep pid to line) = stepped (line == number) p progress.Kept
after number mover p (Begin pid to line) = stepped (line == number) p progress.Begun
after number mover p (Refused pid to why line) = stepped (line == number) p progress.Over
after number mover p (Got pid child ended came to) = stepped (pid == mover) p (answered p came)
after number mover p (Stay pid to need free) = stepped (pid == mover) p (closed p)
after number mover p (Land pid source) = stepped (pid == mover) p (closed p)
after number mover p _ = p

abbrev pub progress_from : ℕ → ℕ → Progress → List Event → Progress
progress_from number mover p [] = p
progress_from number mover p (event ∷ rest) = progress_from number mover (after number mover p event.what) rest

abbrev pub is_open : Progress → Bool
is_open progress.Unsent = false
is_open progress.Over = false
is_open progress.Sent = true
is_open progress.Kept = true
is_open progress.Begun = true

abbrev pub open_move : ℕ → ℕ → List ℕ
open_move pid to = codes "open " ++ decimal pid ++ codes " " ++ decimal to ++ codes "\n"

abbrev pub open_where : List Event → ℕ → Option (ℕ × ℕ) → Option (List ℕ)
open_where events line None = None
open_where events line (Some m) = if is_open (progress_from line m.0 progress.Unsent events) then Some (open_move m.0 m.1) else None

-- the line of a `move` that was carried out and has no outcome
abbrev pub open_line : List Event → ScriptLine → Option (List ℕ)
open_line events ordered = open_where events ordered.line (ordered_move ordered.order)
