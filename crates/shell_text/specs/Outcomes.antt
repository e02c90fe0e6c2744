-- The lines of the outcomes of moves.
use Rattle.std.specs.Prelude.{ℕ, ◌==◌, List, [], ◌∷◌, ◌++◌, Option, Some, None, codes, if◌then◌else◌}
use Rattle.std.specs.Fmt.{decimal}
use Rattle.node_event.specs.declared.event.Event.{Event}
use Rattle.node_event.specs.declared.event.Unsent.{Unsent}
use Rattle.node_event.specs.declared.event.Unsent.TheVariants as unsent
use Rattle.node_event.specs.declared.event.Kept.{Kept}
use Rattle.node_event.specs.declared.event.Kept.TheVariants as kept
use Rattle.node_event.specs.declared.event.Refusal.{Refusal}
use Rattle.node_event.specs.declared.event.Refusal.TheVariants as refusal
use Rattle.node_event.specs.declared.event.What.{What}
use Rattle.node_event.specs.declared.event.What.TheVariants.{Command, Got, Stay, Land, Refused}
use Rattle.node_event.specs.declared.script.Order.{Order}
use Rattle.node_event.specs.declared.script.Order.TheVariants.{Move}
use Rattle.node_event.specs.declared.script.ScriptLine.{ScriptLine}

abbrev pub ordered_move : Order → Option (ℕ × ℕ)
ordered_move (Move pid to) = Some (pid, to)
ordered_move _ = None

-- the process and the node of the `move` on the line of this number
abbrev pub move_on : List ScriptLine → ℕ → Option (ℕ × ℕ)
move_on [] number = None
move_on (ordered ∷ rest) number = if ordered.line == number then ordered_move ordered.order else move_on rest number

abbrev pub moved_line : ℕ → ℕ → ℕ → List ℕ
moved_line pid source to = codes "move " ++ decimal pid ++ codes " " ++ decimal source ++ codes " " ++ decimal to ++ codes "\n"

abbrev pub pages_line : ℕ → ℕ → ℕ → ℕ → List ℕ
pages_line pid to need free =
    codes "refused " ++ decimal pid ++ codes " " ++ decimal to ++ codes " pages " ++ decimal need ++ codes " " ++ decimal free ++ codes "\n"

abbrev pub refused_line : ℕ → ℕ → List ℕ
refused_line pid to = codes "refused " ++ decimal pid ++ codes " " ++ decimal to ++ codes " ended\n"

abbrev pub moving_line : ℕ → ℕ → List ℕ
moving_line pid to = codes "refused " ++ decimal pid ++ codes " " ++ decimal to ++ codes " moving\n"

abbrev pub stay_line : ℕ → ℕ → List ℕ
stay_line pid to = codes "stay " ++ decimal pid ++ codes " " ++ decimal to ++ codes "\n"

abbrev pub none_line : ℕ → List ℕ
none_line pid = codes "none " ++ decimal pid ++ codes "\n"

-- a move is refused where its process has ended or moves, and stays where it is there
abbrev pub denied_line : ℕ → ℕ → Refusal → List ℕ
denied_line pid to refusal.Ended = refused_line pid to
denied_line pid to refusal.Moving = moving_line pid to
denied_line pid to refusal.There = stay_line pid to

-- a kept move is refused where its process ended
abbrev pub got_line : ℕ → Option Kept → Option ℕ → Option (List ℕ)
got_line pid came None = None
got_line pid None (Some to) = None
got_line pid (Some kept.Begins) (Some to) = None
got_line pid (Some kept.Ended) (Some to) = Some (refused_line pid to)

-- a command of a `move` sends nothing where its process has ended or never was
abbrev pub unsent_line : Option (ℕ × ℕ) → Option Unsent → Option (List ℕ)
unsent_line None why = None
unsent_line (Some m) None = None
unsent_line (Some m) (Some unsent.Ended) = Some (refused_line m.0 m.1)
unsent_line (Some m) (Some unsent.Never) = Some (none_line m.0)

abbrev pub line_of_what : List ScriptLine → ℕ → What → Option (List ℕ)
line_of_what script node (Command line launched why poked) = unsent_line (move_on script line) why
line_of_what script node (Got pid child ended came to) = got_line pid came to
line_of_what script node (Stay pid to need free) = Some (pages_line pid to need free)
line_of_what script node (Land pid source) = Some (moved_line pid source node)
line_of_what script node (Refused pid to why line) = Some (denied_line pid to why)
line_of_what script node _ = None

-- the line of the outcome that an event is, where it is one
abbrev pub outcome_line : List ScriptLine → Event → Option (List ℕ)
outcome_line script event = line_of_what script event.node event.what
