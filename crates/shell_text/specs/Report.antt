-- The report of a run, as the list of its writes.
use Rattle.std.specs.Prelude.{ℕ, zero, suc, ◌==◌, Bool, true, false, List, [], ◌∷◌, ◌++◌, length, take, drop, Option, Some, None, codes, if◌then◌else◌}
use Rattle.std.specs.Fmt.{decimal}
use Rattle.std.specs.List.{flat_map}
use Rattle.call_table.specs.declared.files.Named.{Named}
use Rattle.call_table.specs.declared.process.PidState.{PidState}
use Rattle.call_table.specs.declared.process.PidState.TheVariants.{Exit, Signal, Blocked, Live}
use Rattle.node_event.specs.Lines.{event_line}
use Rattle.node_event.specs.declared.event.Event.{Event}
use Rattle.node_event.specs.declared.script.ScriptLine.{ScriptLine}
use Rattle.shell_text.specs.declared.run.Last.{Last}
use Rattle.shell_text.specs.declared.run.Last.TheVariants.{Done, Stuck, Full}
use Rattle.shell_text.specs.declared.run.Run.{Run}
use Rattle.shell_text.specs.Outcomes.{outcome_line}
use Rattle.shell_text.specs.Opens.{open_line}

-- a piece, where there is one
abbrev pub listed : Option (List ℕ) → List (List ℕ)
listed None = []
listed (Some piece) = piece ∷ []

-- at most n pieces of 65,536 bytes, the last with what is left
abbrev pub chunks_from : ℕ → List ℕ → List (List ℕ)
chunks_from zero bytes = []
chunks_from (suc n) bytes = if length bytes == 0 then [] else take 65536 bytes ∷ chunks_from n (drop 65536 bytes)

-- bytes in pieces of 65,536, the last with what is left: there are never more pieces than bytes
abbrev pub chunks_of : List ℕ → List (List ℕ)
chunks_of bytes = chunks_from (length bytes) bytes

-- a line, bytes in pieces and a newline
abbrev pub block_writes : List ℕ → List ℕ → List (List ℕ)
block_writes line bytes = line ∷ (chunks_of bytes ++ (codes "\n" ∷ []))

abbrev pub terminal_line : ℕ → List ℕ
terminal_line count = codes "terminal " ++ decimal count ++ codes "\n"

abbrev pub state_text : PidState → List ℕ
state_text (Exit code) = codes " exit " ++ decimal code
state_text (Signal signal) = codes " signal " ++ decimal signal
state_text (Blocked number) = codes " blocked " ++ decimal number
state_text Live = codes " live"

abbrev pub status_line : ℕ × PidState → List ℕ
status_line s = codes "process " ++ decimal s.0 ++ state_text s.1 ++ codes "\n"

abbrev pub length_text : ℕ → List ℕ
length_text len = codes " " ++ decimal len ++ codes "\n"

abbrev pub file_line : Named → List ℕ
file_line file = codes "file " ++ file.name ++ length_text (length file.bytes)

abbrev pub last_line : Last → List ℕ
last_line Done = codes "done\n"
last_line Stuck = codes "stuck\n"
last_line (Full node) = codes "full " ++ decimal node ++ codes "\n"

abbrev pub events_line : ℕ → List ℕ
events_line count = codes "events " ++ decimal count ++ codes "\n"

abbrev pub line_of_event : Event → List ℕ
line_of_event event = event_line event ++ codes "\n"

-- ---- the parts

abbrev pub status_writes : ℕ × PidState → List (List ℕ)
status_writes s = status_line s ∷ []

abbrev pub file_writes : Named → List (List ℕ)
file_writes file = block_writes (file_line file) file.bytes

abbrev pub outcome_writes : List ScriptLine → Event → List (List ℕ)
outcome_writes script event = listed (outcome_line script event)

abbrev pub open_writes : List Event → ScriptLine → List (List ℕ)
open_writes events ordered = listed (open_line events ordered)

abbrev pub event_writes : Event → List (List ℕ)
event_writes event = line_of_event event ∷ []

-- the terminal, the processes by pid and the files by name
abbrev pub state_writes : Run → List (List ℕ)
state_writes run =
    block_writes (terminal_line (length run.terminal)) run.terminal ++ (flat_map status_writes run.statuses ++ flat_map file_writes run.files)

-- the outcomes of moves in the order of the events, and the moves without one in the order of their lines
abbrev pub move_writes : Run → List ScriptLine → List (List ℕ)
move_writes run script = flat_map (outcome_writes script) run.events ++ flat_map (open_writes run.events) script

abbrev pub listing : Bool → List Event → List (List ℕ)
listing false events = []
listing true events = events_line (length events) ∷ flat_map event_writes events

-- how the run ended, and the lines of its events where they are asked for
abbrev pub end_writes : Run → Bool → List (List ℕ)
end_writes run flag = last_line run.last ∷ listing flag run.events

-- the report, each write with its bytes
abbrev pub report_writes : Run → List ScriptLine → Bool → List (List ℕ)
report_writes run script flag = state_writes run ++ (move_writes run script ++ end_writes run flag)
