-- The summary of a run, as the list of its writes.
use Rattle.std.specs.Prelude.{ℕ, Bool, true, false, List, [], ◌∷◌, ◌++◌, length, codes, count_by}
use Rattle.std.specs.Fmt.{decimal}
use Rattle.std.specs.List.{sum_by}
use Rattle.call_table.specs.declared.process.PidState.{PidState}
use Rattle.call_table.specs.declared.process.PidState.TheVariants.{Exit, Signal, Blocked, Live}
use Rattle.node_event.specs.declared.event.Event.{Event}
use Rattle.node_event.specs.declared.event.What.{What}
use Rattle.node_event.specs.declared.event.What.TheVariants.{Land}
use Rattle.shell_text.specs.declared.run.Last.{Last}
use Rattle.shell_text.specs.declared.run.Run.{Run}
use Rattle.shell_text.specs.Report.{last_line}

-- the code of a process that called `exit`, and nothing of another
abbrev pub code_of : PidState → ℕ
code_of (Exit code) = code
code_of (Signal signal) = 0
code_of (Blocked number) = 0
code_of Live = 0

abbrev pub code_sum : List (ℕ × PidState) → ℕ
code_sum statuses = sum_by (λ s. code_of s.1) statuses

abbrev pub is_landing : What → Bool
is_landing (Land pid source) = true
is_landing _ = false

abbrev pub is_land : Event → Bool
is_land event = is_landing event.what

abbrev pub land_count : List Event → ℕ
land_count events = count_by is_land events

-- a word and a number
abbrev pub count_line : List ℕ → ℕ → List ℕ
count_line word count = word ++ (codes " " ++ decimal count ++ codes "\n")

-- how many processes there were, and the sum of their exit codes
abbrev pub process_writes : List (ℕ × PidState) → List (List ℕ)
process_writes statuses = count_line (codes "processes") (length statuses) ∷ count_line (codes "exits") (code_sum statuses) ∷ []

-- how many bytes the terminal got, and how many files have a name
abbrev pub output_writes : ℕ → ℕ → List (List ℕ)
output_writes bytes files = count_line (codes "bytes") bytes ∷ count_line (codes "files") files ∷ []

-- how many moves landed, and how the run ended
abbrev pub close_writes : List Event → Last → List (List ℕ)
close_writes events last = count_line (codes "moves") (land_count events) ∷ last_line last ∷ []

-- the summary, each write with its bytes
abbrev pub summary_writes : Run → List (List ℕ)
summary_writes run = process_writes run.statuses ++ (output_writes (length run.terminal) (length run.files) ++ close_writes run.events run.last)
