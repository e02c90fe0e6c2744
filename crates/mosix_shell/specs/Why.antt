-- The answers of the top call: their statuses, their lines, and what kind each is.
use Rattle.std.specs.Prelude.{ℕ, ◌++◌, List, codes, Bool, true, false, Option, Some, None, Result, Ok, Err}
use Rattle.std.specs.Fmt.{decimal}
use Rattle.shell_text.specs.declared.run.Last.{Last}
use Rattle.shell_text.specs.declared.run.Last.TheVariants as last
use Rattle.mosix_shell.specs.declared.why.Why.{Why}
use Rattle.mosix_shell.specs.declared.why.Why.TheVariants.{Done, Stuck, BadWords, BadScript, BadImage, ReadFault, WriteFault, NoMemory, JournalFull, BadSource}

-- the status of an answer
abbrev pub status_of : Why → ℕ
status_of Done = 0
status_of Stuck = 1
status_of BadWords = 2
status_of (BadScript line kind) = 3
status_of (BadImage line kind) = 4
status_of ReadFault = 5
status_of WriteFault = 6
status_of NoMemory = 7
status_of (JournalFull node) = 8
status_of (BadSource line kind) = 11

-- a line of a text and two numbers
abbrev pub numbered : List ℕ → ℕ → ℕ → List ℕ
numbered text line kind = text ++ codes " " ++ decimal line ++ codes " " ++ decimal kind ++ codes "\n"

-- the line of an answer without a report, a summary or a file; none where nothing is written
abbrev pub line_of : Why → Option (List ℕ)
line_of Done = None
line_of Stuck = None
line_of BadWords = Some (codes "bad words\n")
line_of (BadScript line kind) = Some (numbered (codes "bad script") line kind)
line_of (BadImage line kind) = Some (numbered (codes "bad image") line kind)
line_of ReadFault = Some (codes "read fault\n")
line_of WriteFault = None
line_of NoMemory = None
line_of (JournalFull node) = None
line_of (BadSource line kind) = Some (numbered (codes "bad source") line kind)

-- an answer that comes with a run, where one is asked for
abbrev pub has_run : Why → Bool
has_run Done = true
has_run Stuck = true
has_run WriteFault = true
has_run (JournalFull node) = true
has_run _ = false

-- the answer of a run that ended so
abbrev pub why_of_last : Last → Why
why_of_last last.Done = Done
why_of_last last.Stuck = Stuck
why_of_last (last.Full node) = JournalFull node

-- an answer that may come before all was read that is read
abbrev pub cuts_short : Why → Bool
cuts_short ReadFault = true
cuts_short NoMemory = true
cuts_short _ = false

abbrev pub is_cut : {T : Type 0} → Result T Why → Bool
is_cut (Ok x) = false
is_cut (Err why) = cuts_short why
