-- What is written of a run, and to the sink, call by call.
use Rattle.std.specs.Prelude.{◌≡◌, ℕ, List, Option, Some, None, Result}
use Rattle.outside.specs.declared.traits.Failed.{Failed}
use Rattle.node_event.specs.declared.script.ScriptLine.{ScriptLine}
use Rattle.shell_text.specs.Report.{report_writes}
use Rattle.shell_text.specs.Summary.{summary_writes}
use Rattle.shell_text.specs.declared.run.Run.{Run}
use Rattle.shell_text.specs.Printing.{IsCall, AreWritten, FailsAt, BreaksAt}
use Rattle.mosix_shell.specs.Told.{Seen}
use Rattle.mosix_shell.specs.declared.printing.Form.{Form}
use Rattle.mosix_shell.specs.declared.printing.Form.TheVariants.{Report, Summary}

-- a run of these orders in a form, each write with its bytes
abbrev pub writes_of : Form → List ScriptLine → Run → List (List ℕ)
writes_of (Report events) orders run = report_writes run orders events
writes_of Summary orders run = summary_writes run

-- each piece was written, by a call of its own
abbrev pub WritesAll : {O : Type 0} → Seen O (List ℕ) → List (List ℕ) → Type 0
WritesAll sink pieces = AreWritten sink.tells sink.faults pieces sink.old sink.new

-- pieces were written up to one whose call failed
abbrev pub WritesFront : {O : Type 0} → Seen O (List ℕ) → List (List ℕ) → Type 0
WritesFront sink pieces = FailsAt sink.tells sink.faults pieces sink.old sink.new

-- pieces were written up to one for which there was no memory
abbrev pub WritesSome : {O : Type 0} → Seen O (List ℕ) → List (List ℕ) → Type 0
WritesSome sink pieces = BreaksAt sink.tells sink.faults pieces sink.old sink.new

-- one call was made with the whole line, which may have failed; none where there is no line
abbrev pub WritesLine : {O : Type 0} → Seen O (List ℕ) → Option (List ℕ) → Type 0
WritesLine sink None = sink.new ≡ sink.old
WritesLine sink (Some line) = (r : Result (Unit {0}) Failed) × IsCall sink.tells sink.faults sink.old line r sink.new
