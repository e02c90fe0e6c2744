-- What a picture writes.
use Rattle.std.specs.Prelude.{◌≡◌, ℕ, Bool, true, false, List, ◌++◌, codes, Option, Result, Ok, Err}
use Rattle.std.specs.Fmt.{decimal}
use Rattle.shell_text.specs.Printing.{Prints, AreWritten}
use Rattle.shell_text.specs.Report.{chunks_of}
use Rattle.shell_text.specs.declared.writing.PrintFault.{PrintFault}
use Rattle.shell_text.specs.declared.writing.PrintFault.TheVariants as fault
use Rattle.event_picture.specs.declared.ended.Ended.{Ended}
use Rattle.event_picture.specs.declared.ended.Ended.TheVariants.{Done, BadReport, ReadFault, WriteFault, NoMemory}

-- pieces were written, each behind the one before, and whole up to a call that failed: then nothing more was, and the fault is told
pub record Draws {S : Type 0} (written : S → Option (List ℕ)) (faults : S → ℕ) (old new : S) (result : Result (Unit {0}) PrintFault) : Type 0 where
  pub pieces : List (List ℕ)
  pub printed : Prints written faults pieces old new result

-- the line in place of a picture
abbrev pub bad_report : ℕ → List ℕ
bad_report line = codes "bad report " ++ decimal line ++ codes "\n"

abbrev pub status_of : Ended → ℕ
status_of Done = 0
status_of (BadReport line) = 3
status_of ReadFault = 5
status_of WriteFault = 6
status_of NoMemory = 7

-- whether the report was read
abbrev pub was_read : Ended → Bool
was_read ReadFault = false
was_read _ = true

abbrev pub ended_by : PrintFault → Ended
ended_by fault.Failed = WriteFault
ended_by fault.NoMemory = NoMemory

-- all of a picture and no fault, the whole line in its place, nothing where there was nothing to draw, or a front
abbrev pub Ends : {S : Type 0} → (S → Option (List ℕ)) → (S → ℕ) → S → S → Ended → Type 0
Ends written faults old new Done = Draws written faults old new (Ok tt)
Ends written faults old new (BadReport line) = AreWritten written faults (chunks_of (bad_report line)) old new
Ends written faults old new ReadFault = new ≡ old
Ends written faults old new WriteFault = Draws written faults old new (Err fault.Failed)
Ends written faults old new NoMemory = Draws written faults old new (Err fault.NoMemory)
