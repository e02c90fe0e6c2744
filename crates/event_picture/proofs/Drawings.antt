-- One piece of a picture after another.
use Rattle.std.proofs.Common.{◌≡◌, ℕ, List, [], ◌++◌, refl, subst, ◌∙◌, Option, Result, Ok, Err}
use Rattle.shell_text.specs.Printing.{Prints, AreWritten}
use Rattle.shell_text.specs.Report.{chunks_of}
use Rattle.shell_text.specs.declared.writing.PrintFault.{PrintFault}
use Rattle.shell_text.specs.declared.writing.PrintFault.TheVariants as fault
use Rattle.shell_text.proofs.Printed.{prints_then, stops_first}
use Rattle.event_picture.specs.Drawn.{Draws, Ends, ended_by, bad_report}
use Rattle.event_picture.specs.declared.ended.Ended.TheVariants.{BadReport}

module _ {S : Type 0} (w : S → Option (List ℕ)) (f : S → ℕ) where
  pub draws : (pieces : List (List ℕ)) (a b : S) (r : Result (Unit {0}) PrintFault) → Prints w f pieces a b r → Draws w f a b r
  draws pieces a b r h = record { pieces = pieces; printed = h }

  pub draws_nothing : (a : S) → Draws w f a a (Ok tt)
  draws_nothing a = record { pieces = []; printed = refl }

  pub draws_without : (a : S) → Draws w f a a (Err fault.NoMemory)
  draws_without a = record { pieces = []; printed = stops_first w f [] a }

  pub draws_then : (a b c : S) (r : Result (Unit {0}) PrintFault) → Draws w f a b (Ok tt) → Draws w f b c r → Draws w f a c r
  draws_then a b c r h k = record { pieces = h.pieces ++ k.pieces; printed = prints_then w f h.pieces k.pieces a b c r h.printed k.printed }

  pub stops : (a b : S) (e : PrintFault) → Draws w f a b (Err e) → Ends w f a b (ended_by e)
  stops a b fault.Failed h = h
  stops a b fault.NoMemory h = h

  pub writes_line : (line : ℕ) (text bytes : List ℕ) (a b : S) → text ≡ bad_report line → bytes ≡ text → AreWritten w f (chunks_of bytes) a b → Ends w f a b (BadReport line)
  writes_line line text bytes a b is same h = subst (λ (t : List ℕ). AreWritten w f (chunks_of t) a b) (same ∙ is) h
