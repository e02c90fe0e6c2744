-- What calls on a sink write: a list of pieces, one a call. `written` and `faults` are the sink's own meanings, so the list says how
-- the bytes are cut into calls, and not their sum alone.
use Rattle.std.specs.Prelude.{◌≡◌, ℕ, List, [], ◌∷◌, ◌++◌, Option, Result, Ok, Err}
use Rattle.outside.specs.Outside.{Appends, HasCause}
use Rattle.outside.specs.declared.traits.Failed.{Failed}
use Rattle.shell_text.specs.declared.writing.PrintFault.{PrintFault}
use Rattle.shell_text.specs.declared.writing.PrintFault.TheVariants as fault

-- one call of `write_all`
abbrev pub IsCall : {S : Type 0} → (S → Option (List ℕ)) → (S → ℕ) → S → List ℕ → Result (Unit {0}) Failed → S → Type 0
IsCall written faults old bytes r new = Appends (written old) (written new) bytes r × HasCause (faults old) (faults new) r

-- each piece was written, by a call of its own
abbrev pub AreWritten : {S : Type 0} → (S → Option (List ℕ)) → (S → ℕ) → List (List ℕ) → S → S → Type 0
AreWritten written faults [] old new = new ≡ old
AreWritten {S} written faults (piece ∷ rest) old new = (mid : S) × IsCall written faults old piece (Ok tt) mid × AreWritten written faults rest mid new

-- pieces were written up to one whose call failed
pub record FailsAt {S : Type 0} (written : S → Option (List ℕ)) (faults : S → ℕ) (pieces : List (List ℕ)) (old new : S) : Type 0 where
  pub front : List (List ℕ)
  pub piece : List ℕ
  pub rest : List (List ℕ)
  pub mid : S
  pub e : Failed
  pub parts : pieces ≡ front ++ piece ∷ rest
  pub before : AreWritten written faults front old mid
  pub failed : IsCall written faults mid piece (Err e) new

-- pieces were written up to one for which there was no memory
pub record BreaksAt {S : Type 0} (written : S → Option (List ℕ)) (faults : S → ℕ) (pieces : List (List ℕ)) (old new : S) : Type 0 where
  pub front : List (List ℕ)
  pub rest : List (List ℕ)
  pub parts : pieces ≡ front ++ rest
  pub before : AreWritten written faults front old new

abbrev pub StopsBy : {S : Type 0} → (S → Option (List ℕ)) → (S → ℕ) → List (List ℕ) → S → S → PrintFault → Type 0
StopsBy written faults pieces old new fault.Failed = FailsAt written faults pieces old new
StopsBy written faults pieces old new fault.NoMemory = BreaksAt written faults pieces old new

-- all pieces in order, or those before the first that was not had or not written
abbrev pub Prints : {S : Type 0} → (S → Option (List ℕ)) → (S → ℕ) → List (List ℕ) → S → S → Result (Unit {0}) PrintFault → Type 0
Prints written faults pieces old new (Ok u) = AreWritten written faults pieces old new
Prints written faults pieces old new (Err e) = StopsBy written faults pieces old new e
