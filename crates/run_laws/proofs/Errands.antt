-- The errand of a move line: where it is between its command and its outcome.
use Rattle.std.proofs.Common.{ℕ, ◌==◌, Bool, false, Option, Some, None}
use Rattle.protocol.specs.Ops.{Ops, is_child}
use Rattle.protocol.specs.Notes.{Note, Call, Pause, Reply, Poke, Half, Go, NotHere, Ask, Allow, Deny, Move, Landed, NoMove, Way, way}

-- The errand of a move line: where it is between its command and its outcome.
pub data Errand : Type 0 where
  Untried : Errand
  Going : (place pid to hops : ℕ) → Errand
  Back : (node pid to hops : ℕ) → Errand
  With : (pid : ℕ) → Errand
  Reported : (at pid source hops : ℕ) → Errand
  Closing : (node : ℕ) → Errand
  Over : Errand

-- it has its outcome
abbrev pub settled : Errand → ℕ
settled Untried = 0
settled (Going x p to h) = 0
settled (Back n p to h) = 0
settled (With p) = 0
settled (Reported a p s h) = 1
settled (Closing n) = 1
settled Over = 1

module _ (O : Ops) where
  -- the letter of it that is under way
  abbrev pub errand_way : ℕ → Errand → Option (Way O)
  errand_way l Untried = None
  errand_way l (Going x p to h) = Some (way O 0 x (Go p to h l))
  errand_way l (Back n p to h) = Some (way O n 0 (NotHere p to h l))
  errand_way l (With p) = None
  errand_way l (Reported a p s h) = Some (way O a 0 (Landed p s h (Some l)))
  errand_way l (Closing n) = Some (way O n 0 (NoMove l))
  errand_way l Over = None

  abbrev pub of_line : ℕ → Note O → Bool
  of_line l (Call p r) = false
  of_line l (Pause p r) = false
  of_line l (Reply p d) = false
  of_line l (Poke p) = false
  of_line l (Half places) = false
  of_line l (Go p to hops line) = line == l
  of_line l (NotHere p to hops line) = line == l
  of_line l (Ask p need) = false
  of_line l (Allow p) = false
  of_line l (Deny p need free) = false
  of_line l (Move p u hops line) = false
  of_line l (Landed p source hops line) = is_child line l
  of_line l (NoMove line) = line == l
