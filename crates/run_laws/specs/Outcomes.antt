-- The outcomes of a move line: the command that does not send it, its refusal, the end of its process while it is kept, or the stay or landing that ends its move.
use Rattle.std.specs.Prelude.{ℕ, ◌+◌, Bool, true, false, cond, Option, Some, None, List, [], ◌∷◌}
use Rattle.protocol.specs.Ops.{is_child}
use Rattle.protocol.specs.Deeds.{KeptTold, Deed, Unsent, Got, Stay, Land, Refused, Noted, pid_of}
use Rattle.run_laws.specs.Facts.{Facts, facts}

abbrev pub ended_line : Option KeptTold → Option ℕ → Option ℕ
ended_line None line = None
ended_line (Some k) line = cond k.ends line None

-- the line whose outcome an event is
abbrev pub outcome_line : Deed → Facts → Option ℕ
outcome_line (Unsent line p never) f = Some line
outcome_line (Got p child ended kept) f = ended_line kept f.line
outcome_line (Stay p to need free) f = f.line
outcome_line (Land p source) f = f.line
outcome_line (Refused p to why line) f = Some line
outcome_line _ f = None

abbrev pub counted_if : Bool → ℕ → ℕ
counted_if true k = k + 1
counted_if false k = k

-- how many outcomes the events tell of a line
abbrev pub outcomes : ℕ → List Noted → ℕ
outcomes line [] = 0
outcomes line (e ∷ before) = counted_if (is_child (outcome_line e.what (facts (pid_of e.what) before)) line) (outcomes line before)
