-- What the calls of a carrier say of its links.
use Rattle.std.specs.Prelude.{◌≡◌, ℕ, ◌+◌, Bool, false, List, length}
use mathlib.Core.List.{IsPrefix}
use Rattle.call_forward.specs.declared.letter.Letter.{Letter}

-- whatever was a pair with the old one is a pair with the new one
abbrev pub Keeps : {C : Type 0} → (C → C → Type 0) → C → C → Type 0
Keeps {C} pair old new = (x : C) → (pair old x → pair new x) × (pair x old → pair x new)

-- a link whose ends have met: what was given begins what was put, the taking end knows of all that lies between, and where nothing does the putting end has room
pub record IsMet (put : List Letter) (stuffed : Bool) (given : List Letter) (known : ℕ) : Type 0 where
  pub order : IsPrefix given put
  pub count : length given + known ≡ length put
  pub room : given ≡ put → stuffed ≡ false
