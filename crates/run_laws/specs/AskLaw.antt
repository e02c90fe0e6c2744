-- Asking: a node decides on a process that asks it, and the process then departs to the node that allowed it, or stays.
use Rattle.std.specs.Prelude.{◌≡◌, ℕ, true, false, Some, None, List, [], ◌∷◌}
use Rattle.protocol.specs.Deeds.{Deed, Allows, Denies, Depart, Stay, Noted, pid_of}
use Rattle.run_laws.specs.Facts.{Node, Facts, facts}

-- the process is held by node `from`, asks node n, and has no decision yet
pub record AsksNode (n from : ℕ) (f : Facts) : Type 0 where
  pub holder : f.places ≡ Node from ∷ []
  pub asks : f.asks ≡ true
  pub target : f.target ≡ Some n
  pub unallowed : f.allowed ≡ false
  pub undenied : f.denial ≡ None

abbrev pub AskAt : Deed → ℕ → Facts → Type 0
AskAt (Allows p from need) n f = AsksNode n from f
AskAt (Denies p from need free) n f = AsksNode n from f
AskAt (Depart p to) n f = (f.target ≡ Some to) × (f.allowed ≡ true)
AskAt (Stay p to need free) n f = f.target ≡ Some to
AskAt _ n f = Unit {0}

abbrev pub AskLaw : List Noted → Type 0
AskLaw [] = Unit {0}
AskLaw (e ∷ before) = AskAt e.what e.node (facts (pid_of e.what) before) × AskLaw before
