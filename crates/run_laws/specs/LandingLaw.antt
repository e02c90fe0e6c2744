-- Landings: home is told of each landing as it was: at which node, from which, the how manieth of its process, and for which line.
use Rattle.std.specs.Prelude.{◌≡◌, ℕ, ◌+◌, ◌==◌, ◌&&◌, cond, Option, Some, None, List, [], ◌∷◌}
use Rattle.protocol.specs.Deeds.{Deed, Land, Told, Noted}
use Rattle.run_laws.specs.Facts.{facts}
use Rattle.run_laws.specs.UnderWay.{moves}

pub record Landing : Type 0 where
  pub node : ℕ
  pub source : ℕ
  pub line : Option ℕ

-- a landing of p at node n, after so many others
abbrev pub landing_by : Deed → ℕ → ℕ → ℕ → ℕ → Option ℕ → Option Landing → Option Landing
landing_by (Land q source) n p i others line old = cond ((q == p) && (others + 1 == i)) (Some (record { node = n; source = source; line = line })) old
landing_by _ n p i others line old = old

-- the i-th landing of a process, from 1
abbrev pub landing : ℕ → ℕ → List Noted → Option Landing
landing p i [] = None
landing p i (e ∷ before) = landing_by e.what e.node p i (moves p before).lands (facts p before).line (landing p i before)

abbrev pub LandingAt : Deed → List Noted → Type 0
LandingAt (Told p at source hops line poked) before = landing p hops before ≡ Some (record { node = at; source = source; line = line })
LandingAt _ before = Unit {0}

abbrev pub LandingLaw : List Noted → Type 0
LandingLaw [] = Unit {0}
LandingLaw (e ∷ before) = LandingAt e.what before × LandingLaw before
