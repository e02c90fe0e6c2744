-- Carriers meet, and nothing else happens.
use Rattle.std.specs.Prelude.{◌≡◌, ℕ, ◌+◌, Bool, true, Option, Some, None, List, length}
use mathlib.Core.List.{IsPrefix}
use Rattle.call_forward.specs.declared.letter.Letter.{Letter}
use Rattle.node_links.specs.Sides.{carrier_to}
use Rattle.node_links.specs.declared.side.Towards.{Towards}
use Rattle.cluster_run.specs.Sides.{towards, knows, OthersStay, SameSide}

-- what came out begins what went in; where none lies between, it is all
pub record Fronts (none : Bool) (given put : List Letter) : Type 0 where
  pub order : IsPrefix given put
  pub all : none ≡ true → given ≡ put

module _ {C : Type 0} where
  -- both have a carrier towards the other one, and these are a pair; or neither has
  abbrev pub Linked : (C → C → Type 0) → Option C → Option C → Type 0
  Linked pair None None = Unit {0}
  Linked pair (Some c) (Some d) = pair c d
  Linked pair _ _ = ⊥

  module _ (puts gives : C → List Letter) (pair : C → C → Type 0) where
    -- nothing was put or taken
    pub record SideCalm (old new : List (Towards C)) : Type 0 where
      pub put_same : (m : ℕ) → towards puts new m ≡ towards puts old m
      pub given_same : (m : ℕ) → towards gives new m ≡ towards gives old m
      pub side : SameSide pair old new

    -- the carriers of nodes a and b towards each other met
    pub record MetSides (none : Bool) (a b : ℕ) (one one_now two two_now : List (Towards C)) : Type 0 where
      pub one_calm : SideCalm one one_now
      pub two_calm : SideCalm two two_now
      pub there : Fronts none (towards gives two_now a) (towards puts one_now b)
      pub back : Fronts none (towards gives one_now b) (towards puts two_now a)

    -- the carrier of node a towards itself met itself
    pub record MetSelf (none : Bool) (a : ℕ) (old new : List (Towards C)) : Type 0 where
      pub calm : SideCalm old new
      pub own : Fronts none (towards gives new a) (towards puts new a)

  module _ (puts gives : C → List Letter) (known : C → ℕ) where
    -- after a meeting each taking end knows of all that lies on its link
    pub record CountedSides (a b : ℕ) (one one_now two two_now : List (Towards C)) : Type 0 where
      pub one_others : OthersStay b one one_now
      pub two_others : OthersStay a two two_now
      pub there : length (towards gives two_now a) + knows known two_now a ≡ length (towards puts one_now b)
      pub back : length (towards gives one_now b) + knows known one_now b ≡ length (towards puts two_now a)

    pub record CountedSelf (a : ℕ) (old new : List (Towards C)) : Type 0 where
      pub others : OthersStay a old new
      pub own : length (towards gives new a) + knows known new a ≡ length (towards puts new a)
