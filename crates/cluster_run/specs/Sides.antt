-- What one side of the carriers lists of each link, and how its parts change it.
use Rattle.std.specs.Prelude.{◌≡◌, ◌≢◌, ℕ, ◌<◌, ◌==◌, cond, Option, Some, None, List, [], ◌∷◌, ◌++◌, map, slice_get, option_to_list, IfSome, MatchOption}
use Rattle.call_forward.specs.declared.letter.Letter.{Letter}
use Rattle.node_links.specs.Meetings.{Keeps}
use Rattle.node_links.specs.Sides.{carrier_to}
use Rattle.node_links.specs.declared.side.Towards.{Towards}

module _ {C : Type 0} where
  abbrev pub of_carrier : (C → List Letter) → Option C → List Letter
  of_carrier f None = []
  of_carrier f (Some c) = f c

  -- the letters of the carrier towards a node, none where there is no such carrier
  abbrev pub towards : (C → List Letter) → List (Towards C) → ℕ → List Letter
  towards f side m = of_carrier f (carrier_to side m)

  abbrev pub count_of : (C → ℕ) → Option C → ℕ
  count_of f None = 0
  count_of f (Some c) = f c

  -- how many letters the carrier towards a node knows of, none where there is no such carrier
  abbrev pub knows : (C → ℕ) → List (Towards C) → ℕ → ℕ
  knows f side m = count_of f (carrier_to side m)

  -- no carrier towards another node was touched
  abbrev pub OthersStay : ℕ → List (Towards C) → List (Towards C) → Type 0
  OthersStay node old new = (m : ℕ) → m ≢ node → carrier_to new m ≡ carrier_to old m

  -- what a look at the link from a node tells besides: where none came, none was known
  pub record LookTells (known : C → ℕ) (source : ℕ) (came : Option Letter) (old new : List (Towards C)) : Type 0 where
    pub none : came ≡ None → knows known old source ≡ 0
    pub others : OthersStay source old new

  -- the carrier at a place is the first one towards a node
  pub record IsPlace (side : List (Towards C)) (node at : ℕ) : Type 0 where
    pub here : Towards C
    pub is : slice_get side at ≡ Some here
    pub node_is : here.node ≡ node
    pub before : (i : ℕ) (t : Towards C) → i < at → slice_get side i ≡ Some t → t.node ≢ node

  abbrev pub IsPlaceOf : List (Towards C) → ℕ → Option ℕ → Type 0
  IsPlaceOf side node None = carrier_to side node ≡ None
  IsPlaceOf side node (Some at) = IsPlace side node at

  -- the same carrier: whatever was a pair with it is a pair with it now
  abbrev pub SameCarrier : (C → C → Type 0) → Option C → Option C → Type 0
  SameCarrier pair None None = Unit {0}
  SameCarrier pair (Some was) (Some now) = Keeps pair was now
  SameCarrier pair _ _ = ⊥

  -- the same carriers towards the same nodes
  abbrev pub SameSide : (C → C → Type 0) → List (Towards C) → List (Towards C) → Type 0
  SameSide pair old new = (m : ℕ) → SameCarrier pair (carrier_to old m) (carrier_to new m)

  module _ (puts gives : C → List Letter) (pair : C → C → Type 0) where
    -- the list, unless the letter was given back
    abbrev pub unless : Option Letter → List Letter → List Letter
    unless None xs = xs
    unless (Some back) xs = []

    -- a letter was put on its link, or is given back
    pub record Handed (letter : Letter) (back : Option Letter) (old new : List (Towards C)) : Type 0 where
      pub same : IfSome back (λ b. b ≡ letter)
      pub put_now : (m : ℕ) → towards puts new m ≡ towards puts old m ++ unless back (cond (m == letter.to) (letter ∷ []) [])
      pub given_now : (m : ℕ) → towards gives new m ≡ towards gives old m
      pub side : SameSide pair old new

    -- what came of a look at the link from a node
    pub record Looked (source : ℕ) (came : Option Letter) (old new : List (Towards C)) : Type 0 where
      pub put_now : (m : ℕ) → towards puts new m ≡ towards puts old m
      pub given_now : (m : ℕ) → towards gives new m ≡ towards gives old m ++ cond (m == source) (option_to_list came) []
      pub side : SameSide pair old new
