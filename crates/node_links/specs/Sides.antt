-- The carriers of all nodes, a side for each node.
use Rattle.std.specs.Prelude.{◌≡◌, ℕ, zero, suc, ◌≤◌, ◌==◌, Bool, not, ◌||◌, List, [], ◌∷◌, ◌++◌, length, map, slice_get, Option, Some, None, if◌then◌else◌}
use Rattle.std.specs.Option.{option_and_then}
use Rattle.call_forward.specs.declared.letter.Letter.{Letter}
use Rattle.node_links.specs.declared.side.Towards.{Towards}

-- each node has a carrier towards each other one, and home, which is node 0, has one towards itself
abbrev pub is_linked : ℕ → ℕ → Bool
is_linked i j = not (i == j) || (i == 0)

-- the nodes below n that node i has a carrier towards, in node order
abbrev pub led_to : ℕ → ℕ → List ℕ
led_to zero i = []
led_to (suc n) i = led_to n i ++ (if is_linked i n then n ∷ [] else [])

module _ {C : Type 0} where
  -- the first carrier of a side towards node j, if there is one
  abbrev pub carrier_to : List (Towards C) → ℕ → Option C
  carrier_to [] j = None
  carrier_to (t ∷ side) j = (if t.node == j then Some t.carrier else carrier_to side j)

  -- the carrier of node i towards node j, if there is one
  abbrev pub carrier_of : List (List (Towards C)) → ℕ → ℕ → Option C
  carrier_of sides i j = option_and_then (λ side. carrier_to side j) (slice_get sides i)

  -- n sides, each with its carriers in node order; those of two nodes towards each other are a pair
  pub record InPairs (pair : C → C → Type 0) (n : ℕ) (sides : List (List (Towards C))) : Type 0 where
    pub count : length sides ≡ n
    pub nodes : (i : ℕ) (side : List (Towards C)) → slice_get sides i ≡ Some side → map (λ t. t.node) side ≡ led_to n i
    pub pairs : (i j : ℕ) (c d : C) → carrier_of sides i j ≡ Some c → carrier_of sides j i ≡ Some d → pair c d

  -- a carrier by which nothing has gone
  pub record IsFresh (puts gives : C → List Letter) (total : C → ℕ) (c : C) : Type 0 where
    pub put : puts c ≡ []
    pub given : gives c ≡ []
    pub taken : total c ≡ 0

  -- each carrier of each side is so
  abbrev pub EachIs : (C → Type 0) → List (List (Towards C)) → Type 0
  EachIs P sides = (i j : ℕ) (c : C) → carrier_of sides i j ≡ Some c → P c

  -- n sides of such carriers in pairs, with none towards a node past them
  pub record IsGrown (pair : C → C → Type 0) (fresh : C → Type 0) (n : ℕ) (sides : List (List (Towards C))) : Type 0 where
    pub pairs : InPairs pair n sides
    pub each : EachIs fresh sides
    pub beyond : (i j : ℕ) → n ≤ j → carrier_of sides i j ≡ None
