-- Honest: each entry of each vector tells the load and the free pages that its node had right after its event of that stamp.
use Rattle.std.specs.Prelude.{◌≡◌, ℕ, ◌⊎◌, Option, Some, None, List, [], ◌∷◌}
use Rattle.protocol.specs.Ops.{Ops}
use Rattle.protocol.specs.Gossip.{Entry}
use Rattle.protocol.specs.Deeds.{Noted}
use Rattle.run_laws.specs.Schedule.{the_machine}
use Rattle.run_laws.specs.Loads.{own_entry}
use Rattle.run_laws.specs.Vectors.{vector_of}

module _ (O : Ops) where
  -- some event of its node has its stamp, and after it the node was as it tells
  abbrev pub Honest : Entry → List Noted → Type 0
  Honest x [] = ⊥
  Honest x (e ∷ before) = (x ≡ own_entry O e.node e.stamp (e ∷ before) (the_machine O (e ∷ before))) ⊎ Honest x before

  abbrev pub AllHonest : List (Option Entry) → List Noted → Type 0
  AllHonest [] es = Unit {0}
  AllHonest (None ∷ rest) es = AllHonest rest es
  AllHonest (Some x ∷ rest) es = Honest x es × AllHonest rest es

  -- after every prefix
  abbrev pub HonestLaw : List Noted → Type 0
  HonestLaw [] = Unit {0}
  HonestLaw (e ∷ before) = ((n : ℕ) → AllHonest (vector_of O n (e ∷ before)) (e ∷ before)) × HonestLaw before
