-- Place: an event of a process stands at the node that holds it, a landing at the target of its move, a miss at another node.
use Rattle.std.specs.Prelude.{◌≡◌, ◌≢◌, ℕ, List, [], ◌∷◌}
use Rattle.protocol.specs.Deeds.{Deed, Run, Steps, Sent, Heed, Got, Begin, Keep, Missed, Depart, Stay, Land, Noted, pid_of}
use Rattle.run_laws.specs.Facts.{Node, Link, Facts, facts}

-- an event at node n, its process being as f tells
abbrev pub PlaceAt : Deed → ℕ → Facts → Type 0
PlaceAt (Run line i p) n f = f.places ≡ []
PlaceAt (Steps p k) n f = f.places ≡ Node n ∷ []
PlaceAt (Sent p k) n f = f.places ≡ Node n ∷ []
PlaceAt (Heed p) n f = f.places ≡ Node n ∷ []
PlaceAt (Got p child ended kept) n f = f.places ≡ Node n ∷ []
PlaceAt (Begin p to reason) n f = f.places ≡ Node n ∷ []
PlaceAt (Keep p to line) n f = f.places ≡ Node n ∷ []
PlaceAt (Depart p to) n f = f.places ≡ Node n ∷ []
PlaceAt (Stay p to need free) n f = f.places ≡ Node n ∷ []
PlaceAt (Land p source) n f = f.places ≡ Link source n ∷ []
PlaceAt (Missed p to line) n f = f.places ≢ Node n ∷ []
PlaceAt _ n f = Unit {0}

abbrev pub PlaceLaw : List Noted → Type 0
PlaceLaw [] = Unit {0}
PlaceLaw (e ∷ before) = PlaceAt e.what e.node (facts (pid_of e.what) before) × PlaceLaw before
