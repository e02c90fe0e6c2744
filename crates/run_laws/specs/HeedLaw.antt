-- Heeding: a process that was poked, or that was told of more, pauses before it does anything else.
use Rattle.std.specs.Prelude.{◌≡◌, ℕ, true, false, List, [], ◌∷◌}
use Rattle.protocol.specs.Deeds.{Deed, Steps, Sent, Heed, Poked, Noted, pid_of}
use Rattle.run_laws.specs.Facts.{Node, Facts, facts}

-- this node holds it, and it does not wait
abbrev pub AwakeHere : ℕ → Facts → Type 0
AwakeHere n f = (f.places ≡ Node n ∷ []) × (f.waits ≡ false)

-- a poke is used exactly where the process is awake here
abbrev pub HeedAt : Deed → ℕ → Facts → Type 0
HeedAt (Steps p k) n f = f.owes ≡ false
HeedAt (Sent p k) n f = f.owes ≡ false
HeedAt (Heed p) n f = f.owes ≡ true
HeedAt (Poked p true) n f = AwakeHere n f
HeedAt (Poked p false) n f = AwakeHere n f → ⊥
HeedAt _ n f = Unit {0}

abbrev pub HeedLaw : List Noted → Type 0
HeedLaw [] = Unit {0}
HeedLaw (e ∷ before) = HeedAt e.what e.node (facts (pid_of e.what) before) × HeedLaw before
