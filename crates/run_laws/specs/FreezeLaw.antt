-- Freeze: while a process waits or asks, nothing but its answer happens to it.
use Rattle.std.specs.Prelude.{◌≡◌, ℕ, Bool, true, false, Option, Some, None, List, [], ◌∷◌}
use Rattle.protocol.specs.Deeds.{KeptTold, Deed, Steps, Sent, Heed, Got, Begin, Keep, Depart, Stay, Noted, pid_of}
use Rattle.run_laws.specs.Facts.{Facts, facts}

abbrev pub kept_target : Option KeptTold → Option ℕ
kept_target None = None
kept_target (Some k) = Some k.to

-- a kept move is told as ended exactly where its process has
abbrev pub KeptWord : Option KeptTold → Bool → Type 0
KeptWord None ended = Unit {0}
KeptWord (Some k) ended = k.ends ≡ ended

abbrev pub Free : Facts → Type 0
Free f = (f.waits ≡ false) × (f.asks ≡ false)

-- a move is kept at most once in one waiting, and told by the `got` that ends it
abbrev pub FreezeAt : Deed → Facts → Type 0
FreezeAt (Steps p k) f = Free f
FreezeAt (Sent p k) f = Free f
FreezeAt (Heed p) f = Free f
FreezeAt (Begin p to reason) f = Free f
FreezeAt (Keep p to line) f = (f.waits ≡ true) × (f.kept ≡ None)
FreezeAt (Got p child ended kept) f = (f.waits ≡ true) × (kept_target kept ≡ f.kept) × KeptWord kept ended
FreezeAt (Depart p to) f = f.asks ≡ true
FreezeAt (Stay p to need free) f = f.asks ≡ true
FreezeAt _ f = Unit {0}

abbrev pub FreezeLaw : List Noted → Type 0
FreezeLaw [] = Unit {0}
FreezeLaw (e ∷ before) = FreezeAt e.what (facts (pid_of e.what) before) × FreezeLaw before
