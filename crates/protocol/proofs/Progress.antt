-- The same progress, call by call, is one.
use Rattle.std.proofs.Common.{◌≡◌, refl}
use Rattle.protocol.specs.Notes.{Progress, SameProgress}

pub as_one : {g h : Progress} → SameProgress g h → g ≡ h
as_one e = λ i. record { line = e.line i; done = e.done i; launched = e.launched i; served = λ p. (e.served p) i }

pub itself : (g : Progress) → SameProgress g g
itself g = record { line = refl; done = refl; launched = refl; served = λ p. refl }
