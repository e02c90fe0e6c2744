-- How often the landings of a process were told.
use Rattle.std.proofs.Common.{ℕ, ◌+◌, ◌==◌, cond, List, [], ◌∷◌}
use Rattle.protocol.specs.Deeds.{Deed, Told, Noted, pid_of}

-- how often its landing of this number was told
abbrev pub told_by_hops : Deed → ℕ → ℕ → ℕ
told_by_hops (Told p at source hops line poked) i x = cond (hops == i) (x + 1) x
told_by_hops _ i x = x

abbrev pub told_at : ℕ → ℕ → List Noted → ℕ
told_at p i [] = 0
told_at p i (e ∷ before) = cond (p == pid_of e.what) (told_by_hops e.what i (told_at p i before)) (told_at p i before)
