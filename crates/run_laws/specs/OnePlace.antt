-- One place: after every prefix each live process is at one node, or in one transfer.
use Rattle.std.specs.Prelude.{◌≡◌, ◌≢◌, ℕ, true, List, [], ◌∷◌}
use Rattle.protocol.specs.Ops.{Ops}
use Rattle.protocol.specs.Deeds.{Noted}
use Rattle.protocol.specs.Home.{NeverGiven}
use Rattle.run_laws.specs.Machine.{MachineState}
use Rattle.run_laws.specs.Schedule.{machine_at, With}
use Rattle.run_laws.specs.Facts.{Place, facts}

module _ (O : Ops) where
  -- a live process is in one place, an ended one in at most one, and a pid never given in none
  pub record PlacedAt (es : List Noted) (m : MachineState O) : Type 0 where
    pub live : (p : ℕ) → O.live m.kernel p ≡ true → (x : Place) × ((facts p es).places ≡ x ∷ [])
    pub at_most : (p : ℕ) → (facts p es).places ≢ [] → (x : Place) × ((facts p es).places ≡ x ∷ [])
    pub never : (p : ℕ) → NeverGiven O m.kernel p → (facts p es).places ≡ []

  abbrev pub OnePlace : List Noted → Type 0
  OnePlace [] = With (machine_at O []) (λ m. PlacedAt [] m)
  OnePlace (e ∷ before) = With (machine_at O (e ∷ before)) (λ m. PlacedAt (e ∷ before) m) × OnePlace before
