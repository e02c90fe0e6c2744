-- No signal comes silently: where a call, the taking of a signal or a `kill` line makes a signal deliverable at another process, whose call is not held, that process is poked.
use Rattle.std.specs.Prelude.{◌≡◌, ℕ, ◌⊎◌, Bool, false, Option, Some, None, List, [], ◌∷◌}
use Rattle.protocol.specs.Ops.{Ops, is_child}
use Rattle.protocol.specs.Deeds.{Deed, Kill, Served, Noted}
use Rattle.run_laws.specs.Machine.{MachineState}
use Rattle.run_laws.specs.Schedule.{machine_at, With}
use Rattle.run_laws.specs.Facts.{facts, is_held}

abbrev pub Among : ℕ → List ℕ → Type 0
Among q [] = ⊥
Among q (x ∷ xs) = (q ≡ x) ⊎ Among q xs

module _ (O : Ops) where
  -- the machine is m before the event, and m2 after it; a child is new in it
  abbrev pub NoneMissed : Option ℕ → Option ℕ → List ℕ → (ℕ → Bool) → MachineState O → MachineState O → Type 0
  NoneMissed own child poked held m m2 = (q s : ℕ) → is_child own q ≡ false → is_child child q ≡ false → O.lowest m.kernel q ≡ None → O.lowest m2.kernel q ≡ Some s → held q ≡ false → Among q poked

  abbrev pub SilentAt : Deed → (ℕ → Bool) → MachineState O → MachineState O → Type 0
  SilentAt (Kill line p signal poked) held m m2 = NoneMissed None None poked held m m2
  SilentAt (Served p manner number value child signal ends more poked) held m m2 = NoneMissed (Some p) child poked held m m2
  SilentAt _ held m m2 = Unit {0}

  abbrev pub SilentLaw : List Noted → Type 0
  SilentLaw [] = Unit {0}
  SilentLaw (e ∷ before) = With (machine_at O before) (λ m. With (machine_at O (e ∷ before)) (λ m2. SilentAt e.what (λ q. is_held (facts q before)) m m2)) × SilentLaw before
