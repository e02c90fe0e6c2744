-- Pokes: an event names exactly the other processes at which it raised a signal that they do not ignore, that have a deliverable one afterwards, and whose call is not held.
use Rattle.std.specs.Prelude.{◌≡◌, ℕ, ◌==◌, ◌&&◌, nat_lt, Bool, not, cond, Option, Some, None, List, [], ◌∷◌}
use Rattle.protocol.specs.Ops.{Ops, is_child}
use Rattle.protocol.specs.Deeds.{Deed, Kill, Served, Told, Noted}
use Rattle.protocol.specs.Notes.{is_some}
use Rattle.run_laws.specs.Machine.{MachineState, raised_by}
use Rattle.run_laws.specs.Schedule.{steps_of, machine_at, With}
use Rattle.run_laws.specs.Facts.{facts, is_held}

-- each number once, the lower first
abbrev pub placed : ℕ → List ℕ → List ℕ
placed q [] = q ∷ []
placed q (r ∷ rs) = cond (q == r) (r ∷ rs) (cond (nat_lt q r) (q ∷ r ∷ rs) (r ∷ placed q rs))

abbrev pub in_order : List ℕ → List ℕ
in_order [] = []
in_order (q ∷ qs) = placed q (in_order qs)

module _ (O : Ops) where
  -- those of these that are to be poked, by the machine after the event: not the one served, with a deliverable signal, and whose call is not held
  abbrev pub to_wake : Option ℕ → (ℕ → Bool) → MachineState O → List ℕ → List ℕ
  to_wake own held m2 [] = []
  to_wake own held m2 (q ∷ qs) = cond (not (is_child own q) && (is_some (O.lowest m2.kernel q) && not (held q))) (q ∷ to_wake own held m2 qs) (to_wake own held m2 qs)

  -- the machine is m before the event, and m2 after it; its steps tell where they raise signals
  abbrev pub named_of : Deed → Option ℕ → (ℕ → Bool) → MachineState O → MachineState O → List ℕ
  named_of what own held m m2 = in_order (to_wake own held m2 (raised_by O (steps_of what) (Some m)))

  -- a `told` names its process exactly where a signal of it is deliverable
  abbrev pub PokeAt : Deed → (ℕ → Bool) → MachineState O → MachineState O → Type 0
  PokeAt (Kill line p signal poked) held m m2 = poked ≡ named_of (Kill line p signal poked) None held m m2
  PokeAt (Served p manner number value child signal ends more poked) held m m2 = poked ≡ named_of (Served p manner number value child signal ends more poked) (Some p) held m m2
  PokeAt (Told p at source hops line poked) held m m2 = poked ≡ is_some (O.lowest m.kernel p)
  PokeAt _ held m m2 = Unit {0}

  abbrev pub PokeLaw : List Noted → Type 0
  PokeLaw [] = Unit {0}
  PokeLaw (e ∷ before) = With (machine_at O before) (λ m. With (machine_at O (e ∷ before)) (λ m2. PokeAt e.what (λ q. is_held (facts q before)) m m2)) × PokeLaw before
