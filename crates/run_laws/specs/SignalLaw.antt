-- Signals: a served call takes one exactly where one is deliverable after the call itself.
use Rattle.std.specs.Prelude.{◌≡◌, ℕ, Bool, Option, List, [], ◌∷◌}
use Rattle.protocol.specs.Ops.{Ops}
use Rattle.protocol.specs.Deeds.{Manner, Deed, Served, Noted}
use Rattle.protocol.specs.Notes.{is_some}
use Rattle.run_laws.specs.Machine.{MachineState, machine_steps}
use Rattle.run_laws.specs.Schedule.{call_step, machine_at, With}

module _ (O : Ops) where
  -- it is the lowest one, and `more` says that there is still one
  pub record TakesOne (p : ℕ) (manner : Manner) (signal : Option ℕ) (more : Bool) (m m2 : MachineState O) : Type 0 where
    pub takes : With (machine_steps O (call_step manner p) m) (λ called. signal ≡ O.lowest called.kernel p)
    pub more_is : more ≡ is_some (O.lowest m2.kernel p)

  -- the machine is m before the event, and m2 after it
  abbrev pub SignalAt : Deed → MachineState O → MachineState O → Type 0
  SignalAt (Served p manner number value child signal ends more poked) m m2 = TakesOne p manner signal more m m2
  SignalAt _ m m2 = Unit {0}

  abbrev pub SignalLaw : List Noted → Type 0
  SignalLaw [] = Unit {0}
  SignalLaw (e ∷ before) = With (machine_at O before) (λ m. With (machine_at O (e ∷ before)) (λ m2. SignalAt e.what m m2)) × SignalLaw before
