-- Once: each call that is sent is served once before its answer comes, and each pause by a pause alone.
use Rattle.std.specs.Prelude.{◌≡◌, ◌≢◌, ℕ, ◌≤◌, ◌⊎◌, ℤ, true, false, Option, Some, None, List, [], ◌∷◌}
use Rattle.call_table.specs.declared.process.End.{End}
use Rattle.protocol.specs.Ops.{Ops}
use Rattle.protocol.specs.Deeds.{Manner, Fell, Paused, Deed, Steps, Sent, Held, Served, Got, Noted, pid_of}
use Rattle.run_laws.specs.Machine.{MachineState}
use Rattle.run_laws.specs.Schedule.{told_so, machine_at, With}
use Rattle.run_laws.specs.Facts.{is_paused, Facts, facts}

-- `fell` is the word of a fault, whose number is 0
abbrev pub FellFor : Manner → ℕ → Type 0
FellFor Fell number = number ≡ 0
FellFor _ number = number ≢ 0

module _ (O : Ops) where
  -- what the process asks of the machine before the event
  pub record Requests (m : MachineState O) (p number : ℕ) : Type 0 where
    pub user : O.User
    pub request : O.Request
    pub has : m.users p ≡ Some user
    pub asks : O.asks user ≡ Some request
    pub number_is : number ≡ O.number request

  -- a call is held where it blocks and no signal is deliverable
  pub record HeldOnce (p number : ℕ) (f : Facts) (m : MachineState O) : Type 0 where
    pub waits : f.waits ≡ true
    pub calls : f.paused ≡ false
    pub unserved : f.served ≡ 0
    pub first : f.held ≡ 0
    pub call : number ≢ 0
    pub requests : Requests m p number
    pub blocks : O.serve m.kernel p requests.request ≡ None
    pub quiet : O.lowest m.kernel p ≡ None

  -- a pause has no number
  abbrev pub NumberIs : Manner → MachineState O → ℕ → Option ℕ → Type 0
  NumberIs Paused m p number = number ≡ None
  NumberIs manner m p number = (x : ℕ) × (number ≡ Some x) × FellFor manner x × Requests m p x

  abbrev pub ValueIs : Manner → Option ℤ → Type 0
  ValueIs Paused value = value ≡ None
  ValueIs _ value = Unit {0}

  -- the value is that of the reply that the machine gains, the end the one that it gives
  pub record ServedOnce (p : ℕ) (manner : Manner) (number : Option ℕ) (value : Option ℤ) (ends : Option End) (f : Facts) (m m2 : MachineState O) : Type 0 where
    pub waits : f.waits ≡ true
    pub kind : f.paused ≡ is_paused manner
    pub first : f.served ≡ 0
    pub number_is : NumberIs manner m p number
    pub value_is : ValueIs manner value
    pub reply : m2.replies ≡ told_so p number value m.replies
    pub end_is : ends ≡ O.end_of m2.kernel p

  -- a quantum of steps: fewer only where the next one does not go, or maps a page
  pub record Quantum (p k : ℕ) (m2 : MachineState O) : Type 0 where
    pub least : 1 ≤ k
    pub most : k ≤ O.quantum
    pub user : O.User
    pub has : m2.users p ≡ Some user
    pub whole : (k ≡ O.quantum) ⊎ ((O.went user 1 ≡ None) ⊎ (O.grows user ≡ true))

  -- the process being as f tells, the machine m before the event, and m2 after it
  abbrev pub OnceAt : Deed → Facts → MachineState O → MachineState O → Type 0
  OnceAt (Steps p k) f m m2 = Quantum p k m2
  OnceAt (Sent p number) f m m2 = Requests m p number
  OnceAt (Held p number) f m m2 = HeldOnce p number f m
  OnceAt (Served p manner number value child signal ends more poked) f m m2 = ServedOnce p manner number value ends f m m2
  OnceAt (Got p child ended kept) f m m2 = (f.waits ≡ true) × (f.served ≡ 1) × (child ≡ f.child)
  OnceAt _ f m m2 = Unit {0}

  abbrev pub OnceLaw : List Noted → Type 0
  OnceLaw [] = Unit {0}
  OnceLaw (e ∷ before) = With (machine_at O before) (λ m. With (machine_at O (e ∷ before)) (λ m2. OnceAt e.what (facts (pid_of e.what) before) m m2)) × OnceLaw before
