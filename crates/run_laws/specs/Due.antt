-- When an event is due at a node, said from the events and the machine.
use Rattle.std.specs.Prelude.{◌≡◌, ◌≢◌, ◌⊎◌, ◌<◌, ℕ, true, Some, None, List, length, slice_get}
use Rattle.node_event.specs.declared.script.ScriptLine.{ScriptLine}
use Rattle.protocol.specs.Ops.{Ops}
use Rattle.protocol.specs.Deeds.{Noted}
use Rattle.protocol.specs.Notes.{Turn}
use Rattle.protocol.specs.Cluster.{World}
use Rattle.protocol.specs.Rests.{Kind, Retry, RunOn, NextLine, SendHalf, Awaits}
use Rattle.run_laws.specs.Machine.{MachineState}
use Rattle.run_laws.specs.Facts.{facts, is_held}
use Rattle.run_laws.specs.Loads.{IsFree}
use Rattle.run_laws.specs.GossipLaw.{HalfIsDue}
use Rattle.run_laws.specs.ScriptLaw.{commands, Enabled}
use Rattle.run_laws.specs.OnceLaw.{Requests}
use Rattle.run_laws.specs.Carried.{own_events, taken_on, posted_on}

-- each holds where the other does
abbrev pub Same : Type 0 → Type 0 → Type 0
Same A B = (A → B) × (B → A)

-- n is the least node that made as many events as a journal has room for and that has more to do
pub record LeastFull (room n : ℕ) (es : List Noted) (more : ℕ → Type 0) : Type 0 where
  pub full : length (own_events n es) ≡ room
  pub has : more n
  pub least : (k : ℕ) → k < n → length (own_events k es) ≡ room → more k → ⊥

module _ (O : Ops) where
  -- a held call does not block, or a signal is deliverable
  pub record CanGoOn (p : ℕ) (es : List Noted) (m : MachineState O) : Type 0 where
    pub held : is_held (facts p es) ≡ true
    pub number : ℕ
    pub requests : Requests O m p number
    pub ready : (O.serve m.kernel p requests.request ≢ None) ⊎ (O.lowest m.kernel p ≢ None)

  -- the next line is enabled
  pub record LineEnabled (es : List Noted) (m : MachineState O) : Type 0 where
    pub line : ScriptLine
    pub next : slice_get O.script (commands es) ≡ Some line
    pub enabled : Enabled O line.order es m

  -- an event without a letter, of this kind, is due at n
  abbrev pub DueAs : Kind → ℕ → List Noted → MachineState O → Type 0
  DueAs (Retry p) n es m = (n ≡ 0) × CanGoOn p es m
  DueAs (RunOn p) n es m = IsFree O n p es m
  DueAs NextLine n es m = (n ≡ 0) × LineEnabled es m
  DueAs (SendHalf other) n es m = HalfIsDue O n other es m

  -- some turn posted a letter to n that no turn has taken
  abbrev pub Untaken : ℕ → List (Turn O) → Type 0
  Untaken n turns = (a : ℕ) × (taken_on O a n turns ≢ posted_on O a n turns)

  -- an event is due at n: a link into it has a letter that it has not taken, or one without a letter is due
  abbrev pub Due : ℕ → List Noted → MachineState O → World O → Type 0
  Due n es m w = Awaits O n w ⊎ ((k : Kind) × DueAs k n es m)

  -- the run is over at n, whose journal is full: it is the least such node at which an event is due
  abbrev pub IsFull : ℕ → ℕ → List Noted → MachineState O → World O → Type 0
  IsFull room n es m w = LeastFull room n es (λ k. Due k es m w)
