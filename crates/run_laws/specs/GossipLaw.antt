-- Gossip: of two nodes or more none goes on for 17 quanta of steps without a half; a half is one that is due, to another node; and one that is heard was sent.
use Rattle.std.specs.Prelude.{◌≢◌, ℕ, ◌<◌, ◌≤◌, true, false, List, [], ◌∷◌}
use Rattle.protocol.specs.Ops.{Ops}
use Rattle.protocol.specs.Gossip.{Talk, Silent, Stepping, Talking, talk_of}
use Rattle.protocol.specs.Deeds.{Noted}
use Rattle.protocol.specs.Does.{HalfDueTo}
use Rattle.run_laws.specs.Machine.{MachineState}
use Rattle.run_laws.specs.Schedule.{the_machine}
use Rattle.run_laws.specs.Pages.{free_pages}
use Rattle.run_laws.specs.Loads.{IsFree, load_at}
use Rattle.run_laws.specs.Vectors.{exchanged}

module _ (O : Ops) where
  -- a half of n to this node is due, by the events and the machine
  pub record HalfIsDue (n other : ℕ) (es : List Noted) (m : MachineState O) : Type 0 where
    pub here : n < O.nodes
    pub many : 2 ≤ O.nodes
    pub below : other < O.nodes
    pub apart : other ≢ n
    pub due : HalfDueTo O n other (load_at O n es m) (free_pages O n es m) ((p : ℕ) → IsFree O n p es m → ⊥) ((exchanged O es).nodes n)

  abbrev pub GossipAt : Talk → ℕ → List Noted → Type 0
  GossipAt Silent n before = Unit {0}
  GossipAt Stepping n before = 2 ≤ O.nodes → ((exchanged O before).nodes n).steps < 16
  GossipAt (Talking false other chosen) n before = HalfIsDue n other before (the_machine O before)
  GossipAt (Talking true other chosen) n before = (exchanged O before).unheard other n ≢ []

  abbrev pub GossipLaw : List Noted → Type 0
  GossipLaw [] = Unit {0}
  GossipLaw (e ∷ before) = GossipAt (talk_of e.what) e.node before × GossipLaw before
