-- When a turn without a letter has something to do, and when a node rests.
use Rattle.std.specs.Prelude.{◌≡◌, ◌≢◌, ◌-◌, ◌<◌, ◌≤◌, ◌⊎◌, ℕ, false, Option, Some, None, [], length, slice_get}
use Rattle.node_event.specs.declared.script.ScriptLine.{ScriptLine}
use Rattle.protocol.specs.Ops.{Ops}
use Rattle.protocol.specs.Notes.{Post, Running, Body, context, Called, Local}
use Rattle.protocol.specs.Cluster.{World}
use Rattle.protocol.specs.Does.{EnabledHere, InUse, Loaded, NoneRuns, HalfDueTo}

-- what a turn without a letter does, in the order of the rotation: home serves a held call, a node lets a context run on, home carries out the script's next
-- line, a node sends a half that is due
pub data Kind : Type 0 where
  Retry : (pid : ℕ) → Kind
  RunOn : (pid : ℕ) → Kind
  NextLine : Kind
  SendHalf : (other : ℕ) → Kind

abbrev pub IsHalf : Kind → Type 0
IsHalf (SendHalf other) = Unit {0}
IsHalf _ = ⊥

module _ (O : Ops) where
  -- a held call may go on: it blocks no more, or a signal is deliverable
  pub record MayGoOn (l : Local O) (p : ℕ) : Type 0 where
    pub call : Called O
    pub held : (l.slots p).call ≡ Some call
    pub ready : (O.serve l.kernel p call.request ≢ None) ⊎ (O.lowest l.kernel p ≢ None)

  -- a running context
  abbrev pub RunsHere : Local O → ℕ → Type 0
  RunsHere l p = (b : Body O) × ((l.slots p).context ≡ Some (context O b Running))

  -- the next line of the script is enabled
  pub record LineReady (l : Local O) : Type 0 where
    pub line : ScriptLine
    pub next : slice_get O.script l.progress.done ≡ Some line
    pub enabled : EnabledHere O line.order l

  -- a half to this node is due
  pub record HalfReady (n other : ℕ) (l : Local O) : Type 0 where
    pub below : n < O.nodes
    pub many : 2 ≤ O.nodes
    pub load : ℕ
    pub loaded : Loaded O l load
    pub used : ℕ
    pub in_use : InUse O l used
    pub due : HalfDueTo O n other load (O.cap - used) (NoneRuns O l) l.gossip

  -- this kind of turn has something to do at node n
  abbrev pub Applies : Kind → ℕ → Local O → Type 0
  Applies (Retry p) n l = (n ≡ 0) × MayGoOn l p
  Applies (RunOn p) n l = RunsHere l p
  Applies NextLine n l = (n ≡ 0) × LineReady l
  Applies (SendHalf other) n l = HalfReady n other l

  -- a turn without a letter has nothing to do
  abbrev pub Rests : ℕ → Local O → Type 0
  Rests n l = (k : Kind) → Applies k n l → ⊥

  -- home rests for good: the script is at its end, and every process has ended
  pub record Finished (l : Local O) : Type 0 where
    pub script : l.progress.done ≡ length O.script
    pub ended : (p : ℕ) → O.live l.kernel p ≡ false

  -- what a turn of n may answer, without a change. Idle: no letter came, and no kind applies
  pub record IsIdle (n : ℕ) (inbox : Option (Post O)) (l : Local O) : Type 0 where
    pub letter : inbox ≡ None
    pub rests : Rests n l

  -- finished: idle at home besides, the script at its end and every process ended
  pub record IsFinished (n : ℕ) (inbox : Option (Post O)) (l : Local O) : Type 0 where
    pub idle : IsIdle n inbox l
    pub home : n ≡ 0
    pub finished : Finished l

  -- more is due: a letter came, or a kind applies. With a full journal the turn answers that it is full
  abbrev pub HasMore : ℕ → Option (Post O) → Local O → Type 0
  HasMore n None l = (k : Kind) × Applies k n l
  HasMore n (Some letter) l = Unit {0}

  -- a letter lies on a link into n
  abbrev pub Awaits : ℕ → World O → Type 0
  Awaits n w = (a : ℕ) × (w.links a n ≢ [])

  -- a turn of n has something to do: it has a letter, or a kind applies
  abbrev pub Busy : ℕ → World O → Type 0
  Busy n w = Awaits n w ⊎ ((k : Kind) × Applies k n (w.nodes n))

  -- every link of the cluster is empty, and every node of it rests
  pub record AllRest (w : World O) : Type 0 where
    pub links : (a b : ℕ) → a < O.nodes → b < O.nodes → w.links a b ≡ []
    pub nodes : (n : ℕ) → n < O.nodes → Rests n (w.nodes n)
