-- What nodes do by themselves where odd letters may come, which they skip.
use Rattle.std.specs.Prelude.{◌≡◌, ℕ, ◌<◌, ◌==◌, cond, List, [], ◌∷◌, ◌++◌}
use Rattle.protocol.specs.Ops.{Ops}
use Rattle.protocol.specs.Deeds.{Noted}
use Rattle.protocol.specs.Notes.{Post, Turn, Local}
use Rattle.protocol.specs.Does.{Makes}
use Rattle.protocol.specs.Cluster.{World, Fresh, for_link, at_front}
use Rattle.protocol.specs.Odd.{SkipsOdd, Timely}
use Rattle.run_laws.specs.Carried.{recorded}

module _ (O : Ops) where
  -- a turn, or an odd letter that is skipped, with the node whose link brought it
  pub data Act : Type 0 where
    Made : Turn O → Act
    Skipped : ℕ → Post O → Act

  -- from a fresh node these acts, the newest first, lead to this; each turn keeps the rule of stamps exactly
  abbrev pub Lone : ℕ → List Act → Local O → Type 0
  Lone n [] new = Fresh O n new
  Lone n (Made t ∷ before) new = (old : Local O) × Lone n before old × Makes O n old t new × Timely O n old t
  Lone n (Skipped from l ∷ before) new = (old : Local O) × Lone n before old × (n < O.nodes) × SkipsOdd O n old l new

  abbrev pub all_posted : ℕ → ℕ → List Act → List (Post O)
  all_posted a b [] = []
  all_posted a b (Made t ∷ before) = all_posted a b before ++ for_link O a b t.posted
  all_posted a b (Skipped from l ∷ before) = all_posted a b before

  abbrev pub all_taken : ℕ → ℕ → List Act → List (Post O)
  all_taken a b [] = []
  all_taken a b (Made t ∷ before) = all_taken a b before ++ at_front O t.taken a b
  all_taken a b (Skipped from l ∷ before) = all_taken a b before ++ cond (a == from) (l ∷ []) []

  -- what the nodes did, each by itself, and what then lies on the links
  pub record DidAll (acts : ℕ → List Act) (w : World O) : Type 0 where
    pub nodes : (n : ℕ) → Lone n (acts n) (w.nodes n)
    pub links : (a b : ℕ) → all_taken a b (acts b) ++ w.links a b ≡ all_posted a b (acts a)

  -- the journal of these acts, the newest first
  abbrev pub journal : List Act → List Noted
  journal [] = []
  journal (Made t ∷ before) = recorded t.event t.event.what ++ journal before
  journal (Skipped from l ∷ before) = journal before

  -- none of these acts skips a letter
  abbrev pub NoneSkipped : List Act → Type 0
  NoneSkipped [] = Unit {0}
  NoneSkipped (Made t ∷ before) = NoneSkipped before
  NoneSkipped (Skipped from l ∷ before) = ⊥
