-- What each node did by itself and what each link lists; and when a list of turns, the newest first, is carried by its links. No order is assumed but that of
-- each node and of each link.
pub use Rattle.run_laws.specs.Weaving.{Each, Later, Sorted, own_events}
use Rattle.run_laws.specs.Weaving as weaving
use Rattle.run_laws.specs.Weaving.{Steps}
use Rattle.std.specs.Prelude.{◌≡◌, ℕ, ◌==◌, cond, List, [], ◌∷◌, ◌++◌}
use Rattle.protocol.specs.Ops.{Ops}
use Rattle.protocol.specs.Deeds.{Deed, Strange, Noted}
use Rattle.protocol.specs.Notes.{Post, Turn, Local}
use Rattle.protocol.specs.Does.{Makes}
use Rattle.protocol.specs.Cluster.{World, Fresh, Reached, events}

-- what a turn adds to the journal of its node: a letter that did not fit adds nothing
abbrev pub recorded : Noted → Deed → List Noted
recorded e (Strange p) = []
recorded e _ = e ∷ []

-- the event of a letter that fits
abbrev pub IsUsual : Deed → Type 0
IsUsual (Strange p) = ⊥
IsUsual _ = Unit {0}

module _ (O : Ops) where
  -- none of these turns skips a letter: `strange` is 0
  abbrev pub NoneStrange : List (Turn O) → Type 0
  NoneStrange turns = Each (λ t. IsUsual t.event.what) turns

  -- the turns that its nodes may make
  abbrev pub steps : Steps
  steps = record {
    Local = Local O;
    Letter = Post O;
    Turn = Turn O;
    from = λ l. l.from;
    to = λ l. l.to;
    stamp = λ l. l.stamp;
    event = λ t. t.event;
    taken = λ t. t.taken;
    posted = λ t. t.posted;
    clock = λ l. l.clock;
    Fresh = Fresh O;
    Makes = Makes O;
  }

  abbrev pub world_of : World O → weaving.World steps
  world_of w = record { nodes = w.nodes; links = w.links }

  -- the letters that the turns posted on a link, and those that they took from it, the first one first
  abbrev pub posted_on : ℕ → ℕ → List (Turn O) → List (Post O)
  posted_on a b h = weaving.posted_on steps a b h

  abbrev pub taken_on : ℕ → ℕ → List (Turn O) → List (Post O)
  taken_on a b h = weaving.taken_on steps a b h

  -- on each link what was taken was posted before, in its order
  abbrev pub Carried : List (Turn O) → Type 0
  Carried h = weaving.Carried steps h

  -- each letter goes out from its turn's node with the turn's stamp, and comes in at the node with a smaller one
  abbrev pub Marked : Turn O → Type 0
  Marked t = weaving.Marked steps t

  -- these events are those of turns that lead to w, each one that its node may make, and whose letters the links carried
  pub record CarriedRun (es : List Noted) (w : World O) : Type 0 where
    pub turns : List (Turn O)
    pub events_are : events O turns ≡ es
    pub reached : Reached O turns w
    pub carried : Carried turns
    pub marked : Each (λ t. Marked t) turns

  -- from a fresh node these turns lead to this: its state is what its own turns make of it
  abbrev pub Alone : ℕ → List (Turn O) → Local O → Type 0
  Alone n h new = weaving.Alone steps n h new

  -- what the nodes did, each by itself, and what then lies on the links
  abbrev pub Did : (ℕ → List (Turn O)) → World O → Type 0
  Did turns w = weaving.Did steps turns (world_of w)

  -- the turns with one more
  abbrev pub grown : (ℕ → List (Turn O)) → Turn O → ℕ → List (Turn O)
  grown turns t n = cond (n == t.event.node) (t ∷ turns n) (turns n)

  -- the journal of these turns, the newest first
  abbrev pub shown : List (Turn O) → List Noted
  shown [] = []
  shown (t ∷ before) = recorded t.event t.event.what ++ shown before
