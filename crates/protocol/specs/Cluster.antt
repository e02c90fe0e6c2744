-- The nodes and links together, as a transition system.
use Rattle.std.specs.Prelude.{◌≡◌, ◌≢◌, ℕ, ◌==◌, ◌&&◌, cond, Option, Some, None, List, ◌∷◌, map, ◌++◌, []}
use Rattle.protocol.specs.Ops.{Ops}
use Rattle.protocol.specs.Gossip.{no_gossip}
use Rattle.protocol.specs.Deeds.{Noted}
use Rattle.protocol.specs.Notes.{no_progress, Post, Turn, Local}
use Rattle.protocol.specs.Does.{Makes}

module _ (O : Ops) where
  pub record World : Type 0 where
    pub nodes : ℕ → Local O
    pub links : ℕ → ℕ → List (Post O)

  abbrev pub for_link : ℕ → ℕ → List (Post O) → List (Post O)
  for_link a b [] = []
  for_link a b (l ∷ ls) = cond ((a == l.from) && (b == l.to)) (l ∷ for_link a b ls) (for_link a b ls)

  abbrev pub at_front : Option (Post O) → ℕ → ℕ → List (Post O)
  at_front None a b = []
  at_front (Some l) a b = cond ((a == l.from) && (b == l.to)) (l ∷ []) []

  -- the whole cluster makes one turn
  pub record Goes (w : World) (t : Turn O) (v : World) : Type 0 where
    pub makes : Makes O t.event.node (w.nodes t.event.node) t (v.nodes t.event.node)
    pub elsewhere : (m : ℕ) → m ≢ t.event.node → v.nodes m ≡ w.nodes m
    pub rest : ℕ → ℕ → List (Post O)
    pub takes : (a b : ℕ) → w.links a b ≡ at_front t.taken a b ++ rest a b
    pub posts : (a b : ℕ) → v.links a b ≡ rest a b ++ for_link a b t.posted

  -- nothing has happened at home
  pub record FreshHome (l : Local O) : Type 0 where
    pub kernel : l.kernel ≡ O.new_kernel
    pub progress : l.progress ≡ no_progress
    pub believed : (p : ℕ) → l.believed p ≡ record { place = 0; hops = 0 }

  -- nor at a node
  pub record Fresh (n : ℕ) (l : Local O) : Type 0 where
    pub clock : l.clock ≡ 0
    pub slots : (p : ℕ) → l.slots p ≡ record { context = None; reserve = None; call = None }
    pub gossip : l.gossip ≡ no_gossip
    pub home : n ≡ 0 → FreshHome l

  -- nor anywhere
  pub record Starts (w : World) : Type 0 where
    pub nodes : (n : ℕ) → Fresh n (w.nodes n)
    pub links : (a b : ℕ) → w.links a b ≡ []

  abbrev pub Reached : List (Turn O) → World → Type 0
  Reached [] v = Starts v
  Reached (t ∷ before) v = (w : World) × Reached before w × Goes w t v

  -- the events of these turns
  abbrev pub events : List (Turn O) → List Noted
  events h = map (λ (t : Turn O). t.event) h
