-- What nodes do, each by itself, and what their links then list: over any kind of letter, of turn, and of step that a turn makes of a node's state.
use Rattle.std.specs.Prelude.{◌≡◌, ◌≢◌, ℕ, ◌<◌, ◌⊎◌, ◌==◌, ◌&&◌, cond, Option, Some, None, List, [], ◌∷◌, ◌++◌, map, IfSome}
use Rattle.protocol.specs.Deeds.{Noted}

-- by the list's own recursion, so that it opens with the list
abbrev pub Each : {A : Type 0} → (A → Type 0) → List A → Type 0
Each P [] = Unit {0}
Each P (x ∷ xs) = P x × Each P xs

-- sorted by stamp, and by node where stamps are equal, the newest first
abbrev pub Later : Noted → Noted → Type 0
Later e f = (f.stamp < e.stamp) ⊎ ((f.stamp ≡ e.stamp) × (f.node < e.node))

abbrev pub Sorted : List Noted → Type 0
Sorted [] = Unit {0}
Sorted (e ∷ before) = Each (λ f. Later e f) before × Sorted before

abbrev pub own_events : ℕ → List Noted → List Noted
own_events n [] = []
own_events n (e ∷ before) = cond (e.node == n) (e ∷ own_events n before) (own_events n before)

-- the letters, the turns and the step that a turn of node n makes of its state
pub record Steps : Type 1 where
  pub Local : Type 0
  pub Letter : Type 0
  pub Turn : Type 0
  pub from : Letter → ℕ
  pub to : Letter → ℕ
  pub stamp : Letter → ℕ
  pub event : Turn → Noted
  pub taken : Turn → Option Letter
  pub posted : Turn → List Letter
  pub clock : Local → ℕ
  pub Fresh : ℕ → Local → Type 0
  pub Makes : ℕ → Local → Turn → Local → Type 0

module _ (K : Steps) where
  pub record World : Type 0 where
    pub nodes : ℕ → K.Local
    pub links : ℕ → ℕ → List K.Letter

  abbrev pub for_link : ℕ → ℕ → List K.Letter → List K.Letter
  for_link a b [] = []
  for_link a b (l ∷ ls) = cond ((a == K.from l) && (b == K.to l)) (l ∷ for_link a b ls) (for_link a b ls)

  abbrev pub at_front : Option K.Letter → ℕ → ℕ → List K.Letter
  at_front None a b = []
  at_front (Some l) a b = cond ((a == K.from l) && (b == K.to l)) (l ∷ []) []

  -- the whole cluster makes one turn
  pub record Goes (w : World) (t : K.Turn) (v : World) : Type 0 where
    pub makes : K.Makes (K.event t).node (w.nodes (K.event t).node) t (v.nodes (K.event t).node)
    pub elsewhere : (m : ℕ) → m ≢ (K.event t).node → v.nodes m ≡ w.nodes m
    pub rest : ℕ → ℕ → List K.Letter
    pub takes : (a b : ℕ) → w.links a b ≡ at_front (K.taken t) a b ++ rest a b
    pub posts : (a b : ℕ) → v.links a b ≡ rest a b ++ for_link a b (K.posted t)

  pub record Starts (w : World) : Type 0 where
    pub nodes : (n : ℕ) → K.Fresh n (w.nodes n)
    pub links : (a b : ℕ) → w.links a b ≡ []

  abbrev pub Reached : List K.Turn → World → Type 0
  Reached [] v = Starts v
  Reached (t ∷ before) v = (w : World) × Reached before w × Goes w t v

  abbrev pub events : List K.Turn → List Noted
  events h = map (λ (t : K.Turn). K.event t) h

  -- ys begins with xs
  abbrev pub Begins : List K.Letter → List K.Letter → Type 0
  Begins xs ys = (rest : List K.Letter) × (xs ++ rest ≡ ys)

  -- the letters that the turns posted on a link, and those that they took from it, the first one first
  abbrev pub posted_on : ℕ → ℕ → List K.Turn → List K.Letter
  posted_on a b [] = []
  posted_on a b (t ∷ before) = posted_on a b before ++ for_link a b (K.posted t)

  abbrev pub taken_on : ℕ → ℕ → List K.Turn → List K.Letter
  taken_on a b [] = []
  taken_on a b (t ∷ before) = taken_on a b before ++ at_front (K.taken t) a b

  -- on each link what was taken was posted before, in its order
  abbrev pub Carried : List K.Turn → Type 0
  Carried [] = Unit {0}
  Carried (t ∷ before) = ((a b : ℕ) → Begins (taken_on a b (t ∷ before)) (posted_on a b before)) × Carried before

  -- each letter goes out from its turn's node with the turn's stamp, and comes in at the node with a smaller one
  pub record Marked (t : K.Turn) : Type 0 where
    pub posted : Each (λ l. (K.from l ≡ (K.event t).node) × (K.stamp l ≡ (K.event t).stamp)) (K.posted t)
    pub taken : IfSome (K.taken t) (λ l. (K.to l ≡ (K.event t).node) × (K.stamp l < (K.event t).stamp))

  -- the turns of one node
  abbrev pub own : ℕ → List K.Turn → List K.Turn
  own n [] = []
  own n (t ∷ before) = cond ((K.event t).node == n) (t ∷ own n before) (own n before)

  -- from a fresh node these turns lead to this: its state is what its own turns make of it
  abbrev pub Alone : ℕ → List K.Turn → K.Local → Type 0
  Alone n [] new = K.Fresh n new
  Alone n (t ∷ before) new = (old : K.Local) × Alone n before old × K.Makes n old t new

  -- what the nodes did, each by itself, and what then lies on the links
  pub record Did (turns : ℕ → List K.Turn) (w : World) : Type 0 where
    pub nodes : (n : ℕ) → Alone n (turns n) (w.nodes n)
    pub links : (a b : ℕ) → taken_on a b (turns b) ++ w.links a b ≡ posted_on a b (turns a)

  -- these events are those of turns that lead to w, each node's own turns in their order, and whose letters the links carried
  pub record Woven (turns : ℕ → List K.Turn) (es : List Noted) (w : World) : Type 0 where
    pub all : List K.Turn
    pub events_are : events all ≡ es
    pub own_are : (n : ℕ) → own n all ≡ turns n
    pub reached : Reached all w
    pub carried : Carried all
    pub marked : Each (λ t. Marked t) all

  -- what a weave asks of a step: the turn is its node's, it raises the node's clock to its stamp, and it marks its letters
  pub record Keeps : Type 0 where
    pub node : (n : ℕ) (old : K.Local) (t : K.Turn) (new : K.Local) → K.Makes n old t new → (K.event t).node ≡ n
    pub rises : (n : ℕ) (old : K.Local) (t : K.Turn) (new : K.Local) → K.Makes n old t new → K.clock old < (K.event t).stamp
    pub clock : (n : ℕ) (old : K.Local) (t : K.Turn) (new : K.Local) → K.Makes n old t new → K.clock new ≡ (K.event t).stamp
    pub marked : (n : ℕ) (old : K.Local) (t : K.Turn) (new : K.Local) → K.Makes n old t new → Marked t
