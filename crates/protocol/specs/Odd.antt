-- Odd letters: a node skips them and counts them, and nothing else of it changes, not even its clock. In runs of bounded journals there are none.
use Rattle.std.specs.Prelude.{◌≡◌, ℕ, ◌≤◌, ◌⊎◌, List, [], ◌∷◌, IfSome}
use Rattle.protocol.specs.Ops.{Ops}
use Rattle.protocol.specs.Notes.{Note, Move, Post, Turn, Local}
use Rattle.protocol.specs.Does.{Unfit, next_stamp}
use Rattle.protocol.specs.Cluster.{World, Reached}

-- stamps are below this, and so are the hops of a context that moves
abbrev pub stamp_end : ℕ
stamp_end = 1099511627776

abbrev pub hops_end : ℕ
hops_end = 4294967295

module _ (O : Ops) where
  abbrev pub ManyHops : Note O → Type 0
  ManyHops (Move p u hops line) = hops_end ≤ hops
  ManyHops _ = ⊥

  -- its stamp or its hops are at their end, its target is no node of the cluster, or it does not fit and the node's clock is at its end
  abbrev pub IsOdd : ℕ → Local O → Post O → Type 0
  IsOdd n old l = (stamp_end ≤ l.stamp) ⊎ ((O.nodes ≤ l.to) ⊎ (ManyHops l.note ⊎ ((stamp_end ≤ old.clock) × Unfit O n l.from old l.note)))

  -- the turn that takes it
  pub record SkipsOdd (n : ℕ) (old : Local O) (l : Post O) (new : Local O) : Type 0 where
    pub odd : IsOdd n old l
    pub same : new ≡ old

  -- what every other turn of a node keeps besides: its stamp is exactly one more than the clock and the letter's, and its letter is not odd
  pub record Timely (n : ℕ) (old : Local O) (t : Turn O) : Type 0 where
    pub stamp_is : t.event.stamp ≡ next_stamp O old.clock t.taken
    pub usual : IfSome t.taken (λ l. IsOdd n old l → ⊥)

  abbrev pub Timed : (h : List (Turn O)) (w : World O) → Reached O h w → Type 0
  Timed [] w r = Unit {0}
  Timed (t ∷ before) w r = Timely t.event.node (r.0.nodes t.event.node) t × Timed before r.0 r.1
