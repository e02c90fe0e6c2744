-- What home does: the call itself, the taking of a signal, the pokes.
use Rattle.std.specs.Prelude.{◌≡◌, ◌≢◌, ℕ, ◌+◌, ◌<◌, ◌≤◌, ◌==◌, ◌⊎◌, nat_lt, ◌&&◌, Bool, true, false, not, cond, Option, Some, None, List, ◌∷◌, ℤ, []}
use Rattle.protocol.specs.Ops.{Ops, Acted, is_child}
use Rattle.protocol.specs.Deeds.{Manner, Did, Broke, Fell, Paused}
use Rattle.protocol.specs.Notes.{Believed, is_some, Done, Poke, NoMove, Post, letter, Body, Called, Slot}
use Rattle.call_table.specs.declared.process.End.{End}

-- one pid or two, the lower first, and each once
abbrev pub in_order : Bool → Bool → ℕ → ℕ → List ℕ
in_order true same q r = q ∷ r ∷ []
in_order false true q r = q ∷ []
in_order false false q r = r ∷ q ∷ []

abbrev pub both : Option ℕ → Option ℕ → List ℕ
both None None = []
both None (Some r) = r ∷ []
both (Some q) None = q ∷ []
both (Some q) (Some r) = in_order (nat_lt q r) (q == r) q r

-- another process than p
abbrev pub other_than : ℕ → Option ℕ → Option ℕ
other_than p None = None
other_than p (Some q) = cond (q == p) None (Some q)

-- how many of these are live
abbrev pub live_of : (ℕ → Bool) → List ℕ → ℕ
live_of live [] = 0
live_of live (p ∷ ps) = cond (live p) (live_of live ps + 1) (live_of live ps)

module _ (O : Ops) where
  -- the pid was given, and its process lives no more
  pub record HasEnded (k : O.Kernel) (p : ℕ) : Type 0 where
    pub given : (1 ≤ p) × (p ≤ O.count k)
    pub dead : O.live k p ≡ false

  -- the pid was given, of so many
  abbrev pub Given : ℕ → ℕ → Type 0
  Given count p = (1 ≤ p) × (p ≤ count)

  -- the pid was never given
  abbrev pub NeverGiven : O.Kernel → ℕ → Type 0
  NeverGiven k p = (p ≡ 0) ⊎ (O.count k < p)

  abbrev pub UnsentFor : Bool → O.Kernel → ℕ → Type 0
  UnsentFor true k p = NeverGiven k p
  UnsentFor false k p = HasEnded k p

  -- what a return does to a context
  abbrev pub give : O.User → Option O.Answer → O.User
  give u None = u
  give u (Some a) = O.given u a

  abbrev pub enter : O.User → Option O.Taken → O.User
  enter u None = u
  enter u (Some t) = O.entered u t

  -- the answer of a reply is none exactly after a `heed` and for a fault
  abbrev pub forwards : Option O.Request → Bool
  forwards None = false
  forwards (Some r) = not (O.number r == 0)

  abbrev pub fits_given : Bool → O.User → Option O.Answer → Bool
  fits_given true u None = true
  fits_given true u (Some a) = false
  fits_given false u None = not (forwards (O.asks u))
  fits_given false u (Some a) = forwards (O.asks u) && O.fits_answer u a

  abbrev pub fits_entered : O.User → Option O.Taken → Bool
  fits_entered u None = true
  fits_entered u (Some t) = O.fits_taken u t

  -- what comes fits a context that waits for its call, or for its pause: its answer, and then the signal that is taken
  abbrev pub fits_done : Bool → O.User → Done O → Bool
  fits_done pause u d = fits_given pause u d.answer && fits_entered (give u d.answer) d.taken

  abbrev pub after : O.User → Done O → O.User
  after u d = enter (give u d.answer) d.taken

  abbrev pub returned : Body O → Done O → Body O
  returned b d = record { user = after b.user d; hops = b.hops; poked = d.more }

  -- what home does: the call itself, and then the taking of a signal
  pub record First : Type 0 where
    pub kernel : O.Kernel
    pub answer : Option O.Answer
    pub child : Option ℕ
    pub raised : Option ℕ

  abbrev pub first_none : O.Kernel → First
  first_none k = record { kernel = k; answer = None; child = None; raised = None }

  pub record Last : Type 0 where
    pub kernel : O.Kernel
    pub taken : Option O.Taken
    pub signal : Option ℕ
    pub raised : Option ℕ

  abbrev pub last_by : Option ℕ → O.Kernel → ℕ → Bool → Last
  last_by None k p room = record { kernel = k; taken = None; signal = None; raised = None }
  last_by (Some s) k p room = record { kernel = (O.take k p room).kernel; taken = Some ((O.take k p room).taken); signal = Some s; raised = (O.take k p room).raised }

  abbrev pub last : O.Kernel → ℕ → Bool → Last
  last k p room = last_by (O.lowest k p) k p room

  abbrev pub Acts : Manner → O.Kernel → ℕ → O.Request → First → Type 0
  Acts Did k p r f = (d : Acted O.Kernel O.Answer) × (O.serve k p r ≡ Some d) × (O.number r ≢ 0) × (f ≡ record { kernel = d.kernel; answer = Some d.answer; child = d.child; raised = d.raised })
  Acts Broke k p r f = (s : ℕ) × (O.lowest k p ≡ Some s) × (O.serve k p r ≡ None) × (O.number r ≢ 0) × (f ≡ record { kernel = k; answer = Some O.broken; child = None; raised = None })
  Acts Fell k p r f = (O.number r ≡ 0) × (f ≡ record { kernel = (O.fall k p r).kernel; answer = None; child = None; raised = (O.fall k p r).raised })
  Acts Paused k p r f = ⊥

  abbrev pub done_of : ℕ → First → Last → Done O
  done_of p f l = record { answer = f.answer; child = f.child; taken = l.taken; ended = not (O.live l.kernel p); more = is_some (O.lowest l.kernel p) }

  abbrev pub value_of : Option O.Answer → Option ℤ
  value_of None = None
  value_of (Some a) = Some (O.value a)

  -- those to poke: the raised one, where it has a deliverable signal and no call of it is held
  abbrev pub unheld : Option (Called O) → Bool
  unheld None = true
  unheld (Some c) = false

  abbrev pub to_poke : O.Kernel → (ℕ → Slot O) → Option ℕ → Option ℕ
  to_poke k slots None = None
  to_poke k slots (Some q) = cond (is_some (O.lowest k q) && unheld (slots q).call) (Some q) None

  abbrev pub pokes : ℕ → (ℕ → Believed) → List ℕ → List (Post O)
  pokes s believed [] = []
  pokes s believed (q ∷ qs) = letter O 0 (believed q).place s (Poke q) ∷ pokes s believed qs

  abbrev pub line_closed : ℕ → ℕ → Option ℕ → List (Post O)
  line_closed n s None = []
  line_closed n s (Some line) = letter O n 0 s (NoMove line) ∷ []

  -- what home's kernel makes of a request
  pub record Answers (p : ℕ) (manner : Manner) (value : Option ℤ) (child signal : Option ℕ) (ends : Option End) (more room : Bool) (first : First) (old new : O.Kernel) : Type 0 where
    pub kernel : new ≡ (last first.kernel p room).kernel
    pub value_is : value ≡ value_of first.answer
    pub child_is : child ≡ first.child
    pub signal_is : signal ≡ (last first.kernel p room).signal
    pub end_is : ends ≡ O.end_of new p
    pub more_is : more ≡ is_some (O.lowest new p)

  abbrev pub born_at : ℕ → Option ℕ → (ℕ → Believed) → ℕ → Believed
  born_at from child believed q = cond (is_child child q) (record { place = from; hops = 0 }) (believed q)
