-- A move line that was carried out has its outcome, or a letter that asks for its move is under way, or a process moves for it.
use Rattle.std.proofs.Common.{◌≡◌, ◌≢◌, ℕ, ◌<◌, ◌≤◌, ◌==◌, ◌&&◌, ◌⊎◌, inl, inr, Bool, true, false, cond, Option, Some, None, List, [], ◌∷◌, ◌++◌, refl, sym, ap, ◌∙◌, subst, arith}
use Rattle.std.specs.Prelude.{ℤ, slice_get}
use Rattle.call_table.specs.declared.process.End.{End}
use Rattle.node_event.specs.declared.script.Order.TheVariants as order
use Rattle.node_event.specs.declared.script.ScriptLine.{ScriptLine}
use Rattle.std.proofs.lemmas.Bool.Decides.{leb_tells}
use lib.Dec.{leb}
use Rattle.protocol.specs.Ops.{Ops, Sound, is_child}
use Rattle.protocol.specs.Deeds.{ForLine, Chosen, Input, Text, Finish, Nothing, Manner, Did, Broke, Fell, Paused, KeptTold, Deed, Run, Kill, Bid, Unsent, Other, Steps, Sent, Heed, Held, Served, Got, Poked, Begin, Keep, Missed, Again, Allows, Denies, Depart, Stay, Land, Told, Refused, Closed, Gossips, Strange, Noted, pid_of, child_of}
use Rattle.protocol.specs.Notes.{Note, Call, Pause, Reply, Poke, Half, Go, NotHere, Ask, Allow, Deny, Move, Landed, NoMove, Post, Turn, Kept, Local}
use Rattle.protocol.specs.Spots.{Spot, Nowhere, Runs, Calls, Holds, Pauses, Answered, Asks, Granted, Denied, Travels, InReply, Ended}
use Rattle.protocol.specs.Does.{Does, ServedBy, Feeds, kept_told}
use Rattle.protocol.specs.Cluster.{World, for_link, at_front, Goes, events}
use Rattle.protocol.specs.Needs.{Needs, FreeAt}
use Rattle.protocol.proofs.Talk.{same_numbers, numbers_same, numbers_other, other_numbers}
use Rattle.protocol.proofs.Stand.{Step, Path}
use Rattle.run_laws.specs.Facts.{Facts, fact_own, fact_child, facts}
use Rattle.run_laws.specs.Outcomes.{outcome_line, ended_line, outcomes, counted_if}
use Rattle.run_laws.specs.ScriptLaw.{line_of, one_more, commands}
use Rattle.run_laws.specs.Ends.{IsCarried}
use Rattle.run_laws.proofs.Facts.{facts_of, kept_line, path_tells}
use Rattle.run_laws.proofs.Family.{NotTaken}
use Rattle.run_laws.proofs.Script.{path_follows}

some_line : (a b : ℕ) → Some a ≡ Some b → a ≡ b
some_line a b e = cc

counted_least : (b : Bool) (k : ℕ) → k ≤ counted_if b k
counted_least true k = omega arith
counted_least false k = omega arith

module _ (O : Ops) (S : Sound O) where
  abbrev pub asks_for : ℕ → Note O → Bool
  asks_for l (Call p r) = false
  asks_for l (Pause p r) = false
  asks_for l (Reply p d) = false
  asks_for l (Poke p) = false
  asks_for l (Half places) = false
  asks_for l (Go p to hops line) = line == l
  asks_for l (NotHere p to hops line) = line == l
  asks_for l (Ask p need) = false
  asks_for l (Allow p) = false
  asks_for l (Deny p need free) = false
  asks_for l (Move p u hops line) = false
  asks_for l (Landed p source hops line) = false
  asks_for l (NoMove line) = false

  -- one of these letters asks for the move of the line
  abbrev pub Bears : ℕ → List (Post O) → Type 0
  Bears l [] = ⊥
  Bears l (m ∷ ms) = (asks_for l m.note ≡ true) ⊎ Bears l ms

  bears_left : (l : ℕ) (xs ys : List (Post O)) → Bears l xs → Bears l (xs ++ ys)
  bears_left l [] ys x = absurd x
  bears_left l (m ∷ xs) ys (inl x) = inl x
  bears_left l (m ∷ xs) ys (inr x) = inr (bears_left l xs ys x)

  bears_right : (l : ℕ) (xs ys : List (Post O)) → Bears l ys → Bears l (xs ++ ys)
  bears_right l [] ys x = x
  bears_right l (m ∷ xs) ys x = inr (bears_right l xs ys x)

  bears_split : (l : ℕ) (xs ys : List (Post O)) → Bears l (xs ++ ys) → Bears l xs ⊎ Bears l ys
  bears_split l [] ys x = inr x
  bears_split l (m ∷ xs) ys (inl x) = inl (inl x)
  bears_split l (m ∷ xs) ys (inr x) = go (bears_split l xs ys x)
    where
      go : Bears l xs ⊎ Bears l ys → ((asks_for l m.note ≡ true) ⊎ Bears l xs) ⊎ Bears l ys
      go (inl y) = inl (inr y)
      go (inr y) = inr y

  bears_front : (l : ℕ) (o : Option (Post O)) (a b : ℕ) → NotTaken O (asks_for l) o → Bears l (at_front O o a b) → ⊥
  bears_front l None a b off x = x
  bears_front l (Some m) a b off x = go ((a == m.from) && (b == m.to)) x
    where
      go : (k : Bool) → Bears l (cond k (m ∷ []) []) → ⊥
      go true (inl e) = (let z : true ≡ false = sym e ∙ off in cc)
      go true (inr e) = e
      go false e = e

  abbrev pub OnWay : ℕ → World O → Type 0
  OnWay l w = (a : ℕ) × (b : ℕ) × Bears l (w.links a b)

  module _ (w : World O) (t : Turn O) (v : World O) (goes : Goes O w t v) (sp : ℕ → Spot O) (l : ℕ) where
    abbrev n : ℕ
    n = t.event.node

    abbrev old : Local O
    old = w.nodes t.event.node

    abbrev new : Local O
    new = v.nodes t.event.node

    way_stays : (taken : Option (Post O)) → t.taken ≡ taken → NotTaken O (asks_for l) taken → OnWay l w → OnWay l v
    way_stays taken e off (a, b, x) = (a, b, subst (Bears l) (sym (goes.posts a b)) (bears_left l (goes.rest a b) (for_link O a b t.posted) (go (bears_split l (at_front O t.taken a b) (goes.rest a b) (subst (Bears l) (goes.takes a b) x)))))
      where
        go : Bears l (at_front O t.taken a b) ⊎ Bears l (goes.rest a b) → Bears l (goes.rest a b)
        go (inl y) = absurd (bears_front l taken a b off (subst (λ (o : Option (Post O)). Bears l (at_front O o a b)) e y))
        go (inr y) = y

    way_posts : (m : Post O) (ms : List (Post O)) → t.posted ≡ m ∷ ms → asks_for l m.note ≡ true → OnWay l v
    way_posts m ms e is = (m.from, m.to, subst (Bears l) (sym (goes.posts m.from m.to)) (bears_right l (goes.rest m.from m.to) (for_link O m.from m.to t.posted) (subst (λ (ls : List (Post O)). Bears l (for_link O m.from m.to ls)) (sym e) here)))
      where
        here : Bears l (for_link O m.from m.to (m ∷ ms))
        here = subst (λ (k : Bool). Bears l (cond k (m ∷ for_link O m.from m.to ms) (for_link O m.from m.to ms))) (sym on) (inl is)
          where
            on : ((m.from == m.from) && (m.to == m.to)) ≡ true
            on = rw (same_numbers m.from m.from refl, same_numbers m.to m.to refl) refl

    -- after an event of a process with these facts the line is settled, or a letter is under way, or the process moves for it
    abbrev After : Deed → Facts → Type 0
    After what f = (outcome_line what f ≡ Some l) ⊎ (OnWay l v ⊎ ((fact_own what n f).line ≡ Some l))

    stays : (what : Deed) (f : Facts) (taken : Option (Post O)) → t.taken ≡ taken → NotTaken O (asks_for l) taken → OnWay l w → After what f
    stays what f taken e off x = inr (inl (way_stays taken e off x))

    -- the letter of this line is taken, or that of another one
    meets : (what : Deed) (f : Facts) (line : ℕ) (taken : Option (Post O)) → t.taken ≡ taken → ((line == l) ≡ false → NotTaken O (asks_for l) taken) → (line ≡ l → After what f) → OnWay l w → After what f
    meets what f line taken e off when x = go (line == l) refl
      where
        go : (b : Bool) → (line == l) ≡ b → After what f
        go true z = when (numbers_same line l z)
        go false z = stays what f taken e (off z) x

    served_way : (manner : Manner) (p : ℕ) (number : Option ℕ) (value : Option ℤ) (child signal : Option ℕ) (ends : Option End) (more : Bool) (poked : List ℕ) (f : Facts) → ServedBy O manner n p number value child signal ends more poked old t new → OnWay l w → After (Served p manner number value child signal ends more poked) f
    served_way Did p number value child signal ends more poked f (inl d) x = stays (Served p Did number value child signal ends more poked) f _ d.base.took refl x
    served_way Did p number value child signal ends more poked f (inr d) x = stays (Served p Did number value child signal ends more poked) f _ d.base.took tt x
    served_way Broke p number value child signal ends more poked f (inl d) x = stays (Served p Broke number value child signal ends more poked) f _ d.base.took refl x
    served_way Broke p number value child signal ends more poked f (inr d) x = stays (Served p Broke number value child signal ends more poked) f _ d.base.took tt x
    served_way Fell p number value child signal ends more poked f d x = stays (Served p Fell number value child signal ends more poked) f _ d.base.took refl x
    served_way Paused p number value child signal ends more poked f d x = stays (Served p Paused number value child signal ends more poked) f _ d.base.took refl x

    way_next : (what : Deed) (f : Facts) (r : Spot O) → Does O what n old t new → Needs O what n old new (sp (pid_of what)) r → OnWay l w → After what f
    way_next (Run line i p) f r d need x = stays (Run line i p) f _ d.base.took tt x
    way_next (Kill line p g poked) f r d need x = stays (Kill line p g poked) f _ d.base.took tt x
    way_next (Bid line p to) f r d need x = stays (Bid line p to) f _ d.base.took tt x
    way_next (Unsent line p never) f r d need x = stays (Unsent line p never) f _ d.base.took tt x
    way_next (Other line input) f r d need x = stays (Other line input) f _ d.base.took tt x
    way_next (Steps p k) f r d need x = stays (Steps p k) f _ d.base.took tt x
    way_next (Sent p k) f r d need x = stays (Sent p k) f _ d.base.took tt x
    way_next (Heed p) f r d need x = stays (Heed p) f _ d.base.took tt x
    way_next (Held p k) f r d need x = stays (Held p k) f _ d.base.took refl x
    way_next (Served p manner number value child signal ends more poked) f r d need x = served_way manner p number value child signal ends more poked f d x
    way_next (Got p child ended kept) f r d need x = stays (Got p child ended kept) f _ d.base.took refl x
    way_next (Poked p true) f r d need x = stays (Poked p true) f _ d.base.took refl x
    way_next (Poked p false) f r d need x = stays (Poked p false) f _ d.base.took refl x
    way_next (Begin p to (ForLine line)) f r d need x = meets (Begin p to (ForLine line)) f line _ d.base.took (λ z. z) (λ z. inr (inr (ap (λ (k : ℕ). Some k) z))) x
    way_next (Begin p to (Chosen false other)) f r d need x = stays (Begin p to (Chosen false other)) f _ d.base.took tt x
    way_next (Begin p to (Chosen true other)) f r d need x = stays (Begin p to (Chosen true other)) f _ d.base.took refl x
    way_next (Keep p to line) f r d need x = meets (Keep p to line) f line _ d.base.took (λ z. z) (λ z. inr (inr (ap (λ (k : ℕ). Some k) z))) x
    way_next (Missed p to line) f r d need x = meets (Missed p to line) f line _ d.base.took (λ z. z) (λ z. inr (inl (way_posts _ _ d.base.posts (same_numbers line l z)))) x
    way_next (Again p to place line) f r d need x = meets (Again p to place line) f line _ d.base.took (λ z. z) (λ z. inr (inl (way_posts _ _ d.base.posts (same_numbers line l z)))) x
    way_next (Allows p from load) f r d need x = stays (Allows p from load) f _ d.base.took refl x
    way_next (Denies p from load free) f r d need x = stays (Denies p from load free) f _ d.base.took refl x
    way_next (Depart p to) f r d need x = stays (Depart p to) f _ d.base.took refl x
    way_next (Stay p to load free) f r d need x = stays (Stay p to load free) f _ d.base.took refl x
    way_next (Land p source) f r d need x = stays (Land p source) f _ d.base.took refl x
    way_next (Told p at source hops line poked) f r d need x = stays (Told p at source hops line poked) f _ d.base.took refl x
    way_next (Refused p to why line) f r (inl d) need x = meets (Refused p to why line) f line _ d.base.took (λ z. z) (λ z. inl (ap (λ (k : ℕ). Some k) z)) x
    way_next (Refused p to why line) f r (inr d) need x = meets (Refused p to why line) f line _ d.base.took (λ z. z) (λ z. inl (ap (λ (k : ℕ). Some k) z)) x
    way_next (Closed line) f r d need x = stays (Closed line) f _ d.base.took refl x
    way_next (Gossips false other) f r d need x = stays (Gossips false other) f _ d.base.took tt x
    way_next (Gossips true other) f r d need x = stays (Gossips true other) f _ d.base.took refl x
    way_next (Strange p) f r d need x = absurd need

    -- a running context moves for no line, nor does one that waits without a kept move
    free_line : (s : Spot O) → FreeAt O n s → (facts_of O S s).line ≡ None
    free_line Nowhere a = absurd a
    free_line (Runs m b) a = absurd a
    free_line (Calls m b k r) a = ap kept_line a.1
    free_line (Holds m b k r) a = ap kept_line a.1
    free_line (Pauses m b k r) a = ap kept_line a.1
    free_line (Answered m b k d x y) a = ap kept_line a.1
    free_line (Asks m b to k need) a = absurd a
    free_line (Granted m b to k need) a = absurd a
    free_line (Denied m b to k need free) a = absurd a
    free_line (Travels z c b k need) a = absurd a
    free_line (InReply q u) a = absurd a
    free_line (Ended u) a = absurd a

    none : (what : Deed) (f : Facts) (s : Spot O) → f ≡ facts_of O S s → (facts_of O S s).line ≡ None → f.line ≡ Some l → After what f
    none what f s e off x = let z : None ≡ Some l = sym off ∙ (sym (ap (λ (k : Facts). k.line) e) ∙ x) in absurd cc

    got_line : (p : ℕ) (child : Option ℕ) (ended : Bool) (kept : Option KeptTold) (f : Facts) (keeps : Option Kept) → kept ≡ kept_told O keeps ended → f.line ≡ kept_line keeps → f.line ≡ Some l → After (Got p child ended kept) f
    got_line p child ended kept f None e g x = let z : None ≡ Some l = sym g ∙ x in absurd cc
    got_line p child true kept f (Some k) e g x = inl (ap (λ (y : Option KeptTold). ended_line y f.line) e ∙ x)
    got_line p child false kept f (Some k) e g x = inr (inr x)

    own_next : (what : Deed) (f : Facts) (r : Spot O) → f ≡ facts_of O S (sp (pid_of what)) → Needs O what n old new (sp (pid_of what)) r → f.line ≡ Some l → After what f
    own_next (Run line i p) f r e need x = inr (inr x)
    own_next (Kill line p g poked) f r e need x = inr (inr x)
    own_next (Bid line p to) f r e need x = inr (inr x)
    own_next (Unsent line p never) f r e need x = inr (inr x)
    own_next (Other line input) f r e need x = inr (inr x)
    own_next (Steps p k) f r e need x = inr (inr x)
    own_next (Sent p k) f r e need x = none (Sent p k) f (Runs n need.is.body) (e ∙ ap (facts_of O S) need.is.was) refl x
    own_next (Heed p) f r e need x = none (Heed p) f (Runs n need.is.body) (e ∙ ap (facts_of O S) need.is.was) refl x
    own_next (Held p k) f r e need x = inr (inr x)
    own_next (Served p manner number value child signal ends more poked) f r e need x = inr (inr x)
    own_next (Got p child ended kept) f r e need x = got_line p child ended kept f need.is.keeps (need.is.kept_is ∙ ap (kept_told O need.is.keeps) (sym need.is.ended_is)) (ap (λ (k : Facts). k.line) (e ∙ ap (facts_of O S) need.is.was)) x
    own_next (Poked p used) f r e need x = inr (inr x)
    own_next (Begin p to reason) f r e need x = none (Begin p to reason) f (Runs n need.is.body) (e ∙ ap (facts_of O S) need.is.was) refl x
    own_next (Keep p to line) f r e need x = none (Keep p to line) f (sp p) e (free_line (sp p) need.is.free) x
    own_next (Missed p to line) f r e need x = inr (inr x)
    own_next (Again p to place line) f r e need x = inr (inr x)
    own_next (Allows p from load) f r e need x = inr (inr x)
    own_next (Denies p from load free) f r e need x = inr (inr x)
    own_next (Depart p to) f r e need x = inr (inr x)
    own_next (Stay p to load free) f r e need x = inl x
    own_next (Land p source) f r e need x = inl x
    own_next (Told p at source hops line poked) f r e need x = inr (inr x)
    own_next (Refused p to why line) f r e need x = inr (inr x)
    own_next (Closed line) f r e need x = inr (inr x)
    own_next (Gossips heard other) f r e need x = inr (inr x)
    own_next (Strange p) f r e need x = absurd need

    line_is : (a b : ScriptLine) (o : Option ScriptLine) → o ≡ Some a → o ≡ Some b → a ≡ b
    line_is a b o e f = cc

    -- the command of a move line posts its letter, or is its outcome
    tried_next : (what : Deed) (f : Facts) → Does O what n old t new → (x p to : ℕ) → line_of what ≡ Some x → slice_get O.script old.progress.done ≡ Some (record { line = l; order = order.Move p to }) → After what f
    tried_next (Bid line q at) f d x p to e is = let same = line_is _ _ _ d.order.next is in inr (inl (way_posts _ _ d.base.posts (same_numbers line l (ap (λ (s : ScriptLine). s.line) same))))
    tried_next (Unsent line q never) f d x p to e is = let same = line_is _ _ _ d.order.next is in inl (ap (λ (s : ScriptLine). Some s.line) same)
    tried_next (Run line i q) f d x p to e is = let same = ap (λ (s : ScriptLine). s.order) (line_is _ _ _ d.order.next is) in absurd cc
    tried_next (Kill line q g poked) f d x p to e is = let same = ap (λ (s : ScriptLine). s.order) (line_is _ _ _ d.order.next is) in absurd cc
    tried_next (Other line input) f d x p to e is = absurd (fed input (subst (Feeds O input) (ap (λ (s : ScriptLine). s.order) (line_is _ _ _ d.order.next is)) d.suits))
      where
        fed : (i : Input) → Feeds O i (order.Move p to) → ⊥
        fed (Text i) z = z
        fed Finish z = z
        fed Nothing z = z
    tried_next (Steps q k) f d x p to e is = absurd cc
    tried_next (Sent q k) f d x p to e is = absurd cc
    tried_next (Heed q) f d x p to e is = absurd cc
    tried_next (Held q k) f d x p to e is = absurd cc
    tried_next (Served q manner number value child signal ends more poked) f d x p to e is = absurd cc
    tried_next (Got q child ended kept) f d x p to e is = absurd cc
    tried_next (Poked q used) f d x p to e is = absurd cc
    tried_next (Begin q at reason) f d x p to e is = absurd cc
    tried_next (Keep q at line) f d x p to e is = absurd cc
    tried_next (Missed q at line) f d x p to e is = absurd cc
    tried_next (Again q at place line) f d x p to e is = absurd cc
    tried_next (Allows q from load) f d x p to e is = absurd cc
    tried_next (Denies q from load free) f d x p to e is = absurd cc
    tried_next (Depart q at) f d x p to e is = absurd cc
    tried_next (Stay q at load free) f d x p to e is = absurd cc
    tried_next (Land q source) f d x p to e is = absurd cc
    tried_next (Told q at source hops line poked) f d x p to e is = absurd cc
    tried_next (Refused q at why line) f d x p to e is = absurd cc
    tried_next (Closed line) f d x p to e is = absurd cc
    tried_next (Gossips heard other) f d x p to e is = absurd cc
    tried_next (Strange q) f d x p to e is = absurd cc

  -- where a line is that was carried out
  abbrev pub Somewhere : ℕ → List Noted → World O → Type 0
  Somewhere l es w = (1 ≤ outcomes l es) ⊎ (OnWay l w ⊎ ((q : ℕ) × ((facts q es).line ≡ Some l)))

  child_line : (what : Deed) (n : ℕ) (f : Facts) → (fact_child what n f).line ≡ f.line
  child_line (Served p manner number value child signal ends more poked) n f = refl
  child_line (Got p child ended kept) n f = refl
  child_line (Run line i p) n f = refl
  child_line (Kill line p g poked) n f = refl
  child_line (Bid line p to) n f = refl
  child_line (Unsent line p never) n f = refl
  child_line (Other line input) n f = refl
  child_line (Steps p k) n f = refl
  child_line (Sent p k) n f = refl
  child_line (Heed p) n f = refl
  child_line (Held p k) n f = refl
  child_line (Poked p used) n f = refl
  child_line (Begin p to reason) n f = refl
  child_line (Keep p to line) n f = refl
  child_line (Missed p to line) n f = refl
  child_line (Again p to place line) n f = refl
  child_line (Allows p from need) n f = refl
  child_line (Denies p from need free) n f = refl
  child_line (Depart p to) n f = refl
  child_line (Stay p to need free) n f = refl
  child_line (Land p source) n f = refl
  child_line (Told p at source hops line poked) n f = refl
  child_line (Refused p to why line) n f = refl
  child_line (Closed line) n f = refl
  child_line (Gossips heard other) n f = refl
  child_line (Strange p) n f = refl

  module _ (h : List (Turn O)) (w : World O) (t : Turn O) (v : World O) (sp next : ℕ → Spot O) (path : Path O S h sp w) (st : Step O S sp w t next v) (l : ℕ) where
    abbrev es : List Noted
    es = events O h

    abbrev p : ℕ
    p = pid_of t.event.what

    abbrev f : Facts
    f = facts (pid_of t.event.what) (events O h)

    own_line : (facts p (t.event ∷ es)).line ≡ (fact_own t.event.what t.event.node f).line
    own_line = ap (λ (b : Bool). (cond b (fact_own t.event.what t.event.node f) (cond (is_child (child_of t.event.what) p) (fact_child t.event.what t.event.node f) f)).line) (same_numbers p p refl)

    settles : After w t v st.goes sp l t.event.what f → Somewhere l (t.event ∷ es) v
    settles (inl e) = inl (subst (λ (o : Option ℕ). 1 ≤ counted_if (is_child o l) (outcomes l es)) (sym e) (subst (λ (b : Bool). 1 ≤ counted_if b (outcomes l es)) (sym (same_numbers l l refl)) (omega arith)))
    settles (inr (inl x)) = inr (inl x)
    settles (inr (inr x)) = inr (inr (p, own_line ∙ x))

    other_line : (q : ℕ) → q ≢ p → (facts q (t.event ∷ es)).line ≡ (facts q es).line
    other_line q ne = ap (λ (b : Bool). (cond b (fact_own t.event.what t.event.node (facts q es)) (cond (is_child (child_of t.event.what) q) (fact_child t.event.what t.event.node (facts q es)) (facts q es))).line) (other_numbers q p ne) ∙ go (is_child (child_of t.event.what) q)
      where
        go : (b : Bool) → (cond b (fact_child t.event.what t.event.node (facts q es)) (facts q es)).line ≡ (facts q es).line
        go true = child_line t.event.what t.event.node (facts q es)
        go false = refl

    somewhere_next : Somewhere l es w → Somewhere l (t.event ∷ es) v
    somewhere_next (inl e) = inl (omega (arith, e, counted_least (is_child (outcome_line t.event.what f) l) (outcomes l es)))
    somewhere_next (inr (inl x)) = settles (way_next w t v st.goes sp l t.event.what f st.own st.goes.makes.does st.needs x)
    somewhere_next (inr (inr (q, x))) = go (q == p) refl
      where
        go : (b : Bool) → (q == p) ≡ b → Somewhere l (t.event ∷ es) v
        go true e = settles (own_next w t v st.goes sp l t.event.what f st.own (path_tells O S h sp w path p) st.needs (subst (λ (k : ℕ). (facts k es).line ≡ Some l) (numbers_same q p e) x))
        go false e = inr (inr (q, other_line q (numbers_other q p e) ∙ x))

    -- the command that is carried out now
    now : (q to : ℕ) (o : Option ℕ) → line_of t.event.what ≡ o → commands es < one_more o (commands es) → slice_get O.script (w.nodes t.event.node).progress.done ≡ Some (record { line = l; order = order.Move q to }) → Somewhere l (t.event ∷ es) v
    now q to None e less is = absurd (omega (arith, less))
    now q to (Some x) e less is = settles (tried_next w t v st.goes sp l t.event.what f st.goes.makes.does x q to e is)

  command_home : (w : World O) (t : Turn O) (v : World O) (what : Deed) → Does O what t.event.node (w.nodes t.event.node) t (v.nodes t.event.node) → (x : ℕ) → line_of what ≡ Some x → t.event.node ≡ 0
  command_home w t v (Run line i q) d x e = d.home
  command_home w t v (Kill line q g poked) d x e = d.home
  command_home w t v (Bid line q to) d x e = d.home
  command_home w t v (Unsent line q never) d x e = d.home
  command_home w t v (Other line input) d x e = d.home
  command_home w t v (Steps q k) d x e = absurd cc
  command_home w t v (Sent q k) d x e = absurd cc
  command_home w t v (Heed q) d x e = absurd cc
  command_home w t v (Held q k) d x e = absurd cc
  command_home w t v (Served q manner number value child signal ends more poked) d x e = absurd cc
  command_home w t v (Got q child ended kept) d x e = absurd cc
  command_home w t v (Poked q used) d x e = absurd cc
  command_home w t v (Begin q at reason) d x e = absurd cc
  command_home w t v (Keep q at line) d x e = absurd cc
  command_home w t v (Missed q at line) d x e = absurd cc
  command_home w t v (Again q at place line) d x e = absurd cc
  command_home w t v (Allows q from load) d x e = absurd cc
  command_home w t v (Denies q from load free) d x e = absurd cc
  command_home w t v (Depart q at) d x e = absurd cc
  command_home w t v (Stay q at load free) d x e = absurd cc
  command_home w t v (Land q source) d x e = absurd cc
  command_home w t v (Told q at source hops line poked) d x e = absurd cc
  command_home w t v (Refused q at why line) d x e = absurd cc
  command_home w t v (Closed line) d x e = absurd cc
  command_home w t v (Gossips heard other) d x e = absurd cc
  command_home w t v (Strange q) d x e = absurd cc

  carried_next : (h : List (Turn O)) (w : World O) (t : Turn O) (v : World O) (sp next : ℕ → Spot O) → Path O S h sp w → Step O S sp w t next v → (l p to : ℕ) → (IsCarried O l p to (events O h) → Somewhere l (events O h) w) → IsCarried O l p to (t.event ∷ events O h) → Somewhere l (t.event ∷ events O h) v
  carried_next h w t v sp next path st l p to before c = go (leb_tells (commands (events O h)) c.index)
    where
      last : (o : Option ℕ) → line_of t.event.what ≡ o → c.index < one_more o (commands (events O h)) → commands (events O h) ≤ c.index → Somewhere l (t.event ∷ events O h) v
      last None e less most = absurd (omega (arith, less, most))
      last (Some x) e less most =
          let home : t.event.node ≡ 0 = command_home w t v t.event.what st.goes.makes.does x e in
          let same : c.index ≡ commands (events O h) = omega (arith, less, most) in
          let done : (w.nodes t.event.node).progress.done ≡ c.index = ap (λ (k : ℕ). (w.nodes k).progress.done) home ∙ ((path_follows O S h sp w path).done ∙ sym same) in
          now h w t v sp next path st l p to (Some x) e (omega arith) (ap (slice_get O.script) done ∙ c.is)

      go : ((leb (commands (events O h)) c.index ≡ true) × (commands (events O h) ≤ c.index)) ⊎ ((leb (commands (events O h)) c.index ≡ false) × (c.index < commands (events O h))) → Somewhere l (t.event ∷ events O h) v
      go (inl x) = last (line_of t.event.what) refl c.before x.1
      go (inr x) = somewhere_next h w t v sp next path st l (before (record { index = c.index; before = x.1; is = c.is }))

  pub path_carried : (h : List (Turn O)) (sp : ℕ → Spot O) (w : World O) → Path O S h sp w → (l p to : ℕ) → IsCarried O l p to (events O h) → Somewhere l (events O h) w
  path_carried [] sp w r l p to c = absurd (omega (arith, c.before))
  path_carried (t ∷ h) sp v r l p to c = carried_next h r.0 t v r.1 sp r.2 r.4 l p to (path_carried h r.1 r.0 r.2 l p to) c
