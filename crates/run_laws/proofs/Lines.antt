-- Each move line has at most one outcome: its errand is in one place, and is settled once.
use Rattle.std.proofs.Common.{◌≡◌, ◌≢◌, ℕ, ◌+◌, ◌≤◌, ◌==◌, ◌⊎◌, inl, inr, Bool, true, false, cond, Option, Some, None, List, [], ◌∷◌, refl, sym, ap, ◌∙◌, subst, arith}
use Rattle.protocol.specs.Ops.{Ops, Sound, is_child}
use Rattle.protocol.specs.Deeds.{ForLine, Chosen, Manner, Did, Broke, Fell, Paused, Why, KeptTold, Deed, Run, Kill, Bid, Unsent, Other, Steps, Sent, Heed, Held, Served, Got, Poked, Begin, Keep, Missed, Again, Allows, Denies, Depart, Stay, Land, Told, Refused, Closed, Gossips, Strange, pid_of, child_of}
use Rattle.protocol.specs.Notes.{Note, Call, Pause, Reply, Poke, Half, Go, NotHere, Ask, Allow, Deny, Move, Landed, NoMove, Post, Turn, letter, Body, Kept, Local, Believed, Waiting, Asking, Way, way, Progress}
use Rattle.protocol.specs.Spots.{Spot, Travels}
use Rattle.protocol.specs.Cluster.{World, Goes}
use Rattle.protocol.specs.Does.{Does, ServedBy, got_posts, kept_told}
use Rattle.protocol.specs.Home.{pokes, line_closed, after}
use Rattle.protocol.specs.Needs.{Needs, born_spot}
use Rattle.protocol.specs.Cluster.{events}
use Rattle.run_laws.specs.Facts.{Facts, fact_own, facts}
use Rattle.run_laws.specs.Outcomes.{outcome_line, ended_line, outcomes, counted_if}
use Rattle.run_laws.proofs.Errands.{Errand, Untried, Going, Back, With, Reported, Closing, Over, settled, errand_way, of_line}
use Rattle.protocol.proofs.Talk.{same_numbers, other_numbers, numbers_same, numbers_other}
use Rattle.protocol.proofs.Process.{StateTells, context_tells, way_tells, took_way}
use Rattle.protocol.proofs.Own.{takes_in}
use Rattle.protocol.proofs.Coupling.{Part, Own, Child, Rest, part, at_own, at_child, at_rest}
use Rattle.protocol.proofs.Stand.{Stands, Step, Path}
use Rattle.run_laws.proofs.Facts.{facts_of, kept_line, own_facts, path_tells}
use Rattle.run_laws.proofs.Family.{NoneOf, NotTaken, Under, stays, goes_out, was_under, comes_in, turns}
use Rattle.std.specs.Prelude.{ℤ}
use Rattle.call_table.specs.declared.process.End.{End}

some_line : (a b : ℕ) → Some a ≡ Some b → a ≡ b
some_line a b e = cc

with_same : (a b : ℕ) → With a ≡ With b → a ≡ b
with_same a b e = cc

lines_same : {g h : Progress} → g ≡ h → g.line ≡ h.line
lines_same e = ap (λ (k : Progress). k.line) e

module _ (O : Ops) (S : Sound O) where
  -- a note of no line, and one of this line or of none
  abbrev pub NoLine : Note O → Type 0
  NoLine (Call p r) = Unit {0}
  NoLine (Pause p r) = Unit {0}
  NoLine (Reply p d) = Unit {0}
  NoLine (Poke p) = Unit {0}
  NoLine (Half places) = Unit {0}
  NoLine (Go p to hops line) = ⊥
  NoLine (NotHere p to hops line) = ⊥
  NoLine (Ask p need) = Unit {0}
  NoLine (Allow p) = Unit {0}
  NoLine (Deny p need free) = Unit {0}
  NoLine (Move p u hops line) = Unit {0}
  NoLine (Landed p source hops line) = line ≡ None
  NoLine (NoMove line) = ⊥

  abbrev pub OnlyLine : ℕ → Note O → Type 0
  OnlyLine l (Call p r) = Unit {0}
  OnlyLine l (Pause p r) = Unit {0}
  OnlyLine l (Reply p d) = Unit {0}
  OnlyLine l (Poke p) = Unit {0}
  OnlyLine l (Half places) = Unit {0}
  OnlyLine l (Go p to hops line) = line ≡ l
  OnlyLine l (NotHere p to hops line) = line ≡ l
  OnlyLine l (Ask p need) = Unit {0}
  OnlyLine l (Allow p) = Unit {0}
  OnlyLine l (Deny p need free) = Unit {0}
  OnlyLine l (Move p u hops line) = Unit {0}
  OnlyLine l (Landed p source hops line) = line ≡ Some l
  OnlyLine l (NoMove line) = line ≡ l

  no_line : (l : ℕ) (m : Note O) → NoLine m → of_line O l m ≡ false
  no_line l (Call p r) h = refl
  no_line l (Pause p r) h = refl
  no_line l (Reply p d) h = refl
  no_line l (Poke p) h = refl
  no_line l (Half places) h = refl
  no_line l (Go p to hops line) h = absurd h
  no_line l (NotHere p to hops line) h = absurd h
  no_line l (Ask p need) h = refl
  no_line l (Allow p) h = refl
  no_line l (Deny p need free) h = refl
  no_line l (Move p u hops line) h = refl
  no_line l (Landed p source hops line) h = ap (λ (o : Option ℕ). is_child o l) h
  no_line l (NoMove line) h = absurd h

  only_other : (l k : ℕ) (m : Note O) → OnlyLine l m → k ≢ l → of_line O k m ≡ false
  only_other l k (Call p r) h ne = refl
  only_other l k (Pause p r) h ne = refl
  only_other l k (Reply p d) h ne = refl
  only_other l k (Poke p) h ne = refl
  only_other l k (Half places) h ne = refl
  only_other l k (Go p to hops line) h ne = other_numbers line k (λ z. ne (sym z ∙ h))
  only_other l k (NotHere p to hops line) h ne = other_numbers line k (λ z. ne (sym z ∙ h))
  only_other l k (Ask p need) h ne = refl
  only_other l k (Allow p) h ne = refl
  only_other l k (Deny p need free) h ne = refl
  only_other l k (Move p u hops line) h ne = refl
  only_other l k (Landed p source hops line) h ne = ap (λ (o : Option ℕ). is_child o k) h ∙ other_numbers l k (λ z. ne (sym z))
  only_other l k (NoMove line) h ne = other_numbers line k (λ z. ne (sym z ∙ h))

  abbrev pub NoLines : List (Post O) → Type 0
  NoLines [] = Unit {0}
  NoLines (l ∷ ls) = NoLine l.note × NoLines ls

  abbrev pub NoLineIn : Option (Post O) → Type 0
  NoLineIn None = Unit {0}
  NoLineIn (Some l) = NoLine l.note

  abbrev pub OnlyLines : ℕ → List (Post O) → Type 0
  OnlyLines k [] = Unit {0}
  OnlyLines k (l ∷ ls) = OnlyLine k l.note × OnlyLines k ls

  abbrev pub OnlyIn : ℕ → Option (Post O) → Type 0
  OnlyIn k None = Unit {0}
  OnlyIn k (Some l) = OnlyLine k l.note

  no_lines : (k : ℕ) (ls : List (Post O)) → NoLines ls → NoneOf O (of_line O k) ls
  no_lines k [] h = tt
  no_lines k (l ∷ ls) h = (no_line k l.note h.0, no_lines k ls h.1)

  no_in : (k : ℕ) (o : Option (Post O)) → NoLineIn o → NotTaken O (of_line O k) o
  no_in k None h = tt
  no_in k (Some l) h = no_line k l.note h

  only_lines : (l k : ℕ) (ls : List (Post O)) → OnlyLines l ls → k ≢ l → NoneOf O (of_line O k) ls
  only_lines l k [] h ne = tt
  only_lines l k (m ∷ ls) h ne = (only_other l k m.note h.0 ne, only_lines l k ls h.1 ne)

  only_in : (l k : ℕ) (o : Option (Post O)) → OnlyIn l o → k ≢ l → NotTaken O (of_line O k) o
  only_in l k None h ne = tt
  only_in l k (Some m) h ne = only_other l k m.note h ne

  pokes_none : (s : ℕ) (believed : ℕ → Believed) (qs : List ℕ) → NoLines (pokes O s believed qs)
  pokes_none s believed [] = tt
  pokes_none s believed (q ∷ qs) = (tt, pokes_none s believed qs)

  -- what a letter under way tells of its errand
  abbrev pub ErrandTells : Note O → ℕ → ℕ → Errand → Type 0
  ErrandTells (Call p r) a b e = ⊥
  ErrandTells (Pause p r) a b e = ⊥
  ErrandTells (Reply p d) a b e = ⊥
  ErrandTells (Poke p) a b e = ⊥
  ErrandTells (Half places) a b e = ⊥
  ErrandTells (Go p to h line) a b e = (e ≡ Going b p to h) × (a ≡ 0)
  ErrandTells (NotHere p to h line) a b e = e ≡ Back a p to h
  ErrandTells (Ask p need) a b e = ⊥
  ErrandTells (Allow p) a b e = ⊥
  ErrandTells (Deny p need free) a b e = ⊥
  ErrandTells (Move p u h line) a b e = ⊥
  ErrandTells (Landed p s h line) a b e = e ≡ Reported a p s h
  ErrandTells (NoMove line) a b e = e ≡ Closing a

  some_way : (v w : Way O) → Some v ≡ Some w → v ≡ w
  some_way v w e = cc

  told_on : (e : Errand) (v w : Way O) → Some v ≡ Some w → ErrandTells v.note v.from v.to e → ErrandTells w.note w.from w.to e
  told_on e v w h t = subst (λ (k : Way O). ErrandTells k.note k.from k.to e) (some_way v w h) t

  pub errand_tells : (l : ℕ) (e : Errand) (w : Way O) → errand_way O l e ≡ Some w → ErrandTells w.note w.from w.to e
  errand_tells l Untried w h = absurd cc
  errand_tells l (Going x p to k) w h = told_on (Going x p to k) (way O 0 x (Go p to k l)) w h (refl, refl)
  errand_tells l (Back n p to k) w h = told_on (Back n p to k) (way O n 0 (NotHere p to k l)) w h refl
  errand_tells l (With p) w h = absurd cc
  errand_tells l (Reported a p s k) w h = told_on (Reported a p s k) (way O a 0 (Landed p s k (Some l))) w h refl
  errand_tells l (Closing n) w h = told_on (Closing n) (way O n 0 (NoMove l)) w h refl
  errand_tells l Over w h = absurd cc

  -- the line of a context that waits or asks
  waiting_line : (x : Bool) (k : Option Kept) (b : Body O) (n : ℕ) (s : Spot O) → StateTells O (Waiting x k) b n s → (facts_of O S s).line ≡ kept_line k
  waiting_line x k b n s (inl (q, e, z)) = ap (λ (z : Spot O). (facts_of O S z).line) e
  waiting_line x k b n s (inr (inl (q, e, z))) = ap (λ (z : Spot O). (facts_of O S z).line) e
  waiting_line x k b n s (inr (inr (inl (q, e, z)))) = ap (λ (z : Spot O). (facts_of O S z).line) e
  waiting_line x k b n s (inr (inr (inr (d, y, e)))) = ap (λ (z : Spot O). (facts_of O S z).line) e

  asking_line : (to : ℕ) (l : Option ℕ) (b : Body O) (n : ℕ) (s : Spot O) → StateTells O (Asking to l) b n s → (facts_of O S s).line ≡ l
  asking_line to l b n s (inl (x, e)) = ap (λ (z : Spot O). (facts_of O S z).line) e
  asking_line to l b n s (inr (inl (x, e))) = ap (λ (z : Spot O). (facts_of O S z).line) e
  asking_line to l b n s (inr (inr (x, y, e))) = ap (λ (z : Spot O). (facts_of O S z).line) e

  module _ (w : World O) (t : Turn O) (v : World O) (goes : Goes O w t v) (sp : ℕ → Spot O) (st : Stands O S sp w) (er : ℕ → Errand)
      (under : (l : ℕ) → Under O (of_line O l) (errand_way O l (er l)) w) (holders : (q l : ℕ) → (facts_of O S (sp q)).line ≡ Some l → er l ≡ With q) (untried : (l : ℕ) → (w.nodes 0).progress.line ≤ l → er l ≡ Untried) where
    abbrev n : ℕ
    n = t.event.node

    abbrev old : Local O
    old = w.nodes t.event.node

    abbrev new : Local O
    new = v.nodes t.event.node

    -- what an event makes of the errands
    pub record Ran (what : Deed) (f : Facts) (r : Spot O) (er2 : ℕ → Errand) : Type 0 where
      pub ways : (l : ℕ) → Under O (of_line O l) (errand_way O l (er2 l)) v
      pub own : (l : ℕ) → (facts_of O S r).line ≡ Some l → er2 l ≡ With (pid_of what)
      pub others : (q l : ℕ) → q ≢ pid_of what → er l ≡ With q → er2 l ≡ With q
      pub fresh : (l : ℕ) → (v.nodes 0).progress.line ≤ l → er2 l ≡ Untried
      pub result : (l : ℕ) → settled (er2 l) ≡ counted_if (is_child (outcome_line what f) l) (settled (er l))

    served_line : (manner : Manner) (p : ℕ) (number : Option ℕ) (value : Option ℤ) (child signal : Option ℕ) (ends : Option End) (more : Bool) (poked : List ℕ) → ServedBy O manner n p number value child signal ends more poked old t new → new.progress.line ≡ old.progress.line
    served_line Did p number value child signal ends more poked (inl d) = d.progress.line
    served_line Did p number value child signal ends more poked (inr d) = d.progress.line
    served_line Broke p number value child signal ends more poked (inl d) = d.progress.line
    served_line Broke p number value child signal ends more poked (inr d) = d.progress.line
    served_line Fell p number value child signal ends more poked d = d.progress.line
    served_line Paused p number value child signal ends more poked d = lines_same d.progress

    line_grows : (what : Deed) → Does O what n old t new → old.progress.line ≤ new.progress.line
    line_grows (Run line i p) d = omega (arith, d.order.rises, d.order.is.line)
    line_grows (Kill line p g poked) d = omega (arith, d.order.rises, d.order.is.line)
    line_grows (Bid line p to) d = omega (arith, d.order.rises, d.order.is.line)
    line_grows (Unsent line p never) d = omega (arith, d.order.rises, d.order.is.line)
    line_grows (Other line input) d = omega (arith, d.order.rises, d.order.is.line)
    line_grows (Steps p k) d = omega (arith, lines_same d.still.progress)
    line_grows (Sent p k) d = omega (arith, lines_same d.still.progress)
    line_grows (Heed p) d = omega (arith, lines_same d.still.progress)
    line_grows (Held p k) d = omega (arith, lines_same d.still.progress)
    line_grows (Served p manner number value child signal ends more poked) d = omega (arith, served_line manner p number value child signal ends more poked d)
    line_grows (Got p child ended kept) d = omega (arith, lines_same d.still.progress)
    line_grows (Poked p true) d = omega (arith, lines_same d.still.progress)
    line_grows (Poked p false) d = omega (arith, lines_same d.still.progress)
    line_grows (Begin p to reason) d = omega (arith, lines_same d.still.progress)
    line_grows (Keep p to line) d = omega (arith, lines_same d.still.progress)
    line_grows (Missed p to line) d = omega (arith, lines_same d.still.progress)
    line_grows (Again p to place line) d = omega (arith, lines_same d.still.progress)
    line_grows (Allows p from need) d = omega (arith, lines_same d.still.progress)
    line_grows (Denies p from need free) d = omega (arith, lines_same d.still.progress)
    line_grows (Depart p to) d = omega (arith, lines_same d.still.progress)
    line_grows (Stay p to need free) d = omega (arith, lines_same d.still.progress)
    line_grows (Land p source) d = omega (arith, lines_same d.still.progress)
    line_grows (Told p at source hops line poked) d = omega (arith, lines_same d.progress)
    line_grows (Refused p to why line) (inl d) = omega (arith, lines_same d.still.progress)
    line_grows (Refused p to why line) (inr d) = omega (arith, lines_same d.still.progress)
    line_grows (Closed line) d = omega (arith, lines_same d.still.progress)
    line_grows (Gossips heard other) d = omega (arith, lines_same d.still.progress)
    line_grows (Strange p) d = omega (arith, lines_same d.still.progress)

    home_grows : (what : Deed) → Does O what n old t new → (w.nodes 0).progress.line ≤ (v.nodes 0).progress.line
    home_grows what d = go (n == 0) refl
      where
        go : (b : Bool) → (n == 0) ≡ b → (w.nodes 0).progress.line ≤ (v.nodes 0).progress.line
        go true e = subst (λ (k : ℕ). (w.nodes k).progress.line ≤ (v.nodes k).progress.line) (numbers_same n 0 e) (line_grows what d)
        go false e = let same : v.nodes 0 ≡ w.nodes 0 = goes.elsewhere 0 (λ z. numbers_other n 0 e (sym z)) in omega (arith, ap (λ (k : Local O). k.progress.line) same)

    -- an event that touches no errand
    untouched : (what : Deed) (f : Facts) (r : Spot O) (taken : Option (Post O)) (posted : List (Post O)) → Does O what n old t new → t.taken ≡ taken → t.posted ≡ posted → NoLineIn taken → NoLines posted → ((l : ℕ) → (facts_of O S r).line ≡ Some l → (facts_of O S (sp (pid_of what))).line ≡ Some l) → outcome_line what f ≡ None → Ran what f r er
    untouched what f r taken posted d e g h k own none = record {
      ways = λ l. stays O (of_line O l) w t v goes (errand_way O l (er l)) (under l) taken posted e g (no_in l taken h) (no_lines l posted k);
      own = λ l x. holders (pid_of what) l (own l x);
      others = λ q l ne x. x;
      fresh = λ l less. untried l (omega (arith, home_grows what d, less));
      result = λ l. ap (λ (o : Option ℕ). counted_if (is_child o l) (settled (er l))) (sym none);
    }

    abbrev set : ℕ → Errand → ℕ → Errand
    set l e k = cond (k == l) e (er k)

    -- an event that moves one errand
    touched : (what : Deed) (f : Facts) (r : Spot O) (l : ℕ) (e2 : Errand) (taken : Option (Post O)) (posted : List (Post O)) → Does O what n old t new → t.taken ≡ taken → t.posted ≡ posted → OnlyIn l taken → OnlyLines l posted → Under O (of_line O l) (errand_way O l e2) v
        → ((q : ℕ) → q ≢ pid_of what → er l ≡ With q → ⊥) → ((k : ℕ) → (facts_of O S r).line ≡ Some k → (k ≡ l → e2 ≡ With (pid_of what)) × (k ≢ l → (facts_of O S (sp (pid_of what))).line ≡ Some k)) → ((v.nodes 0).progress.line ≤ l → ⊥)
        → (((outcome_line what f ≡ None) × (settled e2 ≡ settled (er l))) ⊎ ((outcome_line what f ≡ Some l) × (settled e2 ≡ settled (er l) + 1))) → Ran what f r (set l e2)
    touched what f r l e2 taken posted d e g only_t only_p here other own known result = record {
      ways = λ k. way_at k (k == l) refl;
      own = λ k x. own_at k x (k == l) refl;
      others = λ q k ne x. other_at q k ne x (k == l) refl;
      fresh = λ k less. fresh_at k less (k == l) refl;
      result = λ k. result_at k (k == l) refl result;
    }
      where
        way_at : (k : ℕ) (b : Bool) → (k == l) ≡ b → Under O (of_line O k) (errand_way O k (cond b e2 (er k))) v
        way_at k true x = subst (λ (z : ℕ). Under O (of_line O z) (errand_way O z e2) v) (sym (numbers_same k l x)) here
        way_at k false x = stays O (of_line O k) w t v goes (errand_way O k (er k)) (under k) taken posted e g (only_in l k taken only_t (numbers_other k l x)) (only_lines l k posted only_p (numbers_other k l x))

        own_at : (k : ℕ) → (facts_of O S r).line ≡ Some k → (b : Bool) → (k == l) ≡ b → cond b e2 (er k) ≡ With (pid_of what)
        own_at k x true y = (own k x).0 (numbers_same k l y)
        own_at k x false y = holders (pid_of what) k ((own k x).1 (numbers_other k l y))

        other_at : (q k : ℕ) → q ≢ pid_of what → er k ≡ With q → (b : Bool) → (k == l) ≡ b → cond b e2 (er k) ≡ With q
        other_at q k ne x true y = absurd (other q ne (ap er (sym (numbers_same k l y)) ∙ x))
        other_at q k ne x false y = x

        fresh_at : (k : ℕ) → (v.nodes 0).progress.line ≤ k → (b : Bool) → (k == l) ≡ b → cond b e2 (er k) ≡ Untried
        fresh_at k less true y = absurd (known (subst (λ (z : ℕ). (v.nodes 0).progress.line ≤ z) (numbers_same k l y) less))
        fresh_at k less false y = untried k (omega (arith, home_grows what d, less))

        result_at : (k : ℕ) (b : Bool) → (k == l) ≡ b → (((outcome_line what f ≡ None) × (settled e2 ≡ settled (er l))) ⊎ ((outcome_line what f ≡ Some l) × (settled e2 ≡ settled (er l) + 1))) → settled (cond b e2 (er k)) ≡ counted_if (is_child (outcome_line what f) k) (settled (er k))
        result_at k true y (inl (none, same)) = same ∙ (ap (λ (z : ℕ). settled (er z)) (sym (numbers_same k l y)) ∙ ap (λ (o : Option ℕ). counted_if (is_child o k) (settled (er k))) (sym none))
        result_at k true y (inr (some, more)) = more ∙ (ap (λ (z : ℕ). settled (er z) + 1) (sym (numbers_same k l y)) ∙ (ap (λ (b : Bool). counted_if b (settled (er k))) (sym (same_numbers l k (sym (numbers_same k l y)))) ∙ ap (λ (o : Option ℕ). counted_if (is_child o k) (settled (er k))) (sym some)))
        result_at k false y (inl (none, same)) = ap (λ (o : Option ℕ). counted_if (is_child o k) (settled (er k))) (sym none)
        result_at k false y (inr (some, more)) = ap (λ (b : Bool). counted_if b (settled (er k))) (sym (other_numbers l k (λ z. numbers_other k l y (sym z)))) ∙ ap (λ (o : Option ℕ). counted_if (is_child o k) (settled (er k))) (sym some)

    -- the spot after the event has the line that its facts tell
    module _ (what : Deed) (r : Spot O) (d : Does O what n old t new) (need : Needs O what n old new (sp (pid_of what)) r) where
      line_now : (facts_of O S r).line ≡ (fact_own what n (facts_of O S (sp (pid_of what)))).line
      line_now = sym (ap (λ (k : Facts). k.line) (own_facts O S n old new (sp (pid_of what)) r what need))

      -- where the event leaves the line of its process
      keeps : (fact_own what n (facts_of O S (sp (pid_of what)))).line ≡ (facts_of O S (sp (pid_of what))).line → (l : ℕ) → (facts_of O S r).line ≡ Some l → (facts_of O S (sp (pid_of what))).line ≡ Some l
      keeps e l x = sym e ∙ (sym line_now ∙ x)

      -- or it has none then
      drops : (fact_own what n (facts_of O S (sp (pid_of what)))).line ≡ None → (l : ℕ) → (facts_of O S r).line ≡ Some l → (facts_of O S (sp (pid_of what))).line ≡ Some l
      drops e l x = let z : None ≡ Some l = sym e ∙ (sym line_now ∙ x) in absurd cc

      -- or it is this line
      is_line : (l : ℕ) → (fact_own what n (facts_of O S (sp (pid_of what)))).line ≡ Some l → (k : ℕ) → (facts_of O S r).line ≡ Some k → k ≡ l
      is_line l e k x = sym (some_line l k (sym e ∙ (sym line_now ∙ x)))

    -- a line that is tried was carried out
    tried : (what : Deed) → Does O what n old t new → (l : ℕ) (e : Errand) → er l ≡ e → (e ≡ Untried → ⊥) → (v.nodes 0).progress.line ≤ l → ⊥
    tried what d l e is not less = not (sym is ∙ untried l (omega (arith, home_grows what d, less)))

    itself : (l : ℕ) → (l == l) ≡ true
    itself l = same_numbers l l refl

    abbrev Result : Deed → Facts → Spot O → Type 0
    Result what f r = (er2 : ℕ → Errand) × Ran what f r er2

    -- an errand that is not with a process is with no other
    away : (l : ℕ) (e : Errand) → er l ≡ e → ((q : ℕ) → e ≡ With q → ⊥) → (q : ℕ) → er l ≡ With q → ⊥
    away l e is not q x = not q (sym is ∙ x)

    -- an errand on its way that stays on its way, its process having another line or none
    on_way : (p l : ℕ) (r : Spot O) → ((k : ℕ) → (facts_of O S r).line ≡ Some k → (facts_of O S (sp p)).line ≡ Some k) → ((q : ℕ) → er l ≡ With q → ⊥) → (e2 : Errand) → (k : ℕ) → (facts_of O S r).line ≡ Some k → (k ≡ l → e2 ≡ With p) × (k ≢ l → (facts_of O S (sp p)).line ≡ Some k)
    on_way p l r own not e2 k x = (λ e. absurd (not p (ap er (sym e) ∙ holders p k (own k x))), λ ne. own k x)

    order_line : (line p to : ℕ) (f : Facts) (r : Spot O) → (d : Does O (Bid line p to) n old t new) → Needs O (Bid line p to) n old new (sp p) r → Result (Bid line p to) f r
    order_line line p to f r d need =
        let home : n ≡ 0 = d.home in
        let new_line : er line ≡ Untried = untried line (subst (λ (k : ℕ). (w.nodes k).progress.line ≤ line) home d.order.rises) in
        let not = away line Untried new_line (λ q x. cc) in (
          set line (Going (old.believed p).place p to (old.believed p).hops),
          touched (Bid line p to) f r line (Going (old.believed p).place p to (old.believed p).hops) None _ d d.base.took d.base.posts tt (refl, tt)
              (goes_out O (of_line O line) w t v goes _ [] None (subst (λ (e : Errand). Under O (of_line O line) (errand_way O line e) w) new_line (under line)) d.base.took tt d.base.posts (itself line) tt)
              (λ q ne x. not q x) (on_way p line r (keeps (Bid line p to) r d need refl) not _)
              (λ less. (let less2 : (v.nodes n).progress.line ≤ line = subst (λ (k : ℕ). (v.nodes k).progress.line ≤ line) (sym home) less in absurd (omega (arith, d.order.is.line, less2))))
              (inl (refl, sym (ap settled new_line))),
        )

    unsent_line : (line p : ℕ) (never : Bool) (f : Facts) (r : Spot O) → (d : Does O (Unsent line p never) n old t new) → Needs O (Unsent line p never) n old new (sp p) r → Result (Unsent line p never) f r
    unsent_line line p never f r d need =
        let home : n ≡ 0 = d.home in
        let new_line : er line ≡ Untried = untried line (subst (λ (k : ℕ). (w.nodes k).progress.line ≤ line) home d.order.rises) in
        let not = away line Untried new_line (λ q x. cc) in (
          set line Over,
          touched (Unsent line p never) f r line Over None [] d d.base.took d.base.posts tt tt
              (stays O (of_line O line) w t v goes None (subst (λ (e : Errand). Under O (of_line O line) (errand_way O line e) w) new_line (under line)) None [] d.base.took d.base.posts tt tt)
              (λ q ne x. not q x) (on_way p line r (keeps (Unsent line p never) r d need refl) not _)
              (λ less. (let less2 : (v.nodes n).progress.line ≤ line = subst (λ (k : ℕ). (v.nodes k).progress.line ≤ line) (sym home) less in absurd (omega (arith, d.order.is.line, less2))))
              (inr (refl, ap (λ (e : Errand). settled e + 1) (sym new_line))),
        )

    begin_line : (p to line : ℕ) (f : Facts) (r : Spot O) → (d : Does O (Begin p to (ForLine line)) n old t new) → Needs O (Begin p to (ForLine line)) n old new (sp p) r → Result (Begin p to (ForLine line)) f r
    begin_line p to line f r d need =
        let was = errand_tells line (er line) _ (was_under O (of_line O line) w t v goes (errand_way O line (er line)) _ (under line) d.base.took (itself line)).0 in
        let not = away line _ was.0 (λ q x. cc) in (
          set line (With p),
          touched (Begin p to (ForLine line)) f r line (With p) _ _ d d.base.took d.base.posts refl (tt, tt)
              (comes_in O (of_line O line) w t v goes (errand_way O line (er line)) _ _ (under line) d.base.took (itself line) d.base.posts (refl, tt))
              (λ q ne x. not q x) (λ k x. (λ e. refl, λ ne. absurd (ne (is_line (Begin p to (ForLine line)) r d need line refl k x))))
              (tried (Begin p to (ForLine line)) d line _ was.0 (λ z. cc)) (inl (refl, sym (ap settled was.0))),
        )

    keep_line : (p to line : ℕ) (f : Facts) (r : Spot O) → (d : Does O (Keep p to line) n old t new) → Needs O (Keep p to line) n old new (sp p) r → Result (Keep p to line) f r
    keep_line p to line f r d need =
        let was = errand_tells line (er line) _ (was_under O (of_line O line) w t v goes (errand_way O line (er line)) _ (under line) d.base.took (itself line)).0 in
        let not = away line _ was.0 (λ q x. cc) in (
          set line (With p),
          touched (Keep p to line) f r line (With p) _ _ d d.base.took d.base.posts refl tt
              (comes_in O (of_line O line) w t v goes (errand_way O line (er line)) _ _ (under line) d.base.took (itself line) d.base.posts tt)
              (λ q ne x. not q x) (λ k x. (λ e. refl, λ ne. absurd (ne (is_line (Keep p to line) r d need line refl k x))))
              (tried (Keep p to line) d line _ was.0 (λ z. cc)) (inl (refl, sym (ap settled was.0))),
        )

    miss_line : (p to line : ℕ) (f : Facts) (r : Spot O) → (d : Does O (Missed p to line) n old t new) → Needs O (Missed p to line) n old new (sp p) r → Result (Missed p to line) f r
    miss_line p to line f r d need =
        let was = errand_tells line (er line) _ (was_under O (of_line O line) w t v goes (errand_way O line (er line)) _ (under line) d.base.took (itself line)).0 in
        let not = away line _ was.0 (λ q x. cc) in (
          set line (Back n p to d.hops),
          touched (Missed p to line) f r line (Back n p to d.hops) _ _ d d.base.took d.base.posts refl (refl, tt)
              (turns O (of_line O line) w t v goes (errand_way O line (er line)) _ _ [] (under line) d.base.took (itself line) d.base.posts (itself line) tt)
              (λ q ne x. not q x) (on_way p line r (keeps (Missed p to line) r d need refl) not _)
              (tried (Missed p to line) d line _ was.0 (λ z. cc)) (inl (refl, sym (ap settled was.0))),
        )

    again_line : (p to place line : ℕ) (f : Facts) (r : Spot O) → (d : Does O (Again p to place line) n old t new) → Needs O (Again p to place line) n old new (sp p) r → Result (Again p to place line) f r
    again_line p to place line f r d need =
        let was = errand_tells line (er line) _ (was_under O (of_line O line) w t v goes (errand_way O line (er line)) _ (under line) d.base.took (itself line)).0 in
        let not = away line _ was (λ q x. cc) in
        let e2 = Going place p to (old.believed p).hops in
        let here : Under O (of_line O line) (Some (way O n place (Go p to (old.believed p).hops line))) v = turns O (of_line O line) w t v goes (errand_way O line (er line)) _ _ [] (under line) d.base.took (itself line) d.base.posts (itself line) tt in (
          set line e2,
          touched (Again p to place line) f r line e2 _ _ d d.base.took d.base.posts refl (refl, tt)
              (subst (λ (k : ℕ). Under O (of_line O line) (Some (way O k place (Go p to (old.believed p).hops line))) v) d.home here)
              (λ q ne x. not q x) (on_way p line r (keeps (Again p to place line) r d need refl) not _)
              (tried (Again p to place line) d line _ was (λ z. cc)) (inl (refl, sym (ap settled was))),
        )

    refused_go_line : (p to : ℕ) (why : Why) (line : ℕ) (f : Facts) (r : Spot O) → (d : Does O (Refused p to why line) n old t new) → Needs O (Refused p to why line) n old new (sp p) r → Result (Refused p to why line) f r
    refused_go_line p to why line f r (inl d) need =
        let was = errand_tells line (er line) _ (was_under O (of_line O line) w t v goes (errand_way O line (er line)) _ (under line) d.base.took (itself line)).0 in
        let not = away line _ was.0 (λ q x. cc) in (
          set line (Closing n),
          touched (Refused p to why line) f r line (Closing n) _ _ (inl d) d.base.took d.base.posts refl (refl, tt)
              (turns O (of_line O line) w t v goes (errand_way O line (er line)) _ _ [] (under line) d.base.took (itself line) d.base.posts (itself line) tt)
              (λ q ne x. not q x) (on_way p line r (keeps (Refused p to why line) r (inl d) need refl) not _)
              (tried (Refused p to why line) (inl d) line _ was.0 (λ z. cc)) (inr (refl, ap (λ (e : Errand). settled e + 1) (sym was.0))),
        )
    refused_go_line p to why line f r (inr d) need =
        let was = errand_tells line (er line) _ (was_under O (of_line O line) w t v goes (errand_way O line (er line)) _ (under line) d.base.took (itself line)).0 in
        let not = away line _ was (λ q x. cc) in (
          set line Over,
          touched (Refused p to why line) f r line Over _ _ (inr d) d.base.took d.base.posts refl tt
              (comes_in O (of_line O line) w t v goes (errand_way O line (er line)) _ _ (under line) d.base.took (itself line) d.base.posts tt)
              (λ q ne x. not q x) (on_way p line r (keeps (Refused p to why line) r (inr d) need refl) not _)
              (tried (Refused p to why line) (inr d) line _ was (λ z. cc)) (inr (refl, ap (λ (e : Errand). settled e + 1) (sym was))),
        )

    close_line : (line : ℕ) (f : Facts) (r : Spot O) → (d : Does O (Closed line) n old t new) → Needs O (Closed line) n old new (sp 0) r → Result (Closed line) f r
    close_line line f r d need =
        let was = errand_tells line (er line) _ (was_under O (of_line O line) w t v goes (errand_way O line (er line)) _ (under line) d.base.took (itself line)).0 in
        let not = away line _ was (λ q x. cc) in (
          set line Over,
          touched (Closed line) f r line Over _ _ d d.base.took d.base.posts refl tt
              (comes_in O (of_line O line) w t v goes (errand_way O line (er line)) _ _ (under line) d.base.took (itself line) d.base.posts tt)
              (λ q ne x. not q x) (on_way 0 line r (keeps (Closed line) r d need refl) not _)
              (tried (Closed line) d line _ was (λ z. cc)) (inl (refl, sym (ap settled was))),
        )

    told_none : (p to : ℕ) (b : Bool) → NoLines (cond b (letter O n to t.event.stamp (Poke p) ∷ []) [])
    told_none p to true = (tt, tt)
    told_none p to false = tt

    told_only : (l p to : ℕ) (b : Bool) → OnlyLines l (cond b (letter O n to t.event.stamp (Poke p) ∷ []) [])
    told_only l p to true = (tt, tt)
    told_only l p to false = tt

    told_family : (l p to : ℕ) (b : Bool) → NoneOf O (of_line O l) (cond b (letter O n to t.event.stamp (Poke p) ∷ []) [])
    told_family l p to true = (refl, tt)
    told_family l p to false = tt

    told_line : (p at source hops : ℕ) (line : Option ℕ) (poked : Bool) (f : Facts) (r : Spot O) → (d : Does O (Told p at source hops line poked) n old t new) → Needs O (Told p at source hops line poked) n old new (sp p) r → Result (Told p at source hops line poked) f r
    told_line p at source hops None poked f r d need =
        (er, untouched (Told p at source hops None poked) f r _ _ d d.base.took d.base.posts refl (told_none p _ poked) (keeps (Told p at source hops None poked) r d need refl) refl)
    told_line p at source hops (Some line) poked f r d need =
        let was = errand_tells line (er line) _ (was_under O (of_line O line) w t v goes (errand_way O line (er line)) _ (under line) d.base.took (itself line)).0 in
        let not = away line _ was (λ q x. cc) in (
          set line Over,
          touched (Told p at source hops (Some line) poked) f r line Over _ _ d d.base.took d.base.posts refl (told_only line p _ poked)
              (comes_in O (of_line O line) w t v goes (errand_way O line (er line)) _ _ (under line) d.base.took (itself line) d.base.posts (told_family line p _ poked))
              (λ q ne x. not q x) (on_way p line r (keeps (Told p at source hops (Some line) poked) r d need refl) not _)
              (tried (Told p at source hops (Some line) poked) d line _ was (λ z. cc)) (inl (refl, sym (ap settled was))),
        )

    -- an errand that its process has, and lets go
    with_other : (p l : ℕ) → (facts_of O S (sp p)).line ≡ Some l → (q : ℕ) → q ≢ p → er l ≡ With q → ⊥
    with_other p l has q ne x = ne (with_same q p (sym x ∙ holders p l has))

    let_go : (p l : ℕ) (r : Spot O) → ((k : ℕ) → (facts_of O S r).line ≡ Some k → ⊥) → (e2 : Errand) (k : ℕ) → (facts_of O S r).line ≡ Some k → (k ≡ l → e2 ≡ With p) × (k ≢ l → (facts_of O S (sp p)).line ≡ Some k)
    let_go p l r none e2 k x = absurd (none k x)

    -- after this event its process has no line
    bare : (what : Deed) (r : Spot O) (d : Does O what n old t new) → Needs O what n old new (sp (pid_of what)) r → (fact_own what n (facts_of O S (sp (pid_of what)))).line ≡ None → (k : ℕ) → (facts_of O S r).line ≡ Some k → ⊥
    bare what r d need e k x = let z : None ≡ Some k = sym e ∙ (sym (line_now what r d need) ∙ x) in cc

    stay_line : (p to short free : ℕ) (f : Facts) (r : Spot O) → f.line ≡ (facts_of O S (sp p)).line → (d : Does O (Stay p to short free) n old t new) → Needs O (Stay p to short free) n old new (sp p) r → Result (Stay p to short free) f r
    stay_line p to short free f r fl d need = go d.line (asking_line to d.line d.body n (sp p) (context_tells O p (sp p) w (st.at p) n d.body (Asking to d.line) d.was)) d.base.posts
      where
        none : (k : ℕ) → (facts_of O S r).line ≡ Some k → ⊥
        none = bare (Stay p to short free) r d need refl

        go : (line : Option ℕ) → (facts_of O S (sp p)).line ≡ line → t.posted ≡ line_closed O n t.event.stamp line → Result (Stay p to short free) f r
        go None e g = (er, untouched (Stay p to short free) f r _ [] d d.base.took g tt tt (λ k x. absurd (none k x)) (fl ∙ e))
        go (Some l) e g =
            let was : er l ≡ With p = holders p l e in (
              set l (Closing n),
              touched (Stay p to short free) f r l (Closing n) _ _ d d.base.took g tt (refl, tt)
                  (goes_out O (of_line O l) w t v goes _ [] _ (subst (λ (e : Errand). Under O (of_line O l) (errand_way O l e) w) was (under l)) d.base.took refl g (itself l) tt)
                  (with_other p l e) (let_go p l r none _) (tried (Stay p to short free) d l _ was (λ z. cc)) (inr (fl ∙ e, ap (λ (e : Errand). settled e + 1) (sym was))),
            )

    land_line : (p source : ℕ) (f : Facts) (r : Spot O) → f.line ≡ (facts_of O S (sp p)).line → (d : Does O (Land p source) n old t new) → Needs O (Land p source) n old new (sp p) r → Result (Land p source) f r
    land_line p source f r fl d need = go d.line (ap (λ (k : Spot O). (facts_of O S k).line) told.2) d.base.took d.base.posts
      where
        told : (body : Body O) × (load : ℕ) × (sp p ≡ Travels source n body d.line load) × (body.user ≡ d.user) × (body.hops ≡ d.hops)
        told = way_tells O p (sp p) (way O source n (Move p d.user d.hops d.line)) (took_way O p (sp p) w v (st.at p) _ _ (takes_in O w t v goes p _ _ d.base.took d.base.posts (itself p) (refl, tt)))

        none : (k : ℕ) → (facts_of O S r).line ≡ Some k → ⊥
        none = bare (Land p source) r d need refl

        go : (line : Option ℕ) → (facts_of O S (sp p)).line ≡ line → t.taken ≡ Some (letter O source n d.stamp (Move p d.user d.hops line)) → t.posted ≡ letter O n 0 t.event.stamp (Landed p source (d.hops + 1) line) ∷ [] → Result (Land p source) f r
        go None e h g = (er, untouched (Land p source) f r _ _ d h g tt (refl, tt) (λ k x. absurd (none k x)) (fl ∙ e))
        go (Some l) e h g =
            let was : er l ≡ With p = holders p l e in (
              set l (Reported n p source (d.hops + 1)),
              touched (Land p source) f r l (Reported n p source (d.hops + 1)) _ _ d h g tt (refl, tt)
                  (goes_out O (of_line O l) w t v goes _ [] _ (subst (λ (e : Errand). Under O (of_line O l) (errand_way O l e) w) was (under l)) h refl g (itself l) tt)
                  (with_other p l e) (let_go p l r none _) (tried (Land p source) d l _ was (λ z. cc)) (inr (fl ∙ e, ap (λ (e : Errand). settled e + 1) (sym was))),
            )

    cond_none : (b : Bool) (o : Option ℕ) → o ≡ None → cond b None o ≡ None
    cond_none true o e = refl
    cond_none false o e = e

    got_line : (p : ℕ) (child : Option ℕ) (ended : Bool) (kept : Option KeptTold) (f : Facts) (r : Spot O) → f.line ≡ (facts_of O S (sp p)).line → (d : Does O (Got p child ended kept) n old t new) → Needs O (Got p child ended kept) n old new (sp p) r → Result (Got p child ended kept) f r
    got_line p child ended kept f r fl d need = go d.keeps (waiting_line d.pause d.keeps d.body n (sp p) (context_tells O p (sp p) w (st.at p) n d.body (Waiting d.pause d.keeps) d.was)) d.kept_is d.base.posts
      where
        at : (k : Kept) (e : Bool) → (facts_of O S (sp p)).line ≡ Some k.line → ended ≡ e → kept ≡ Some (record { ends = e; to = k.to }) → t.posted ≡ cond e (letter O n 0 t.event.stamp (NoMove k.line) ∷ []) (letter O n k.to t.event.stamp (Ask p (O.pages (after O d.body.user d.done))) ∷ []) → Result (Got p child ended kept) f r
        at k true x y z g =
            let was : er k.line ≡ With p = holders p k.line x in
            let none = bare (Got p child ended kept) r d need (ap (λ (b : Bool). cond b None (facts_of O S (sp p)).line) y) in (
              set k.line (Closing n),
              touched (Got p child ended kept) f r k.line (Closing n) _ _ d d.base.took g tt (refl, tt)
                  (goes_out O (of_line O k.line) w t v goes _ [] _ (subst (λ (e : Errand). Under O (of_line O k.line) (errand_way O k.line e) w) was (under k.line)) d.base.took refl g (itself k.line) tt)
                  (with_other p k.line x) (let_go p k.line r none _) (tried (Got p child ended kept) d k.line _ was (λ z. cc))
                  (inr (ap (λ (o : Option KeptTold). ended_line o f.line) z ∙ (fl ∙ x), ap (λ (e : Errand). settled e + 1) (sym was))),
            )
        at k false x y z g =
            (er, untouched (Got p child ended kept) f r _ _ d d.base.took g tt (tt, tt) (keeps (Got p child ended kept) r d need (ap (λ (b : Bool). cond b None (facts_of O S (sp p)).line) y)) (ap (λ (o : Option KeptTold). ended_line o f.line) z))

        go : (k : Option Kept) → (facts_of O S (sp p)).line ≡ kept_line k → kept ≡ kept_told O k d.done.ended → t.posted ≡ got_posts O n t.event.stamp p d.body k d.done → Result (Got p child ended kept) f r
        go None x z g =
            (er, untouched (Got p child ended kept) f r _ [] d d.base.took g tt tt (λ l h. absurd (bare (Got p child ended kept) r d need (cond_none ended (facts_of O S (sp p)).line x) l h)) (ap (λ (o : Option KeptTold). ended_line o f.line) z))
        go (Some k) x z g = at k d.done.ended x d.ended_is z g

    plain : (what : Deed) (f : Facts) (r : Spot O) (taken : Option (Post O)) (posted : List (Post O)) → (d : Does O what n old t new) → Needs O what n old new (sp (pid_of what)) r → t.taken ≡ taken → t.posted ≡ posted → NoLineIn taken → NoLines posted → (fact_own what n (facts_of O S (sp (pid_of what)))).line ≡ (facts_of O S (sp (pid_of what))).line → outcome_line what f ≡ None → Result what f r
    plain what f r taken posted d need e g h k same none = (er, untouched what f r taken posted d e g h k (keeps what r d need same) none)

    dropping : (what : Deed) (f : Facts) (r : Spot O) (taken : Option (Post O)) (posted : List (Post O)) → (d : Does O what n old t new) → Needs O what n old new (sp (pid_of what)) r → t.taken ≡ taken → t.posted ≡ posted → NoLineIn taken → NoLines posted → (fact_own what n (facts_of O S (sp (pid_of what)))).line ≡ None → outcome_line what f ≡ None → Result what f r
    dropping what f r taken posted d need e g h k same none = (er, untouched what f r taken posted d e g h k (drops what r d need same) none)

    served_lines : (manner : Manner) (p : ℕ) (number : Option ℕ) (value : Option ℤ) (child signal : Option ℕ) (ends : Option End) (more : Bool) (poked : List ℕ) (f : Facts) (r : Spot O) → (d : Does O (Served p manner number value child signal ends more poked) n old t new) → Needs O (Served p manner number value child signal ends more poked) n old new (sp p) r → Result (Served p manner number value child signal ends more poked) f r
    served_lines Did p number value child signal ends more poked f r (inl d) need = plain (Served p Did number value child signal ends more poked) f r _ _ (inl d) need d.base.took d.base.posts tt (tt, pokes_none t.event.stamp old.believed poked) refl refl
    served_lines Did p number value child signal ends more poked f r (inr d) need = plain (Served p Did number value child signal ends more poked) f r _ _ (inr d) need d.base.took d.base.posts tt (tt, pokes_none t.event.stamp old.believed poked) refl refl
    served_lines Broke p number value child signal ends more poked f r (inl d) need = plain (Served p Broke number value child signal ends more poked) f r _ _ (inl d) need d.base.took d.base.posts tt (tt, pokes_none t.event.stamp old.believed poked) refl refl
    served_lines Broke p number value child signal ends more poked f r (inr d) need = plain (Served p Broke number value child signal ends more poked) f r _ _ (inr d) need d.base.took d.base.posts tt (tt, pokes_none t.event.stamp old.believed poked) refl refl
    served_lines Fell p number value child signal ends more poked f r d need = plain (Served p Fell number value child signal ends more poked) f r _ _ d need d.base.took d.base.posts tt (tt, pokes_none t.event.stamp old.believed poked) refl refl
    served_lines Paused p number value child signal ends more poked f r d need = plain (Served p Paused number value child signal ends more poked) f r _ _ d need d.base.took d.base.posts tt (tt, pokes_none t.event.stamp old.believed poked) refl refl

    pub lines_at : (what : Deed) (f : Facts) (r : Spot O) → f.line ≡ (facts_of O S (sp (pid_of what))).line → (d : Does O what n old t new) → Needs O what n old new (sp (pid_of what)) r → Result what f r
    lines_at (Run line i p) f r fl d need = plain (Run line i p) f r _ _ d need d.base.took d.base.posts tt tt refl refl
    lines_at (Kill line p g poked) f r fl d need = plain (Kill line p g poked) f r _ _ d need d.base.took d.base.posts tt (pokes_none t.event.stamp old.believed poked) refl refl
    lines_at (Bid line p to) f r fl d need = order_line line p to f r d need
    lines_at (Unsent line p never) f r fl d need = unsent_line line p never f r d need
    lines_at (Other line input) f r fl d need = plain (Other line input) f r _ _ d need d.base.took d.base.posts tt tt refl refl
    lines_at (Steps p k) f r fl d need = plain (Steps p k) f r _ _ d need d.base.took d.base.posts tt tt refl refl
    lines_at (Sent p k) f r fl d need = dropping (Sent p k) f r _ _ d need d.base.took d.base.posts tt (tt, tt) refl refl
    lines_at (Heed p) f r fl d need = dropping (Heed p) f r _ _ d need d.base.took d.base.posts tt (tt, tt) refl refl
    lines_at (Held p k) f r fl d need = plain (Held p k) f r _ _ d need d.base.took d.base.posts tt tt refl refl
    lines_at (Served p manner number value child signal ends more poked) f r fl d need = served_lines manner p number value child signal ends more poked f r d need
    lines_at (Got p child ended kept) f r fl d need = got_line p child ended kept f r fl d need
    lines_at (Poked p true) f r fl d need = plain (Poked p true) f r _ _ d need d.base.took d.base.posts tt tt refl refl
    lines_at (Poked p false) f r fl d need = plain (Poked p false) f r _ _ d need d.base.took d.base.posts tt tt refl refl
    lines_at (Begin p to (ForLine line)) f r fl d need = begin_line p to line f r d need
    lines_at (Begin p to (Chosen false other)) f r fl d need = (er, untouched (Begin p to (Chosen false other)) f r _ _ d d.base.took d.base.posts tt (tt, (tt, tt)) (drops (Begin p to (Chosen false other)) r d need refl) refl)
    lines_at (Begin p to (Chosen true other)) f r fl d need = (er, untouched (Begin p to (Chosen true other)) f r _ _ d d.base.took d.base.posts tt (tt, tt) (drops (Begin p to (Chosen true other)) r d need refl) refl)
    lines_at (Keep p to line) f r fl d need = keep_line p to line f r d need
    lines_at (Missed p to line) f r fl d need = miss_line p to line f r d need
    lines_at (Again p to place line) f r fl d need = again_line p to place line f r d need
    lines_at (Allows p from load) f r fl d need = plain (Allows p from load) f r _ _ d need d.base.took d.base.posts tt (tt, tt) refl refl
    lines_at (Denies p from load free) f r fl d need = plain (Denies p from load free) f r _ _ d need d.base.took d.base.posts tt (tt, tt) refl refl
    lines_at (Depart p to) f r fl d need = plain (Depart p to) f r _ _ d need d.base.took d.base.posts tt (tt, tt) refl refl
    lines_at (Stay p to load free) f r fl d need = stay_line p to load free f r fl d need
    lines_at (Land p source) f r fl d need = land_line p source f r fl d need
    lines_at (Told p at source hops line poked) f r fl d need = told_line p at source hops line poked f r d need
    lines_at (Refused p to why line) f r fl d need = refused_go_line p to why line f r d need
    lines_at (Closed line) f r fl d need = close_line line f r d need
    lines_at (Gossips false other) f r fl d need = (er, untouched (Gossips false other) f r _ _ d d.base.took d.base.posts tt (tt, tt) (keeps (Gossips false other) r d need refl) refl)
    lines_at (Gossips true other) f r fl d need = (er, untouched (Gossips true other) f r _ _ d d.base.took d.base.posts tt tt (keeps (Gossips true other) r d need refl) refl)
    lines_at (Strange p) f r fl d need = absurd need

  born_line : (what : Deed) (n : ℕ) (s : Spot O) (c : ℕ) → child_of what ≡ Some c → (facts_of O S (born_spot O what n s c)).line ≡ None
  born_line (Run line i p) n s c e = absurd cc
  born_line (Kill line p g poked) n s c e = absurd cc
  born_line (Bid line p to) n s c e = absurd cc
  born_line (Unsent line p never) n s c e = absurd cc
  born_line (Other line input) n s c e = absurd cc
  born_line (Steps p k) n s c e = absurd cc
  born_line (Sent p k) n s c e = absurd cc
  born_line (Heed p) n s c e = absurd cc
  born_line (Held p k) n s c e = absurd cc
  born_line (Served p manner number value child signal ends more poked) n s c e = refl
  born_line (Got p child ended kept) n s c e = refl
  born_line (Poked p used) n s c e = absurd cc
  born_line (Begin p to reason) n s c e = absurd cc
  born_line (Keep p to line) n s c e = absurd cc
  born_line (Missed p to line) n s c e = absurd cc
  born_line (Again p to place line) n s c e = absurd cc
  born_line (Allows p from need) n s c e = absurd cc
  born_line (Denies p from need free) n s c e = absurd cc
  born_line (Depart p to) n s c e = absurd cc
  born_line (Stay p to need free) n s c e = absurd cc
  born_line (Land p source) n s c e = absurd cc
  born_line (Told p at source hops line poked) n s c e = absurd cc
  born_line (Refused p to why line) n s c e = absurd cc
  born_line (Closed line) n s c e = absurd cc
  born_line (Gossips heard other) n s c e = absurd cc
  born_line (Strange p) n s c e = absurd cc

  -- the invariant of lines
  pub record Lines (h : List (Turn O)) (sp : ℕ → Spot O) (w : World O) : Type 0 where
    pub errands : ℕ → Errand
    pub under : (l : ℕ) → Under O (of_line O l) (errand_way O l (errands l)) w
    pub holders : (q l : ℕ) → (facts_of O S (sp q)).line ≡ Some l → errands l ≡ With q
    pub untried : (l : ℕ) → (w.nodes 0).progress.line ≤ l → errands l ≡ Untried
    pub result : (l : ℕ) → outcomes l (events O h) ≡ settled (errands l)

  lines_next : (h : List (Turn O)) (w : World O) (t : Turn O) (v : World O) (sp next : ℕ → Spot O) → Path O S h sp w → Stands O S sp w → Step O S sp w t next v → Lines h sp w → Lines (t ∷ h) next v
  lines_next h w t v sp next path stands st before =
      let told = path_tells O S h sp w path (pid_of t.event.what) in
      made (lines_at w t v st.goes sp stands before.errands before.under before.holders before.untried t.event.what (facts (pid_of t.event.what) (events O h)) st.own (ap (λ (k : Facts). k.line) told) st.goes.makes.does st.needs)
    where
      made : ((er2 : ℕ → Errand) × Ran w t v st.goes sp stands before.errands before.under before.holders before.untried t.event.what (facts (pid_of t.event.what) (events O h)) st.own er2) → Lines (t ∷ h) next v
      made (er2, ran) = record {
        errands = er2;
        under = ran.ways;
        holders = λ q l e. holder q l e (part O t.event.what t.event.node sp st.own q);
        untried = ran.fresh;
        result = λ l. ap (counted_if (is_child (outcome_line t.event.what (facts (pid_of t.event.what) (events O h))) l)) (before.result l) ∙ sym (ran.result l);
      }
        where
          holder : (q l : ℕ) → (facts_of O S (next q)).line ≡ Some l → Part O t.event.what t.event.node sp st.own q → er2 l ≡ With q
          holder q l e (Own is) = ran.own l (ap (λ (k : Spot O). (facts_of O S k).line) (sym (st.next_is q ∙ at_own O t.event.what t.event.node sp st.own q is)) ∙ e) ∙ ap (λ (k : ℕ). With k) (sym is)
          holder q l e (Rest ne is) = ran.others q l ne (before.holders q l (ap (λ (k : Spot O). (facts_of O S k).line) (sym (st.next_is q ∙ at_rest O t.event.what t.event.node sp st.own q ne is)) ∙ e))
          holder q l e (Child c is at ne) =
              let z : None ≡ Some l = sym (born_line t.event.what t.event.node (sp (pid_of t.event.what)) q (is ∙ ap (λ (k : ℕ). Some k) (sym at))) ∙ (ap (λ (k : Spot O). (facts_of O S k).line) (sym (st.next_is q ∙ at_child O t.event.what t.event.node sp st.own q c is at ne)) ∙ e) in absurd cc

  pub path_lines : (h : List (Turn O)) (sp : ℕ → Spot O) (w : World O) → Path O S h sp w → Lines h sp w
  path_lines [] sp w r = record {
    errands = λ l. Untried;
    under = λ l a b. ap (Rattle.run_laws.proofs.Family.words O (of_line O l)) (r.0.links a b);
    holders = λ q l e. (let z : None ≡ Some l = sym (ap (λ (k : Spot O). (facts_of O S k).line) (r.1 q)) ∙ e in absurd cc);
    untried = λ l less. refl;
    result = λ l. refl;
  }
  path_lines (t ∷ h) sp v r = lines_next h r.0 t v r.1 sp r.2 r.3 r.4 (path_lines h r.1 r.0 r.2)

  settled_once : (e : Errand) → settled e ≤ 1
  settled_once Untried = omega arith
  settled_once (Going x p to h) = omega arith
  settled_once (Back n p to h) = omega arith
  settled_once (With p) = omega arith
  settled_once (Reported a p s h) = omega arith
  settled_once (Closing n) = omega arith
  settled_once Over = omega arith

  -- each line has at most one outcome, after every prefix
  pub one_outcome : (h : List (Turn O)) (sp : ℕ → Spot O) (w : World O) → Path O S h sp w → (l : ℕ) → outcomes l (events O h) ≤ 1
  one_outcome h sp w r l = let b = path_lines h sp w r in subst (λ (k : ℕ). k ≤ 1) (sym (b.result l)) (settled_once (b.errands l))
