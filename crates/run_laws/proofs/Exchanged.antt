-- What each node keeps of gossip and what lies on the links is what the events tell.
use Rattle.std.proofs.Common.{◌≡◌, ◌≢◌, ℕ, ◌-◌, ◌≤◌, ◌==◌, ◌&&◌, ◌⊎◌, inl, inr, Bool, true, false, cond, Option, Some, None, List, [], ◌∷◌, ◌++◌, refl, sym, ap, ◌∙◌, subst, append_assoc}
use Rattle.std.specs.Prelude.{ℤ}
use Rattle.std.proofs.lemmas.List.{append-nil}
use Rattle.call_table.specs.declared.process.End.{End}
use Rattle.protocol.specs.Ops.{Ops, Sound}
use Rattle.protocol.specs.Gossip.{Entry, Gossip, one_step, Choice, told_places, gossip_after, Talk, Silent, Stepping, Talking, talk_of}
use Rattle.protocol.specs.Deeds.{Manner, Did, Broke, Fell, Paused, ForLine, Chosen, Deed, Run, Kill, Bid, Unsent, Other, Steps, Sent, Heed, Held, Served, Got, Poked, Begin, Keep, Missed, Again, Allows, Denies, Depart, Stay, Land, Told, Refused, Closed, Gossips, Strange, pid_of}
use Rattle.protocol.specs.Notes.{Note, Call, Pause, Reply, Poke, Half, Go, NotHere, Ask, Allow, Deny, Move, Landed, NoMove, Post, letter, Turn, Done, Body, Kept, Local, Believed}
use Rattle.protocol.specs.Spots.{Spot}
use Rattle.protocol.specs.Home.{after, pokes, line_closed}
use Rattle.protocol.specs.Does.{Does, ServedBy, HalfDueTo, Talks, got_posts}
use Rattle.protocol.specs.Cluster.{World, for_link, at_front, Goes, events}
use Rattle.protocol.specs.Needs.{Needs}
use Rattle.protocol.proofs.Talk.{numbers_same, numbers_other, same_numbers}
use Rattle.protocol.proofs.Stand.{Stands, Path}
use Rattle.protocol.proofs.Talking.{NotHalf, NoHalves, GossipBy, gossip_by}
use Rattle.run_laws.specs.Schedule.{machine_or, the_machine}
use Rattle.run_laws.specs.Loads.{own_entry}
use Rattle.run_laws.specs.Vectors.{Exchange, in_front, behind_it, exchanged_by, exchanged}
use Rattle.run_laws.proofs.Plays.{at_replay}
use Rattle.run_laws.proofs.Played.{Agrees, path_played}
use Rattle.run_laws.proofs.Here.{load_told, used_told}

-- a half is due by the one count where it is due by the other
pub due_same : (O : Ops) (n other a b c d : ℕ) (P Q : Type 0) (g h : Gossip) → a ≡ b → c ≡ d → (P → Q) → g ≡ h → HalfDueTo O n other a c P g → HalfDueTo O n other b d Q h
due_same O n other a b c d P Q g h e f p k x = subst (λ (i : Gossip). HalfDueTo O n other b d Q i) k (go x)
  where
    again : ((16 ≤ g.steps) ⊎ (P × ((a ≢ g.load) ⊎ (c ≢ g.free)))) → (16 ≤ g.steps) ⊎ (Q × ((b ≢ g.load) ⊎ (d ≢ g.free)))
    again (inl y) = inl y
    again (inr (y, inl z)) = inr (p y, inl (λ i. z (e ∙ i)))
    again (inr (y, inr z)) = inr (p y, inr (λ i. z (f ∙ i)))

    go : HalfDueTo O n other a c P g → HalfDueTo O n other b d Q g
    go (inl y) = inl y
    go (inr (past, is, why)) = inr (past, is, again why)

module _ (O : Ops) where
  -- the places of the halves among letters, in their order
  abbrev pub half_places : Note O → List (List (Option Entry))
  half_places (Half places) = places ∷ []
  half_places _ = []

  abbrev pub halves_on : List (Post O) → List (List (Option Entry))
  halves_on [] = []
  halves_on (l ∷ ls) = half_places l.note ++ halves_on ls

  pub halves-append : (xs ys : List (Post O)) → halves_on (xs ++ ys) ≡ halves_on xs ++ halves_on ys
  halves-append [] ys = refl
  halves-append (l ∷ xs) ys = ap (λ (k : List (List (Option Entry))). half_places l.note ++ k) (halves-append xs ys) ∙ sym (append_assoc (half_places l.note) (halves_on xs) (halves_on ys))

  not_half : (m : Note O) → NotHalf O m → half_places m ≡ []
  not_half (Call p r) x = refl
  not_half (Pause p r) x = refl
  not_half (Reply p d) x = refl
  not_half (Poke p) x = refl
  not_half (Half places) x = absurd x
  not_half (Go p to hops line) x = refl
  not_half (NotHere p to hops line) x = refl
  not_half (Ask p need) x = refl
  not_half (Allow p) x = refl
  not_half (Deny p need free) x = refl
  not_half (Move p u hops line) x = refl
  not_half (Landed p source hops line) x = refl
  not_half (NoMove line) x = refl

  none_on : (a b : ℕ) (ls : List (Post O)) → NoHalves O ls → halves_on (for_link O a b ls) ≡ []
  none_on a b [] x = refl
  none_on a b (l ∷ ls) x = go ((a == l.from) && (b == l.to)) (none_on a b ls x.1)
    where
      go : (k : Bool) → halves_on (for_link O a b ls) ≡ [] → halves_on (cond k (l ∷ for_link O a b ls) (for_link O a b ls)) ≡ []
      go true e = (λ i. (not_half l.note x.0) i ++ e i)
      go false e = e

  abbrev pub NotHalfIn : Option (Post O) → Type 0
  NotHalfIn None = Unit {0}
  NotHalfIn (Some l) = NotHalf O l.note

  none_in : (a b : ℕ) (o : Option (Post O)) → NotHalfIn o → halves_on (at_front O o a b) ≡ []
  none_in a b None x = refl
  none_in a b (Some l) x = go ((a == l.from) && (b == l.to))
    where
      go : (k : Bool) → halves_on (cond k (l ∷ []) []) ≡ []
      go true = append-nil (half_places l.note) ∙ not_half l.note x
      go false = refl

  -- an event that is no half takes none and posts none
  pub record Plain (t : Turn O) : Type 0 where
    pub taken : NotHalfIn t.taken
    pub posted : NoHalves O t.posted

  abbrev pub PlainBy : Talk → Turn O → Type 0
  PlainBy Silent t = Plain t
  PlainBy Stepping t = Plain t
  PlainBy (Talking heard other chosen) t = Unit {0}

  plain : (t : Turn O) (taken : Option (Post O)) (posted : List (Post O)) → t.taken ≡ taken → t.posted ≡ posted → NotHalfIn taken → NoHalves O posted → Plain t
  plain t taken posted e f x y = record { taken = subst NotHalfIn (sym e) x; posted = subst (NoHalves O) (sym f) y }

  pokes_plain : (s : ℕ) (believed : ℕ → Believed) (qs : List ℕ) → NoHalves O (pokes O s believed qs)
  pokes_plain s believed [] = tt
  pokes_plain s believed (q ∷ qs) = (tt, pokes_plain s believed qs)

  closed_plain : (n s : ℕ) (line : Option ℕ) → NoHalves O (line_closed O n s line)
  closed_plain n s None = tt
  closed_plain n s (Some line) = (tt, tt)

  told_plain : (n s p to : ℕ) (b : Bool) → NoHalves O (cond b (letter O n to s (Poke p) ∷ []) [])
  told_plain n s p to true = (tt, tt)
  told_plain n s p to false = tt

  got_plain : (n s p : ℕ) (b : Body O) (k : Option Kept) (d : Done O) → NoHalves O (got_posts O n s p b k d)
  got_plain n s p b None d = tt
  got_plain n s p b (Some k) d = go d.ended
    where
      go : (e : Bool) → NoHalves O (cond e (letter O n 0 s (NoMove k.line) ∷ []) (letter O n k.to s (Ask p (O.pages (after O b.user d))) ∷ []))
      go true = (tt, tt)
      go false = (tt, tt)

  module _ (n : ℕ) (old : Local O) (t : Turn O) (new : Local O) where
    served_plain : (manner : Manner) (p : ℕ) (number : Option ℕ) (value : Option ℤ) (child signal : Option ℕ) (ends : Option End) (more : Bool) (poked : List ℕ) → ServedBy O manner n p number value child signal ends more poked old t new → Plain t
    served_plain Did p number value child signal ends more poked (inl d) = plain t _ _ d.base.took d.base.posts tt (tt, pokes_plain t.event.stamp old.believed poked)
    served_plain Did p number value child signal ends more poked (inr d) = plain t _ _ d.base.took d.base.posts tt (tt, pokes_plain t.event.stamp old.believed poked)
    served_plain Broke p number value child signal ends more poked (inl d) = plain t _ _ d.base.took d.base.posts tt (tt, pokes_plain t.event.stamp old.believed poked)
    served_plain Broke p number value child signal ends more poked (inr d) = plain t _ _ d.base.took d.base.posts tt (tt, pokes_plain t.event.stamp old.believed poked)
    served_plain Fell p number value child signal ends more poked d = plain t _ _ d.base.took d.base.posts tt (tt, pokes_plain t.event.stamp old.believed poked)
    served_plain Paused p number value child signal ends more poked d = plain t _ _ d.base.took d.base.posts tt (tt, pokes_plain t.event.stamp old.believed poked)

    pub plain_by : (s r : Spot O) (what : Deed) → Does O what n old t new → Needs O what n old new s r → PlainBy (talk_of what) t
    plain_by s r (Run line i p) d need = plain t _ _ d.base.took d.base.posts tt tt
    plain_by s r (Kill line p g poked) d need = plain t _ _ d.base.took d.base.posts tt (pokes_plain t.event.stamp old.believed poked)
    plain_by s r (Bid line p to) d need = plain t _ _ d.base.took d.base.posts tt (tt, tt)
    plain_by s r (Unsent line p never) d need = plain t _ _ d.base.took d.base.posts tt tt
    plain_by s r (Other line input) d need = plain t _ _ d.base.took d.base.posts tt tt
    plain_by s r (Steps p k) d need = plain t _ _ d.base.took d.base.posts tt tt
    plain_by s r (Sent p k) d need = plain t _ _ d.base.took d.base.posts tt (tt, tt)
    plain_by s r (Heed p) d need = plain t _ _ d.base.took d.base.posts tt (tt, tt)
    plain_by s r (Held p k) d need = plain t _ _ d.base.took d.base.posts tt tt
    plain_by s r (Served p manner number value child signal ends more poked) d need = served_plain manner p number value child signal ends more poked d
    plain_by s r (Got p child ended kept) d need = plain t _ _ d.base.took d.base.posts tt (got_plain n t.event.stamp p d.body d.keeps d.done)
    plain_by s r (Poked p true) d need = plain t _ _ d.base.took d.base.posts tt tt
    plain_by s r (Poked p false) d need = plain t _ _ d.base.took d.base.posts tt tt
    plain_by s r (Begin p to (ForLine line)) d need = plain t _ _ d.base.took d.base.posts tt (tt, tt)
    plain_by s r (Begin p to (Chosen heard other)) d need = tt
    plain_by s r (Keep p to line) d need = plain t _ _ d.base.took d.base.posts tt tt
    plain_by s r (Missed p to line) d need = plain t _ _ d.base.took d.base.posts tt (tt, tt)
    plain_by s r (Again p to place line) d need = plain t _ _ d.base.took d.base.posts tt (tt, tt)
    plain_by s r (Allows p from load) d need = plain t _ _ d.base.took d.base.posts tt (tt, tt)
    plain_by s r (Denies p from load free) d need = plain t _ _ d.base.took d.base.posts tt (tt, tt)
    plain_by s r (Depart p to) d need = plain t _ _ d.base.took d.base.posts tt (tt, tt)
    plain_by s r (Stay p to load free) d need = plain t _ _ d.base.took d.base.posts tt (closed_plain n t.event.stamp d.line)
    plain_by s r (Land p source) d need = plain t _ _ d.base.took d.base.posts tt (tt, tt)
    plain_by s r (Told p at source hops line poked) d need = plain t _ _ d.base.took d.base.posts tt (told_plain n t.event.stamp p _ poked)
    plain_by s r (Refused p to why line) (inl d) need = plain t _ _ d.base.took d.base.posts tt (tt, tt)
    plain_by s r (Refused p to why line) (inr d) need = plain t _ _ d.base.took d.base.posts tt tt
    plain_by s r (Closed line) d need = plain t _ _ d.base.took d.base.posts tt tt
    plain_by s r (Gossips heard other) d need = tt
    plain_by s r (Strange p) d need = absurd need

module _ (O : Ops) (S : Sound O) where
  -- the machine that the events play agrees with the cluster
  pub the_agrees : (h : List (Turn O)) (sp : ℕ → Spot O) (w : World O) → Path O S h sp w → Agrees O S h sp (w.nodes 0) (the_machine O (events O h))
  the_agrees h sp w path = let b = path_played O S h sp w path in subst (Agrees O S h sp (w.nodes 0)) (sym (ap (machine_or O) (at_replay O (events O h) ∙ b.agrees.plays))) b.agrees

  -- what a node tells of itself is so
  pub own_told : (h : List (Turn O)) (sp : ℕ → Spot O) (w : World O) → Path O S h sp w → Stands O S sp w → (n : ℕ) (heard : Bool) (other : ℕ) (chosen : Option Choice) (t : Turn O) (new : Local O) → (d : Talks O heard n other chosen (w.nodes n) t new)
      → d.own ≡ own_entry O n t.event.stamp (events O h) (the_machine O (events O h))
  own_told h sp w path st n heard other chosen t new d =
      let agrees = the_agrees h sp w path in
      let load = load_told O S h sp w path st (the_machine O (events O h)) agrees n d.own.load d.loaded in
      let used = used_told O S h sp w path st (the_machine O (events O h)) agrees n d.used d.in_use in
      d.own_is ∙ (λ i. record { node = n; load = load i; free = O.cap - used i; stamp = t.event.stamp })

  pub record Same (k : Exchange) (w : World O) : Type 0 where
    pub nodes : (n : ℕ) → k.nodes n ≡ (w.nodes n).gossip
    pub unheard : (a b : ℕ) → k.unheard a b ≡ halves_on O (w.links a b)

  module _ (h : List (Turn O)) (w : World O) (t : Turn O) (v : World O) (sp : ℕ → Spot O) (path : Path O S h sp w) (st : Stands O S sp w) (goes : Goes O w t v) (was : Same (exchanged O (events O h)) w) where
    abbrev n : ℕ
    n = t.event.node

    abbrev k : Exchange
    k = exchanged O (events O h)

    abbrev own : Entry
    own = own_entry O n t.event.stamp (events O h) (the_machine O (events O h))

    before_on : (a b : ℕ) → k.unheard a b ≡ halves_on O (at_front O t.taken a b) ++ halves_on O (goes.rest a b)
    before_on a b = was.unheard a b ∙ (ap (halves_on O) (goes.takes a b) ∙ halves-append O (at_front O t.taken a b) (goes.rest a b))

    after_on : (a b : ℕ) → halves_on O (v.links a b) ≡ halves_on O (goes.rest a b) ++ halves_on O (for_link O a b t.posted)
    after_on a b = ap (halves_on O) (goes.posts a b) ∙ halves-append O (goes.rest a b) (for_link O a b t.posted)

    no_post : (a b : ℕ) → NoHalves O t.posted → halves_on O (v.links a b) ≡ halves_on O (goes.rest a b)
    no_post a b x = after_on a b ∙ (ap (λ (ys : List (List (Option Entry))). halves_on O (goes.rest a b) ++ ys) (none_on O a b t.posted x) ∙ append-nil (halves_on O (goes.rest a b)))

    plain_on : Plain O t → (a b : ℕ) → k.unheard a b ≡ halves_on O (v.links a b)
    plain_on d a b = before_on a b ∙ (ap (λ (ys : List (List (Option Entry))). ys ++ halves_on O (goes.rest a b)) (none_in O a b t.taken d.taken) ∙ sym (no_post a b d.posted))

    -- a half that is taken is the first that is not heard
    pub heard_there : (other stamp : ℕ) (places : List (Option Entry)) → t.taken ≡ Some (letter O other n stamp (Half places)) → k.unheard other n ≡ places ∷ halves_on O (goes.rest other n)
    heard_there other stamp places e =
        let same : ((other == other) && (n == n)) ≡ true = rw (same_numbers other other refl, same_numbers n n refl) refl in
        before_on other n ∙ (ap (λ (o : Option (Post O)). halves_on O (at_front O o other n) ++ halves_on O (goes.rest other n)) e ∙ ap (λ (c : Bool). halves_on O (cond c (letter O other n stamp (Half places) ∷ []) []) ++ halves_on O (goes.rest other n)) same)

    -- the gossip of the turn's node, and that of each other
    nodes_next : (g : Gossip) → g ≡ (v.nodes n).gossip → (a : ℕ) → cond (a == n) g (k.nodes a) ≡ (v.nodes a).gossip
    nodes_next g e a = go (a == n) refl
      where
        go : (b : Bool) → (a == n) ≡ b → cond b g (k.nodes a) ≡ (v.nodes a).gossip
        go true x = e ∙ ap (λ (i : ℕ). (v.nodes i).gossip) (sym (numbers_same a n x))
        go false x = was.nodes a ∙ ap (λ (l : Local O). l.gossip) (sym (goes.elsewhere a (numbers_other a n x)))

    stays : (v.nodes n).gossip ≡ (w.nodes n).gossip → (a : ℕ) → k.nodes a ≡ (v.nodes a).gossip
    stays e a = go (a == n) refl
      where
        go : (b : Bool) → (a == n) ≡ b → k.nodes a ≡ (v.nodes a).gossip
        go true x = subst (λ (i : ℕ). k.nodes i ≡ (v.nodes i).gossip) (sym (numbers_same a n x)) (was.nodes n ∙ sym e)
        go false x = was.nodes a ∙ ap (λ (l : Local O). l.gossip) (sym (goes.elsewhere a (numbers_other a n x)))

    talk_next : (talk : Talk) → GossipBy O talk n (w.nodes n) t (v.nodes n) → PlainBy O talk t → Same (exchanged_by talk n own k) v
    talk_next Silent g x = record { nodes = stays g; unheard = plain_on x }
    talk_next Stepping g x = record { nodes = nodes_next _ (ap one_step (was.nodes n) ∙ sym g.0); unheard = plain_on x }
    talk_next (Talking false other chosen) g x = record {
      nodes = nodes_next _ ((λ i. gossip_after false ((sym own_is) i) [] ((was.nodes n) i)) ∙ sym g.talks.gossip);
      unheard = λ a b. posted a b ((a == n) && (b == other)) refl;
    }
      where
        own_is : g.talks.own ≡ own
        own_is = own_told h sp w path st n false other chosen t (v.nodes n) g.talks

        places_is : g.talks.places ≡ told_places own (k.nodes n)
        places_is = g.talks.sends.2 ∙ (λ i. told_places (own_is i) ((sym (was.nodes n)) i))

        rest_is : (a b : ℕ) → k.unheard a b ≡ halves_on O (goes.rest a b)
        rest_is a b = before_on a b ∙ ap (λ (o : Option (Post O)). halves_on O (at_front O o a b) ++ halves_on O (goes.rest a b)) g.took

        on : (a b : ℕ) → halves_on O (for_link O a b t.posted) ≡ halves_on O (cond ((a == n) && (b == other)) (letter O n other t.event.stamp (Half g.talks.places) ∷ for_link O a b g.rest) (for_link O a b g.rest))
        on a b = ap (λ (ls : List (Post O)). halves_on O (for_link O a b ls)) g.posts

        posted : (a b : ℕ) (c : Bool) → ((a == n) && (b == other)) ≡ c → cond c (k.unheard a b ++ told_places own (k.nodes n) ∷ []) (k.unheard a b) ≡ halves_on O (v.links a b)
        posted a b c e =
            by c (on a b ∙ ap (λ (i : Bool). halves_on O (cond i (letter O n other t.event.stamp (Half g.talks.places) ∷ for_link O a b g.rest) (for_link O a b g.rest))) e)
          where
            by : (c : Bool) → halves_on O (for_link O a b t.posted) ≡ halves_on O (cond c (letter O n other t.event.stamp (Half g.talks.places) ∷ for_link O a b g.rest) (for_link O a b g.rest)) → cond c (k.unheard a b ++ told_places own (k.nodes n) ∷ []) (k.unheard a b) ≡ halves_on O (v.links a b)
            by true f =
                let one : halves_on O (for_link O a b t.posted) ≡ told_places own (k.nodes n) ∷ [] = f ∙ λ i. places_is i ∷ (none_on O a b g.rest g.none) i in
                (λ i. (rest_is a b) i ++ (sym one) i) ∙ sym (after_on a b)
            by false f =
                let one : halves_on O (for_link O a b t.posted) ≡ [] = f ∙ none_on O a b g.rest g.none in
                rest_is a b ∙ (sym (append-nil (halves_on O (goes.rest a b))) ∙ ((λ i. halves_on O (goes.rest a b) ++ (sym one) i) ∙ sym (after_on a b)))
    talk_next (Talking true other chosen) g x = record {
      nodes = nodes_next _ ((λ i. gossip_after true ((sym own_is) i) (front_is i) ((was.nodes n) i)) ∙ sym g.talks.gossip);
      unheard = λ a b. taken a b ((a == other) && (b == n)) refl;
    }
      where
        own_is : g.talks.own ≡ own
        own_is = own_told h sp w path st n true other chosen t (v.nodes n) g.talks

        on : (a b : ℕ) → k.unheard a b ≡ halves_on O (cond ((a == other) && (b == n)) (letter O other n g.talks.stamp (Half g.talks.places) ∷ []) []) ++ halves_on O (goes.rest a b)
        on a b = before_on a b ∙ ap (λ (o : Option (Post O)). halves_on O (at_front O o a b) ++ halves_on O (goes.rest a b)) g.took

        front_is : in_front (k.unheard other n) ≡ g.talks.places
        front_is = ap in_front (heard_there other g.talks.stamp g.talks.places g.took)

        none : (a b : ℕ) → halves_on O (v.links a b) ≡ halves_on O (goes.rest a b)
        none a b = no_post a b (subst (NoHalves O) (sym g.posts) g.none)

        taken : (a b : ℕ) (c : Bool) → ((a == other) && (b == n)) ≡ c → cond c (behind_it (k.unheard a b)) (k.unheard a b) ≡ halves_on O (v.links a b)
        taken a b c e = by c (on a b ∙ ap (λ (i : Bool). halves_on O (cond i (letter O other n g.talks.stamp (Half g.talks.places) ∷ []) []) ++ halves_on O (goes.rest a b)) e)
          where
            by : (c : Bool) → k.unheard a b ≡ halves_on O (cond c (letter O other n g.talks.stamp (Half g.talks.places) ∷ []) []) ++ halves_on O (goes.rest a b) → cond c (behind_it (k.unheard a b)) (k.unheard a b) ≡ halves_on O (v.links a b)
            by true f = ap behind_it f ∙ sym (none a b)
            by false f = f ∙ sym (none a b)

  pub path_exchanged : (h : List (Turn O)) (sp : ℕ → Spot O) (w : World O) → Path O S h sp w → Same (exchanged O (events O h)) w
  path_exchanged [] sp w r = record { nodes = λ n. sym (r.0.nodes n).gossip; unheard = λ a b. sym (ap (halves_on O) (r.0.links a b)) }
  path_exchanged (t ∷ h) sp v r = talk_next h r.0 t v r.1 r.2 r.3 r.4.goes (path_exchanged h r.1 r.0 r.2) (talk_of t.event.what)
      (gossip_by O t.event.node (r.0.nodes t.event.node) t (v.nodes t.event.node) t.event.what r.4.goes.makes.does)
      (plain_by O t.event.node (r.0.nodes t.event.node) t (v.nodes t.event.node) (r.1 (pid_of t.event.what)) r.4.own t.event.what r.4.goes.makes.does r.4.needs)
