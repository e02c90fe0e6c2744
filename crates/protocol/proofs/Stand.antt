-- The process invariant, and the induction over every run of the cluster.
use Rattle.std.proofs.Common.{◌≡◌, ◌≢◌, ℕ, suc, ◌+◌, ◌<◌, ◌≤◌, ◌==◌, ◌&&◌, ◌⊎◌, inl, inr, Bool, true, false, cond, Option, Some, None, List, [], ◌∷◌, ◌++◌, refl, sym, ap, ◌∙◌, subst, arith}
use Rattle.protocol.specs.Ops.{Ops, Sound, counted, sum_below, one_if, lives_in}
use Rattle.protocol.specs.Deeds.{Manner, Did, Broke, Fell, Paused, ForLine, Chosen, Deed, Run, Kill, Bid, Unsent, Other, Steps, Sent, Heed, Held, Served, Got, Poked, Begin, Keep, Missed, Again, Allows, Denies, Depart, Stay, Land, Told, Refused, Closed, Gossips, Strange, pid_of, child_of}
use Rattle.protocol.specs.Notes.{Done, Note, Call, Pause, Reply, Poke, Half, Go, NotHere, Ask, Allow, Deny, Move, Landed, NoMove, Post, Turn, letter, Body, fresh, Kept, Slot, Local, Believed, Waiting}
use Rattle.protocol.specs.Spots.{Spot, Nowhere, Runs, Calls, Holds, Pauses, Answered, Asks, Granted, Denied, Travels, InReply, Ended, goal, reserved, slot_by}
use Rattle.protocol.specs.Cluster.{World, for_link, at_front, Goes, Starts, Reached}
use Rattle.protocol.specs.Gossip.{Entry, Gossip, NearPlaces, renewed, told_places, Choice, Talk, Silent, Stepping, Talking, talk_of}
use Rattle.protocol.proofs.Places.{near_renewed, near_first, near_woven}
use Rattle.protocol.proofs.Talking.{GossipBy, gossip_by, own_below, half_apart}
use Rattle.protocol.specs.Does.{Does, ServedBy, Talks, Lands, Reserved, is_reserved, got_posts}
use Rattle.protocol.specs.Home.{after, pokes, line_closed, Given, NeverGiven}
use Rattle.protocol.specs.Needs.{Names, Needs, Aims, Coupled, brings, user_at, born_spot, next_spot, alive, Right, Named}
use Rattle.protocol.proofs.Talk.{same_numbers, numbers_same, numbers_other, talk}
use Rattle.protocol.proofs.Process.{cond_same, At, StateTells, context_tells}
use Rattle.protocol.proofs.Own.{Turned, land_own}
use Rattle.protocol.proofs.Run.{Bound, BoundOf, Knows, own_at, other_at, served_frame, got_child, born_child}
use Rattle.protocol.proofs.Quiet.{born_count, counts, child_so, home_so, nowhere, nowhere_so, aims, named}
use Rattle.protocol.proofs.Coupling.{gentle, so_out, so_brings, got_brings, Part, Own, Child, Rest, part, at_own, at_child, at_rest, coupled_quiet, coupled_fork, coupled_got}
use Rattle.std.proofs.lemmas.Bool.Decides.{leb_tells}
use lib.Dec.{leb}
use Rattle.protocol.proofs.Alive.{LivesAt, lives_at, born_plain, GrowsFew, grows_few, last_alive}
use Rattle.protocol.proofs.Sums.{one_most, sum_grows, sum_ends, sum_less, sum_below_le}
use Rattle.std.specs.Prelude.{ℤ}
use Rattle.call_table.specs.declared.process.End.{End}

module _ (O : Ops) (S : Sound O) where
  abbrev pub EachBound : ℕ → List (Post O) → Type 0
  EachBound k [] = Unit {0}
  EachBound k (l ∷ ls) = (Bound O k l.note l.from l.to × (l.from < O.nodes)) × EachBound k ls

  -- later, more pids were given
  bound_later : (k k2 : ℕ) → k ≤ k2 → (m : Note O) (a b : ℕ) → Bound O k m a b → Bound O k2 m a b
  bound_later k k2 less (Call p r) a b x = tt
  bound_later k k2 less (Pause p r) a b x = tt
  bound_later k k2 less (Reply p d) a b x = tt
  bound_later k k2 less (Poke p) a b x = tt
  bound_later k k2 less (Half places) a b x = x
  bound_later k k2 less (Go p to hops line) a b x = (x.0, x.1, (x.2.0, omega (arith, x.2.1, less)))
  bound_later k k2 less (NotHere p to hops line) a b x = (x.0, x.1, x.2, (x.3.0, omega (arith, x.3.1, less)))
  bound_later k k2 less (Ask p need) a b x = tt
  bound_later k k2 less (Allow p) a b x = tt
  bound_later k k2 less (Deny p need free) a b x = tt
  bound_later k k2 less (Move p u hops line) a b x = tt
  bound_later k k2 less (Landed p source hops line) a b x = (x.0, x.1, x.2, (x.3.0, omega (arith, x.3.1, less)))
  bound_later k k2 less (NoMove line) a b x = x

  all_later : (k k2 : ℕ) → k ≤ k2 → (ls : List (Post O)) → EachBound k ls → EachBound k2 ls
  all_later k k2 less [] x = tt
  all_later k k2 less (l ∷ ls) x = ((bound_later k k2 less l.note l.from l.to x.0.0, x.0.1), all_later k k2 less ls x.1)

  bound_right : (n : ℕ) (xs ys : List (Post O)) → EachBound n (xs ++ ys) → EachBound n ys
  bound_right n [] ys p = p
  bound_right n (x ∷ xs) ys p = bound_right n xs ys p.1

  bound_append : (n : ℕ) (xs ys : List (Post O)) → EachBound n xs → EachBound n ys → EachBound n (xs ++ ys)
  bound_append n [] ys p q = q
  bound_append n (x ∷ xs) ys p q = (p.0, bound_append n xs ys p.1 q)

  bound_link : (n : ℕ) (a b : ℕ) (ls : List (Post O)) → EachBound n ls → EachBound n (for_link O a b ls)
  bound_link n a b [] p = tt
  bound_link n a b (l ∷ ls) p = go ((a == l.from) && (b == l.to)) (bound_link n a b ls p.1)
    where
      go : (k : Bool) → EachBound n (for_link O a b ls) → EachBound n (cond k (l ∷ for_link O a b ls) (for_link O a b ls))
      go true r = (p.0, r)
      go false r = r

  bound_taken : (n : ℕ) (o : Option (Post O)) (rest : ℕ → ℕ → List (Post O)) → ((a b : ℕ) → EachBound n (at_front O o a b ++ rest a b)) → BoundOf O n o
  bound_taken n None rest h = tt
  bound_taken n (Some l) rest h =
      let e : ((l.from == l.from) && (l.to == l.to)) ≡ true = rw (same_numbers l.from l.from refl, same_numbers l.to l.to refl) refl in
      (subst (λ (k : Bool). EachBound n (cond k (l ∷ []) [] ++ rest l.from l.to)) e (h l.from l.to)).0

  pokes_bound : (n : ℕ) (s : ℕ) (believed : ℕ → Believed) (qs : List ℕ) → 0 < O.nodes → EachBound n (pokes O s believed qs)
  pokes_bound n s believed [] below = tt
  pokes_bound n s believed (q ∷ qs) below = ((tt, below), pokes_bound n s believed qs below)

  closed_bound : (k n s : ℕ) (line : Option ℕ) → n < O.nodes → EachBound k (line_closed O n s line)
  closed_bound k n s None below = tt
  closed_bound k n s (Some line) below = ((refl, below), tt)

  module _ (w : World O) (t : Turn O) (v : World O) (goes : Goes O w t v) where
    abbrev n : ℕ
    n = t.event.node

    abbrev old : Local O
    old = w.nodes t.event.node

    abbrev new : Local O
    new = v.nodes t.event.node

    -- so many pids were given at home
    abbrev births : ℕ
    births = O.count (w.nodes 0).kernel

    by_base : (ls : List (Post O)) → t.posted ≡ ls → EachBound births ls → EachBound births t.posted
    by_base ls e b = subst (EachBound births) (sym e) b

    below : n < O.nodes
    below = goes.makes.below

    first_below : n ≡ 0 → 0 < O.nodes
    first_below e = omega (arith, e, below)

    told_near : (other : ℕ) (chosen : Option Choice) → NearPlaces O.nodes old.gossip.vector → (d : Talks O false n other chosen old t new) → NearPlaces O.nodes d.places
    told_near other chosen near d = subst (NearPlaces O.nodes) (sym d.sends.2) (near_first O.nodes 4 (renewed d.own old.gossip.vector) (near_renewed O.nodes d.own old.gossip.vector (own_below O n old t new false other chosen below d) near))

    got_bound : (p : ℕ) (b : Body O) (k : Option Kept) (d : Done O) → EachBound births (got_posts O n t.event.stamp p b k d)
    got_bound p b None d = tt
    got_bound p b (Some k) d = go d.ended
      where
        go : (e : Bool) → EachBound births (cond e (letter O n 0 t.event.stamp (NoMove k.line) ∷ []) (letter O n k.to t.event.stamp (Ask p (O.pages (after O b.user d))) ∷ []))
        go true = ((refl, below), tt)
        go false = ((tt, below), tt)

    told_bound : (p to : ℕ) (b : Bool) → EachBound births (cond b (letter O n to t.event.stamp (Poke p) ∷ []) [])
    told_bound p to true = ((tt, below), tt)
    told_bound p to false = tt

    served_bound : (manner : Manner) (p : ℕ) (number : Option ℕ) (value : Option ℤ) (child signal : Option ℕ) (ends : Option End) (more : Bool) (poked : List ℕ) → ServedBy O manner n p number value child signal ends more poked old t new → EachBound births t.posted
    served_bound Did p number value child signal ends more poked (inl d) = by_base _ d.base.posts ((tt, below), pokes_bound births t.event.stamp old.believed poked (first_below d.home))
    served_bound Did p number value child signal ends more poked (inr d) = by_base _ d.base.posts ((tt, below), pokes_bound births t.event.stamp old.believed poked (first_below d.home))
    served_bound Broke p number value child signal ends more poked (inl d) = by_base _ d.base.posts ((tt, below), pokes_bound births t.event.stamp old.believed poked (first_below d.home))
    served_bound Broke p number value child signal ends more poked (inr d) = by_base _ d.base.posts ((tt, below), pokes_bound births t.event.stamp old.believed poked (first_below d.home))
    served_bound Fell p number value child signal ends more poked d = by_base _ d.base.posts ((tt, below), pokes_bound births t.event.stamp old.believed poked (first_below d.home))
    served_bound Paused p number value child signal ends more poked d = by_base _ d.base.posts ((tt, below), pokes_bound births t.event.stamp old.believed poked (first_below d.home))

    posts_bound : (what : Deed) → NearPlaces O.nodes old.gossip.vector → ((q : ℕ) → n ≡ 0 → O.live old.kernel q ≡ true → Given O births q) → ((p source : ℕ) → Lands O n p source old t new → Given O births p) → BoundOf O births t.taken → Does O what n old t new → EachBound births t.posted
    posts_bound (Run line i p) near lives landed bound d = by_base _ d.base.posts tt
    posts_bound (Kill line p g poked) near lives landed bound d = by_base _ d.base.posts (pokes_bound births t.event.stamp old.believed poked (first_below d.home))
    posts_bound (Bid line p to) near lives landed bound d = by_base _ d.base.posts (((S.lines _ _ d.order.next, S.targets line p to (S.lines _ _ d.order.next), lives p d.home d.live), first_below d.home), tt)
    posts_bound (Unsent line p never) near lives landed bound d = by_base _ d.base.posts tt
    posts_bound (Other line input) near lives landed bound d = by_base _ d.base.posts tt
    posts_bound (Steps p k) near lives landed bound d = by_base _ d.base.posts tt
    posts_bound (Sent p k) near lives landed bound d = by_base _ d.base.posts ((tt, below), tt)
    posts_bound (Heed p) near lives landed bound d = by_base _ d.base.posts ((tt, below), tt)
    posts_bound (Held p k) near lives landed bound d = by_base _ d.base.posts tt
    posts_bound (Served p manner number value child signal ends more poked) near lives landed bound d = served_bound manner p number value child signal ends more poked d
    posts_bound (Got p child ended kept) near lives landed bound d = by_base _ d.base.posts (got_bound p d.body d.keeps d.done)
    posts_bound (Poked p true) near lives landed bound d = by_base _ d.base.posts tt
    posts_bound (Poked p false) near lives landed bound d = by_base _ d.base.posts tt
    posts_bound (Begin p to (ForLine line)) near lives landed bound d = by_base _ d.base.posts ((tt, below), tt)
    posts_bound (Begin p to (Chosen false other)) near lives landed bound d = by_base _ d.base.posts (((told_near other _ near d.why, half_apart O n old t new other _ d.why), below), ((tt, below), tt))
    posts_bound (Begin p to (Chosen true other)) near lives landed bound d = by_base _ d.base.posts ((tt, below), tt)
    posts_bound (Keep p to line) near lives landed bound d = by_base _ d.base.posts tt
    posts_bound (Missed p to line) near lives landed bound d = by_base _ d.base.posts ((let x = (subst (BoundOf O births) d.base.took bound).0 in ((refl, x.0, x.1, x.2), below)), tt)
    posts_bound (Again p to place line) near lives landed bound d = by_base _ d.base.posts ((let x = (subst (BoundOf O births) d.base.took bound).0 in ((x.1, x.2, x.3), below)), tt)
    posts_bound (Allows p from need) near lives landed bound d = by_base _ d.base.posts ((tt, below), tt)
    posts_bound (Denies p from need free) near lives landed bound d = by_base _ d.base.posts ((tt, below), tt)
    posts_bound (Depart p to) near lives landed bound d = by_base _ d.base.posts ((tt, below), tt)
    posts_bound (Stay p to need free) near lives landed bound d = by_base _ d.base.posts (closed_bound births n t.event.stamp d.line below)
    posts_bound (Land p source) near lives landed bound d = by_base _ d.base.posts (((refl, omega arith, (subst (BoundOf O births) d.base.took bound).1, landed p source d), below), tt)
    posts_bound (Told p at source hops line poked) near lives landed bound d = by_base _ d.base.posts (told_bound p _ poked)
    posts_bound (Refused p to why line) near lives landed bound (inl d) = by_base _ d.base.posts ((refl, below), tt)
    posts_bound (Refused p to why line) near lives landed bound (inr d) = by_base _ d.base.posts tt
    posts_bound (Closed line) near lives landed bound d = by_base _ d.base.posts tt
    posts_bound (Gossips false other) near lives landed bound d = by_base _ d.base.posts (((told_near other _ near d.talks, half_apart O n old t new other _ d.talks), below), tt)
    posts_bound (Gossips true other) near lives landed bound d = by_base _ d.base.posts tt
    posts_bound (Strange p) near lives landed bound d = by_base _ d.base.posts tt

    -- an event that takes a line's letter is of that line's move, and a landing is told with its number
    names : (what : Deed) → BoundOf O births t.taken → Does O what n old t new → Names O what
    names (Run line i p) bound d = tt
    names (Kill line p g poked) bound d = tt
    names (Bid line p to) bound d = tt
    names (Unsent line p never) bound d = tt
    names (Other line input) bound d = tt
    names (Steps p k) bound d = tt
    names (Sent p k) bound d = tt
    names (Heed p) bound d = tt
    names (Held p k) bound d = tt
    names (Served p manner number value child signal ends more poked) bound d = tt
    names (Got p child ended kept) bound d = tt
    names (Poked p used) bound d = tt
    names (Begin p to (ForLine line)) bound d = (subst (BoundOf O births) d.base.took bound).0.0
    names (Begin p to (Chosen heard other)) bound d = tt
    names (Keep p to line) bound d = (subst (BoundOf O births) d.base.took bound).0.0
    names (Missed p to line) bound d = (subst (BoundOf O births) d.base.took bound).0.0
    names (Again p to place line) bound d = (subst (BoundOf O births) d.base.took bound).0.1
    names (Allows p from need) bound d = tt
    names (Denies p from need free) bound d = tt
    names (Depart p to) bound d = tt
    names (Stay p to need free) bound d = tt
    names (Land p source) bound d = tt
    names (Told p at source hops line poked) bound d = (subst (BoundOf O births) d.base.took bound).0.1
    names (Closed line) bound d = tt
    names (Gossips heard other) bound d = tt
    names (Strange p) bound d = tt
    names (Refused p to why line) bound (inl d) = (subst (BoundOf O births) d.base.took bound).0.0
    names (Refused p to why line) bound (inr d) = (subst (BoundOf O births) d.base.took bound).0.1

  -- the invariant of processes
  pub record Stands (sp : ℕ → Spot O) (w : World O) : Type 0 where
    pub at : (p : ℕ) → At O p (sp p) w
    pub unborn : (p : ℕ) → O.count (w.nodes 0).kernel < p → sp p ≡ Nowhere
    pub zero : sp 0 ≡ Nowhere
    pub coupled : Coupled O sp
    pub aims : (p : ℕ) → Aims O (sp p)
    pub bound : (a b : ℕ) → EachBound (O.count (w.nodes 0).kernel) (w.links a b)
    pub lives : (p : ℕ) → O.live (w.nodes 0).kernel p ≡ alive O (sp p)
    pub right : (p : ℕ) → Right O (sp p)
    pub named : (p : ℕ) → Named O p (sp p)
    pub near : (n : ℕ) → NearPlaces O.nodes (w.nodes n).gossip.vector
    pub few : lives_in O (w.nodes 0).kernel ≤ 64

  -- one step of the spots
  pub record Step (sp : ℕ → Spot O) (w : World O) (t : Turn O) (next : ℕ → Spot O) (v : World O) : Type 0 where
    pub goes : Goes O w t v
    pub own : Spot O
    pub needs : Needs O t.event.what t.event.node (w.nodes t.event.node) (v.nodes t.event.node) (sp (pid_of t.event.what)) own
    pub next_is : (q : ℕ) → next q ≡ next_spot O t.event.what t.event.node sp own q

  -- the history with the spots at each prefix
  abbrev pub Path : List (Turn O) → (ℕ → Spot O) → World O → Type 0
  Path [] sp w = Starts O w × ((p : ℕ) → sp p ≡ Nowhere)
  Path (t ∷ h) sp v = (w : World O) × (before : ℕ → Spot O) × Path h before w × Stands before w × Step before w t sp v

  -- no reservation stands for one that does not live
  dead_reserves : (s : Spot O) → alive O s ≡ false → reserved O s ≡ None
  dead_reserves Nowhere e = refl
  dead_reserves (Runs m b) e = refl
  dead_reserves (Calls m b k r) e = refl
  dead_reserves (Holds m b k r) e = refl
  dead_reserves (Pauses m b k r) e = refl
  dead_reserves (Answered m b k d x y) e = refl
  dead_reserves (Asks m b to l need) e = refl
  dead_reserves (Granted m b to l need) e = absurd cc
  dead_reserves (Denied m b to l need free) e = refl
  dead_reserves (Travels a c b l need) e = absurd cc
  dead_reserves (InReply q u) e = refl
  dead_reserves (Ended u) e = refl

  module _ (w : World O) (t : Turn O) (v : World O) (goes : Goes O w t v) (sp : ℕ → Spot O) (st : Stands sp w) where
    abbrev what : Deed
    what = t.event.what

    abbrev m : ℕ
    m = t.event.node

    home_node : t.event.node ≡ 0 → w.nodes t.event.node ≡ w.nodes 0
    home_node e = ap w.nodes e

    abbrev so_many : ℕ
    so_many = O.count (w.nodes 0).kernel

    taken_bound : BoundOf O so_many t.taken
    taken_bound = bound_taken so_many t.taken goes.rest (λ a b. subst (EachBound so_many) (goes.takes a b) (st.bound a b))

    -- a process that is somewhere has a pid that was given
    some_given : (q : ℕ) → sp q ≢ Nowhere → Given O so_many q
    some_given q some = (first (q == 0) refl, most (leb_tells q so_many))
      where
        first : (b : Bool) → (q == 0) ≡ b → 1 ≤ q
        first true e = absurd (some (ap sp (numbers_same q 0 e) ∙ st.zero))
        first false e = let ne = numbers_other q 0 e in omega (arith, ne)

        most : ((leb q so_many ≡ true) × (q ≤ so_many)) ⊎ ((leb q so_many ≡ false) × (so_many < q)) → q ≤ so_many
        most (inl x) = x.1
        most (inr x) = absurd (some (st.unborn q x.1))

    live_given : (q : ℕ) → O.live (w.nodes 0).kernel q ≡ true → Given O so_many q
    live_given q live = some_given q (λ e. (let z : true ≡ false = sym live ∙ (st.lives q ∙ ap (alive O) e) in cc))

    -- fewer reservations than live processes, where one of these has none
    reserved_le : (s : Spot O) (b : Bool) → one_if (is_reserved O (cond b (reserved O s) None)) ≤ one_if (alive O s)
    reserved_le s b = go (alive O s) refl b
      where
        dead : alive O s ≡ false → reserved O s ≡ None
        dead e = dead_reserves s e

        go : (x : Bool) → alive O s ≡ x → (b : Bool) → one_if (is_reserved O (cond b (reserved O s) None)) ≤ one_if x
        go true e b = one_most (is_reserved O (cond b (reserved O s) None))
        go false e true = let z : one_if (is_reserved O (reserved O s)) ≡ 0 = ap (λ (o : Option ℕ). one_if (is_reserved O o)) (dead e) in omega (arith, z)
        go false e false = omega arith

    few_here : (q total : ℕ) → alive O (sp q) ≡ true → ((w.nodes m).slots q).reserve ≡ None → Reserved O (w.nodes m) total → total < 64
    few_here q total live none r =
        let K = (w.nodes 0).kernel in
        let c = O.count K + 1 in
        let given = live_given q (st.lives q ∙ live) in
        let here : one_if (is_reserved O ((w.nodes m).slots q).reserve) + 1 ≤ one_if (O.live K q) = rw (none, st.lives q ∙ live) (omega arith) in
        let swap : sum_below (c + r.bound) (λ p. one_if (O.live K p)) ≡ sum_below (r.bound + c) (λ p. one_if (O.live K p)) = ap (λ (k : ℕ). sum_below k (λ p. one_if (O.live K p))) (omega arith) in
        let a = sum_grows c r.bound (λ p. one_if (is_reserved O ((w.nodes m).slots p).reserve)) in
        let b = sum_less q (c + r.bound) (λ p. one_if (is_reserved O ((w.nodes m).slots p).reserve)) (λ p. one_if (O.live K p)) (omega (arith, given.1)) here less in
        let d = sum_ends r.bound c (λ p. one_if (O.live K p)) none_live in
        omega (arith, r.sum, a, b, swap, d, st.few)
      where
        less : (p : ℕ) → one_if (is_reserved O ((w.nodes m).slots p).reserve) ≤ one_if (O.live (w.nodes 0).kernel p)
        less p =
            let e : ((w.nodes m).slots p).reserve ≡ cond (m == goal O (sp p)) (reserved O (sp p)) None = ap (λ (k : Slot O). k.reserve) ((st.at p).slots m) in
            rw (e, st.lives p) (reserved_le (sp p) (m == goal O (sp p)))

        none_live : (p : ℕ) → O.count (w.nodes 0).kernel + 1 ≤ p → one_if (O.live (w.nodes 0).kernel p) ≡ 0
        none_live p far = ap one_if (st.lives p ∙ ap (alive O) (st.unborn p (omega (arith, far))))

    -- what is known of a process at its spot
    knows : (q : ℕ) → Knows O w t v goes q (sp q)
    knows q = record {
      aims = st.aims q;
      right = st.right q;
      named = st.named q;
      asked = S.fits_asks;
      few = λ total live none r. few_here q total live none r;
      live = λ home. ap (λ (k : ℕ). O.live (w.nodes k).kernel q) home ∙ st.lives q;
      given = λ some home never. not_never q home (some_given q some) never;
      kid = λ c e. (let x = (st.coupled.child q c e).0 in (ap (λ (k : Slot O). k.context) ((st.at c).slots m) ∙ (ap (λ (k : Spot O). (slot_by O k m).context) x ∙ cond_same (m == 0) None), λ home never. not_never c home (some_given c (λ z. (let y = sym x ∙ z in cc))) never));
    }
      where
        not_never : (c : ℕ) → m ≡ 0 → Given O so_many c → NeverGiven O (w.nodes m).kernel c → ⊥
        not_never c home g (inl x) = omega (arith, g.0, x)
        not_never c home g (inr x) = let e : O.count (w.nodes m).kernel ≡ so_many = ap (λ (k : ℕ). O.count (w.nodes k).kernel) home in omega (arith, g.1, x, e)

    pub names_at : Names O what
    names_at = names w t v goes what taken_bound goes.makes.does

    pub turned : Turned O (Needs O what m (w.nodes m) (v.nodes m) (sp (pid_of what))) (pid_of what) v
    turned = own_at O w t v goes what (sp (pid_of what)) (λ less home. st.unborn (pid_of what) (subst (λ (k : Local O). O.count k.kernel < pid_of what) (home_node home) less)) (knows (pid_of what)) taken_bound (st.at (pid_of what)) goes.makes.does

    abbrev r : Spot O
    r = turned.0

    abbrev need : Needs O what m (w.nodes m) (v.nodes m) (sp (pid_of what)) r
    need = turned.1

    abbrev next : ℕ → Spot O
    next = next_spot O what m sp r

    -- an event whose child is born in it
    record Forked (what : Deed) (r : Spot O) (c : ℕ) : Type 0 where
      new : sp c ≡ Nowhere
      is : c ≡ O.count (w.nodes 0).kernel + 1
      home : m ≡ 0
      grows : O.count (v.nodes m).kernel ≡ O.count (w.nodes m).kernel + 1
      some : sp (pid_of what) ≢ Nowhere
      still : At O c (sp c) v
      bears : brings O r ≡ Some c
      user : user_at O r ≡ user_at O (sp (pid_of what))
      out : (q : ℕ) (u : O.User) → sp (pid_of what) ≡ InReply q u → ⊥
      born : born_spot O what m (sp (pid_of what)) c ≡ InReply (pid_of what) (O.forked (user_at O (sp (pid_of what))) c)

    -- or came with the reply
    record Arrived (what : Deed) (r : Spot O) (c : ℕ) : Type 0 where
      had : brings O (sp (pid_of what)) ≡ Some c
      none : brings O r ≡ None
      born : born_spot O what m (sp (pid_of what)) c ≡ Runs m (fresh O (O.forked (user_at O (sp (pid_of what))) c))
      at : At O c (Runs m (fresh O (O.forked (user_at O (sp (pid_of what))) c))) v

    user_waiting : (b : Body O) (x : Bool) (k : Option Kept) (s : Spot O) → StateTells O (Waiting x k) b m s → user_at O s ≡ b.user
    user_waiting b x k s (inl (q, e, z)) = ap (user_at O) e
    user_waiting b x k s (inr (inl (q, e, z))) = ap (user_at O) e
    user_waiting b x k s (inr (inr (inl (q, e, z)))) = ap (user_at O) e
    user_waiting b x k s (inr (inr (inr (d, y, e)))) = ap (user_at O) e

    child_case : (what : Deed) (r : Spot O) → Needs O what m (w.nodes m) (v.nodes m) (sp (pid_of what)) r → Does O what m (w.nodes m) t (v.nodes m) → (c : ℕ) → child_of what ≡ Some c → Forked what r c ⊎ Arrived what r c
    child_case (Run line i p) r need d c e = absurd cc
    child_case (Kill line p g poked) r need d c e = absurd cc
    child_case (Bid line p to) r need d c e = absurd cc
    child_case (Unsent line p never) r need d c e = absurd cc
    child_case (Other line input) r need d c e = absurd cc
    child_case (Steps p k) r need d c e = absurd cc
    child_case (Sent p k) r need d c e = absurd cc
    child_case (Heed p) r need d c e = absurd cc
    child_case (Held p k) r need d c e = absurd cc
    child_case (Served p manner number value child signal ends more poked) r need d c e =
        let home = home_so O S m (w.nodes m) (v.nodes m) (sp p) r manner p number value child signal ends more poked need in
        let is : c ≡ O.count (w.nodes 0).kernel + 1 = child_so O S m (w.nodes m) (v.nodes m) (sp p) r manner p number value child signal ends more poked c e need ∙ ap (λ (k : Local O). O.count k.kernel + 1) (home_node home) in
        let b = so_brings O m (w.nodes m) (v.nodes m) (sp p) r manner p number value child signal ends more poked need in
        inl (record {
          new = st.unborn c (omega (arith, is));
          is = is;
          home = home;
          grows = counts O S m (w.nodes m) (v.nodes m) (sp p) r (Served p manner number value child signal ends more poked) need ∙ ap (λ (k : Option ℕ). counted k (O.count (w.nodes m).kernel)) e;
          still = served_frame O w t v goes manner p number value child signal ends more poked d c (sp c) (λ z. nowhere_so O S m (w.nodes m) (v.nodes m) (sp p) r manner p number value child signal ends more poked need (subst (λ (k : ℕ). sp k ≡ Nowhere) z (st.unborn c (omega (arith, is))))) (st.at c);
          some = nowhere_so O S m (w.nodes m) (v.nodes m) (sp p) r manner p number value child signal ends more poked need;
          bears = b.0 ∙ e;
          user = b.1;
          out = so_out O m (w.nodes m) (v.nodes m) (sp p) r manner p number value child signal ends more poked need;
          born = refl;
        })
    child_case (Got p None ended kept) r need d c e = absurd cc
    child_case (Got p (Some b) ended kept) r need d c e =
        let same : b ≡ c = cc in
        let g = got_brings O m (w.nodes m) (v.nodes m) (sp p) r p (Some b) ended kept need.is in
        let pair = st.coupled.child p b g.0 in
        let user : user_at O (sp p) ≡ d.body.user = user_waiting d.body d.pause d.keeps (sp p) (context_tells O p (sp p) w (st.at p) m d.body (Waiting d.pause d.keeps) d.was) in
        inr (subst (Arrived (Got p (Some b) ended kept) r) same (record {
          had = g.0;
          none = g.1;
          born = refl;
          at = got_child O w t v goes p b ended kept p (O.forked (user_at O (sp p)) b) d pair.1 (ap (λ (k : O.User). O.forked k b) user) (subst (λ (k : Spot O). At O b k w) pair.0 (st.at b));
        }))
    child_case (Poked p used) r need d c e = absurd cc
    child_case (Begin p to reason) r need d c e = absurd cc
    child_case (Keep p to line) r need d c e = absurd cc
    child_case (Missed p to line) r need d c e = absurd cc
    child_case (Again p to place line) r need d c e = absurd cc
    child_case (Allows p from need2) r need d c e = absurd cc
    child_case (Denies p from need2 free) r need d c e = absurd cc
    child_case (Depart p to) r need d c e = absurd cc
    child_case (Stay p to need2 free) r need d c e = absurd cc
    child_case (Land p source) r need d c e = absurd cc
    child_case (Told p at source hops line poked) r need d c e = absurd cc
    child_case (Refused p to why line) r need d c e = absurd cc
    child_case (Closed line) r need d c e = absurd cc
    child_case (Gossips heard other) r need d c e = absurd cc
    child_case (Strange p) r need d c e = absurd cc

    pub child_apart : (r : Spot O) → Needs O what m (w.nodes m) (v.nodes m) (sp (pid_of what)) r → (c : ℕ) → child_of what ≡ Some c → c ≢ pid_of what
    child_apart r need c e = go (child_case what r need goes.makes.does c e)
      where
        go : Forked what r c ⊎ Arrived what r c → c ≢ pid_of what
        go (inl f) = λ z. f.some (subst (λ (k : ℕ). sp k ≡ Nowhere) z f.new)
        go (inr a) = (st.coupled.child (pid_of what) c a.had).1

    -- who lives at home after the turn, and what is under way
    kid : (c : ℕ) → brings O (sp (pid_of what)) ≡ Some c → O.live (w.nodes 0).kernel c ≡ true
    kid c e = st.lives c ∙ ap (alive O) (st.coupled.child (pid_of what) c e).0

    same_home : (v.nodes m).kernel ≡ (w.nodes m).kernel → (v.nodes 0).kernel ≡ (w.nodes 0).kernel
    same_home h = go (m == 0) refl
      where
        go : (b : Bool) → (m == 0) ≡ b → (v.nodes 0).kernel ≡ (w.nodes 0).kernel
        go true e = let z = numbers_same m 0 e in ap (λ (k : ℕ). (v.nodes k).kernel) (sym z) ∙ (h ∙ ap (λ (k : ℕ). (w.nodes k).kernel) z)
        go false e = ap (λ (k : Local O). k.kernel) (goes.elsewhere 0 (λ z. numbers_other m 0 e (sym z)))

    pub lives_step : (own : Spot O) → Needs O what m (w.nodes m) (v.nodes m) (sp (pid_of what)) own → LivesAt O S what (w.nodes 0).kernel (v.nodes 0).kernel own
    lives_step own needs = lives_at O S m (w.nodes m) (v.nodes m) (sp (pid_of what)) own (w.nodes 0).kernel (v.nodes 0).kernel (λ e. (ap (λ (k : ℕ). (w.nodes k).kernel) e, ap (λ (k : ℕ). (v.nodes k).kernel) e)) same_home what needs (child_apart own needs) kid (st.lives (pid_of what)) (st.right (pid_of what))

    pub lives_next : (own : Spot O) → Needs O what m (w.nodes m) (v.nodes m) (sp (pid_of what)) own → (now : ℕ → Spot O) → ((q : ℕ) → now q ≡ next_spot O what m sp own q) → (q : ℕ) → (O.live (v.nodes 0).kernel q ≡ alive O (now q)) × Right O (now q)
    lives_next own needs now is q = go (part O what m sp own q)
      where
        l : LivesAt O S what (w.nodes 0).kernel (v.nodes 0).kernel own
        l = lives_step own needs

        go : Part O what m sp own q → (O.live (v.nodes 0).kernel q ≡ alive O (now q)) × Right O (now q)
        go (Own e) = let same = is q ∙ at_own O what m sp own q e in (ap (O.live (v.nodes 0).kernel) e ∙ (l.own ∙ sym (ap (alive O) same)), subst (Right O) (sym same) l.right)
        go (Child c h e ne) =
            let same = is q ∙ at_child O what m sp own q c h e ne in
            let b = born_plain O S what m (sp (pid_of what)) q (h ∙ ap (λ (k : ℕ). Some k) (sym e)) in
            (l.child q (h ∙ ap (λ (k : ℕ). Some k) (sym e)) ∙ (b.1 ∙ sym (ap (alive O) same)), subst (Right O) (sym same) b.0)
        go (Rest ne h) = let same = is q ∙ at_rest O what m sp own q ne h in (l.others q ne h ∙ (st.lives q ∙ sym (ap (alive O) same)), subst (Right O) (sym same) (st.right q))

    of_child : (c : ℕ) → child_of what ≡ Some c → Forked what r c ⊎ Arrived what r c
    of_child c e = child_case what r need goes.makes.does c e

    -- the served process is not its own child
    apart_of : (c : ℕ) → Forked what r c → c ≢ pid_of what
    apart_of c f e = f.some (subst (λ (k : ℕ). sp k ≡ Nowhere) e f.new)

    coupled_next : Coupled O next
    coupled_next = go (child_of what) refl
      where
        by : (c : ℕ) → child_of what ≡ Some c → Forked what r c ⊎ Arrived what r c → Coupled O next
        by c e (inl f) = coupled_fork O what m sp r c st.coupled e (apart_of c f) f.new f.bears f.user f.out f.born
        by c e (inr a) = coupled_got O what m sp r c st.coupled e a.had a.none (ap (brings O) a.born)

        go : (o : Option ℕ) → child_of what ≡ o → Coupled O next
        go None e = coupled_quiet O what m sp r st.coupled e (gentle O m (w.nodes m) (v.nodes m) (sp (pid_of what)) r what e need)
        go (Some c) e = by c e (of_child c e)

    some_same : (a b : ℕ) → Some a ≡ Some b → a ≡ b
    some_same a b e = cc

    at_next : (q : ℕ) → Part O what m sp r q → At O q (next q) v
    at_next q (Own e) = subst (λ (k : Spot O). At O q k v) (sym (at_own O what m sp r q e)) (subst (λ (k : ℕ). At O k r v) (sym e) turned.2)
    at_next q (Rest ne h) = subst (λ (k : Spot O). At O q k v) (sym (at_rest O what m sp r q ne h)) (other_at O w t v goes what goes.makes.does q (sp q) ne h (st.at q))
    at_next q (Child c h e ne) = subst (λ (k : Spot O). At O q k v) (sym (at_child O what m sp r q c h e ne)) (by (of_child c h))
      where
        by : Forked what r c ⊎ Arrived what r c → At O q (born_spot O what m (sp (pid_of what)) q) v
        by (inl f) =
            subst (λ (k : ℕ). At O k (born_spot O what m (sp (pid_of what)) k) v) (sym e) (subst (λ (k : Spot O). At O c k v) (sym f.born) (born_child O w t v goes c (pid_of what) _ (subst (λ (k : Spot O). At O c k v) f.new f.still)))
        by (inr a) = subst (λ (k : ℕ). At O k (born_spot O what m (sp (pid_of what)) k) v) (sym e) (subst (λ (k : Spot O). At O c k v) (sym a.born) a.at)

    -- the kernel of home after the turn
    count_next : (m ≡ 0 → O.count (w.nodes m).kernel ≤ O.count (v.nodes m).kernel) → O.count (w.nodes 0).kernel ≤ O.count (v.nodes 0).kernel
    count_next h = go (m == 0) refl
      where
        go : (b : Bool) → (m == 0) ≡ b → O.count (w.nodes 0).kernel ≤ O.count (v.nodes 0).kernel
        go true e = let home = numbers_same m 0 e in subst (λ (k : ℕ). O.count (w.nodes k).kernel ≤ O.count (v.nodes k).kernel) home (h home)
        go false e = let same : v.nodes 0 ≡ w.nodes 0 = goes.elsewhere 0 (λ z. numbers_other m 0 e (sym z)) in omega (arith, ap (λ (k : Local O). O.count k.kernel) same)

    counted_more : (what : Deed) (k : ℕ) → k ≤ born_count O S m (w.nodes m) (v.nodes m) (sp 0) r what k
    counted_more (Run line i p) k = omega arith
    counted_more (Kill line p g poked) k = omega arith
    counted_more (Bid line p to) k = omega arith
    counted_more (Unsent line p never) k = omega arith
    counted_more (Other line input) k = omega arith
    counted_more (Steps p x) k = omega arith
    counted_more (Sent p x) k = omega arith
    counted_more (Heed p) k = omega arith
    counted_more (Held p x) k = omega arith
    counted_more (Served p manner number value None signal ended more poked) k = omega arith
    counted_more (Served p manner number value (Some c) signal ended more poked) k = omega arith
    counted_more (Got p child ended kept) k = omega arith
    counted_more (Poked p used) k = omega arith
    counted_more (Begin p to reason) k = omega arith
    counted_more (Keep p to line) k = omega arith
    counted_more (Missed p to line) k = omega arith
    counted_more (Again p to place line) k = omega arith
    counted_more (Allows p from x) k = omega arith
    counted_more (Denies p from x free) k = omega arith
    counted_more (Depart p to) k = omega arith
    counted_more (Stay p to x free) k = omega arith
    counted_more (Land p source) k = omega arith
    counted_more (Told p at2 source hops line poked) k = omega arith
    counted_more (Refused p to why line) k = omega arith
    counted_more (Closed line) k = omega arith
    counted_more (Gossips heard other) k = omega arith
    counted_more (Strange p) k = omega arith

    pub grows : O.count (w.nodes 0).kernel ≤ O.count (v.nodes 0).kernel
    grows = count_next (λ home. subst (λ (k : ℕ). O.count (w.nodes m).kernel ≤ k) (sym (counts O S m (w.nodes m) (v.nodes m) (sp (pid_of what)) r what need)) (counted_more what (O.count (w.nodes m).kernel)))

    -- a process that is born now has a pid that was given
    given_now : (k : ℕ) → m ≡ 0 → k ≡ O.count (w.nodes m).kernel + 1 → O.count (v.nodes m).kernel ≡ O.count (w.nodes m).kernel + 1 → O.count (v.nodes 0).kernel < k → ⊥
    given_now k home e f less = let less2 : O.count (v.nodes m).kernel < k = subst (λ (x : ℕ). O.count (v.nodes x).kernel < k) (sym home) less in omega (arith, e, f, less2)

    unborn_next : (q : ℕ) → O.count (v.nodes 0).kernel < q → Part O what m sp r q → next q ≡ Nowhere
    unborn_next q less (Rest ne h) = at_rest O what m sp r q ne h ∙ st.unborn q (omega (arith, grows, less))
    unborn_next q less (Own e) = at_own O what m sp r q e ∙ go (nowhere O S m (w.nodes m) (v.nodes m) (sp (pid_of what)) r what need (ap sp (sym e) ∙ st.unborn q (omega (arith, grows, less))))
      where
        go : (r ≡ Nowhere) ⊎ ((m ≡ 0) × (pid_of what ≡ O.count (w.nodes m).kernel + 1) × (O.count (v.nodes m).kernel ≡ O.count (w.nodes m).kernel + 1)) → r ≡ Nowhere
        go (inl x) = x
        go (inr x) = absurd (given_now q x.0 (e ∙ x.1) x.2 less)
    unborn_next q less (Child c h e ne) = go (of_child c h)
      where
        go : Forked what r c ⊎ Arrived what r c → next q ≡ Nowhere
        go (inl f) = absurd (given_now q f.home (e ∙ (f.is ∙ ap (λ (k : Local O). O.count k.kernel + 1) (sym (home_node f.home)))) f.grows less)
        go (inr a) =
            let z : sp c ≡ Nowhere = ap sp (sym e) ∙ st.unborn q (omega (arith, grows, less)) in
            let y : InReply (pid_of what) (O.forked (user_at O (sp (pid_of what))) c) ≡ Nowhere = sym (st.coupled.child (pid_of what) c a.had).0 ∙ z in absurd cc

    zero_next : Part O what m sp r 0 → next 0 ≡ Nowhere
    zero_next (Rest ne h) = at_rest O what m sp r 0 ne h ∙ st.zero
    zero_next (Own e) = at_own O what m sp r 0 e ∙ go (nowhere O S m (w.nodes m) (v.nodes m) (sp (pid_of what)) r what need (ap sp (sym e) ∙ st.zero))
      where
        go : (r ≡ Nowhere) ⊎ ((m ≡ 0) × (pid_of what ≡ O.count (w.nodes m).kernel + 1) × (O.count (v.nodes m).kernel ≡ O.count (w.nodes m).kernel + 1)) → r ≡ Nowhere
        go (inl x) = x
        go (inr x) = let y : 0 ≡ O.count (w.nodes m).kernel + 1 = e ∙ x.1 in absurd (omega (arith, y))
    zero_next (Child c h e ne) = go (of_child c h)
      where
        go : Forked what r c ⊎ Arrived what r c → next 0 ≡ Nowhere
        go (inl f) = let y : 0 ≡ O.count (w.nodes 0).kernel + 1 = e ∙ f.is in absurd (omega (arith, y))
        go (inr a) =
            let z : sp c ≡ Nowhere = ap sp (sym e) ∙ st.zero in
            let y : InReply (pid_of what) (O.forked (user_at O (sp (pid_of what))) c) ≡ Nowhere = sym (st.coupled.child (pid_of what) c a.had).0 ∙ z in absurd cc

    aims_next : (q : ℕ) → Part O what m sp r q → Aims O (next q)
    aims_next q (Rest ne h) = subst (Aims O) (sym (at_rest O what m sp r q ne h)) (st.aims q)
    aims_next q (Own e) = subst (Aims O) (sym (at_own O what m sp r q e)) (aims O S m (w.nodes m) (v.nodes m) (sp (pid_of what)) r what need (st.aims (pid_of what)))
    aims_next q (Child c h e ne) = subst (Aims O) (sym (at_child O what m sp r q c h e ne)) (go (of_child c h))
      where
        go : Forked what r c ⊎ Arrived what r c → Aims O (born_spot O what m (sp (pid_of what)) q)
        go (inl f) = subst (λ (k : ℕ). Aims O (born_spot O what m (sp (pid_of what)) k)) (sym e) (subst (Aims O) (sym f.born) tt)
        go (inr a) = subst (λ (k : ℕ). Aims O (born_spot O what m (sp (pid_of what)) k)) (sym e) (subst (Aims O) (sym a.born) tt)

    home_live : (q : ℕ) → m ≡ 0 → O.live (w.nodes m).kernel q ≡ true → Given O so_many q
    home_live q home live = live_given q (ap (λ (k : ℕ). O.live (w.nodes k).kernel q) (sym home) ∙ live)

    landed : (p source : ℕ) → Lands O m p source (w.nodes m) t (v.nodes m) → Given O so_many p
    landed p source d = some_given p (λ z. (let y = sym (land_own O w t v goes p source (sp p) (st.at p) d).1.is.was ∙ z in cc))

    named_next : (q : ℕ) → Part O what m sp r q → Named O q (next q)
    named_next q (Rest ne h) = subst (Named O q) (sym (at_rest O what m sp r q ne h)) (st.named q)
    named_next q (Own e) = subst (Named O q) (sym (at_own O what m sp r q e)) (subst (λ (k : ℕ). Named O k r) (sym e) (named O S m (w.nodes m) (v.nodes m) (sp (pid_of what)) r what need (st.named (pid_of what))))
    named_next q (Child c h e ne) = subst (Named O q) (sym (at_child O what m sp r q c h e ne)) (go (of_child c h))
      where
        go : Forked what r c ⊎ Arrived what r c → Named O q (born_spot O what m (sp (pid_of what)) q)
        go (inl f) = subst (λ (k : ℕ). Named O k (born_spot O what m (sp (pid_of what)) k)) (sym e) (subst (Named O c) (sym f.born) (S.pid_forked (user_at O (sp (pid_of what))) c))
        go (inr a) = subst (λ (k : ℕ). Named O k (born_spot O what m (sp (pid_of what)) k)) (sym e) (subst (Named O c) (sym a.born) (S.pid_forked (user_at O (sp (pid_of what))) c))

    -- at most 64 live
    lives_less : (q : ℕ) → q < so_many + 1 → Part O what m sp r q → one_if (O.live (v.nodes 0).kernel q) ≤ one_if (O.live (w.nodes 0).kernel q)
    lives_less q less (Rest ne h) = let e : one_if (O.live (v.nodes 0).kernel q) ≡ one_if (O.live (w.nodes 0).kernel q) = ap one_if ((lives_step r need).others q ne h) in omega (arith, e)
    lives_less q less (Own e) = go (last_alive O S m (w.nodes m) (v.nodes m) (sp (pid_of what)) r what need) (alive O (sp q)) refl
      where
        now : O.live (v.nodes 0).kernel q ≡ alive O r
        now = ap (O.live (v.nodes 0).kernel) e ∙ (lives_step r need).own

        go : (alive O (sp (pid_of what)) ≡ false → alive O r ≡ false) ⊎ (pid_of what ≡ O.count (w.nodes m).kernel + 1) → (b : Bool) → alive O (sp q) ≡ b → one_if (O.live (v.nodes 0).kernel q) ≤ one_if (O.live (w.nodes 0).kernel q)
        go k true f = rw (st.lives q ∙ f) (one_most (O.live (v.nodes 0).kernel q))
        go (inl k) false f = rw (st.lives q ∙ f, now ∙ k (ap (λ (x : ℕ). alive O (sp x)) (sym e) ∙ f)) (omega arith)
        go (inr k) false f = dead (m == 0) refl
          where
            dead : (b : Bool) → (m == 0) ≡ b → one_if (O.live (v.nodes 0).kernel q) ≤ one_if (O.live (w.nodes 0).kernel q)
            dead true h = let x : O.count (w.nodes m).kernel ≡ so_many = ap (λ (k : ℕ). O.count (w.nodes k).kernel) (numbers_same m 0 h) in absurd (omega (arith, e, k, x, less))
            dead false h = let x : one_if (O.live (v.nodes 0).kernel q) ≡ one_if (O.live (w.nodes 0).kernel q) = ap (λ (k : Local O). one_if (O.live k.kernel q)) (goes.elsewhere 0 (λ z. numbers_other m 0 h (sym z))) in omega (arith, x)
    lives_less q less (Child c h e ne) = go (of_child c h)
      where
        go : Forked what r c ⊎ Arrived what r c → one_if (O.live (v.nodes 0).kernel q) ≤ one_if (O.live (w.nodes 0).kernel q)
        go (inl f) = absurd (omega (arith, e, f.is, less))
        go (inr a) = rw (ap (O.live (w.nodes 0).kernel) e ∙ (st.lives c ∙ ap (alive O) (st.coupled.child (pid_of what) c a.had).0)) (one_most (O.live (v.nodes 0).kernel q))

    few_next : lives_in O (v.nodes 0).kernel ≤ 64
    few_next = go (m == 0) refl
      where
        less : sum_below (so_many + 1) (λ q. one_if (O.live (v.nodes 0).kernel q)) ≤ lives_in O (w.nodes 0).kernel
        less = sum_below_le (so_many + 1) (λ q. one_if (O.live (v.nodes 0).kernel q)) (λ q. one_if (O.live (w.nodes 0).kernel q)) (λ q k. lives_less q k (part O what m sp r q))

        at_home : m ≡ 0 → GrowsFew O S m (w.nodes m) (v.nodes m) (sp (pid_of what)) r → lives_in O (v.nodes 0).kernel ≤ 64
        at_home home (inl e) =
            let c : O.count (v.nodes 0).kernel + 1 ≡ so_many + 1 = ap (λ (k : ℕ). O.count (v.nodes k).kernel + 1) (sym home) ∙ (ap (λ (k : ℕ). k + 1) e ∙ ap (λ (k : ℕ). O.count (w.nodes k).kernel + 1) home) in
            let s : lives_in O (v.nodes 0).kernel ≡ sum_below (so_many + 1) (λ q. one_if (O.live (v.nodes 0).kernel q)) = ap (λ (k : ℕ). sum_below k (λ q. one_if (O.live (v.nodes 0).kernel q))) c in
            omega (arith, less, s, st.few)
        at_home home (inr (x, e, few)) =
            let c0 : O.count (v.nodes 0).kernel + 1 ≡ so_many + 1 + 1 = ap (λ (k : ℕ). O.count (v.nodes k).kernel + 1) (sym home) ∙ (ap (λ (k : ℕ). k + 1) e ∙ ap (λ (k : ℕ). O.count (w.nodes k).kernel + 1 + 1) home) in
            let c : O.count (v.nodes 0).kernel + 1 ≡ suc (so_many + 1) = omega (arith, c0) in
            let s : lives_in O (v.nodes 0).kernel ≡ sum_below (suc (so_many + 1)) (λ q. one_if (O.live (v.nodes 0).kernel q)) = ap (λ (k : ℕ). sum_below k (λ q. one_if (O.live (v.nodes 0).kernel q))) c in
            let few2 : lives_in O (w.nodes 0).kernel < 64 = subst (λ (k : ℕ). lives_in O (w.nodes k).kernel < 64) home few in
            omega (arith, less, s, few2, one_most (O.live (v.nodes 0).kernel (so_many + 1)))

        go : (b : Bool) → (m == 0) ≡ b → lives_in O (v.nodes 0).kernel ≤ 64
        go true h = at_home (numbers_same m 0 h) (grows_few O S m (w.nodes m) (v.nodes m) (sp (pid_of what)) r what need)
        go false h = subst (λ (k : Local O). lives_in O k.kernel ≤ 64) (sym (goes.elsewhere 0 (λ z. numbers_other m 0 h (sym z)))) st.few

    bound_next : (a b : ℕ) → EachBound (O.count (v.nodes 0).kernel) (v.links a b)
    bound_next a b =
        all_later so_many (O.count (v.nodes 0).kernel) grows (v.links a b)
        (subst (EachBound so_many) (sym (goes.posts a b))
        (bound_append so_many (goes.rest a b) (for_link O a b t.posted) (bound_right so_many (at_front O t.taken a b) (goes.rest a b) (subst (EachBound so_many) (goes.takes a b) (st.bound a b)))
        (bound_link so_many a b t.posted (posts_bound w t v goes what (st.near m) home_live landed taken_bound goes.makes.does))))

    heard_bound : (other : ℕ) (places : List (Option Entry)) (stamp : ℕ) → t.taken ≡ Some (letter O other m stamp (Half places)) → NearPlaces O.nodes places
    heard_bound other places stamp e = (subst (BoundOf O so_many) e taken_bound).0.0

    -- the nodes that a vector names are of the cluster
    near_own : (k : Talk) → GossipBy O k m (w.nodes m) t (v.nodes m) → NearPlaces O.nodes (w.nodes m).gossip.vector → NearPlaces O.nodes (v.nodes m).gossip.vector
    near_own Silent g x = subst (λ (k : Gossip). NearPlaces O.nodes k.vector) (sym g) x
    near_own Stepping g x = subst (λ (k : Gossip). NearPlaces O.nodes k.vector) (sym g.0) x
    near_own (Talking false other chosen) g x = subst (λ (k : Gossip). NearPlaces O.nodes k.vector) (sym g.talks.gossip) (near_renewed O.nodes g.talks.own (w.nodes m).gossip.vector (own_below O m (w.nodes m) t (v.nodes m) false other chosen goes.makes.below g.talks) x)
    near_own (Talking true other chosen) g x =
        let told : NearPlaces O.nodes (told_places g.talks.own (w.nodes m).gossip) = near_first O.nodes 4 (renewed g.talks.own (w.nodes m).gossip.vector) (near_renewed O.nodes g.talks.own (w.nodes m).gossip.vector (own_below O m (w.nodes m) t (v.nodes m) true other chosen goes.makes.below g.talks) x) in
        subst (λ (k : Gossip). NearPlaces O.nodes k.vector) (sym g.talks.gossip) (near_woven O.nodes (told_places g.talks.own (w.nodes m).gossip) g.talks.places told (heard_bound other g.talks.places g.talks.stamp g.took))

    near_next : (n : ℕ) → NearPlaces O.nodes (v.nodes n).gossip.vector
    near_next n = go (n == m) refl
      where
        go : (b : Bool) → (n == m) ≡ b → NearPlaces O.nodes (v.nodes n).gossip.vector
        go true e = subst (λ (k : ℕ). NearPlaces O.nodes (v.nodes k).gossip.vector) (sym (numbers_same n m e)) (near_own (talk_of what) (gossip_by O m (w.nodes m) t (v.nodes m) what goes.makes.does) (st.near m))
        go false e = subst (λ (l : Local O). NearPlaces O.nodes l.gossip.vector) (sym (goes.elsewhere n (numbers_other n m e))) (st.near n)

    pub stands_next : Stands next v
    stands_next = record {
      at = λ q. at_next q (part O what m sp r q);
      unborn = λ q less. unborn_next q less (part O what m sp r q);
      zero = zero_next (part O what m sp r 0);
      coupled = coupled_next;
      aims = λ q. aims_next q (part O what m sp r q);
      bound = bound_next;
      lives = λ q. (lives_next r need next (λ x. refl) q).0;
      right = λ q. (lives_next r need next (λ x. refl) q).1;
      named = λ q. named_next q (part O what m sp r q);
      near = near_next;
      few = few_next;
    }

    pub step_next : Step sp w t next v
    step_next = record { goes = goes; own = r; needs = need; next_is = λ q. refl }

  -- every run has spots at which its processes are, at each prefix
  pub record Standing (h : List (Turn O)) (w : World O) : Type 0 where
    pub spots : ℕ → Spot O
    pub path : Path h spots w
    pub stands : Stands spots w

  pub reached_stands : (h : List (Turn O)) (w : World O) → Reached O h w → Standing h w
  reached_stands [] w r = record {
    spots = λ p. Nowhere;
    path = (r, λ p. refl);
    stands = record {
      at = λ p. record { slots = λ n. (r.nodes n).slots p ∙ λ i. record { context = sym (cond_same (n == 0) None) i; reserve = sym (cond_same (n == 0) None) i; call = sym (cond_same (n == 0) None) i }; letters = λ a b. ap (talk O p) (r.links a b) };
      unborn = λ p less. refl;
      zero = refl;
      coupled = record { child = λ p c e. absurd (nothing c e) };
      aims = λ p. tt;
      bound = λ a b. subst (EachBound (O.count (w.nodes 0).kernel)) (sym (r.links a b)) tt;
      lives = λ p. ap (λ (k : O.Kernel). O.live k p) ((r.nodes 0).home refl).kernel ∙ S.live_empty p;
      right = λ p. tt;
      named = λ p. tt;
      near = λ n. subst (λ (g : Gossip). NearPlaces O.nodes g.vector) (sym (r.nodes n).gossip) tt;
      few = none_yet;
    };
  }
    where
      nothing : (c : ℕ) → None ≡ Some c → ⊥
      nothing c e = cc

      none_yet : lives_in O (w.nodes 0).kernel ≤ 64
      none_yet =
          let e : lives_in O (w.nodes 0).kernel ≡ lives_in O O.new_kernel = ap (lives_in O) ((r.nodes 0).home refl).kernel in
          let c : lives_in O O.new_kernel ≡ 0 + one_if (O.live O.new_kernel 0) = ap (λ (k : ℕ). sum_below (k + 1) (λ q. one_if (O.live O.new_kernel q))) S.count_new in
          omega (arith, e, c, one_most (O.live O.new_kernel 0))
  reached_stands (t ∷ h) v r =
      let before = reached_stands h r.0 r.1 in
      record {
        spots = next_spot O t.event.what t.event.node before.spots (turned r.0 t v r.2 before.spots before.stands).0;
        path = (r.0, before.spots, before.path, before.stands, step_next r.0 t v r.2 before.spots before.stands);
        stands = stands_next r.0 t v r.2 before.spots before.stands;
      }
