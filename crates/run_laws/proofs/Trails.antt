-- The letters of moves and home's belief, over every run.
use Rattle.std.proofs.Common.{◌≡◌, ◌≢◌, ℕ, ◌+◌, ◌<◌, ◌≤◌, ◌==◌, ◌&&◌, ◌⊎◌, inl, inr, Bool, true, false, cond, Option, Some, None, List, [], ◌∷◌, ◌++◌, refl, sym, ap, ◌∙◌, subst, arith}
use Rattle.protocol.specs.Ops.{Ops, Sound, is_child}
use Rattle.protocol.specs.Deeds.{ForLine, Chosen, Manner, Did, Broke, Fell, Paused, Deed, Run, Kill, Bid, Unsent, Other, Steps, Sent, Heed, Held, Served, Got, Poked, Begin, Keep, Missed, Again, Allows, Denies, Depart, Stay, Land, Told, Refused, Closed, Gossips, Strange, pid_of, child_of}
use Rattle.protocol.specs.Notes.{Done, Call, Reply, Poke, Go, Ask, Move, NoMove, Post, Turn, letter, Body, Kept, Local, Believed, way}
use Rattle.protocol.specs.Spots.{Spot, Nowhere, Runs, Calls, Holds, Pauses, Answered, Asks, Granted, Denied, Travels, InReply, Ended, site, way_by, mine}
use Rattle.protocol.specs.Cluster.{World, for_link, at_front, Goes}
use Rattle.protocol.specs.Does.{Does, ServedBy, got_posts, place_told}
use Rattle.protocol.specs.Home.{pokes, after, born_at}
use Rattle.protocol.specs.Needs.{Needs, AwayFrom, brings, born_spot, ServedSo, ServedCall, asked}
use Rattle.protocol.specs.Cluster.{events}
use Rattle.run_laws.specs.UnderWay.{Moves, moves_own, moves}
use Rattle.protocol.proofs.Talk.{same_numbers, other_numbers, numbers_same, numbers_other, talk, on_link, TakenOf, of_other, pokes_loose}
use Rattle.protocol.proofs.Process.{cond_here, cond_off, took_way, way_tells, call_tells}
use Rattle.protocol.proofs.Own.{takes_in, in_out}
use Rattle.protocol.proofs.Coupling.{Part, Own, Child, Rest, part, got_brings}
use Rattle.protocol.proofs.Quiet.{nowhere, nowhere_so, counts, child_so, home_so, count_typed}
use Rattle.protocol.proofs.Stand.{Stands, Step, Path, child_apart}
use Rattle.run_laws.proofs.Moves.{Balanced, path_balanced}
use Rattle.protocol.specs.Needs.{alive}
use Rattle.run_laws.proofs.Played.{path_played}
use Rattle.run_laws.proofs.Hops.{AtPlace, Ok, Inside, asked_brings, was_inside, inside_next, ok_next, step_bring, was_child, is_own, is_rest, is_born, moves_of}
use Rattle.std.specs.Prelude.{ℤ}
use Rattle.call_table.specs.declared.process.End.{End}
use Rattle.run_laws.proofs.TrailLetters.{NoteOk, EachOk, each_next, each_right, each_append, each_link, front, ReplyFirst, NoGo, nogo_first, nogo_append, nogo_link, first_append, first_rest, talk_rest, each_nogo, AllPlain, all_ok, all_nogo, pokes_plain, closed_plain}

some_number : (a b : ℕ) → Some a ≡ Some b → a ≡ b
some_number a b e = cc

module _ (O : Ops) (S : Sound O) where
  -- the invariant of trails: letters of moves, home's belief, and the order of a reply and what goes to its child
  pub record Trails (h : List (Turn O)) (sp : ℕ → Spot O) (w : World O) : Type 0 where
    pub inside : Inside O S sp
    pub letters : (a b : ℕ) → EachOk O S sp (λ q. moves q (events O h)) (w.links a b)
    pub belief : (q : ℕ) → (sp q ≡ Nowhere → ⊥) → Ok O S sp (sp q) (moves q (events O h)) ((w.nodes 0).believed q).place ((w.nodes 0).believed q).hops
    pub behind : (p q : ℕ) (u : O.User) → sp p ≡ InReply q u → ReplyFirst O S q p (w.links 0 (site O (sp q)))

  module _ (h : List (Turn O)) (w : World O) (t : Turn O) (v : World O) (sp next : ℕ → Spot O) (stands : Stands O S sp w) (st : Step O S sp w t next v) (bal : (q : ℕ) → Balanced O S (sp q) (moves q (events O h))) (tr : Trails h sp w) (lives : (q : ℕ) → O.live (w.nodes 0).kernel q ≡ true → sp q ≡ Nowhere → ⊥) where
    abbrev n : ℕ
    n = t.event.node

    abbrev old : Local O
    old = w.nodes t.event.node

    abbrev new : Local O
    new = v.nodes t.event.node

    abbrev p : ℕ
    p = pid_of t.event.what

    abbrev mv : ℕ → Moves
    mv q = moves q (events O h)

    abbrev mv2 : ℕ → Moves
    mv2 q = moves q (t.event ∷ events O h)

    next_ok : (q at i : ℕ) → Ok O S sp (sp q) (mv q) at i → Ok O S next (next q) (mv2 q) at i
    next_ok q at i k = ok_next O S w t v sp next stands st h tr.inside bal q at i k

    abbrev goes : Goes O w t v
    goes = st.goes

    -- the letter that was taken is such a letter
    abbrev pub TakenOk : Option (Post O) → Type 0
    TakenOk None = Unit {0}
    TakenOk (Some l) = NoteOk O S sp mv l.from l.to l.note

    taken_front : (o : Option (Post O)) (rest : ℕ → ℕ → List (Post O)) → ((a b : ℕ) → EachOk O S sp mv (at_front O o a b ++ rest a b)) → TakenOk o
    taken_front None rest k = tt
    taken_front (Some l) rest k = (subst (λ (b : Bool). EachOk O S sp mv (cond b (l ∷ []) [] ++ rest l.from l.to)) (front O S l) (k l.from l.to)).0

    pub taken_ok : TakenOk t.taken
    taken_ok = taken_front t.taken goes.rest (λ a b. subst (EachOk O S sp mv) (goes.takes a b) (tr.letters a b))

    -- one that goes where its process is not any more, is late
    late_held : (s : Spot O) (x m : ℕ) → AtPlace O S sp s x → ((q : ℕ) (u : O.User) → s ≡ InReply q u → ⊥) → AwayFrom O x s → ⊥
    late_held Nowhere spot z e f a = e
    late_held (Runs m b) spot z e f a = a e
    late_held (Calls m b k r) spot z e f a = a e
    late_held (Holds m b k r) spot z e f a = a e
    late_held (Pauses m b k r) spot z e f a = a e
    late_held (Answered m b k d x y) spot z e f a = a e
    late_held (Asks m b to l need) spot z e f a = a e
    late_held (Granted m b to l need) spot z e f a = a e
    late_held (Denied m b to l need free) spot z e f a = a e
    late_held (Travels x c b l need) spot z e f a = e
    late_held (InReply q u) spot z e f a = f q u refl
    late_held (Ended u) spot z e f a = e

    -- a Go at the front is not of a child whose parent's reply lies behind it
    behind_go : (x q from stamp to i line : ℕ) (u : O.User) → from ≡ 0 → t.taken ≡ Some (letter O from n stamp (Go x to i line)) → sp x ≡ InReply q u → site O (sp q) ≡ n → ⊥
    behind_go x q from stamp to i line u home took is at =
        let first : ReplyFirst O S q x (w.links 0 n) = subst (λ (k : ℕ). ReplyFirst O S q x (w.links 0 k)) at (tr.behind x q u is) in
        let e : w.links from n ≡ letter O from n stamp (Go x to i line) ∷ goes.rest from n = goes.takes from n ∙ (ap (λ (o : Option (Post O)). at_front O o from n ++ goes.rest from n) took ∙ ap (λ (b : Bool). cond b (letter O from n stamp (Go x to i line) ∷ []) [] ++ goes.rest from n) (front O S (letter O from n stamp (Go x to i line)))) in
        let f : ReplyFirst O S q x (letter O from n stamp (Go x to i line) ∷ goes.rest from n) = subst (ReplyFirst O S q x) (ap (λ (k : ℕ). w.links k n) (sym home) ∙ e) first in
        let z : true ≡ false = sym (same_numbers x x refl) ∙ f.0 in cc

    by_posts : (ls : List (Post O)) → t.posted ≡ ls → EachOk O S next mv2 ls → EachOk O S next mv2 t.posted
    by_posts ls e k = subst (EachOk O S next mv2) (sym e) k

    got_plain : (x : ℕ) (b : Body O) (k : Option Kept) (d : Done O) → AllPlain O S (got_posts O n t.event.stamp x b k d)
    got_plain x b None d = tt
    got_plain x b (Some k) d = go d.ended
      where
        go : (e : Bool) → AllPlain O S (cond e (letter O n 0 t.event.stamp (NoMove k.line) ∷ []) (letter O n k.to t.event.stamp (Ask x (O.pages (after O b.user d))) ∷ []))
        go true = (tt, tt)
        go false = (tt, tt)

    told_plain : (x to : ℕ) (b : Bool) → AllPlain O S (cond b (letter O n to t.event.stamp (Poke x) ∷ []) [])
    told_plain x to true = (tt, tt)
    told_plain x to false = tt

    plains : (ls : List (Post O)) → t.posted ≡ ls → AllPlain O S ls → EachOk O S next mv2 t.posted
    plains ls e k = by_posts ls e (all_ok O S next mv2 ls k)

    served_plain : (manner : Manner) (x : ℕ) (number : Option ℕ) (value : Option ℤ) (child signal : Option ℕ) (ends : Option End) (more : Bool) (poked : List ℕ) → ServedBy O manner n x number value child signal ends more poked old t new → AllPlain O S t.posted
    served_plain Did x number value child signal ends more poked (inl d) = subst (AllPlain O S) (sym d.base.posts) (tt, pokes_plain O S t.event.stamp old.believed poked)
    served_plain Did x number value child signal ends more poked (inr d) = subst (AllPlain O S) (sym d.base.posts) (tt, pokes_plain O S t.event.stamp old.believed poked)
    served_plain Broke x number value child signal ends more poked (inl d) = subst (AllPlain O S) (sym d.base.posts) (tt, pokes_plain O S t.event.stamp old.believed poked)
    served_plain Broke x number value child signal ends more poked (inr d) = subst (AllPlain O S) (sym d.base.posts) (tt, pokes_plain O S t.event.stamp old.believed poked)
    served_plain Fell x number value child signal ends more poked d = subst (AllPlain O S) (sym d.base.posts) (tt, pokes_plain O S t.event.stamp old.believed poked)
    served_plain Paused x number value child signal ends more poked d = subst (AllPlain O S) (sym d.base.posts) (tt, pokes_plain O S t.event.stamp old.believed poked)

    home_belief : n ≡ 0 → (q : ℕ) → (sp q ≡ Nowhere → ⊥) → Ok O S sp (sp q) (mv q) (old.believed q).place (old.believed q).hops
    home_belief home q some = subst (λ (k : ℕ). Ok O S sp (sp q) (mv q) ((w.nodes k).believed q).place ((w.nodes k).believed q).hops) (sym home) (tr.belief q some)

    home_lives : n ≡ 0 → (q : ℕ) → O.live old.kernel q ≡ true → sp q ≡ Nowhere → ⊥
    home_lives home q e = lives q (ap (λ (k : ℕ). O.live (w.nodes k).kernel q) (sym home) ∙ e)

    -- what is posted is such a letter too
    posts_ok : (what : Deed) → t.event.what ≡ what → Does O what n old t new → Needs O what n old new (sp (pid_of what)) st.own → EachOk O S next mv2 t.posted
    posts_ok (Run line i p) is d need = plains _ d.base.posts tt
    posts_ok (Kill line p g poked) is d need = plains _ d.base.posts (pokes_plain O S t.event.stamp old.believed poked)
    posts_ok (Bid line p to) is d need = by_posts _ d.base.posts ((next_ok p _ _ (home_belief d.home p (home_lives d.home p d.live)), refl), tt)
    posts_ok (Unsent line p never) is d need = plains _ d.base.posts tt
    posts_ok (Other line input) is d need = plains _ d.base.posts tt
    posts_ok (Steps p k) is d need = plains _ d.base.posts tt
    posts_ok (Sent p k) is d need = plains _ d.base.posts (tt, tt)
    posts_ok (Heed p) is d need = plains _ d.base.posts (tt, tt)
    posts_ok (Held p k) is d need = plains _ d.base.posts tt
    posts_ok (Served p manner number value child signal ends more poked) is d need = all_ok O S next mv2 t.posted (served_plain manner p number value child signal ends more poked d)
    posts_ok (Got p child ended kept) is d need = plains _ d.base.posts (got_plain p d.body d.keeps d.done)
    posts_ok (Poked p true) is d need = plains _ d.base.posts tt
    posts_ok (Poked p false) is d need = plains _ d.base.posts tt
    posts_ok (Begin p to (ForLine line)) is d need = plains _ d.base.posts (tt, tt)
    posts_ok (Begin p to (Chosen false other)) is d need = plains _ d.base.posts (tt, (tt, tt))
    posts_ok (Begin p to (Chosen true other)) is d need = plains _ d.base.posts (tt, tt)
    posts_ok (Keep p to line) is d need = plains _ d.base.posts tt
    posts_ok (Missed p to line) is d need = by_posts _ d.base.posts ((λ x. next_ok p x d.hops (late x taken.0)), tt)
      where
        taken : Ok O S sp (sp p) (mv p) n d.hops × (d.from ≡ 0)
        taken = subst TakenOk d.base.took taken_ok

        late : (x : ℕ) → Ok O S sp (sp p) (mv p) n d.hops → Ok O S sp (sp p) (mv p) x d.hops
        late x (inl e) = inl e
        late x (inr (inl e)) = inr (inl e)
        late x (inr (inr e)) = absurd (late_held (sp p) n n e.1 (λ q u is. behind_go p q d.from d.stamp to d.hops line u taken.1 d.base.took is (subst (λ (k : Spot O). AtPlace O S sp k n) is e.1)) need.is.away)
    posts_ok (Again p to place line) is d need = by_posts _ d.base.posts ((subst (λ (k : ℕ). Ok O S next (next p) (mv2 p) k (old.believed p).hops) (sym d.place_is) (next_ok p _ _ (home_belief d.home p (home_lives d.home p d.live))), d.home), tt)
    posts_ok (Allows p from load) is d need = plains _ d.base.posts (tt, tt)
    posts_ok (Denies p from load free) is d need = plains _ d.base.posts (tt, tt)
    posts_ok (Depart p to) is d need = plains _ d.base.posts (tt, tt)
    posts_ok (Stay p to load free) is d need = plains _ d.base.posts (closed_plain O S n t.event.stamp d.line)
    posts_ok (Land p source) is d need = by_posts _ d.base.posts (landed, tt)
      where
        told : (body : Body O) × (weight : ℕ) × (sp p ≡ Travels source n body d.line weight) × (body.user ≡ d.user) × (body.hops ≡ d.hops)
        told = way_tells O p (sp p) (way O source n (Move p d.user d.hops d.line)) (took_way O p (sp p) w v (stands.at p) _ _ (takes_in O w t v goes p _ _ d.base.took d.base.posts (same_numbers p p refl) (refl, tt)))

        b : Balanced O S (Travels source n told.0 d.line told.1) (mv p)
        b = subst (λ (k : Spot O). Balanced O S k (mv p)) told.2 (bal p)

        mine_is : p ≡ pid_of t.event.what
        mine_is = sym (ap pid_of is)

        count : mv2 p ≡ moves_own (Land p source) (mv p)
        count = moves_of O S w t v sp next stands st h p mine_is ∙ ap (λ (k : Deed). moves_own k (mv p)) is

        departs : d.hops + 1 ≡ (mv2 p).departs
        departs = ap (λ (k : ℕ). k + 1) (sym told.4 ∙ b.hops) ∙ (sym b.departs ∙ sym (ap (λ (k : Moves). k.departs) count))

        landed : Ok O S next (next p) (mv2 p) n (d.hops + 1)
        landed = subst (λ (k : Spot O). Ok O S next k (mv2 p) n (d.hops + 1)) (sym (is_own O S w t v sp next stands st p mine_is ∙ need.is.now)) (inr (inr (departs, refl)))
    posts_ok (Told p at source hops line poked) is d need = plains _ d.base.posts (told_plain p _ poked)
    posts_ok (Refused p to why line) is (inl d) need = plains _ d.base.posts (tt, tt)
    posts_ok (Refused p to why line) is (inr d) need = plains _ d.base.posts tt
    posts_ok (Closed line) is d need = plains _ d.base.posts tt
    posts_ok (Gossips false other) is d need = plains _ d.base.posts (tt, tt)
    posts_ok (Gossips true other) is d need = plains _ d.base.posts tt
    posts_ok (Strange p) is d need = absurd need

    letters_next : (a b : ℕ) → EachOk O S next mv2 (v.links a b)
    letters_next a b = subst (EachOk O S next mv2) (sym (goes.posts a b)) (each_append O S next mv2 (goes.rest a b) (for_link O a b t.posted)
        (each_next O S sp next mv mv2 next_ok (goes.rest a b) (each_right O S sp mv (at_front O t.taken a b) (goes.rest a b) (subst (EachOk O S sp mv) (goes.takes a b) (tr.letters a b))))
        (each_link O S next mv2 a b t.posted (posts_ok t.event.what refl goes.makes.does st.needs)))

    home_same : ((q : ℕ) → new.believed q ≡ old.believed q) → (q : ℕ) → (v.nodes 0).believed q ≡ (w.nodes 0).believed q
    home_same h q = go (n == 0) refl
      where
        go : (b : Bool) → (n == 0) ≡ b → (v.nodes 0).believed q ≡ (w.nodes 0).believed q
        go true e = subst (λ (k : ℕ). (v.nodes k).believed q ≡ (w.nodes k).believed q) (numbers_same n 0 e) (h q)
        go false e = ap (λ (k : Local O). k.believed q) (goes.elsewhere 0 (λ z. numbers_other n 0 e (sym z)))

    -- where no pid was given, a process that is somewhere was somewhere
    somewhere : O.count new.kernel ≡ O.count old.kernel → (q : ℕ) → (next q ≡ Nowhere → ⊥) → sp q ≡ Nowhere → ⊥
    somewhere same q some z = go (part O t.event.what n sp st.own q)
      where
        child : (c : ℕ) → q ≡ c → ((sp c ≡ Nowhere) × ((u : O.User) × (born_spot O t.event.what n (sp p) c ≡ InReply p u)) × (brings O st.own ≡ Some c) × (n ≡ 0) × (O.count (v.nodes n).kernel ≡ O.count (w.nodes n).kernel + 1)) ⊎ (((u : O.User) × (sp c ≡ InReply p u)) × ((b : Body O) × (born_spot O t.event.what n (sp p) c ≡ Runs n b)) × (site O (sp p) ≡ n)) → ⊥
        child c e (inl k) = omega (arith, k.4, same)
        child c e (inr k) = let y : Nowhere ≡ InReply p k.0.0 = sym z ∙ (ap sp e ∙ k.0.1) in cc

        own : q ≡ p → (st.own ≡ Nowhere) ⊎ ((n ≡ 0) × (p ≡ O.count old.kernel + 1) × (O.count new.kernel ≡ O.count old.kernel + 1)) → ⊥
        own e (inl k) = some (is_own O S w t v sp next stands st q e ∙ k)
        own e (inr k) = omega (arith, k.2, same)

        go : Part O t.event.what n sp st.own q → ⊥
        go (Own e) = own e (nowhere O S n old new (sp p) st.own t.event.what st.needs (ap sp (sym e) ∙ z))
        go (Rest ne f) = some (is_rest O S w t v sp next stands st q ne f ∙ z)
        go (Child c f e ne) = child c e (was_child O S w t v sp next stands st c f)

    -- the belief stays, and no pid was given
    belief_stays : O.count new.kernel ≡ O.count old.kernel → ((q : ℕ) → new.believed q ≡ old.believed q) → (q : ℕ) → (next q ≡ Nowhere → ⊥) → Ok O S next (next q) (mv2 q) ((v.nodes 0).believed q).place ((v.nodes 0).believed q).hops
    belief_stays same h q some = subst (λ (k : Believed). Ok O S next (next q) (mv2 q) k.place k.hops) (sym (home_same h q)) (next_ok q _ _ (tr.belief q (somewhere same q some)))

    -- the site of a served process
    pub served_from : (manner : Manner) (x : ℕ) (number : Option ℕ) (value : Option ℤ) (child signal : Option ℕ) (ends : Option End) (more : Bool) (poked : List ℕ) (c : ℕ) → child ≡ Some c → ServedBy O manner n x number value child signal ends more poked old t new → ServedSo O manner n x number value child signal ends more poked old new (sp x) st.own
        → (from : ℕ) × (site O st.own ≡ from) × ((q : ℕ) → new.believed q ≡ born_at O from child old.believed q)
    served_from Did x number value child signal ends more poked c e (inl d) need = (d.from, asked_site need (way_tells O x (sp x) (way O d.from n (Call x d.request)) (took_way O x (sp x) w v (stands.at x) _ _ (in_out O w t v goes x _ _ (pokes O t.event.stamp old.believed poked) d.base.took d.base.posts (same_numbers x x refl) (same_numbers x x refl) (pokes_loose O x t.event.stamp old.believed poked)))), d.believed)
      where
        asked_site : ServedCall O n x Did number value child signal ends more poked old new (sp x) st.own → ((body : Body O) × (kept : Option Kept) × (sp x ≡ Calls d.from body kept d.request) × (n ≡ 0)) → site O st.own ≡ d.from
        asked_site y told = ap (site O) y.now ∙ (same_site y.held y.from y.body y.kept y.request ∙ (sym (ap (site O) y.was) ∙ ap (site O) told.2))
          where
            same_site : (g : Bool) (m : ℕ) (b : Body O) (k : Option Kept) (r : O.Request) → m ≡ site O (asked O g m b k r)
            same_site true m b k r = refl
            same_site false m b k r = refl
    served_from Did x number value child signal ends more poked c e (inr d) need = (d.from, asked_site need (call_tells O x (sp x) w (stands.at x) n d.home (record { from = d.from; request = d.request }) d.was), d.believed)
      where
        asked_site : ServedCall O n x Did number value child signal ends more poked old new (sp x) st.own → ((body : Body O) × (kept : Option Kept) × (sp x ≡ Holds d.from body kept d.request)) → site O st.own ≡ d.from
        asked_site y told = ap (site O) y.now ∙ (same_site y.held y.from y.body y.kept y.request ∙ (sym (ap (site O) y.was) ∙ ap (site O) told.2))
          where
            same_site : (g : Bool) (m : ℕ) (b : Body O) (k : Option Kept) (r : O.Request) → m ≡ site O (asked O g m b k r)
            same_site true m b k r = refl
            same_site false m b k r = refl
    served_from Broke x number value child signal ends more poked c e (inl d) need = (d.from, asked_site need (way_tells O x (sp x) (way O d.from n (Call x d.request)) (took_way O x (sp x) w v (stands.at x) _ _ (in_out O w t v goes x _ _ (pokes O t.event.stamp old.believed poked) d.base.took d.base.posts (same_numbers x x refl) (same_numbers x x refl) (pokes_loose O x t.event.stamp old.believed poked)))), d.believed)
      where
        asked_site : ServedCall O n x Broke number value child signal ends more poked old new (sp x) st.own → ((body : Body O) × (kept : Option Kept) × (sp x ≡ Calls d.from body kept d.request) × (n ≡ 0)) → site O st.own ≡ d.from
        asked_site y told = ap (site O) y.now ∙ (same_site y.held y.from y.body y.kept y.request ∙ (sym (ap (site O) y.was) ∙ ap (site O) told.2))
          where
            same_site : (g : Bool) (m : ℕ) (b : Body O) (k : Option Kept) (r : O.Request) → m ≡ site O (asked O g m b k r)
            same_site true m b k r = refl
            same_site false m b k r = refl
    served_from Broke x number value child signal ends more poked c e (inr d) need = (d.from, asked_site need (call_tells O x (sp x) w (stands.at x) n d.home (record { from = d.from; request = d.request }) d.was), d.believed)
      where
        asked_site : ServedCall O n x Broke number value child signal ends more poked old new (sp x) st.own → ((body : Body O) × (kept : Option Kept) × (sp x ≡ Holds d.from body kept d.request)) → site O st.own ≡ d.from
        asked_site y told = ap (site O) y.now ∙ (same_site y.held y.from y.body y.kept y.request ∙ (sym (ap (site O) y.was) ∙ ap (site O) told.2))
          where
            same_site : (g : Bool) (m : ℕ) (b : Body O) (k : Option Kept) (r : O.Request) → m ≡ site O (asked O g m b k r)
            same_site true m b k r = refl
            same_site false m b k r = refl
    served_from Fell x number value child signal ends more poked c e d need = (d.from, asked_site need (way_tells O x (sp x) (way O d.from n (Call x d.request)) (took_way O x (sp x) w v (stands.at x) _ _ (in_out O w t v goes x _ _ (pokes O t.event.stamp old.believed poked) d.base.took d.base.posts (same_numbers x x refl) (same_numbers x x refl) (pokes_loose O x t.event.stamp old.believed poked)))), d.believed)
      where
        asked_site : ServedCall O n x Fell number value child signal ends more poked old new (sp x) st.own → ((body : Body O) × (kept : Option Kept) × (sp x ≡ Calls d.from body kept d.request) × (n ≡ 0)) → site O st.own ≡ d.from
        asked_site y told = ap (site O) y.now ∙ (same_site y.held y.from y.body y.kept y.request ∙ (sym (ap (site O) y.was) ∙ ap (site O) told.2))
          where
            same_site : (g : Bool) (m : ℕ) (b : Body O) (k : Option Kept) (r : O.Request) → m ≡ site O (asked O g m b k r)
            same_site true m b k r = refl
            same_site false m b k r = refl
    served_from Paused x number value child signal ends more poked c e d need = let z : None ≡ Some c = sym need.answers.child_is ∙ e in absurd cc

    served_same : (manner : Manner) (x : ℕ) (number : Option ℕ) (value : Option ℤ) (signal : Option ℕ) (ends : Option End) (more : Bool) (poked : List ℕ) → ServedBy O manner n x number value None signal ends more poked old t new → (q : ℕ) → new.believed q ≡ old.believed q
    served_same Did x number value signal ends more poked (inl d) q = d.believed q
    served_same Did x number value signal ends more poked (inr d) q = d.believed q
    served_same Broke x number value signal ends more poked (inl d) q = d.believed q
    served_same Broke x number value signal ends more poked (inr d) q = d.believed q
    served_same Fell x number value signal ends more poked d q = d.believed q
    served_same Paused x number value signal ends more poked d q = d.believed q

    abbrev Belief : ℕ → Type 0
    Belief q = Ok O S next (next q) (mv2 q) ((v.nodes 0).believed q).place ((v.nodes 0).believed q).hops

    at_home : n ≡ 0 → (q : ℕ) → (v.nodes 0).believed q ≡ new.believed q
    at_home home q = ap (λ (k : ℕ). (v.nodes k).believed q) (sym home)

    was_home : n ≡ 0 → (q : ℕ) → (w.nodes 0).believed q ≡ old.believed q
    was_home home q = ap (λ (k : ℕ). (w.nodes k).believed q) (sym home)

    -- the belief of one process stays
    one_stays : (q : ℕ) → (v.nodes 0).believed q ≡ (w.nodes 0).believed q → (sp q ≡ Nowhere → ⊥) → Belief q
    one_stays q e some = subst (λ (k : Believed). Ok O S next (next q) (mv2 q) k.place k.hops) (sym e) (next_ok q _ _ (tr.belief q some))

    none_departed : (q : ℕ) → sp q ≡ Nowhere → 0 ≡ (mv q).departs
    none_departed q e = let b : Balanced O S Nowhere (mv q) = subst (λ (k : Spot O). Balanced O S k (mv q)) e (bal q) in omega (arith, b.departs, b.hops)

    belief_run : (line j x : ℕ) → t.event.what ≡ Run line j x → Does O (Run line j x) n old t new → Needs O (Run line j x) n old new (sp x) st.own → (q : ℕ) → (next q ≡ Nowhere → ⊥) → Belief q
    belief_run line j x is d need q some = go (q == x) refl
      where
        mine_is : x ≡ p
        mine_is = sym (ap pid_of is)

        count : mv2 x ≡ mv x
        count = moves_of O S w t v sp next stands st h x mine_is ∙ ap (λ (k : Deed). moves_own k (mv x)) is

        go : (b : Bool) → (q == x) ≡ b → Belief q
        go true e =
            let same : q ≡ x = numbers_same q x e in
            let told : (v.nodes 0).believed x ≡ record { place = 0; hops = 0 } = at_home d.home x ∙ (d.believed x ∙ cond_here x _ _) in
            let ok : Ok O S next (next x) (mv2 x) 0 0 = subst (λ (k : Spot O). Ok O S next k (mv2 x) 0 0) (sym (is_own O S w t v sp next stands st x mine_is ∙ need.now)) (inr (inr (none_departed x need.was ∙ ap (λ (k : Moves). k.departs) (sym count), d.home))) in
            subst Belief (sym same) (subst (λ (k : Believed). Ok O S next (next x) (mv2 x) k.place k.hops) (sym told) ok)
        go false e =
            let ne = numbers_other q x e in
            one_stays q (at_home d.home q ∙ (d.believed q ∙ (cond_off q x _ _ ne ∙ sym (was_home d.home q)))) (λ z. some (is_rest O S w t v sp next stands st q (λ y. ne (y ∙ sym mine_is)) (ap (λ (k : Deed). is_child (child_of k) q) is) ∙ z))

    belief_told : (x at source hops : ℕ) (line : Option ℕ) (poked : Bool) → t.event.what ≡ Told x at source hops line poked → Does O (Told x at source hops line poked) n old t new → (q : ℕ) → (next q ≡ Nowhere → ⊥) → Belief q
    belief_told x at source hops line poked is d q some = go (q == x) refl
      where
        was : sp q ≡ Nowhere → ⊥
        was = somewhere (ap O.count d.kernel) q some

        landed : Ok O S sp (sp x) (mv x) at hops
        landed = subst TakenOk d.base.took taken_ok

        which : (b : Bool) → q ≡ x → Ok O S next (next q) (mv2 q) (place_told O at hops b (old.believed x)).place (place_told O at hops b (old.believed x)).hops
        which true e = next_ok q at hops (subst (λ (k : ℕ). Ok O S sp (sp k) (mv k) at hops) (sym e) landed)
        which false e = next_ok q _ _ (subst (λ (k : Believed). Ok O S sp (sp q) (mv q) k.place k.hops) (was_home d.home q ∙ ap old.believed e) (tr.belief q was))

        go : (b : Bool) → (q == x) ≡ b → Belief q
        go true e =
            let same : q ≡ x = numbers_same q x e in
            let told : (v.nodes 0).believed q ≡ place_told O at hops d.later (old.believed x) = at_home d.home q ∙ (d.believed q ∙ ap (λ (b : Bool). cond b (place_told O at hops d.later (old.believed x)) (old.believed q)) e) in
            subst (λ (k : Believed). Ok O S next (next q) (mv2 q) k.place k.hops) (sym told) (which d.later same)
        go false e = one_stays q (at_home d.home q ∙ (d.believed q ∙ (ap (λ (b : Bool). cond b (place_told O at hops d.later (old.believed x)) (old.believed q)) e ∙ sym (was_home d.home q)))) was

    belief_fork : (manner : Manner) (x : ℕ) (number : Option ℕ) (value : Option ℤ) (c : ℕ) (signal : Option ℕ) (ends : Option End) (more : Bool) (poked : List ℕ) → t.event.what ≡ Served x manner number value (Some c) signal ends more poked → ServedBy O manner n x number value (Some c) signal ends more poked old t new → ServedSo O manner n x number value (Some c) signal ends more poked old new (sp x) st.own
        → n ≡ 0 → (q : ℕ) → (next q ≡ Nowhere → ⊥) → Part O t.event.what n sp st.own q → Belief q
    belief_fork manner x number value c signal ends more poked is d need home q some part = go part
      where
        from : (m : ℕ) × (site O st.own ≡ m) × ((q : ℕ) → new.believed q ≡ born_at O m (Some c) old.believed q)
        from = served_from manner x number value (Some c) signal ends more poked c refl d need

        mine_is : x ≡ p
        mine_is = sym (ap pid_of is)

        child_is : child_of t.event.what ≡ Some c
        child_is = ap child_of is

        apart : c ≢ p
        apart = child_apart O S w t v goes sp stands st.own st.needs c child_is

        kept : (q ≢ c) → (v.nodes 0).believed q ≡ (w.nodes 0).believed q
        kept ne = at_home home q ∙ (from.2 q ∙ (ap (λ (b : Bool). cond b (record { place = from.0; hops = 0 }) (old.believed q)) (other_numbers c q (λ z. ne (sym z))) ∙ sym (was_home home q)))

        new_child : ((sp c ≡ Nowhere) × ((u : O.User) × (born_spot O t.event.what n (sp p) c ≡ InReply p u)) × (brings O st.own ≡ Some c) × (n ≡ 0) × (O.count (v.nodes n).kernel ≡ O.count (w.nodes n).kernel + 1)) ⊎ (((u : O.User) × (sp c ≡ InReply p u)) × ((b : Body O) × (born_spot O t.event.what n (sp p) c ≡ Runs n b)) × (site O (sp p) ≡ n)) → q ≡ c → q ≢ p → next q ≡ born_spot O t.event.what n (sp p) q → Belief q
        new_child (inl k) e ne made =
            let told : (v.nodes 0).believed q ≡ record { place = from.0; hops = 0 } = at_home home q ∙ (from.2 q ∙ ap (λ (b : Bool). cond b (record { place = from.0; hops = 0 }) (old.believed q)) (same_numbers c q (sym e))) in
            let spot : next q ≡ InReply p k.1.0 = made ∙ (ap (born_spot O t.event.what n (sp p)) e ∙ k.1.1) in
            let count : mv2 q ≡ mv q = ap (λ (b : Bool). cond b (moves_own t.event.what (mv q)) (mv q)) (other_numbers q p ne) in
            let ok : Ok O S next (InReply p k.1.0) (mv2 q) from.0 0 = inr (inr (none_departed q (ap sp e ∙ k.0) ∙ ap (λ (k : Moves). k.departs) (sym count), ap (site O) (is_own O S w t v sp next stands st p refl) ∙ from.1)) in
            subst (λ (k : Believed). Ok O S next (next q) (mv2 q) k.place k.hops) (sym told) (subst (λ (k : Spot O). Ok O S next k (mv2 q) from.0 0) (sym spot) ok)
        new_child (inr k) e ne made =
            let z : InReply p k.0.0 ≡ Nowhere = sym k.0.1 ∙ stands.unborn c (omega (arith, child_so O S n old new (sp x) st.own manner x number value (Some c) signal ends more poked c refl need ∙ ap (λ (k : ℕ). O.count (w.nodes k).kernel + 1) home)) in absurd cc

        go : Part O t.event.what n sp st.own q → Belief q
        go (Own e) = one_stays q (kept (λ z. apart (sym z ∙ e))) (λ z. nowhere_so O S n old new (sp x) st.own manner x number value (Some c) signal ends more poked need (ap sp (mine_is ∙ sym e) ∙ z))
        go (Rest ne f) = one_stays q (kept (λ z. (let y : true ≡ false = sym (ap (λ (o : Option ℕ). is_child o q) child_is ∙ same_numbers c q (sym z)) ∙ f in cc))) (λ z. some (is_rest O S w t v sp next stands st q ne f ∙ z))
        go (Child b f e ne) =
            let same : b ≡ c = some_number b c (sym f ∙ child_is) in
            new_child (was_child O S w t v sp next stands st c child_is) (e ∙ same) ne (is_born O S w t v sp next stands st q b f e ne)

    belief_next : (what : Deed) → t.event.what ≡ what → Does O what n old t new → Needs O what n old new (sp (pid_of what)) st.own → (q : ℕ) → (next q ≡ Nowhere → ⊥) → Belief q
    belief_next (Run line i p) is d need q some = belief_run line i p is d need q some
    belief_next (Kill line p g poked) is d need q some = belief_stays (ap O.count d.kernel ∙ S.count_raise old.kernel p g) d.believed q some
    belief_next (Bid line p to) is d need q some = belief_stays (ap O.count d.kernel) d.believed q some
    belief_next (Unsent line p never) is d need q some = belief_stays (ap O.count d.kernel) d.believed q some
    belief_next (Other line input) is d need q some = belief_stays (ap O.count d.kernel ∙ count_typed O S input old.kernel) d.believed q some
    belief_next (Steps p k) is d need q some = belief_stays (ap O.count d.still.kernel) d.still.believed q some
    belief_next (Sent p k) is d need q some = belief_stays (ap O.count d.still.kernel) d.still.believed q some
    belief_next (Heed p) is d need q some = belief_stays (ap O.count d.still.kernel) d.still.believed q some
    belief_next (Held p k) is d need q some = belief_stays (ap O.count d.still.kernel) d.still.believed q some
    belief_next (Served p manner number value None signal ends more poked) is d need q some = belief_stays (counts O S n old new (sp p) st.own (Served p manner number value None signal ends more poked) need) (served_same manner p number value signal ends more poked d) q some
    belief_next (Served p manner number value (Some c) signal ends more poked) is d need q some = belief_fork manner p number value c signal ends more poked is d need (home_so O S n old new (sp p) st.own manner p number value (Some c) signal ends more poked need) q some (part O t.event.what n sp st.own q)
    belief_next (Got p child ended kept) is d need q some = belief_stays (ap O.count d.still.kernel) d.still.believed q some
    belief_next (Poked p true) is d need q some = belief_stays (ap O.count d.still.kernel) d.still.believed q some
    belief_next (Poked p false) is d need q some = belief_stays (ap O.count d.still.kernel) d.still.believed q some
    belief_next (Begin p to reason) is d need q some = belief_stays (ap O.count d.still.kernel) d.still.believed q some
    belief_next (Keep p to line) is d need q some = belief_stays (ap O.count d.still.kernel) d.still.believed q some
    belief_next (Missed p to line) is d need q some = belief_stays (ap O.count d.still.kernel) d.still.believed q some
    belief_next (Again p to place line) is d need q some = belief_stays (ap O.count d.still.kernel) d.still.believed q some
    belief_next (Allows p from load) is d need q some = belief_stays (ap O.count d.still.kernel) d.still.believed q some
    belief_next (Denies p from load free) is d need q some = belief_stays (ap O.count d.still.kernel) d.still.believed q some
    belief_next (Depart p to) is d need q some = belief_stays (ap O.count d.still.kernel) d.still.believed q some
    belief_next (Stay p to load free) is d need q some = belief_stays (ap O.count d.still.kernel) d.still.believed q some
    belief_next (Land p source) is d need q some = belief_stays (ap O.count d.still.kernel) d.still.believed q some
    belief_next (Told p at source hops line poked) is d need q some = belief_told p at source hops line poked is d q some
    belief_next (Refused p to why line) is (inl d) need q some = belief_stays (ap O.count d.still.kernel) d.still.believed q some
    belief_next (Refused p to why line) is (inr d) need q some = belief_stays (ap O.count d.still.kernel) d.still.believed q some
    belief_next (Closed line) is d need q some = belief_stays (ap O.count d.still.kernel) d.still.believed q some
    belief_next (Gossips heard other) is d need q some = belief_stays (ap O.count d.still.kernel) d.still.believed q some
    belief_next (Strange p) is d need q some = belief_stays (ap O.count d.still.kernel) d.still.believed q some

    -- a spot that brings a child has its reply on the link to its site
    reply_on : (q x : ℕ) (s : Spot O) → brings O s ≡ Some x → on_link O (way_by O q s) 0 (site O s) ≡ [] → ⊥
    reply_on i z Nowhere e f = absurd cc
    reply_on i z (Runs m b) e f = absurd cc
    reply_on i z (Calls m b k r) e f = absurd cc
    reply_on i z (Holds m b k r) e f = absurd cc
    reply_on i z (Pauses m b k r) e f = absurd cc
    reply_on i z (Answered m b k d x y) e f = let g : Reply i d ∷ [] ≡ [] = sym (ap (λ (b : Bool). cond b (Reply i d ∷ []) []) (same_numbers m m refl)) ∙ f in cc
    reply_on i z (Asks m b to l need) e f = absurd cc
    reply_on i z (Granted m b to l need) e f = absurd cc
    reply_on i z (Denied m b to l need free) e f = absurd cc
    reply_on i z (Travels a c b l need) e f = absurd cc
    reply_on i z (InReply q u) e f = absurd cc
    reply_on i z (Ended u) e f = absurd cc

    abbrev NotMine : ℕ → Option (Post O) → Type 0
    NotMine q None = Unit {0}
    NotMine q (Some l) = mine O q l.note ≡ false

    not_of : (x q : ℕ) (o : Option (Post O)) → TakenOf O x o → q ≢ x → NotMine q o
    not_of x q None k ne = tt
    not_of x q (Some l) k ne = of_other O x q l.note k ne

    took_of : (x : ℕ) (o : Option (Post O)) → t.taken ≡ o → TakenOf O x o → TakenOf O x t.taken
    took_of x o e k = subst (TakenOf O x) (sym e) k

    took_not : (q : ℕ) (o : Option (Post O)) → t.taken ≡ o → NotMine q o → NotMine q t.taken
    took_not q o e k = subst (NotMine q) (sym e) k

    served_taken : (manner : Manner) (x : ℕ) (number : Option ℕ) (value : Option ℤ) (child signal : Option ℕ) (ends : Option End) (more : Bool) (poked : List ℕ) → ServedBy O manner n x number value child signal ends more poked old t new → TakenOf O x t.taken
    served_taken Did x number value child signal ends more poked (inl d) = took_of x _ d.base.took refl
    served_taken Did x number value child signal ends more poked (inr d) = took_of x _ d.base.took tt
    served_taken Broke x number value child signal ends more poked (inl d) = took_of x _ d.base.took refl
    served_taken Broke x number value child signal ends more poked (inr d) = took_of x _ d.base.took tt
    served_taken Fell x number value child signal ends more poked d = took_of x _ d.base.took refl
    served_taken Paused x number value child signal ends more poked d = took_of x _ d.base.took refl

    taken_of : (what : Deed) → Does O what n old t new → what ≡ t.event.what → ((q : ℕ) → what ≡ Strange q → ⊥) → TakenOf O (pid_of what) t.taken
    taken_of (Run line i p) d is bar = took_of p _ d.base.took tt
    taken_of (Kill line p g poked) d is bar = took_of p _ d.base.took tt
    taken_of (Bid line p to) d is bar = took_of p _ d.base.took tt
    taken_of (Unsent line p never) d is bar = took_of p _ d.base.took tt
    taken_of (Other line input) d is bar = took_of 0 _ d.base.took tt
    taken_of (Steps p k) d is bar = took_of p _ d.base.took tt
    taken_of (Sent p k) d is bar = took_of p _ d.base.took tt
    taken_of (Heed p) d is bar = took_of p _ d.base.took tt
    taken_of (Held p k) d is bar = took_of p _ d.base.took refl
    taken_of (Served p manner number value child signal ends more poked) d is bar = served_taken manner p number value child signal ends more poked d
    taken_of (Got p child ended kept) d is bar = took_of p _ d.base.took refl
    taken_of (Poked p true) d is bar = took_of p _ d.base.took tt
    taken_of (Poked p false) d is bar = took_of p _ d.base.took tt
    taken_of (Begin p to (ForLine line)) d is bar = took_of p _ d.base.took tt
    taken_of (Begin p to (Chosen false other)) d is bar = took_of p _ d.base.took tt
    taken_of (Begin p to (Chosen true other)) d is bar = took_of p _ d.base.took tt
    taken_of (Keep p to line) d is bar = took_of p _ d.base.took tt
    taken_of (Missed p to line) d is bar = took_of p _ d.base.took tt
    taken_of (Again p to place line) d is bar = took_of p _ d.base.took tt
    taken_of (Allows p from need) d is bar = took_of p _ d.base.took refl
    taken_of (Denies p from need free) d is bar = took_of p _ d.base.took refl
    taken_of (Depart p to) d is bar = took_of p _ d.base.took refl
    taken_of (Stay p to need free) d is bar = took_of p _ d.base.took refl
    taken_of (Land p source) d is bar = took_of p _ d.base.took refl
    taken_of (Told p at source hops line poked) d is bar = took_of p _ d.base.took tt
    taken_of (Refused p to why line) (inl d) is bar = took_of p _ d.base.took tt
    taken_of (Refused p to why line) (inr d) is bar = took_of p _ d.base.took tt
    taken_of (Closed line) d is bar = took_of 0 _ d.base.took tt
    taken_of (Gossips false other) d is bar = took_of 0 _ d.base.took tt
    taken_of (Gossips true other) d is bar = took_of 0 _ d.base.took tt
    taken_of (Strange p) d is bar = absurd (bar p refl)

    bring_none : (x : ℕ) (a s : Spot O) (A : Type 0) → s ≡ a → brings O a ≡ None → brings O s ≡ Some x → A
    bring_none x a s A e f h = let z : None ≡ Some x = sym f ∙ (sym (ap (brings O) e) ∙ h) in absurd cc

    so_none : (manner : Manner) (y : ℕ) (number : Option ℕ) (value : Option ℤ) (child signal : Option ℕ) (ends : Option End) (more : Bool) (poked : List ℕ) (x : ℕ) → ServedSo O manner n y number value child signal ends more poked old new (sp y) st.own → brings O (sp y) ≡ Some x → NotMine y t.taken
    so_none Did y number value child signal ends more poked x d h = bring_none x _ (sp y) _ d.was (asked_brings O S d.held d.from d.body d.kept d.request).0 h
    so_none Broke y number value child signal ends more poked x d h = bring_none x _ (sp y) _ d.was (asked_brings O S d.held d.from d.body d.kept d.request).0 h
    so_none Fell y number value child signal ends more poked x d h = bring_none x _ (sp y) _ d.was (asked_brings O S d.held d.from d.body d.kept d.request).0 h
    so_none Paused y number value child signal ends more poked x d h = bring_none x _ (sp y) _ d.was refl h

    -- an event of a process whose reply brings a child does not take that reply, unless it is the child's arrival
    not_taken : (what : Deed) → Does O what n old t new → Needs O what n old new (sp (pid_of what)) st.own → (x : ℕ) → brings O (sp (pid_of what)) ≡ Some x → (child_of what ≡ Some x → ⊥) → NotMine (pid_of what) t.taken
    not_taken (Run line i p) d need x h bar = bring_none x _ (sp p) _ need.was refl h
    not_taken (Kill line p g poked) d need x h bar = took_not p _ d.base.took tt
    not_taken (Bid line p to) d need x h bar = took_not p _ d.base.took tt
    not_taken (Unsent line p never) d need x h bar = took_not p _ d.base.took tt
    not_taken (Other line input) d need x h bar = took_not 0 _ d.base.took tt
    not_taken (Steps p k) d need x h bar = bring_none x _ (sp p) _ need.is.was refl h
    not_taken (Sent p k) d need x h bar = bring_none x _ (sp p) _ need.is.was refl h
    not_taken (Heed p) d need x h bar = bring_none x _ (sp p) _ need.is.was refl h
    not_taken (Held p k) d need x h bar = bring_none x _ (sp p) _ need.is.was refl h
    not_taken (Served p manner number value child signal ends more poked) d need x h bar = so_none manner p number value child signal ends more poked x need h
    not_taken (Got p child ended kept) d need x h bar = absurd (bar (sym (got_brings O n old new (sp p) st.own p child ended kept need.is).0 ∙ h))
    not_taken (Poked p true) d need x h bar = took_not p _ d.base.took refl
    not_taken (Poked p false) d need x h bar = took_not p _ d.base.took refl
    not_taken (Begin p to reason) d need x h bar = bring_none x _ (sp p) _ need.is.was refl h
    not_taken (Keep p to line) d need x h bar = took_not p _ d.base.took refl
    not_taken (Missed p to line) d need x h bar = took_not p _ d.base.took refl
    not_taken (Again p to place line) d need x h bar = took_not p _ d.base.took refl
    not_taken (Allows p from load) d need x h bar = bring_none x _ (sp p) _ need.is.was refl h
    not_taken (Denies p from load free) d need x h bar = bring_none x _ (sp p) _ need.is.was refl h
    not_taken (Depart p to) d need x h bar = bring_none x _ (sp p) _ need.is.was refl h
    not_taken (Stay p to load free) d need x h bar = bring_none x _ (sp p) _ need.is.was refl h
    not_taken (Land p source) d need x h bar = bring_none x _ (sp p) _ need.is.was refl h
    not_taken (Told p at source hops line poked) d need x h bar = took_not p _ d.base.took refl
    not_taken (Refused p to why line) (inl d) need x h bar = took_not p _ d.base.took refl
    not_taken (Refused p to why line) (inr d) need x h bar = took_not p _ d.base.took refl
    not_taken (Closed line) d need x h bar = took_not 0 _ d.base.took refl
    not_taken (Gossips false other) d need x h bar = took_not 0 _ d.base.took tt
    not_taken (Gossips true other) d need x h bar = took_not 0 _ d.base.took refl
    not_taken (Strange p) d need x h bar = absurd need

    strange_not : (q : ℕ) → t.event.what ≡ Strange q → ⊥
    strange_not q e = subst (λ (k : Deed). Needs O k n old new (sp (pid_of k)) st.own) e st.needs

    reply_stays : (q x : ℕ) → brings O (sp q) ≡ Some x → (child_of t.event.what ≡ Some x → ⊥) → NotMine q t.taken
    reply_stays q x h bar = go (q == p) refl
      where
        go : (b : Bool) → (q == p) ≡ b → NotMine q t.taken
        go true e = let same = numbers_same q p e in subst (λ (k : ℕ). NotMine k t.taken) (sym same) (not_taken t.event.what goes.makes.does st.needs x (ap (λ (k : ℕ). brings O (sp k)) (sym same) ∙ h) bar)
        go false e = not_of p q t.taken (taken_of t.event.what goes.makes.does refl strange_not) (numbers_other q p e)

    -- the list without what was taken from its front
    first_left : (q x a b : ℕ) (o : Option (Post O)) (ls : List (Post O)) → NotMine q o → ReplyFirst O S q x (at_front O o a b ++ ls) → ReplyFirst O S q x ls × (talk O q (at_front O o a b ++ ls) ≡ talk O q ls)
    first_left q x a b None ls k f = (f, refl)
    first_left q x a b (Some l) ls k f = go ((a == l.from) && (b == l.to)) f
      where
        go : (c : Bool) → ReplyFirst O S q x (cond c (l ∷ []) [] ++ ls) → ReplyFirst O S q x ls × (talk O q (cond c (l ∷ []) [] ++ ls) ≡ talk O q ls)
        go true g = (first_rest O S q x l ls k g, talk_rest O S q l ls k)
        go false g = (g, refl)

    behind_old : (x q : ℕ) (u : O.User) → sp x ≡ InReply q u → (child_of t.event.what ≡ Some x → ⊥) → ReplyFirst O S q x (v.links 0 (site O (next q)))
    behind_old x q u is bar =
        let has = tr.inside.by x q u is in
        let on = step_bring O S w t v sp next stands st q x has bar in
        let m = site O (sp q) in
        let left = first_left q x 0 m t.taken (goes.rest 0 m) (reply_stays q x has bar) (subst (ReplyFirst O S q x) (goes.takes 0 m) (tr.behind x q u is)) in
        let some : talk O q (goes.rest 0 m) ≡ [] → ⊥ = λ z. reply_on q x (sp q) has (sym ((stands.at q).letters 0 m) ∙ (ap (talk O q) (goes.takes 0 m) ∙ (left.1 ∙ z))) in
        subst (λ (k : ℕ). ReplyFirst O S q x (v.links 0 k)) (sym on.1) (subst (ReplyFirst O S q x) (sym (goes.posts 0 m)) (first_append O S q x (goes.rest 0 m) (for_link O 0 m t.posted) some left.0))

    -- the child that is born: nobody has gone to it
    child_plain : (what : Deed) → Does O what n old t new → (c : ℕ) → child_of what ≡ Some c → NoGo O S c t.posted
    child_plain (Run line i p) d c e = absurd cc
    child_plain (Kill line p g poked) d c e = absurd cc
    child_plain (Bid line p to) d c e = absurd cc
    child_plain (Unsent line p never) d c e = absurd cc
    child_plain (Other line input) d c e = absurd cc
    child_plain (Steps p k) d c e = absurd cc
    child_plain (Sent p k) d c e = absurd cc
    child_plain (Heed p) d c e = absurd cc
    child_plain (Held p k) d c e = absurd cc
    child_plain (Served p manner number value child signal ends more poked) d c e = all_nogo O S c t.posted (served_plain manner p number value child signal ends more poked d)
    child_plain (Got p child ended kept) d c e = subst (NoGo O S c) (sym d.base.posts) (all_nogo O S c _ (got_plain p d.body d.keeps d.done))
    child_plain (Poked p used) d c e = absurd cc
    child_plain (Begin p to reason) d c e = absurd cc
    child_plain (Keep p to line) d c e = absurd cc
    child_plain (Missed p to line) d c e = absurd cc
    child_plain (Again p to place line) d c e = absurd cc
    child_plain (Allows p from need) d c e = absurd cc
    child_plain (Denies p from need free) d c e = absurd cc
    child_plain (Depart p to) d c e = absurd cc
    child_plain (Stay p to need free) d c e = absurd cc
    child_plain (Land p source) d c e = absurd cc
    child_plain (Told p at source hops line poked) d c e = absurd cc
    child_plain (Refused p to why line) d c e = absurd cc
    child_plain (Closed line) d c e = absurd cc
    child_plain (Gossips heard other) d c e = absurd cc
    child_plain (Strange p) d c e = absurd cc

    behind_next : (x q : ℕ) (u : O.User) → next x ≡ InReply q u → Part O t.event.what n sp st.own x → ReplyFirst O S q x (v.links 0 (site O (next q)))
    behind_next x q u e (Own is) = behind_old x q u (ap sp is ∙ was_inside O S n old new (sp p) st.own t.event.what q u st.needs (sym (is_own O S w t v sp next stands st x is) ∙ e)) (λ h. child_apart O S w t v goes sp stands st.own st.needs x h is)
    behind_next x q u e (Rest ne f) = behind_old x q u (sym (is_rest O S w t v sp next stands st x ne f) ∙ e) (λ h. (let y : true ≡ false = sym (ap (λ (o : Option ℕ). is_child o x) h ∙ same_numbers x x refl) ∙ f in cc))
    behind_next x q u e (Child c f is ne) = born (was_child O S w t v sp next stands st c f)
      where
        born : ((sp c ≡ Nowhere) × ((u : O.User) × (born_spot O t.event.what n (sp p) c ≡ InReply p u)) × (brings O st.own ≡ Some c) × (n ≡ 0) × (O.count (v.nodes n).kernel ≡ O.count (w.nodes n).kernel + 1)) ⊎ (((u : O.User) × (sp c ≡ InReply p u)) × ((b : Body O) × (born_spot O t.event.what n (sp p) c ≡ Runs n b)) × (site O (sp p) ≡ n)) → ReplyFirst O S q x (v.links 0 (site O (next q)))
        born (inl k) =
            let new_pid : sp x ≡ Nowhere = ap sp is ∙ k.0 in
            let rest : NoGo O S x (goes.rest 0 (site O (next q))) = each_nogo O S sp mv x (goes.rest 0 (site O (next q))) new_pid (sym (none_departed x new_pid)) (each_right O S sp mv (at_front O t.taken 0 (site O (next q))) (goes.rest 0 (site O (next q))) (subst (EachOk O S sp mv) (goes.takes 0 (site O (next q))) (tr.letters 0 (site O (next q))))) in
            let posted : NoGo O S x (for_link O 0 (site O (next q)) t.posted) = nogo_link O S x 0 (site O (next q)) t.posted (subst (λ (k : ℕ). NoGo O S k t.posted) (sym is) (child_plain t.event.what goes.makes.does c f)) in
            subst (ReplyFirst O S q x) (sym (goes.posts 0 (site O (next q)))) (nogo_first O S q x _ (nogo_append O S x _ _ rest posted))
        born (inr k) = let z : Runs n k.1.0 ≡ InReply q u = sym (is_born O S w t v sp next stands st x c f is ne ∙ (ap (born_spot O t.event.what n (sp p)) is ∙ k.1.1)) ∙ e in absurd cc

    pub trails_next : Trails (t ∷ h) next v
    trails_next = record {
      inside = inside_next O S w t v sp next stands st tr.inside;
      letters = letters_next;
      belief = λ q some. belief_next t.event.what refl goes.makes.does st.needs q some;
      behind = λ x q u e. behind_next x q u e (part O t.event.what n sp st.own x);
    }

    -- home's belief grows in hops, but for a pid that is given now
    abbrev Grows : ℕ → Type 0
    Grows q = (sp q ≡ Nowhere) ⊎ (((w.nodes 0).believed q).hops ≤ ((v.nodes 0).believed q).hops)

    grows_same : (q : ℕ) → (v.nodes 0).believed q ≡ (w.nodes 0).believed q → Grows q
    grows_same q e = inr (omega (arith, ap (λ (k : Believed). k.hops) e))

    grows_run : (line j x : ℕ) → Does O (Run line j x) n old t new → sp x ≡ Nowhere → (q : ℕ) → Grows q
    grows_run line j x d none q = go (q == x) refl
      where
        go : (b : Bool) → (q == x) ≡ b → Grows q
        go true e = inl (ap sp (numbers_same q x e) ∙ none)
        go false e = grows_same q (at_home d.home q ∙ (d.believed q ∙ (cond_off q x _ _ (numbers_other q x e) ∙ sym (was_home d.home q))))

    later_grows : (b : Bool) (at hops : ℕ) (k : Believed) → cond b (k.hops < hops) (hops ≤ k.hops) → (k.hops ≤ (place_told O at hops b k).hops) × (hops ≤ (place_told O at hops b k).hops)
    later_grows true at hops k h = (omega (arith, h), omega arith)
    later_grows false at hops k h = (omega arith, h)

    grows_told : (x at source hops : ℕ) (line : Option ℕ) (poked : Bool) → Does O (Told x at source hops line poked) n old t new → (q : ℕ) → Grows q
    grows_told x at source hops line poked d q = go (q == x) refl
      where
        go : (b : Bool) → (q == x) ≡ b → Grows q
        go true e =
            let told : (v.nodes 0).believed q ≡ place_told O at hops d.later (old.believed x) = at_home d.home q ∙ (d.believed q ∙ ap (λ (b : Bool). cond b (place_told O at hops d.later (old.believed x)) (old.believed q)) e) in
            let was : (w.nodes 0).believed q ≡ old.believed x = was_home d.home q ∙ ap old.believed (numbers_same q x e) in
            inr (omega (arith, ap (λ (k : Believed). k.hops) told, ap (λ (k : Believed). k.hops) was, (later_grows d.later at hops (old.believed x) d.later_is).0))
        go false e = grows_same q (at_home d.home q ∙ (d.believed q ∙ (ap (λ (b : Bool). cond b (place_told O at hops d.later (old.believed x)) (old.believed q)) e ∙ sym (was_home d.home q))))

    pub told_hops : (x at source hops : ℕ) (line : Option ℕ) (poked : Bool) → Does O (Told x at source hops line poked) n old t new → hops ≤ ((v.nodes 0).believed x).hops
    told_hops x at source hops line poked d =
        let told : (v.nodes 0).believed x ≡ place_told O at hops d.later (old.believed x) = at_home d.home x ∙ (d.believed x ∙ cond_here x _ _) in
        omega (arith, ap (λ (k : Believed). k.hops) told, (later_grows d.later at hops (old.believed x) d.later_is).1)

    grows_fork : (manner : Manner) (x : ℕ) (number : Option ℕ) (value : Option ℤ) (c : ℕ) (signal : Option ℕ) (ends : Option End) (more : Bool) (poked : List ℕ) → ServedBy O manner n x number value (Some c) signal ends more poked old t new → ServedSo O manner n x number value (Some c) signal ends more poked old new (sp x) st.own → n ≡ 0 → (q : ℕ) → Grows q
    grows_fork manner x number value c signal ends more poked d need home q = go (c == q) refl
      where
        from : (m : ℕ) × (site O st.own ≡ m) × ((q : ℕ) → new.believed q ≡ born_at O m (Some c) old.believed q)
        from = served_from manner x number value (Some c) signal ends more poked c refl d need

        go : (b : Bool) → (c == q) ≡ b → Grows q
        go true e = inl (subst (λ (k : ℕ). sp k ≡ Nowhere) (numbers_same c q e) (stands.unborn c (omega (arith, child_so O S n old new (sp x) st.own manner x number value (Some c) signal ends more poked c refl need ∙ ap (λ (k : ℕ). O.count (w.nodes k).kernel + 1) home))))
        go false e = grows_same q (at_home home q ∙ (from.2 q ∙ (ap (λ (b : Bool). cond b (record { place = from.0; hops = 0 }) (old.believed q)) e ∙ sym (was_home home q))))

    pub hops_grow : (what : Deed) → Does O what n old t new → Needs O what n old new (sp (pid_of what)) st.own → (q : ℕ) → Grows q
    hops_grow (Run line i p) d need q = grows_run line i p d need.was q
    hops_grow (Kill line p g poked) d need q = grows_same q (home_same d.believed q)
    hops_grow (Bid line p to) d need q = grows_same q (home_same d.believed q)
    hops_grow (Unsent line p never) d need q = grows_same q (home_same d.believed q)
    hops_grow (Other line input) d need q = grows_same q (home_same d.believed q)
    hops_grow (Steps p k) d need q = grows_same q (home_same d.still.believed q)
    hops_grow (Sent p k) d need q = grows_same q (home_same d.still.believed q)
    hops_grow (Heed p) d need q = grows_same q (home_same d.still.believed q)
    hops_grow (Held p k) d need q = grows_same q (home_same d.still.believed q)
    hops_grow (Served p manner number value None signal ends more poked) d need q = grows_same q (home_same (served_same manner p number value signal ends more poked d) q)
    hops_grow (Served p manner number value (Some c) signal ends more poked) d need q = grows_fork manner p number value c signal ends more poked d need (home_so O S n old new (sp p) st.own manner p number value (Some c) signal ends more poked need) q
    hops_grow (Got p child ended kept) d need q = grows_same q (home_same d.still.believed q)
    hops_grow (Poked p true) d need q = grows_same q (home_same d.still.believed q)
    hops_grow (Poked p false) d need q = grows_same q (home_same d.still.believed q)
    hops_grow (Begin p to reason) d need q = grows_same q (home_same d.still.believed q)
    hops_grow (Keep p to line) d need q = grows_same q (home_same d.still.believed q)
    hops_grow (Missed p to line) d need q = grows_same q (home_same d.still.believed q)
    hops_grow (Again p to place line) d need q = grows_same q (home_same d.still.believed q)
    hops_grow (Allows p from load) d need q = grows_same q (home_same d.still.believed q)
    hops_grow (Denies p from load free) d need q = grows_same q (home_same d.still.believed q)
    hops_grow (Depart p to) d need q = grows_same q (home_same d.still.believed q)
    hops_grow (Stay p to load free) d need q = grows_same q (home_same d.still.believed q)
    hops_grow (Land p source) d need q = grows_same q (home_same d.still.believed q)
    hops_grow (Told p at source hops line poked) d need q = grows_told p at source hops line poked d q
    hops_grow (Refused p to why line) (inl d) need q = grows_same q (home_same d.still.believed q)
    hops_grow (Refused p to why line) (inr d) need q = grows_same q (home_same d.still.believed q)
    hops_grow (Closed line) d need q = grows_same q (home_same d.still.believed q)
    hops_grow (Gossips heard other) d need q = grows_same q (home_same d.still.believed q)
    hops_grow (Strange p) d need q = grows_same q (home_same d.still.believed q)

  pub path_lives : (h : List (Turn O)) (sp : ℕ → Spot O) (w : World O) → Path O S h sp w → (q : ℕ) → O.live (w.nodes 0).kernel q ≡ true → sp q ≡ Nowhere → ⊥
  path_lives h sp w r q live none =
      let b = path_played O S h sp w r in
      let z : true ≡ false = sym live ∙ (ap (λ (k : O.Kernel). O.live k q) b.agrees.kernel ∙ (b.agrees.alive q ∙ ap (alive O) none)) in cc

  pub path_trails : (h : List (Turn O)) (sp : ℕ → Spot O) (w : World O) → Path O S h sp w → Trails h sp w
  path_trails [] sp w r = record {
    inside = record { by = λ p q u e. absurd (bare p q u e) };
    letters = λ a b. subst (EachOk O S sp (λ q. moves q [])) (sym (r.0.links a b)) tt;
    belief = λ q some. absurd (some (r.1 q));
    behind = λ p q u e. absurd (bare p q u e);
  }
    where
      bare : (p q : ℕ) (u : O.User) → sp p ≡ InReply q u → ⊥
      bare p q u e = let z : Nowhere ≡ InReply q u = sym (r.1 p) ∙ e in cc
  path_trails (t ∷ h) sp v r = trails_next h r.0 t v r.1 sp r.3 r.4 (path_balanced O S h r.1 r.0 r.2) (path_trails h r.1 r.0 r.2) (path_lives h r.1 r.0 r.2)
