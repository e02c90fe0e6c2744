-- Letters go to nodes of the cluster alone, so a link to any other node is empty.
use Rattle.std.proofs.Common.{◌≡◌, ℕ, ◌<◌, ◌≤◌, ◌==◌, ◌&&◌, ◌⊎◌, inl, inr, Bool, true, false, cond, Option, Some, None, List, [], ◌∷◌, ◌++◌, refl, sym, ap, ◌∙◌, subst, arith}
use Rattle.std.specs.Prelude.{ℤ}
use Rattle.std.proofs.lemmas.Bool.Decides.{leb_tells}
use lib.Dec.{leb}
use Rattle.call_table.specs.declared.process.End.{End}
use Rattle.protocol.specs.Ops.{Ops, Sound, is_child}
use Rattle.protocol.specs.Deeds.{ForLine, Chosen, Manner, Did, Broke, Fell, Paused, Deed, Run, Kill, Bid, Unsent, Other, Steps, Sent, Heed, Held, Served, Got, Poked, Begin, Keep, Missed, Again, Allows, Denies, Depart, Stay, Land, Told, Refused, Closed, Gossips, Strange}
use Rattle.protocol.specs.Notes.{Done, Post, Poke, NoMove, Ask, letter, Turn, Body, Kept, context, Waiting, Slot, Local, Believed}
use Rattle.protocol.specs.Spots.{Spot, Holds, slot_by}
use Rattle.protocol.specs.Home.{after, pokes, line_closed}
use Rattle.protocol.specs.Does.{Does, ServedBy, place_told, got_posts}
use Rattle.protocol.specs.Cluster.{World, for_link, at_front, Goes, events}
use Rattle.protocol.specs.Needs.{Names}
use Rattle.protocol.proofs.Talk.{same_numbers, numbers_same, numbers_other, other_numbers}
use Rattle.protocol.proofs.Process.{cond_here, StateTells, call_tells, context_tells}
use Rattle.protocol.proofs.Stand.{EachBound, Stands, Path, names_at}
use Rattle.run_laws.proofs.Sleeps.{KeptFor, Sleeps, Since, path_sleeps}
use Rattle.run_laws.proofs.Making.{beyond}
use Rattle.run_laws.proofs.HalfTargets.{half_near, choice_near}
use Rattle.run_laws.proofs.Weave.{marked}
use Rattle.run_laws.proofs.Weaving.{posts_elsewhere}
use Rattle.run_laws.specs.Carried.{steps}

module _ (O : Ops) (S : Sound O) (some : 1 ≤ O.nodes) where
  abbrev pub AllNear : List (Post O) → Type 0
  AllNear [] = Unit {0}
  AllNear (l ∷ ls) = (l.to < O.nodes) × AllNear ls

  near_off : (a b : ℕ) (ls : List (Post O)) → O.nodes ≤ b → AllNear ls → for_link O a b ls ≡ []
  near_off a b [] most x = refl
  near_off a b (l ∷ ls) most x = go (a == l.from) (near_off a b ls most x.1)
    where
      off : (b == l.to) ≡ false
      off = other_numbers b l.to (λ e. (let z = x.0 in omega (arith, z, e, most)))

      go : (k : Bool) → for_link O a b ls ≡ [] → cond (k && (b == l.to)) (l ∷ for_link O a b ls) (for_link O a b ls) ≡ []
      go true e = rw off e
      go false e = e

  pokes_near : (s : ℕ) (believed : ℕ → Believed) (qs : List ℕ) → ((q : ℕ) → (believed q).place < O.nodes) → AllNear (pokes O s believed qs)
  pokes_near s believed [] near = tt
  pokes_near s believed (q ∷ qs) near = (near q, pokes_near s believed qs near)

  closed_near : (n s : ℕ) (line : Option ℕ) → AllNear (line_closed O n s line)
  closed_near n s None = tt
  closed_near n s (Some line) = (some, tt)

  told_near : (p n s to : ℕ) (b : Bool) → to < O.nodes → AllNear (cond b (letter O n to s (Poke p) ∷ []) [])
  told_near p n s to true near = (near, tt)
  told_near p n s to false near = tt

  got_near : (n s p : ℕ) (b : Body O) (k : Option Kept) (d : Done O) → KeptFor O S p k → AllNear (got_posts O n s p b k d)
  got_near n s p b None d kept = tt
  got_near n s p b (Some k) d kept = go d.ended
    where
      go : (e : Bool) → AllNear (cond e (letter O n 0 s (NoMove k.line) ∷ []) (letter O n k.to s (Ask p (O.pages (after O b.user d))) ∷ []))
      go true = (some, tt)
      go false = (S.targets k.line p k.to kept, tt)

  module _ (h : List (Turn O)) (sp : ℕ → Spot O) (w : World O) (path : Path O S h sp w) (st : Stands O S sp w) (t : Turn O) (v : World O) (goes : Goes O w t v) (near : (q : ℕ) → ((w.nodes 0).believed q).place < O.nodes) where
    abbrev n : ℕ
    n = t.event.node

    abbrev old : Local O
    old = w.nodes t.event.node

    abbrev new : Local O
    new = v.nodes t.event.node

    here : n ≡ 0 → (q : ℕ) → (old.believed q).place < O.nodes
    here home q = subst (λ (k : ℕ). ((w.nodes k).believed q).place < O.nodes) (sym home) (near q)

    -- a letter that is taken came from a node of the cluster
    sender : (l : Post O) → t.taken ≡ Some l → l.from < O.nodes
    sender l e =
        let on : at_front O (Some l) l.from l.to ≡ l ∷ [] = rw (same_numbers l.from l.from refl, same_numbers l.to l.to refl) refl in
        let is : w.links l.from l.to ≡ l ∷ goes.rest l.from l.to = goes.takes l.from l.to ∙ ap (λ (k : List (Post O)). k ++ goes.rest l.from l.to) (ap (λ (o : Option (Post O)). at_front O o l.from l.to) e ∙ on) in
        (subst (EachBound O S (O.count (w.nodes 0).kernel)) is (st.bound l.from l.to)).0.1

    -- a held call is of a process at a node of the cluster
    holder : (p from : ℕ) (r : O.Request) → n ≡ 0 → (old.slots p).call ≡ Some (record { from = from; request = r }) → from < O.nodes
    holder p from r home was = go (leb_tells O.nodes from)
      where
        at : (b : Body O) (k : Option Kept) → sp p ≡ Holds from b k r → ((w.nodes from).slots p).context ≡ Some (context O b (Waiting false k))
        at b k e = ap (λ (x : Slot O). x.context) ((st.at p).slots from) ∙ (ap (λ (s : Spot O). (slot_by O s from).context) e ∙ cond_here from (Some (context O b (Waiting false k))) None)

        go : ((leb O.nodes from ≡ true) × (O.nodes ≤ from)) ⊎ ((leb O.nodes from ≡ false) × (from < O.nodes)) → from < O.nodes
        go (inl x) =
            let c = call_tells O p (sp p) w (st.at p) n home (record { from = from; request = r }) was in
            let z : None ≡ Some (context O c.0 (Waiting false c.1)) = sym (ap (λ (k : Slot O). k.context) ((beyond O S h sp w path from x.1).slots p)) ∙ at c.0 c.1 c.2 in absurd cc
        go (inr x) = x.1

    kept_of : (p : ℕ) (P : O.User → Type 0) (b : Body O) (pause : Bool) (k : Option Kept) (m : ℕ) (s : Spot O) → StateTells O (Waiting pause k) b m s → Sleeps O S p P s → KeptFor O S p k
    kept_of p P b pause k m s (inl (x, e, f)) z = (subst (Sleeps O S p P) e z).1
    kept_of p P b pause k m s (inr (inl (x, e, f))) z = (subst (Sleeps O S p P) e z).1
    kept_of p P b pause k m s (inr (inr (inl (x, e, f)))) z = (subst (Sleeps O S p P) e z).1
    kept_of p P b pause k m s (inr (inr (inr (d, y, e)))) z = (subst (Sleeps O S p P) e z).1

    place_near : (at hops : ℕ) (later : Bool) (b : Believed) → at < O.nodes → b.place < O.nodes → (place_told O at hops later b).place < O.nodes
    place_near at hops true b x y = x
    place_near at hops false b x y = y

    by : (ls : List (Post O)) → t.posted ≡ ls → AllNear ls → AllNear t.posted
    by ls e x = subst AllNear (sym e) x

    served_near : (manner : Manner) (p : ℕ) (number : Option ℕ) (value : Option ℤ) (child signal : Option ℕ) (ends : Option End) (more : Bool) (poked : List ℕ) → ServedBy O manner n p number value child signal ends more poked old t new → AllNear t.posted
    served_near Did p number value child signal ends more poked (inl d) = by _ d.base.posts (sender _ d.base.took, pokes_near t.event.stamp old.believed poked (here d.home))
    served_near Did p number value child signal ends more poked (inr d) = by _ d.base.posts (holder p d.from d.request d.home d.was, pokes_near t.event.stamp old.believed poked (here d.home))
    served_near Broke p number value child signal ends more poked (inl d) = by _ d.base.posts (sender _ d.base.took, pokes_near t.event.stamp old.believed poked (here d.home))
    served_near Broke p number value child signal ends more poked (inr d) = by _ d.base.posts (holder p d.from d.request d.home d.was, pokes_near t.event.stamp old.believed poked (here d.home))
    served_near Fell p number value child signal ends more poked d = by _ d.base.posts (sender _ d.base.took, pokes_near t.event.stamp old.believed poked (here d.home))
    served_near Paused p number value child signal ends more poked d = by _ d.base.posts (sender _ d.base.took, pokes_near t.event.stamp old.believed poked (here d.home))

    posts_near : (what : Deed) → Names O what → Does O what n old t new → AllNear t.posted
    posts_near (Run line i p) is d = by _ d.base.posts tt
    posts_near (Kill line p g poked) is d = by _ d.base.posts (pokes_near t.event.stamp old.believed poked (here d.home))
    posts_near (Bid line p to) is d = by _ d.base.posts (here d.home p, tt)
    posts_near (Unsent line p never) is d = by _ d.base.posts tt
    posts_near (Other line input) is d = by _ d.base.posts tt
    posts_near (Steps p k) is d = by _ d.base.posts tt
    posts_near (Sent p k) is d = by _ d.base.posts (some, tt)
    posts_near (Heed p) is d = by _ d.base.posts (some, tt)
    posts_near (Held p k) is d = by _ d.base.posts tt
    posts_near (Served p manner number value child signal ends more poked) is d = served_near manner p number value child signal ends more poked d
    posts_near (Got p child ended kept) is d = by _ d.base.posts (got_near n t.event.stamp p d.body d.keeps d.done (kept_of p (Since O S (events O h) p) d.body d.pause d.keeps n (sp p) (context_tells O p (sp p) w (st.at p) n d.body (Waiting d.pause d.keeps) d.was) (path_sleeps O S h sp w path p)))
    posts_near (Poked p true) is d = by _ d.base.posts tt
    posts_near (Poked p false) is d = by _ d.base.posts tt
    posts_near (Begin p to (ForLine line)) is d = by _ d.base.posts (S.targets line p to is, tt)
    posts_near (Begin p to (Chosen false other)) is d = by _ d.base.posts (half_near O n old t new other _ d.why, (choice_near O S n old t new false other p to d.why, tt))
    posts_near (Begin p to (Chosen true other)) is d = by _ d.base.posts (choice_near O S n old t new true other p to d.why, tt)
    posts_near (Keep p to line) is d = by _ d.base.posts tt
    posts_near (Missed p to line) is d = by _ d.base.posts (some, tt)
    posts_near (Again p to place line) is d = by _ d.base.posts (subst (λ (k : ℕ). k < O.nodes) (sym d.place_is) (here d.home p), tt)
    posts_near (Allows p from load) is d = by _ d.base.posts (sender _ d.base.took, tt)
    posts_near (Denies p from load free) is d = by _ d.base.posts (sender _ d.base.took, tt)
    posts_near (Depart p to) is d = by _ d.base.posts (sender _ d.base.took, tt)
    posts_near (Stay p to load free) is d = by _ d.base.posts (closed_near n t.event.stamp d.line)
    posts_near (Land p source) is d = by _ d.base.posts (some, tt)
    posts_near (Told p at source hops line poked) is d = by _ d.base.posts (told_near p n t.event.stamp _ poked (place_near at hops d.later (old.believed p) (sender _ d.base.took) (here d.home p)))
    posts_near (Refused p to why line) is (inl d) = by _ d.base.posts (some, tt)
    posts_near (Refused p to why line) is (inr d) = by _ d.base.posts tt
    posts_near (Closed line) is d = by _ d.base.posts tt
    posts_near (Gossips false other) is d = by _ d.base.posts (half_near O n old t new other _ d.talks, tt)
    posts_near (Gossips true other) is d = by _ d.base.posts tt
    posts_near (Strange p) is d = by _ d.base.posts tt

    -- the believed places stay in the cluster
    same_places : (q : ℕ) → new.believed q ≡ old.believed q → (old.believed q).place < O.nodes → (new.believed q).place < O.nodes
    same_places q e x = subst (λ (b : Believed). b.place < O.nodes) (sym e) x

    chosen : (k : Bool) (x y : Believed) → x.place < O.nodes → y.place < O.nodes → (cond k x y).place < O.nodes
    chosen true x y a b = a
    chosen false x y a b = b

    served_places : (manner : Manner) (p : ℕ) (number : Option ℕ) (value : Option ℤ) (child signal : Option ℕ) (ends : Option End) (more : Bool) (poked : List ℕ) → ServedBy O manner n p number value child signal ends more poked old t new → (q : ℕ) → (old.believed q).place < O.nodes → (new.believed q).place < O.nodes
    served_places Did p number value child signal ends more poked (inl d) q x = subst (λ (b : Believed). b.place < O.nodes) (sym (d.believed q)) (chosen (is_child child q) _ _ (sender _ d.base.took) x)
    served_places Did p number value child signal ends more poked (inr d) q x = subst (λ (b : Believed). b.place < O.nodes) (sym (d.believed q)) (chosen (is_child child q) _ _ (holder p d.from d.request d.home d.was) x)
    served_places Broke p number value child signal ends more poked (inl d) q x = subst (λ (b : Believed). b.place < O.nodes) (sym (d.believed q)) (chosen (is_child child q) _ _ (sender _ d.base.took) x)
    served_places Broke p number value child signal ends more poked (inr d) q x = subst (λ (b : Believed). b.place < O.nodes) (sym (d.believed q)) (chosen (is_child child q) _ _ (holder p d.from d.request d.home d.was) x)
    served_places Fell p number value child signal ends more poked d q x = subst (λ (b : Believed). b.place < O.nodes) (sym (d.believed q)) (chosen (is_child child q) _ _ (sender _ d.base.took) x)
    served_places Paused p number value child signal ends more poked d q x = same_places q (d.believed q) x

    places : (what : Deed) → Does O what n old t new → (q : ℕ) → (old.believed q).place < O.nodes → (new.believed q).place < O.nodes
    places (Run line i p) d q x = subst (λ (b : Believed). b.place < O.nodes) (sym (d.believed q)) (chosen (q == p) _ _ some x)
    places (Kill line p g poked) d q x = same_places q (d.believed q) x
    places (Bid line p to) d q x = same_places q (d.believed q) x
    places (Unsent line p never) d q x = same_places q (d.believed q) x
    places (Other line input) d q x = same_places q (d.believed q) x
    places (Steps p k) d q x = same_places q (d.still.believed q) x
    places (Sent p k) d q x = same_places q (d.still.believed q) x
    places (Heed p) d q x = same_places q (d.still.believed q) x
    places (Held p k) d q x = same_places q (d.still.believed q) x
    places (Served p manner number value child signal ends more poked) d q x = served_places manner p number value child signal ends more poked d q x
    places (Got p child ended kept) d q x = same_places q (d.still.believed q) x
    places (Poked p true) d q x = same_places q (d.still.believed q) x
    places (Poked p false) d q x = same_places q (d.still.believed q) x
    places (Begin p to reason) d q x = same_places q (d.still.believed q) x
    places (Keep p to line) d q x = same_places q (d.still.believed q) x
    places (Missed p to line) d q x = same_places q (d.still.believed q) x
    places (Again p to place line) d q x = same_places q (d.still.believed q) x
    places (Allows p from load) d q x = same_places q (d.still.believed q) x
    places (Denies p from load free) d q x = same_places q (d.still.believed q) x
    places (Depart p to) d q x = same_places q (d.still.believed q) x
    places (Stay p to load free) d q x = same_places q (d.still.believed q) x
    places (Land p source) d q x = same_places q (d.still.believed q) x
    places (Told p at source hops line poked) d q x = subst (λ (b : Believed). b.place < O.nodes) (sym (d.believed q)) (chosen (q == p) _ _ (place_near at hops d.later (old.believed p) (sender _ d.base.took) (here d.home p)) x)
    places (Refused p to why line) (inl d) q x = same_places q (d.still.believed q) x
    places (Refused p to why line) (inr d) q x = same_places q (d.still.believed q) x
    places (Closed line) d q x = same_places q (d.still.believed q) x
    places (Gossips heard other) d q x = same_places q (d.still.believed q) x
    places (Strange p) d q x = same_places q (d.still.believed q) x

    near_next : (q : ℕ) → ((v.nodes 0).believed q).place < O.nodes
    near_next q = go (n == 0) refl
      where
        go : (b : Bool) → (n == 0) ≡ b → ((v.nodes 0).believed q).place < O.nodes
        go true e = let z = numbers_same n 0 e in subst (λ (k : ℕ). ((v.nodes k).believed q).place < O.nodes) z (places t.event.what goes.makes.does q (here z q))
        go false e = subst (λ (l : Local O). (l.believed q).place < O.nodes) (sym (goes.elsewhere 0 (λ z. numbers_other n 0 e (sym z)))) (near q)

    empty_next : (a b : ℕ) → O.nodes ≤ b → w.links a b ≡ [] → v.links a b ≡ []
    empty_next a b most was = goes.posts a b ∙ (ap (λ (x : List (Post O)). goes.rest a b ++ x) (near_off a b t.posted most (posts_near t.event.what (names_at O S w t v goes sp st) goes.makes.does)) ∙ rest_none (at_front O t.taken a b) (goes.rest a b) (sym (goes.takes a b) ∙ was))
      where
        rest_none : (xs ys : List (Post O)) → xs ++ ys ≡ [] → ys ++ [] ≡ []
        rest_none [] [] e = refl
        rest_none [] (y ∷ ys) e = absurd cc
        rest_none (x ∷ xs) ys e = absurd cc

  path_near : (h : List (Turn O)) (sp : ℕ → Spot O) (w : World O) → Path O S h sp w → (q : ℕ) → ((w.nodes 0).believed q).place < O.nodes
  path_near [] sp w r q = subst (λ (b : Believed). b.place < O.nodes) (sym (((r.0.nodes 0).home refl).believed q)) some
  path_near (t ∷ h) sp v r q = near_next h r.1 r.0 r.2 r.3 t v r.4.goes (path_near h r.1 r.0 r.2) q

  pub far_to : (h : List (Turn O)) (sp : ℕ → Spot O) (w : World O) → Path O S h sp w → (a b : ℕ) → O.nodes ≤ b → w.links a b ≡ []
  far_to [] sp w r a b most = r.0.links a b
  far_to (t ∷ h) sp v r a b most = empty_next h r.1 r.0 r.2 r.3 t v r.4.goes (path_near h r.1 r.0 r.2) a b most (far_to h r.1 r.0 r.2 a b most)

  none_from : (w : World O) (t : Turn O) (v : World O) → Goes O w t v → (a b : ℕ) → O.nodes ≤ a → w.links a b ≡ [] → v.links a b ≡ []
  none_from w t v goes a b most was =
      let marks = marked O t.event.node (w.nodes t.event.node) t (v.nodes t.event.node) goes.makes in
      let off : for_link O a b t.posted ≡ [] = posts_elsewhere (steps O) a b t.event.node t.event.stamp t.posted marks.posted (λ e. (let z = goes.makes.below in omega (arith, z, e, most))) in
      goes.posts a b ∙ (ap (λ (x : List (Post O)). goes.rest a b ++ x) off ∙ left (at_front O t.taken a b) (goes.rest a b) (sym (goes.takes a b) ∙ was))
    where
      left : (xs ys : List (Post O)) → xs ++ ys ≡ [] → ys ++ [] ≡ []
      left [] [] e = refl
      left [] (y ∷ ys) e = absurd cc
      left (x ∷ xs) ys e = absurd cc

  far_from : (h : List (Turn O)) (sp : ℕ → Spot O) (w : World O) → Path O S h sp w → (a b : ℕ) → O.nodes ≤ a → w.links a b ≡ []
  far_from [] sp w r a b most = r.0.links a b
  far_from (t ∷ h) sp v r a b most = none_from r.0 t v r.4.goes a b most (far_from h r.1 r.0 r.2 a b most)

  -- so all links are empty where those of the cluster are
  pub all_links : (h : List (Turn O)) (sp : ℕ → Spot O) (w : World O) → Path O S h sp w → ((a b : ℕ) → a < O.nodes → b < O.nodes → w.links a b ≡ []) → (a b : ℕ) → w.links a b ≡ []
  all_links h sp w r near a b = go (leb_tells O.nodes a) (leb_tells O.nodes b)
    where
      go : ((leb O.nodes a ≡ true) × (O.nodes ≤ a)) ⊎ ((leb O.nodes a ≡ false) × (a < O.nodes)) → ((leb O.nodes b ≡ true) × (O.nodes ≤ b)) ⊎ ((leb O.nodes b ≡ false) × (b < O.nodes)) → w.links a b ≡ []
      go (inl x) y = far_from h sp w r a b x.1
      go (inr x) (inl y) = far_to h sp w r a b y.1
      go (inr x) (inr y) = near a b x.1 y.1
