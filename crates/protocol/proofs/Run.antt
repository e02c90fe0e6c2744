-- Over every list of turns that the cluster can make, each process is at its spot, and each event finds the spot that it needs.
use Rattle.std.proofs.Common.{◌≡◌, ◌≤◌, ◌≢◌, ℕ, ◌<◌, ◌==◌, ◌⊎◌, inl, inr, Bool, true, false, cond, Option, Some, None, List, [], ◌∷◌, refl, sym, ap, ◌∙◌, subst, arith}
use Rattle.protocol.specs.Ops.{Ops, IsMove, is_child}
use Rattle.protocol.specs.Deeds.{Manner, Did, Broke, Fell, Paused, KeptTold, ForLine, Chosen, Deed, Run, Kill, Bid, Unsent, Other, Steps, Sent, Heed, Held, Served, Got, Poked, Begin, Keep, Missed, Again, Allows, Denies, Depart, Stay, Land, Told, Refused, Closed, Gossips, Strange, pid_of, child_of}
use Rattle.protocol.specs.Notes.{Done, Note, Call, Pause, Reply, Poke, Half, Go, NotHere, Ask, Allow, Deny, Move, Landed, NoMove, Post, Turn, letter, Body, fresh, Kept, State, Running, Waiting, Context, context, Slot, Local, way}
use Rattle.protocol.specs.Spots.{Spot, Nowhere, Runs, Calls, Pauses, Answered, Asks, Granted, Denied, Travels, InReply, slot_by, way_by, mine}
use Rattle.protocol.specs.Does.{Base, hosts, same, Does, ServedBy, PokedBy, Skips, Misfit, WrongChild, Reserved, FarNode, pid_of_note, got_posts}
use Rattle.protocol.specs.Cluster.{World, Goes}
use Rattle.protocol.specs.Gossip.{NearPlaces}
use Rattle.protocol.proofs.Places.{not_far}
use Rattle.protocol.specs.Home.{after, fits_done, Given, NeverGiven}
use Rattle.protocol.specs.Needs.{Needs, ServedSo, PokedSo, Quiet, Aims, Right, Named, alive, brings}
use Rattle.protocol.proofs.Talk.{same_numbers, Of, AllOf, TakenOf, Loose, all_other, taken_other, talk_loose, pokes_of, pokes_loose, closed_of}
use Rattle.protocol.proofs.Process.{cond_here, cond_off, cond_same, At, Letters, letters_of, took_way, way_tells, settle, rests}
use Rattle.protocol.proofs.Own.{Turned, same_slot, loose_in, takes_in, silent, launch_own, step_own, send_own, heed_own, hold_own, serve_own, retry_own, pause_own, get_own, mark_own, ignore_own, miss_own, begin_own, keep_own, grant_own, refuse_own, depart_own, stay_here_own, land_own, stay_own}
use Rattle.std.specs.Prelude.{ℤ}
use Rattle.call_table.specs.declared.process.End.{End}

module _ (O : Ops) where
  -- letters for home go to home, those of a line are of its move, a landing is told with its number, and their pids were given, of k; a half goes to another node, and its places name nodes of the cluster
  abbrev pub Bound : ℕ → Note O → ℕ → ℕ → Type 0
  Bound k (Call p r) a b = Unit {0}
  Bound k (Pause p r) a b = Unit {0}
  Bound k (Reply p d) a b = Unit {0}
  Bound k (Poke p) a b = Unit {0}
  Bound k (Half places) a b = NearPlaces O.nodes places × (a ≢ b)
  Bound k (Go p to hops line) a b = IsMove O line p to × (to < O.nodes) × Given O k p
  Bound k (NotHere p to hops line) a b = (b ≡ 0) × IsMove O line p to × (to < O.nodes) × Given O k p
  Bound k (Ask p need) a b = Unit {0}
  Bound k (Allow p) a b = Unit {0}
  Bound k (Deny p need free) a b = Unit {0}
  Bound k (Move p u hops line) a b = Unit {0}
  Bound k (Landed p source hops line) a b = (b ≡ 0) × (1 ≤ hops) × (source < O.nodes) × Given O k p
  Bound k (NoMove line) a b = b ≡ 0

  abbrev pub BoundOf : ℕ → Option (Post O) → Type 0
  BoundOf k None = Unit {0}
  BoundOf k (Some l) = Bound k l.note l.from l.to × (l.from < O.nodes)

  module _ (w : World O) (t : Turn O) (v : World O) (goes : Goes O w t v) where
    abbrev n : ℕ
    n = t.event.node

    abbrev old : Local O
    old = w.nodes t.event.node

    abbrev new : Local O
    new = v.nodes t.event.node

    itself : (p : ℕ) → (p == p) ≡ true
    itself p = same_numbers p p refl

    some_context : {c d : Context O} → Some c ≡ Some d → c ≡ d
    some_context e = cc

    abbrev pause_of : Bool → State → Bool
    pause_of x (Waiting pause k) = pause
    pause_of x _ = x

    -- what is known of a process at its spot
    pub record Knows (p : ℕ) (s : Spot O) : Type 0 where
      pub aims : Aims O s
      pub right : Right O s
      pub named : Named O p s
      pub asked : (u : O.User) (r : O.Request) → O.asks u ≡ Some r → O.fits_request r ≡ true
      pub few : (total : ℕ) → alive O s ≡ true → (old.slots p).reserve ≡ None → Reserved O old total → total < 64
      pub live : n ≡ 0 → O.live old.kernel p ≡ alive O s
      pub given : s ≢ Nowhere → n ≡ 0 → NeverGiven O old.kernel p → ⊥
      pub kid : (c : ℕ) → brings O s ≡ Some c → ((old.slots c).context ≡ None) × (n ≡ 0 → NeverGiven O old.kernel c → ⊥)

    slot_is : (p : ℕ) (s s2 : Spot O) → At O p s w → s ≡ s2 → old.slots p ≡ slot_by O s2 n
    slot_is p s s2 at e = at.slots n ∙ ap (λ (k : Spot O). slot_by O k n) e

    -- the slot that a spot tells fits each letter that is under way
    fits : (m : Note O) (from : ℕ) (s : Spot O) → Knows (pid_of_note O m) s → At O (pid_of_note O m) s w → mine O (pid_of_note O m) m ≡ true → way_by O (pid_of_note O m) s ≡ Some (way O from n m) → Misfit O n from old m → ⊥
    fits (Call q r) from s knows at own h mis = go (way_tells O q s (way O from n (Call q r)) h) mis
      where
        go : (body : Body O) × (kept : Option Kept) × (s ≡ Calls from body kept r) × (n ≡ 0) → Misfit O n from old (Call q r) → ⊥
        go (body, kept, is, home) (inl x) = x home
        go (body, kept, is, home) (inr (inl x)) = let z : true ≡ false = sym (ap (alive O) is) ∙ (sym (knows.live home) ∙ x) in cc
        go (body, kept, is, home) (inr (inr (inl x))) = x (ap (λ (k : Slot O). k.call) (slot_is q s _ at is) ∙ cond_same (n == 0) None)
        go (body, kept, is, home) (inr (inr (inr x))) = let z : true ≡ false = sym (knows.asked body.user r (subst (Right O) is knows.right)) ∙ x in cc
    fits (Pause q r) from s knows at own h mis = go (way_tells O q s (way O from n (Pause q r)) h) mis
      where
        go : (body : Body O) × (kept : Option Kept) × (s ≡ Pauses from body kept r) × (n ≡ 0) → Misfit O n from old (Pause q r) → ⊥
        go (body, kept, is, home) (inl x) = x home
        go (body, kept, is, home) (inr (inl x)) = let z : true ≡ false = sym (ap (alive O) is) ∙ (sym (knows.live home) ∙ x) in cc
        go (body, kept, is, home) (inr (inr x)) = x (ap (λ (k : Slot O). k.call) (slot_is q s _ at is) ∙ cond_same (n == 0) None)
    fits (Reply q d) from s knows at own h mis = go (way_tells O q s (way O from n (Reply q d)) h) mis
      where
        child : (o : Option ℕ) → brings O s ≡ o → WrongChild O n old o → ⊥
        child None e x = x
        child (Some c) e (inl x) = x (knows.kid c e).0
        child (Some c) e (inr x) = (knows.kid c e).1 x.0 x.1

        go : (body : Body O) × (kept : Option Kept) × (x : Bool) × (y : Bool) × (s ≡ Answered n body kept d x y) × (from ≡ 0) → Misfit O n from old (Reply q d) → ⊥
        go (body, kept, x, y, is, e) (inl none) = none body x kept (ap (λ (k : Slot O). k.context) (slot_is q s _ at is) ∙ cond_here n _ _)
        go (body, kept, x, y, is, e) (inr (inl wrong)) =
            let has : (old.slots q).context ≡ Some (context O body (Waiting x kept)) = ap (λ (k : Slot O). k.context) (slot_is q s _ at is) ∙ cond_here n _ _ in
            let c : context O body (Waiting x kept) ≡ context O wrong.0 (Waiting wrong.1 wrong.2) = some_context (sym has ∙ wrong.3) in
            let z : true ≡ false = sym (subst (Right O) is knows.right) ∙ (λ i. fits_done O (pause_of x (c i).state) (c i).body.user d) ∙ wrong.4 in cc
        go (body, kept, x, y, is, e) (inr (inr wrong)) = child d.child (ap (brings O) is) wrong
    fits (Poke q) from s knows at own h mis = mis
    fits (Half places) from s knows at own h mis = way_tells O 0 s (way O from n (Half places)) h
    fits (Go q to hops line) from s knows at own h mis = mis
    fits (NotHere q to hops line) from s knows at own h mis = way_tells O q s (way O from n (NotHere q to hops line)) h
    fits (Ask q need) from s knows at own h mis = go (way_tells O q s (way O from n (Ask q need)) h) mis
      where
        go : (body : Body O) × (line : Option ℕ) × (s ≡ Asks from body n line need) → Misfit O n from old (Ask q need) → ⊥
        go (body, line, is) (inl x) = x (ap (λ (k : Slot O). k.context) (slot_is q s _ at is) ∙ cond_off n from _ _ (subst (Aims O) is knows.aims))
        go (body, line, is) (inr (inl x)) = x (ap (λ (k : Slot O). k.reserve) (slot_is q s _ at is) ∙ cond_same (n == 0) None)
        go (body, line, is) (inr (inr (inl x))) = knows.given (λ z. (let y = sym is ∙ z in cc)) x.0 x.1
        go (body, line, is) (inr (inr (inr x))) =
            let less = knows.few x.0 (ap (alive O) is) (ap (λ (k : Slot O). k.reserve) (slot_is q s _ at is) ∙ cond_same (n == 0) None) x.1 in
            omega (arith, less, x.2)
    fits (Allow q) from s knows at own h mis = go (way_tells O q s (way O from n (Allow q)) h)
      where
        go : (body : Body O) × (line : Option ℕ) × (need : ℕ) × (s ≡ Granted n body from line need) → ⊥
        go (body, line, need, is) = mis body line (ap (λ (k : Slot O). k.context) (slot_is q s _ at is) ∙ cond_here n _ _)
    fits (Deny q need free) from s knows at own h mis = go (way_tells O q s (way O from n (Deny q need free)) h)
      where
        go : (body : Body O) × (line : Option ℕ) × (s ≡ Denied n body from line need free) → ⊥
        go (body, line, is) = mis body line (ap (λ (k : Slot O). k.context) (slot_is q s _ at is) ∙ cond_here n _ _)
    fits (Move q u hops line) from s knows at own h mis = go (way_tells O q s (way O from n (Move q u hops line)) h) mis
      where
        go : (body : Body O) × (need : ℕ) × (s ≡ Travels from n body line need) × (body.user ≡ u) × (body.hops ≡ hops) → Misfit O n from old (Move q u hops line) → ⊥
        go (body, need, is, eu, eh) (inl x) = x (ap (λ (k : Slot O). k.context) (slot_is q s _ at is) ∙ cond_same (n == 0) None)
        go (body, need, is, eu, eh) (inr (inr x)) = x (ap O.pid_of (sym eu) ∙ subst (Named O q) is knows.named)
        go (body, need, is, eu, eh) (inr (inl x)) =
            let has : (old.slots q).reserve ≡ Some need = ap (λ (k : Slot O). k.reserve) (slot_is q s _ at is) ∙ cond_here n _ _ in
            let z : None ≡ Some need = sym x ∙ has in cc
    fits (Landed q source hops line) from s knows at own h mis = way_tells O q s (way O from n (Landed q source hops line)) h
    fits (NoMove line) from s knows at own h mis = way_tells O 0 s (way O from n (NoMove line)) h

    -- so many pids were given at home
    abbrev births : ℕ
    births = O.count (w.nodes 0).kernel

    was_given : (q : ℕ) → n ≡ 0 → Given O births q → NeverGiven O old.kernel q → ⊥
    was_given q home g (inl x) = omega (arith, g.0, x)
    was_given q home g (inr x) = let e : O.count old.kernel ≡ births = ap (λ (k : ℕ). O.count (w.nodes k).kernel) home in omega (arith, g.1, x, e)

    skip_own : (p : ℕ) (s : Spot O) → Knows p s → BoundOf births t.taken → At O p s w → Skips O n p old t new → ⊥
    skip_own p s knows bound at d = go (mine O p d.note) refl d.misfit
      where
        bad : (m : Note O) → mine O p m ≡ false → pid_of_note O m ≡ p → Bound births m d.from n → Misfit O n d.from old m → ⊥
        bad (Call q r) e f b mis = let z : true ≡ false = sym (same_numbers q p f) ∙ e in absurd cc
        bad (Pause q r) e f b mis = let z : true ≡ false = sym (same_numbers q p f) ∙ e in absurd cc
        bad (Reply q r) e f b mis = let z : true ≡ false = sym (same_numbers q p f) ∙ e in absurd cc
        bad (Poke q) e f b mis = mis
        bad (Half places) e f b mis = b.1 mis
        bad (Go q to hops line) e f b mis = mis
        bad (NotHere q to hops line) e f b (inl x) = x b.0
        bad (NotHere q to hops line) e f b (inr x) = was_given q b.0 b.3 x
        bad (Ask q need) e f b mis = let z : true ≡ false = sym (same_numbers q p f) ∙ e in absurd cc
        bad (Allow q) e f b mis = let z : true ≡ false = sym (same_numbers q p f) ∙ e in absurd cc
        bad (Deny q need free) e f b mis = let z : true ≡ false = sym (same_numbers q p f) ∙ e in absurd cc
        bad (Move q u hops line) e f b mis = let z : true ≡ false = sym (same_numbers q p f) ∙ e in absurd cc
        bad (Landed q source hops line) e f b (inl x) = x b.0
        bad (Landed q source hops line) e f b (inr x) = was_given q b.0 b.3 x
        bad (NoMove line) e f b mis = mis b

        near : (m : Note O) → Bound births m d.from n → FarNode O m → ⊥
        near (Call q r) b far = far
        near (Pause q r) b far = far
        near (Reply q r) b far = far
        near (Poke q) b far = far
        near (Half places) b far = not_far O.nodes places b.0 far
        near (Go q to hops line) b far = omega (arith, b.1, far)
        near (NotHere q to hops line) b far = omega (arith, b.2, far)
        near (Ask q need) b far = far
        near (Allow q) b far = far
        near (Deny q need free) b far = far
        near (Move q u hops line) b far = far
        near (Landed q source hops line) b far = omega (arith, b.2, far)
        near (NoMove line) b far = far

        here : Bound births d.note d.from n × (d.from < O.nodes)
        here = subst (BoundOf births) d.base.took bound

        own : mine O p d.note ≡ true → mine O (pid_of_note O d.note) d.note ≡ true
        own e = subst (λ (k : ℕ). mine O k d.note ≡ true) (sym d.pid) e

        go : (b : Bool) → mine O p d.note ≡ b → Misfit O n d.from old d.note ⊎ ((O.nodes ≤ d.from) ⊎ FarNode O d.note) → ⊥
        go b e (inr (inl far)) = omega (arith, here.1, far)
        go b e (inr (inr far)) = near d.note here.0 far
        go false e (inl mis) = bad d.note e d.pid here.0 mis
        go true e (inl mis) =
            fits d.note d.from s (subst (λ (k : ℕ). Knows k s) (sym d.pid) knows) (subst (λ (k : ℕ). At O k s w) (sym d.pid) at) (own e)
            (subst (λ (k : ℕ). way_by O k s ≡ Some (way O d.from n d.note)) (sym d.pid) (took_way O p s w v at _ None (takes_in O w t v goes p _ [] d.base.took d.base.posts e tt))) mis

    served_own : (manner : Manner) (p : ℕ) (number : Option ℕ) (value : Option ℤ) (child signal : Option ℕ) (ends : Option End) (more : Bool) (poked : List ℕ) (s : Spot O) → At O p s w → ServedBy O manner n p number value child signal ends more poked old t new
        → Turned O (λ r. ServedSo O manner n p number value child signal ends more poked old new s r) p v
    served_own Did p number value child signal ends more poked s at (inl d) = serve_own O w t v goes p Did number value child signal ends more poked s at d
    served_own Did p number value child signal ends more poked s at (inr d) = retry_own O w t v goes p Did number value child signal ends more poked s at d
    served_own Broke p number value child signal ends more poked s at (inl d) = serve_own O w t v goes p Broke number value child signal ends more poked s at d
    served_own Broke p number value child signal ends more poked s at (inr d) = retry_own O w t v goes p Broke number value child signal ends more poked s at d
    served_own Fell p number value child signal ends more poked s at d = serve_own O w t v goes p Fell number value child signal ends more poked s at d
    served_own Paused p number value child signal ends more poked s at d = pause_own O w t v goes p number value child signal ends more poked s at d

    poked_own : (used : Bool) (p : ℕ) (s : Spot O) → At O p s w → PokedBy O used n p old t new → Turned O (λ r. Quiet O (PokedSo O used n s r) old new) p v
    poked_own true p s at d = mark_own O w t v goes p s at d
    poked_own false p s at d = ignore_own O w t v goes p s at d

    stays : (p : ℕ) (s : Spot O) (taken : Option (Post O)) (posted : List (Post O)) → At O p s w → Letters O p None None w v → Base O p None taken posted (same O) (same O) old t new → At O p s v
    stays p s taken posted at l b = stay_own O w t v goes p s taken posted at l b

    pub own_at : (what : Deed) (s : Spot O) → (O.count old.kernel < pid_of what → n ≡ 0 → s ≡ Nowhere) → Knows (pid_of what) s → BoundOf births t.taken → At O (pid_of what) s w → Does O what n old t new → Turned O (Needs O what n old new s) (pid_of what) v
    own_at (Run line i p) s born knows bound at d = launch_own O w t v goes line i p s (born (omega (arith, d.next)) d.home) at d
    own_at (Kill line p g poked) s born knows bound at d = (s, record { home = d.home; signal_is = d.signal_is; kernel = d.kernel; tells = d.tells; now = refl }, stays p s _ _ at (silent O w t v goes p _ d.base.took d.base.posts (pokes_loose O p t.event.stamp old.believed poked)) d.base)
    own_at (Bid line p to) s born knows bound at d = (s, record { is = record { why = (d.home, d.live); now = refl }; kernel = d.kernel }, stays p s _ _ at (silent O w t v goes p _ d.base.took d.base.posts (refl, tt)) d.base)
    own_at (Unsent line p never) s born knows bound at d = (s, record { is = record { why = (d.home, d.why); now = refl }; kernel = d.kernel }, stays p s _ _ at (silent O w t v goes p _ d.base.took d.base.posts tt) d.base)
    own_at (Other line input) s born knows bound at d = (s, record { home = d.home; text = d.text; kernel = d.kernel; now = refl }, stays 0 s _ _ at (silent O w t v goes 0 _ d.base.took d.base.posts tt) d.base)
    own_at (Steps p k) s born knows bound at d = step_own O w t v goes p k s at d
    own_at (Sent p k) s born knows bound at d = send_own O w t v goes p k s at d
    own_at (Heed p) s born knows bound at d = heed_own O w t v goes p s at d
    own_at (Held p k) s born knows bound at d = hold_own O w t v goes p k s at d
    own_at (Served p manner number value child signal ends more poked) s born knows bound at d = served_own manner p number value child signal ends more poked s at d
    own_at (Got p child ended kept) s born knows bound at d = get_own O w t v goes p child ended kept s at d
    own_at (Poked p used) s born knows bound at d = poked_own used p s at d
    own_at (Begin p to reason) s born knows bound at d = begin_own O w t v goes p to reason s at d
    own_at (Keep p to line) s born knows bound at d = keep_own O w t v goes p to line s at d
    own_at (Missed p to line) s born knows bound at d = miss_own O w t v goes p to line s at d
    own_at (Again p to place line) s born knows bound at d = (s, record { is = record { why = (d.home, d.live); now = refl }; kernel = d.still.kernel }, stays p s _ _ at (loose_in O w t v goes p _ _ d.base.took d.base.posts refl (refl, tt)) d.base)
    own_at (Allows p from need) s born knows bound at d = grant_own O w t v goes p from need s at d
    own_at (Denies p from need free) s born knows bound at d = refuse_own O w t v goes p from need free s at d
    own_at (Depart p to) s born knows bound at d = depart_own O w t v goes p to s at d
    own_at (Stay p to need free) s born knows bound at d = stay_here_own O w t v goes p to need free s at d
    own_at (Land p source) s born knows bound at d = land_own O w t v goes p source s at d
    own_at (Told p at2 source hops line poked) s born knows bound at d = (s, record { is = record { why = (d.home, d.tells); now = refl }; kernel = d.kernel }, stays p s _ _ at (loose_in O w t v goes p _ _ d.base.took d.base.posts refl (go poked _ _)) d.base)
      where
        go : (b : Bool) (to stamp : ℕ) → Loose O p (cond b (letter O n to stamp (Poke p) ∷ []) [])
        go true to stamp = (refl, tt)
        go false to stamp = tt
    own_at (Refused p to why line) s born knows bound at (inl d) = (s, record { is = record { why = inl d.was; now = refl }; kernel = d.still.kernel }, stays p s _ _ at (loose_in O w t v goes p _ _ d.base.took d.base.posts refl (refl, tt)) d.base)
    own_at (Refused p to why line) s born knows bound at (inr d) = (s, record { is = record { why = inr (d.home, (d.hops, d.was)); now = refl }; kernel = d.still.kernel }, stays p s _ _ at (loose_in O w t v goes p _ _ d.base.took d.base.posts refl tt) d.base)
    own_at (Closed line) s born knows bound at d = (s, record { is = record { why = d.home; now = refl }; kernel = d.still.kernel }, stays 0 s _ _ at (loose_in O w t v goes 0 _ _ d.base.took d.base.posts refl tt) d.base)
    own_at (Gossips false other) s born knows bound at d = (s, record { is = record { why = tt; now = refl }; kernel = d.still.kernel }, stays 0 s _ _ at (silent O w t v goes 0 _ d.base.took d.base.posts (refl, tt)) d.base)
    own_at (Gossips true other) s born knows bound at d = (s, record { is = record { why = tt; now = refl }; kernel = d.still.kernel }, stays 0 s _ _ at (loose_in O w t v goes 0 _ _ d.base.took d.base.posts refl tt) d.base)
    own_at (Strange p) s born knows bound at d = absurd (skip_own p s knows bound at d)

    -- what an event leaves alone of a process that it is not about
    frame : (p : ℕ) (child : Option ℕ) (taken : Option (Post O)) (posted : List (Post O)) (change born : Slot O → Slot O) → Base O p child taken posted change born old t new → TakenOf O p taken → AllOf O p posted
        → (q : ℕ) (s : Spot O) → q ≢ p → is_child child q ≡ false → At O q s w → At O q s v
    frame p child taken posted change born b takes posts q s ne h at =
        rests O w t v goes q s at (letters_of O q w t v goes taken posted b.took b.posts None None (λ x y. taken_other O p q x y taken takes ne) (λ x y. talk_loose O q x y posted (all_other O p q posted posts ne)))
        (b.slots q ∙ (cond_off q p _ _ ne ∙ ap (λ (k : Bool). cond k (born (old.slots q)) (old.slots q)) h))

    got_all : (p : ℕ) (b : Body O) (k : Option Kept) (d : Done O) → AllOf O p (got_posts O n t.event.stamp p b k d)
    got_all p b None d = tt
    got_all p b (Some k) d = go d.ended
      where
        go : (e : Bool) → AllOf O p (cond e (letter O n 0 t.event.stamp (NoMove k.line) ∷ []) (letter O n k.to t.event.stamp (Ask p (O.pages (after O b.user d))) ∷ []))
        go true = (tt, tt)
        go false = (refl, tt)

    pub served_frame : (manner : Manner) (p : ℕ) (number : Option ℕ) (value : Option ℤ) (child signal : Option ℕ) (ends : Option End) (more : Bool) (poked : List ℕ) → ServedBy O manner n p number value child signal ends more poked old t new → (q : ℕ) (s : Spot O) → q ≢ p → At O q s w → At O q s v
    served_frame Did p number value child signal ends more poked (inl d) q s ne at = frame p None _ _ _ _ d.base refl (refl, pokes_of O p t.event.stamp old.believed poked) q s ne refl at
    served_frame Did p number value child signal ends more poked (inr d) q s ne at = frame p None _ _ _ _ d.base tt (refl, pokes_of O p t.event.stamp old.believed poked) q s ne refl at
    served_frame Broke p number value child signal ends more poked (inl d) q s ne at = frame p None _ _ _ _ d.base refl (refl, pokes_of O p t.event.stamp old.believed poked) q s ne refl at
    served_frame Broke p number value child signal ends more poked (inr d) q s ne at = frame p None _ _ _ _ d.base tt (refl, pokes_of O p t.event.stamp old.believed poked) q s ne refl at
    served_frame Fell p number value child signal ends more poked d q s ne at = frame p None _ _ _ _ d.base refl (refl, pokes_of O p t.event.stamp old.believed poked) q s ne refl at
    served_frame Paused p number value child signal ends more poked d q s ne at = frame p None _ _ _ _ d.base refl (refl, pokes_of O p t.event.stamp old.believed poked) q s ne refl at

    told_all : (p to : ℕ) (b : Bool) → AllOf O p (cond b (letter O n to t.event.stamp (Poke p) ∷ []) [])
    told_all p to true = (tt, tt)
    told_all p to false = tt

    pub other_at : (what : Deed) → Does O what n old t new → (q : ℕ) (s : Spot O) → q ≢ pid_of what → is_child (child_of what) q ≡ false → At O q s w → At O q s v
    other_at (Run line i p) d q s ne h at = frame p None _ _ _ _ d.base tt tt q s ne refl at
    other_at (Kill line p g poked) d q s ne h at = frame p None _ _ _ _ d.base tt (pokes_of O p t.event.stamp old.believed poked) q s ne refl at
    other_at (Bid line p to) d q s ne h at = frame p None _ _ _ _ d.base tt (tt, tt) q s ne refl at
    other_at (Unsent line p never) d q s ne h at = frame p None _ _ _ _ d.base tt tt q s ne refl at
    other_at (Other line input) d q s ne h at = frame 0 None _ _ _ _ d.base tt tt q s ne refl at
    other_at (Steps p k) d q s ne h at = frame p None _ _ _ _ d.base tt tt q s ne refl at
    other_at (Sent p k) d q s ne h at = frame p None _ _ _ _ d.base tt (refl, tt) q s ne refl at
    other_at (Heed p) d q s ne h at = frame p None _ _ _ _ d.base tt (refl, tt) q s ne refl at
    other_at (Held p k) d q s ne h at = frame p None _ _ _ _ d.base refl tt q s ne refl at
    other_at (Served p manner number value child signal ends more poked) d q s ne h at = served_frame manner p number value child signal ends more poked d q s ne at
    other_at (Got p child ended kept) d q s ne h at = frame p child _ _ _ _ d.base refl (got_all p d.body d.keeps d.done) q s ne h at
    other_at (Poked p true) d q s ne h at = frame p None _ _ _ _ d.base tt tt q s ne refl at
    other_at (Poked p false) d q s ne h at = frame p None _ _ _ _ d.base tt tt q s ne refl at
    other_at (Begin p to (ForLine line)) d q s ne h at = frame p None _ _ _ _ d.base tt (refl, tt) q s ne refl at
    other_at (Begin p to (Chosen false other)) d q s ne h at = frame p None _ _ _ _ d.base tt (tt, (refl, tt)) q s ne refl at
    other_at (Begin p to (Chosen true other)) d q s ne h at = frame p None _ _ _ _ d.base tt (refl, tt) q s ne refl at
    other_at (Keep p to line) d q s ne h at = frame p None _ _ _ _ d.base tt tt q s ne refl at
    other_at (Missed p to line) d q s ne h at = frame p None _ _ _ _ d.base tt (tt, tt) q s ne refl at
    other_at (Again p to place line) d q s ne h at = frame p None _ _ _ _ d.base tt (tt, tt) q s ne refl at
    other_at (Allows p from need) d q s ne h at = frame p None _ _ _ _ d.base refl (refl, tt) q s ne refl at
    other_at (Denies p from need free) d q s ne h at = frame p None _ _ _ _ d.base refl (refl, tt) q s ne refl at
    other_at (Depart p to) d q s ne h at = frame p None _ _ _ _ d.base refl (refl, tt) q s ne refl at
    other_at (Stay p to need free) d q s ne h at = frame p None _ _ _ _ d.base refl (closed_of O p n t.event.stamp d.line) q s ne refl at
    other_at (Land p source) d q s ne h at = frame p None _ _ _ _ d.base refl (tt, tt) q s ne refl at
    other_at (Told p at2 source hops line poked) d q s ne h at = frame p None _ _ _ _ d.base tt (told_all p _ poked) q s ne refl at
    other_at (Refused p to why line) (inl d) q s ne h at = frame p None _ _ _ _ d.base tt (tt, tt) q s ne refl at
    other_at (Refused p to why line) (inr d) q s ne h at = frame p None _ _ _ _ d.base tt tt q s ne refl at
    other_at (Closed line) d q s ne h at = frame 0 None _ _ _ _ d.base tt tt q s ne refl at
    other_at (Gossips false other) d q s ne h at = frame 0 None _ _ _ _ d.base tt (tt, tt) q s ne refl at
    other_at (Gossips true other) d q s ne h at = frame 0 None _ _ _ _ d.base tt tt q s ne refl at
    other_at (Strange p) d q s ne h at = frame p None _ _ _ _ d.base (skip_of d.note d.pid) tt q s ne refl at
      where
        skip_of : (m : Note O) → pid_of_note O m ≡ p → Of O p m
        skip_of (Call r x) e = e
        skip_of (Pause r x) e = e
        skip_of (Reply r x) e = e
        skip_of (Poke r) e = tt
        skip_of (Half places) e = tt
        skip_of (Go r to hops line) e = tt
        skip_of (NotHere r to hops line) e = tt
        skip_of (Ask r need) e = e
        skip_of (Allow r) e = e
        skip_of (Deny r need free) e = e
        skip_of (Move r u hops line) e = e
        skip_of (Landed r source hops line) e = tt
        skip_of (NoMove line) e = tt

    -- the child that comes with a reply is put
    pub got_child : (p c : ℕ) (ended : Bool) (kept : Option KeptTold) (parent : ℕ) (u : O.User) (d : Does O (Got p (Some c) ended kept) n old t new) → c ≢ p → u ≡ O.forked d.body.user c → At O c (InReply parent u) w → At O c (Runs n (fresh O u)) v
    got_child p c ended kept parent u d ne e at =
        let r = Runs n (fresh O u) in
        let letters : Letters O c None None w v = letters_of O c w t v goes _ _ d.base.took d.base.posts None None (λ x y. taken_other O p c x y (Some (letter O d.from n d.stamp (Reply p d.done))) refl ne) (λ x y. talk_loose O c x y _ (all_other O p c _ (got_all p d.body d.keeps d.done) ne)) in
        let slot : new.slots c ≡ hosts O (Some (context O (fresh O u) Running)) (old.slots c) = d.base.slots c ∙ (cond_off c p _ _ ne ∙ (cond_here c _ _ ∙ ap (λ (k : O.User). hosts O (Some (context O (fresh O k) Running)) (old.slots c)) (sym e))) in
        settle O w t v goes c (InReply parent u) r at None None letters refl refl
        (slot ∙ (ap (hosts O (Some (context O (fresh O u) Running))) (at.slots n) ∙ same_slot O (hosts O (Some (context O (fresh O u) Running)) (slot_by O (InReply parent u) n)) (slot_by O r n) (sym (cond_here n _ _)) refl refl))
        (λ m ne2. same_slot O (slot_by O (InReply parent u) m) (slot_by O r m) (cond_same (m == 0) None ∙ sym (cond_off m n _ _ ne2)) refl refl)

    -- and one that is born is nowhere but in the reply
    pub born_child : (c p : ℕ) (u : O.User) → At O c Nowhere v → At O c (InReply p u) v
    born_child c p u at = record { slots = at.slots; letters = at.letters }
