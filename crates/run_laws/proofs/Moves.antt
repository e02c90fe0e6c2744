-- The counts of a process's moves and its spot agree.
use Rattle.std.proofs.Common.{◌≡◌, ℕ, ◌+◌, Bool, true, false, cond, Option, Some, None, List, [], ◌∷◌, refl, sym, ap, ◌∙◌, subst, arith}
use Rattle.protocol.specs.Ops.{Ops, Sound}
use Rattle.protocol.specs.Deeds.{Manner, Did, Broke, Fell, Paused, KeptTold, Deed, Run, Kill, Bid, Unsent, Other, Steps, Sent, Heed, Held, Served, Got, Poked, Begin, Keep, Missed, Again, Allows, Denies, Depart, Stay, Land, Told, Refused, Closed, Gossips, Strange, pid_of, child_of}
use Rattle.protocol.specs.Notes.{Done, Turn, Body, Kept, Local}
use Rattle.protocol.specs.Spots.{Spot, Nowhere, Runs, Calls, Holds, Pauses, Answered, Asks, Granted, Denied, Travels, InReply, Ended}
use Rattle.protocol.specs.Home.{returned, after}
use Rattle.protocol.specs.Does.{kept_told}
use Rattle.protocol.specs.Cluster.{World}
use Rattle.protocol.specs.Needs.{Needs, ServedSo, ServedCall, got_spot, asked, mark, keep_in, born_spot}
use Rattle.protocol.specs.Cluster.{events}
use Rattle.run_laws.specs.UnderWay.{Moves, no_moves, begun_by, moves_own, moves}
use Rattle.protocol.proofs.Talk.{same_numbers, other_numbers}
use Rattle.protocol.proofs.Quiet.{child_so, home_so}
use Rattle.protocol.proofs.Coupling.{Part, Own, Child, Rest, part, at_own, at_child, at_rest, got_brings}
use Rattle.protocol.proofs.Stand.{Stands, Step, Path}
use Rattle.std.specs.Prelude.{ℤ}
use Rattle.call_table.specs.declared.process.End.{End}

module _ (O : Ops) (S : Sound O) where
  abbrev pub asks_of : Spot O → ℕ
  asks_of Nowhere = 0
  asks_of (Runs m b) = 0
  asks_of (Calls m b k r) = 0
  asks_of (Holds m b k r) = 0
  asks_of (Pauses m b k r) = 0
  asks_of (Answered m b k d x y) = 0
  asks_of (Asks m b to l need) = 1
  asks_of (Granted m b to l need) = 1
  asks_of (Denied m b to l need free) = 1
  asks_of (Travels a c b l need) = 0
  asks_of (InReply q u) = 0
  asks_of (Ended u) = 0

  abbrev pub travels_of : Spot O → ℕ
  travels_of Nowhere = 0
  travels_of (Runs m b) = 0
  travels_of (Calls m b k r) = 0
  travels_of (Holds m b k r) = 0
  travels_of (Pauses m b k r) = 0
  travels_of (Answered m b k d x y) = 0
  travels_of (Asks m b to l need) = 0
  travels_of (Granted m b to l need) = 0
  travels_of (Denied m b to l need free) = 0
  travels_of (Travels a c b l need) = 1
  travels_of (InReply q u) = 0
  travels_of (Ended u) = 0

  abbrev pub HopsIs : Spot O → ℕ → Type 0
  HopsIs Nowhere i = i ≡ 0
  HopsIs (Runs m b) i = b.hops ≡ i
  HopsIs (Calls m b k r) i = b.hops ≡ i
  HopsIs (Holds m b k r) i = b.hops ≡ i
  HopsIs (Pauses m b k r) i = b.hops ≡ i
  HopsIs (Answered m b k d x y) i = b.hops ≡ i
  HopsIs (Asks m b to l need) i = b.hops ≡ i
  HopsIs (Granted m b to l need) i = b.hops ≡ i
  HopsIs (Denied m b to l need free) i = b.hops ≡ i
  HopsIs (Travels a c b l need) i = b.hops ≡ i
  HopsIs (InReply q u) i = i ≡ 0
  HopsIs (Ended u) i = Unit {0}

  pub record Balanced (s : Spot O) (m : Moves) : Type 0 where
    pub begins : m.begins ≡ m.stays + m.departs + asks_of s
    pub departs : m.departs ≡ m.lands + travels_of s
    pub hops : HopsIs s m.lands

  like : (s r : Spot O) (m : Moves) → asks_of r ≡ asks_of s → travels_of r ≡ travels_of s → (HopsIs s m.lands → HopsIs r m.lands) → Balanced s m → Balanced r m
  like s r m e f g b = record { begins = b.begins ∙ ap (λ (k : ℕ). m.stays + m.departs + k) (sym e); departs = b.departs ∙ ap (λ (k : ℕ). m.lands + k) (sym f); hops = g b.hops }

  -- from the spot a to the spot b, alike in all this
  moved : (s r a b : Spot O) (m : Moves) → s ≡ a → r ≡ b → asks_of b ≡ asks_of a → travels_of b ≡ travels_of a → (HopsIs a m.lands → HopsIs b m.lands) → Balanced s m → Balanced r m
  moved s r a b m e f g h i x = subst (λ (k : Spot O). Balanced k m) (sym f) (like a b m g h i (subst (λ (k : Spot O). Balanced k m) e x))

  mark_like : (s : Spot O) (i : ℕ) → (asks_of (mark O s) ≡ asks_of s) × (travels_of (mark O s) ≡ travels_of s) × (HopsIs s i → HopsIs (mark O s) i)
  mark_like Nowhere i = (refl, refl, λ z. z)
  mark_like (Runs m b) i = (refl, refl, λ z. z)
  mark_like (Calls m b k r) i = (refl, refl, λ z. z)
  mark_like (Holds m b k r) i = (refl, refl, λ z. z)
  mark_like (Pauses m b k r) i = (refl, refl, λ z. z)
  mark_like (Answered m b k d x y) i = (refl, refl, λ z. z)
  mark_like (Asks m b to l need) i = (refl, refl, λ z. z)
  mark_like (Granted m b to l need) i = (refl, refl, λ z. z)
  mark_like (Denied m b to l need free) i = (refl, refl, λ z. z)
  mark_like (Travels a c b l need) i = (refl, refl, λ z. z)
  mark_like (InReply q u) i = (refl, refl, λ z. z)
  mark_like (Ended u) i = (refl, refl, λ z. z)

  keep_like : (x : Kept) (s : Spot O) (i : ℕ) → (asks_of (keep_in O x s) ≡ asks_of s) × (travels_of (keep_in O x s) ≡ travels_of s) × (HopsIs s i → HopsIs (keep_in O x s) i)
  keep_like x Nowhere i = (refl, refl, λ z. z)
  keep_like x (Runs m b) i = (refl, refl, λ z. z)
  keep_like x (Calls m b k r) i = (refl, refl, λ z. z)
  keep_like x (Holds m b k r) i = (refl, refl, λ z. z)
  keep_like x (Pauses m b k r) i = (refl, refl, λ z. z)
  keep_like x (Answered m b k d z y) i = (refl, refl, λ z. z)
  keep_like x (Asks m b to l need) i = (refl, refl, λ z. z)
  keep_like x (Granted m b to l need) i = (refl, refl, λ z. z)
  keep_like x (Denied m b to l need free) i = (refl, refl, λ z. z)
  keep_like x (Travels a c b l need) i = (refl, refl, λ z. z)
  keep_like x (InReply q u) i = (refl, refl, λ z. z)
  keep_like x (Ended u) i = (refl, refl, λ z. z)

  asked_like : (h : Bool) (m : ℕ) (b : Body O) (k : Option Kept) (q : O.Request) (d : Done O) (i : ℕ) → (0 ≡ asks_of (asked O h m b k q)) × (0 ≡ travels_of (asked O h m b k q)) × (HopsIs (asked O h m b k q) i → b.hops ≡ i)
  asked_like true m b k q d i = (refl, refl, λ z. z)
  asked_like false m b k q d i = (refl, refl, λ z. z)

  got_balanced : (n : ℕ) (b : Body O) (k : Option Kept) (d : Done O) (x y : Bool) (m : Moves) → Balanced (Answered n b k d x y) m → Balanced (got_spot O n b k d) (record m { begins = begun_by (kept_told O k d.ended) m.begins })
  got_balanced n b None d x y m z = go d.ended
    where
      go : (e : Bool) → Balanced (cond e (Ended (after O b.user d)) (Runs n (returned O b d))) m
      go true = like (Answered n b None d x y) (Ended (after O b.user d)) m refl refl (λ h. tt) z
      go false = like (Answered n b None d x y) (Runs n (returned O b d)) m refl refl (λ h. h) z
  got_balanced n b (Some k) d x y m z = go d.ended
    where
      go : (e : Bool) → Balanced (cond e (Ended (after O b.user d)) (Asks n (returned O b d) k.to (Some k.line) (O.pages (after O b.user d)))) (record m { begins = cond e m.begins (m.begins + 1) })
      go true = like (Answered n b (Some k) d x y) (Ended (after O b.user d)) m refl refl (λ h. tt) z
      go false = record { begins = omega (arith, z.begins); departs = z.departs; hops = z.hops }

  module _ (n : ℕ) (old new : Local O) (s r : Spot O) (m : Moves) where
    call_balanced : (manner : Manner) (p : ℕ) (number : Option ℕ) (value : Option ℤ) (child signal : Option ℕ) (ends : Option End) (more : Bool) (poked : List ℕ) → ServedCall O n p manner number value child signal ends more poked old new s r → Balanced s m → Balanced r m
    call_balanced manner p number value child signal ends more poked d b =
        moved s r _ _ m d.was d.now (asked_like d.held d.from d.body d.kept d.request (record { answer = None; child = None; taken = None; ended = false; more = false }) m.lands).0 (asked_like d.held d.from d.body d.kept d.request (record { answer = None; child = None; taken = None; ended = false; more = false }) m.lands).1
        (asked_like d.held d.from d.body d.kept d.request (record { answer = None; child = None; taken = None; ended = false; more = false }) m.lands).2 b

    so_balanced : (manner : Manner) (p : ℕ) (number : Option ℕ) (value : Option ℤ) (child signal : Option ℕ) (ends : Option End) (more : Bool) (poked : List ℕ) → ServedSo O manner n p number value child signal ends more poked old new s r → Balanced s m → Balanced r m
    so_balanced Did p number value child signal ends more poked d b = call_balanced Did p number value child signal ends more poked d b
    so_balanced Broke p number value child signal ends more poked d b = call_balanced Broke p number value child signal ends more poked d b
    so_balanced Fell p number value child signal ends more poked d b = call_balanced Fell p number value child signal ends more poked d b
    so_balanced Paused p number value child signal ends more poked d b = moved s r _ _ m d.was d.now refl refl (λ h. h) b

    balanced_own : (what : Deed) → Needs O what n old new s r → Balanced s m → Balanced r (moves_own what m)
    balanced_own (Run line i p) d b = moved s r _ _ m d.was d.now refl refl (λ h. sym h) b
    balanced_own (Kill line p g poked) d b = subst (λ (k : Spot O). Balanced k m) (sym d.now) b
    balanced_own (Bid line p to) d b = subst (λ (k : Spot O). Balanced k m) (sym d.is.now) b
    balanced_own (Unsent line p never) d b = subst (λ (k : Spot O). Balanced k m) (sym d.is.now) b
    balanced_own (Other line input) d b = subst (λ (k : Spot O). Balanced k m) (sym d.now) b
    balanced_own (Steps p k) d b = moved s r _ _ m d.is.was d.is.now refl refl (λ h. h) b
    balanced_own (Sent p k) d b = moved s r _ _ m d.is.was d.is.now refl refl (λ h. h) b
    balanced_own (Heed p) d b = moved s r _ _ m d.is.was d.is.now refl refl (λ h. h) b
    balanced_own (Held p k) d b = moved s r _ _ m d.is.was d.is.now refl refl (λ h. h) b
    balanced_own (Served p manner number value child signal ends more poked) d b = so_balanced manner p number value child signal ends more poked d b
    balanced_own (Got p child ended kept) d b = subst (λ (k : Spot O). Balanced k (moves_own (Got p child ended kept) m)) (sym d.is.now) (subst (λ (k : Option KeptTold). Balanced (got_spot O n d.is.body d.is.keeps d.is.done) (record m { begins = begun_by k m.begins })) (sym d.is.kept_is) (got_balanced n d.is.body d.is.keeps d.is.done d.is.paused d.is.held m (subst (λ (k : Spot O). Balanced k m) d.is.was b)))
    balanced_own (Poked p true) d b = subst (λ (k : Spot O). Balanced k m) (sym d.is.now) (like s (mark O s) m (mark_like s m.lands).0 (mark_like s m.lands).1 (mark_like s m.lands).2 b)
    balanced_own (Poked p false) d b = subst (λ (k : Spot O). Balanced k m) (sym d.is.now) b
    balanced_own (Begin p to reason) d b = (let x = subst (λ (k : Spot O). Balanced k m) d.is.was b in subst (λ (k : Spot O). Balanced k (moves_own (Begin p to reason) m)) (sym d.is.now) (record { begins = omega (arith, x.begins, x.departs); departs = omega (arith, x.departs); hops = x.hops }))
    balanced_own (Keep p to line) d b = subst (λ (k : Spot O). Balanced k m) (sym d.is.now) (like s (keep_in O (record { to = to; line = line }) s) m (keep_like (record { to = to; line = line }) s m.lands).0 (keep_like (record { to = to; line = line }) s m.lands).1 (keep_like (record { to = to; line = line }) s m.lands).2 b)
    balanced_own (Missed p to line) d b = subst (λ (k : Spot O). Balanced k m) (sym d.is.now) b
    balanced_own (Again p to place line) d b = subst (λ (k : Spot O). Balanced k m) (sym d.is.now) b
    balanced_own (Allows p from need) d b = moved s r _ _ m d.is.was d.is.now refl refl (λ h. h) b
    balanced_own (Denies p from need free) d b = moved s r _ _ m d.is.was d.is.now refl refl (λ h. h) b
    balanced_own (Depart p to) d b = (let x = subst (λ (k : Spot O). Balanced k m) d.is.was b in subst (λ (k : Spot O). Balanced k (moves_own (Depart p to) m)) (sym d.is.now) (record { begins = omega (arith, x.begins, x.departs); departs = omega (arith, x.departs); hops = x.hops }))
    balanced_own (Stay p to need free) d b = (let x = subst (λ (k : Spot O). Balanced k m) d.is.was b in subst (λ (k : Spot O). Balanced k (moves_own (Stay p to need free) m)) (sym d.is.now) (record { begins = omega (arith, x.begins, x.departs); departs = omega (arith, x.departs); hops = x.hops }))
    balanced_own (Land p source) d b = (let x = subst (λ (k : Spot O). Balanced k m) d.is.was b in subst (λ (k : Spot O). Balanced k (moves_own (Land p source) m)) (sym d.is.now) (record { begins = omega (arith, x.begins, x.departs); departs = omega (arith, x.departs); hops = ap (λ (k : ℕ). k + 1) x.hops }))
    balanced_own (Told p at source hops line poked) d b = (let x = subst (λ (k : Spot O). Balanced k m) (sym d.is.now) b in record { begins = x.begins; departs = x.departs; hops = x.hops })
    balanced_own (Refused p to why line) d b = subst (λ (k : Spot O). Balanced k m) (sym d.is.now) b
    balanced_own (Closed line) d b = subst (λ (k : Spot O). Balanced k m) (sym d.is.now) b
    balanced_own (Gossips heard other) d b = subst (λ (k : Spot O). Balanced k m) (sym d.is.now) b
    balanced_own (Strange p) d b = absurd d

  module _ (w : World O) (t : Turn O) (v : World O) (sp next : ℕ → Spot O) (stands : Stands O S sp w) (st : Step O S sp w t next v) where
    abbrev n : ℕ
    n = t.event.node

    child_balanced : (what : Deed) (r : Spot O) → Needs O what n (w.nodes n) (v.nodes n) (sp (pid_of what)) r → (c : ℕ) → child_of what ≡ Some c → (m : Moves) → Balanced (sp c) m → Balanced (born_spot O what n (sp (pid_of what)) c) m
    child_balanced (Run line i p) r load c e m b = absurd cc
    child_balanced (Kill line p g poked) r load c e m b = absurd cc
    child_balanced (Bid line p to) r load c e m b = absurd cc
    child_balanced (Unsent line p never) r load c e m b = absurd cc
    child_balanced (Other line input) r load c e m b = absurd cc
    child_balanced (Steps p k) r load c e m b = absurd cc
    child_balanced (Sent p k) r load c e m b = absurd cc
    child_balanced (Heed p) r load c e m b = absurd cc
    child_balanced (Held p k) r load c e m b = absurd cc
    child_balanced (Served p manner number value child signal ends more poked) r load c e m b =
        let home = home_so O S n (w.nodes n) (v.nodes n) (sp p) r manner p number value child signal ends more poked load in
        let is : c ≡ O.count (w.nodes 0).kernel + 1 = child_so O S n (w.nodes n) (v.nodes n) (sp p) r manner p number value child signal ends more poked c e load ∙ ap (λ (k : ℕ). O.count (w.nodes k).kernel + 1) home in
        moved (sp c) _ Nowhere _ m (stands.unborn c (omega (arith, is))) refl refl refl (λ h. h) b
    child_balanced (Got p child ended kept) r load c e m b =
        let g = got_brings O n (w.nodes n) (v.nodes n) (sp p) r p child ended kept load.is in
        moved (sp c) _ _ _ m (stands.coupled.child p c (g.0 ∙ e)).0 refl refl refl (λ h. sym h) b
    child_balanced (Poked p used) r load c e m b = absurd cc
    child_balanced (Begin p to reason) r load c e m b = absurd cc
    child_balanced (Keep p to line) r load c e m b = absurd cc
    child_balanced (Missed p to line) r load c e m b = absurd cc
    child_balanced (Again p to place line) r load c e m b = absurd cc
    child_balanced (Allows p from need) r load c e m b = absurd cc
    child_balanced (Denies p from need free) r load c e m b = absurd cc
    child_balanced (Depart p to) r load c e m b = absurd cc
    child_balanced (Stay p to need free) r load c e m b = absurd cc
    child_balanced (Land p source) r load c e m b = absurd cc
    child_balanced (Told p at source hops line poked) r load c e m b = absurd cc
    child_balanced (Refused p to why line) r load c e m b = absurd cc
    child_balanced (Closed line) r load c e m b = absurd cc
    child_balanced (Gossips heard other) r load c e m b = absurd cc
    child_balanced (Strange p) r load c e m b = absurd cc

    balanced_next : (h : List (Turn O)) → ((q : ℕ) → Balanced (sp q) (moves q (events O h))) → (q : ℕ) → Part O t.event.what n sp st.own q → Balanced (next q) (moves q (t.event ∷ events O h))
    balanced_next h bal q (Own e) =
        let x = balanced_own n (w.nodes n) (v.nodes n) (sp (pid_of t.event.what)) st.own (moves (pid_of t.event.what) (events O h)) t.event.what st.needs (bal (pid_of t.event.what)) in
        let y : Balanced st.own (moves_own t.event.what (moves q (events O h))) = subst (λ (k : ℕ). Balanced st.own (moves_own t.event.what (moves k (events O h)))) (sym e) x in
        subst (λ (k : Spot O). Balanced k (moves q (t.event ∷ events O h))) (sym (st.next_is q ∙ at_own O t.event.what n sp st.own q e))
        (subst (λ (b : Bool). Balanced st.own (cond b (moves_own t.event.what (moves q (events O h))) (moves q (events O h)))) (sym (same_numbers q (pid_of t.event.what) e)) y)
    balanced_next h bal q (Rest ne f) =
        subst (λ (k : Spot O). Balanced k (moves q (t.event ∷ events O h))) (sym (st.next_is q ∙ at_rest O t.event.what n sp st.own q ne f))
        (subst (λ (b : Bool). Balanced (sp q) (cond b (moves_own t.event.what (moves q (events O h))) (moves q (events O h)))) (sym (other_numbers q (pid_of t.event.what) ne)) (bal q))
    balanced_next h bal q (Child c a e ne) =
        subst (λ (k : Spot O). Balanced k (moves q (t.event ∷ events O h))) (sym (st.next_is q ∙ at_child O t.event.what n sp st.own q c a e ne))
        (subst (λ (b : Bool). Balanced (born_spot O t.event.what n (sp (pid_of t.event.what)) q) (cond b (moves_own t.event.what (moves q (events O h))) (moves q (events O h)))) (sym (other_numbers q (pid_of t.event.what) ne))
        (child_balanced t.event.what st.own st.needs q (a ∙ ap (λ (k : ℕ). Some k) (sym e)) (moves q (events O h)) (bal q)))

  pub path_balanced : (h : List (Turn O)) (sp : ℕ → Spot O) (w : World O) → Path O S h sp w → (q : ℕ) → Balanced (sp q) (moves q (events O h))
  path_balanced [] sp w r q = subst (λ (k : Spot O). Balanced k no_moves) (sym (r.1 q)) (record { begins = refl; departs = refl; hops = refl })
  path_balanced (t ∷ h) sp v r q = balanced_next r.0 t v r.1 sp r.3 r.4 h (path_balanced h r.1 r.0 r.2) q (part O t.event.what t.event.node r.1 r.4.own q)
