-- Where a process was at a number of landings: each Go, each Landed and home's belief name a place that the process had, and has left or still has.
use Rattle.std.proofs.Common.{◌≡◌, ◌≢◌, ℕ, ◌+◌, ◌<◌, ◌⊎◌, inl, inr, Bool, true, false, cond, Option, Some, None, List, ◌∷◌, refl, sym, ap, ◌∙◌, subst, arith}
use Rattle.protocol.specs.Ops.{Ops, Sound, is_child, counted}
use Rattle.protocol.specs.Deeds.{Manner, Did, Broke, Fell, Paused, Deed, Run, Kill, Bid, Unsent, Other, Steps, Sent, Heed, Held, Served, Got, Poked, Begin, Keep, Missed, Again, Allows, Denies, Depart, Stay, Land, Told, Refused, Closed, Gossips, Strange, pid_of, child_of}
use Rattle.protocol.specs.Notes.{Done, Turn, Body, Kept, Local}
use Rattle.protocol.specs.Spots.{Spot, Nowhere, Runs, Calls, Holds, Pauses, Answered, Asks, Granted, Denied, Travels, InReply, Ended, site}
use Rattle.protocol.specs.Home.{returned, after}
use Rattle.protocol.specs.Cluster.{World}
use Rattle.protocol.specs.Needs.{Needs, ServedSo, ServedCall, got_spot, asked, mark, keep_in, brings, born_spot}
use Rattle.protocol.specs.Cluster.{events}
use Rattle.run_laws.specs.UnderWay.{Moves, moves_own, moves}
use Rattle.protocol.proofs.Talk.{same_numbers, other_numbers}
use Rattle.protocol.proofs.Quiet.{child_so, home_so, counts}
use Rattle.protocol.proofs.Coupling.{Part, Own, Child, Rest, part, at_own, at_child, at_rest, got_brings, so_brings}
use Rattle.protocol.proofs.Stand.{Stands, Step, child_apart}
use Rattle.run_laws.proofs.Moves.{Balanced}
use Rattle.std.specs.Prelude.{ℤ}
use Rattle.call_table.specs.declared.process.End.{End}

module _ (O : Ops) (S : Sound O) where
  -- the process has ended
  abbrev pub over : Spot O → Bool
  over Nowhere = false
  over (Runs m b) = false
  over (Calls m b k r) = false
  over (Holds m b k r) = false
  over (Pauses m b k r) = false
  over (Answered m b k d x y) = d.ended
  over (Asks m b to l need) = false
  over (Granted m b to l need) = false
  over (Denied m b to l need free) = false
  over (Travels a c b l need) = false
  over (InReply q u) = false
  over (Ended u) = true

  -- it is at this place, or comes there with a reply
  abbrev pub AtPlace : (ℕ → Spot O) → Spot O → ℕ → Type 0
  AtPlace sp Nowhere at = ⊥
  AtPlace sp (Runs m b) at = m ≡ at
  AtPlace sp (Calls m b k r) at = m ≡ at
  AtPlace sp (Holds m b k r) at = m ≡ at
  AtPlace sp (Pauses m b k r) at = m ≡ at
  AtPlace sp (Answered m b k d x y) at = m ≡ at
  AtPlace sp (Asks m b to l need) at = m ≡ at
  AtPlace sp (Granted m b to l need) at = m ≡ at
  AtPlace sp (Denied m b to l need free) at = m ≡ at
  AtPlace sp (Travels a c b l need) at = ⊥
  AtPlace sp (InReply q u) at = site O (sp q) ≡ at
  AtPlace sp (Ended u) at = ⊥

  -- at its landing of this number it was at this place, and it has left since, or is there, or has ended
  abbrev pub Ok : (ℕ → Spot O) → Spot O → Moves → ℕ → ℕ → Type 0
  Ok sp s m at i = (over s ≡ true) ⊎ ((i < m.departs) ⊎ ((i ≡ m.departs) × AtPlace sp s at))

  -- a process inside a reply is brought by it
  pub record Inside (sp : ℕ → Spot O) : Type 0 where
    pub by : (p q : ℕ) (u : O.User) → sp p ≡ InReply q u → brings O (sp q) ≡ Some p

  mark_site : (s : Spot O) → (site O (mark O s) ≡ site O s) × (brings O (mark O s) ≡ brings O s) × (over (mark O s) ≡ over s)
  mark_site Nowhere = (refl, refl, refl)
  mark_site (Runs m b) = (refl, refl, refl)
  mark_site (Calls m b k r) = (refl, refl, refl)
  mark_site (Holds m b k r) = (refl, refl, refl)
  mark_site (Pauses m b k r) = (refl, refl, refl)
  mark_site (Answered m b k d x y) = (refl, refl, refl)
  mark_site (Asks m b to l need) = (refl, refl, refl)
  mark_site (Granted m b to l need) = (refl, refl, refl)
  mark_site (Denied m b to l need free) = (refl, refl, refl)
  mark_site (Travels a c b l need) = (refl, refl, refl)
  mark_site (InReply q u) = (refl, refl, refl)
  mark_site (Ended u) = (refl, refl, refl)

  keep_site : (x : Kept) (s : Spot O) → (site O (keep_in O x s) ≡ site O s) × (brings O (keep_in O x s) ≡ brings O s) × (over (keep_in O x s) ≡ over s)
  keep_site x Nowhere = (refl, refl, refl)
  keep_site x (Runs m b) = (refl, refl, refl)
  keep_site x (Calls m b k r) = (refl, refl, refl)
  keep_site x (Holds m b k r) = (refl, refl, refl)
  keep_site x (Pauses m b k r) = (refl, refl, refl)
  keep_site x (Answered m b k d z y) = (refl, refl, refl)
  keep_site x (Asks m b to l need) = (refl, refl, refl)
  keep_site x (Granted m b to l need) = (refl, refl, refl)
  keep_site x (Denied m b to l need free) = (refl, refl, refl)
  keep_site x (Travels a c b l need) = (refl, refl, refl)
  keep_site x (InReply q u) = (refl, refl, refl)
  keep_site x (Ended u) = (refl, refl, refl)

  mark_place : (sp : ℕ → Spot O) (s : Spot O) (at : ℕ) → AtPlace sp s at → AtPlace sp (mark O s) at
  mark_place sp Nowhere at e = e
  mark_place sp (Runs m b) at e = e
  mark_place sp (Calls m b k r) at e = e
  mark_place sp (Holds m b k r) at e = e
  mark_place sp (Pauses m b k r) at e = e
  mark_place sp (Answered m b k d x y) at e = e
  mark_place sp (Asks m b to l need) at e = e
  mark_place sp (Granted m b to l need) at e = e
  mark_place sp (Denied m b to l need free) at e = e
  mark_place sp (Travels a c b l need) at e = e
  mark_place sp (InReply q u) at e = e
  mark_place sp (Ended u) at e = e

  keep_place : (sp : ℕ → Spot O) (x : Kept) (s : Spot O) (at : ℕ) → AtPlace sp s at → AtPlace sp (keep_in O x s) at
  keep_place sp x Nowhere at e = e
  keep_place sp x (Runs m b) at e = e
  keep_place sp x (Calls m b k r) at e = e
  keep_place sp x (Holds m b k r) at e = e
  keep_place sp x (Pauses m b k r) at e = e
  keep_place sp x (Answered m b k d z y) at e = e
  keep_place sp x (Asks m b to l need) at e = e
  keep_place sp x (Granted m b to l need) at e = e
  keep_place sp x (Denied m b to l need free) at e = e
  keep_place sp x (Travels a c b l need) at e = e
  keep_place sp x (InReply q u) at e = e
  keep_place sp x (Ended u) at e = e

  pub asked_brings : (h : Bool) (m : ℕ) (b : Body O) (k : Option Kept) (q : O.Request) → (brings O (asked O h m b k q) ≡ None) × (over (asked O h m b k q) ≡ false)
  asked_brings true m b k q = (refl, refl)
  asked_brings false m b k q = (refl, refl)

  asked_place : (sp : ℕ → Spot O) (h : Bool) (m : ℕ) (b : Body O) (k : Option Kept) (q : O.Request) (at : ℕ) → AtPlace sp (asked O h m b k q) at → m ≡ at
  asked_place sp true m b k q at e = e
  asked_place sp false m b k q at e = e

  module _ (n : ℕ) (old new : Local O) (s r : Spot O) where
    abbrev Goes_on : Deed → ℕ → Type 0
    Goes_on what c = ((brings O r ≡ Some c) × (site O r ≡ site O s)) ⊎ (child_of what ≡ Some c)

    stays : (what : Deed) (c : ℕ) → r ≡ s → brings O s ≡ Some c → Goes_on what c
    stays what c e h = inl (ap (brings O) e ∙ h, ap (site O) e)

    none : (what : Deed) (c : ℕ) (a : Spot O) → s ≡ a → brings O a ≡ None → brings O s ≡ Some c → Goes_on what c
    none what c a e f h = let z : None ≡ Some c = sym f ∙ (sym (ap (brings O) e) ∙ h) in absurd cc

    so_bring : (manner : Manner) (p : ℕ) (number : Option ℕ) (value : Option ℤ) (child signal : Option ℕ) (ends : Option End) (more : Bool) (poked : List ℕ) (c : ℕ) → ServedSo O manner n p number value child signal ends more poked old new s r → brings O s ≡ Some c → Goes_on (Served p manner number value child signal ends more poked) c
    so_bring Did p number value child signal ends more poked c d h = none (Served p Did number value child signal ends more poked) c _ d.was (asked_brings d.held d.from d.body d.kept d.request).0 h
    so_bring Broke p number value child signal ends more poked c d h = none (Served p Broke number value child signal ends more poked) c _ d.was (asked_brings d.held d.from d.body d.kept d.request).0 h
    so_bring Fell p number value child signal ends more poked c d h = none (Served p Fell number value child signal ends more poked) c _ d.was (asked_brings d.held d.from d.body d.kept d.request).0 h
    so_bring Paused p number value child signal ends more poked c d h = none (Served p Paused number value child signal ends more poked) c _ d.was refl h

    -- a reply goes on bringing its child, or comes with it
    pub bring_on : (what : Deed) (c : ℕ) → Needs O what n old new s r → brings O s ≡ Some c → Goes_on what c
    bring_on (Run line i p) c d h = none (Run line i p) c _ d.was refl h
    bring_on (Kill line p g poked) c d h = stays (Kill line p g poked) c d.now h
    bring_on (Bid line p to) c d h = stays (Bid line p to) c d.is.now h
    bring_on (Unsent line p never) c d h = stays (Unsent line p never) c d.is.now h
    bring_on (Other line input) c d h = stays (Other line input) c d.now h
    bring_on (Steps p k) c d h = none (Steps p k) c _ d.is.was refl h
    bring_on (Sent p k) c d h = none (Sent p k) c _ d.is.was refl h
    bring_on (Heed p) c d h = none (Heed p) c _ d.is.was refl h
    bring_on (Held p k) c d h = none (Held p k) c _ d.is.was refl h
    bring_on (Served p manner number value child signal ends more poked) c d h = so_bring manner p number value child signal ends more poked c d h
    bring_on (Got p child ended kept) c d h = inr (sym (got_brings O n old new s r p child ended kept d.is).0 ∙ h)
    bring_on (Poked p true) c d h = inl (ap (brings O) d.is.now ∙ ((mark_site s).1 ∙ h), ap (site O) d.is.now ∙ (mark_site s).0)
    bring_on (Poked p false) c d h = stays (Poked p false) c d.is.now h
    bring_on (Begin p to reason) c d h = none (Begin p to reason) c _ d.is.was refl h
    bring_on (Keep p to line) c d h = inl (ap (brings O) d.is.now ∙ ((keep_site (record { to = to; line = line }) s).1 ∙ h), ap (site O) d.is.now ∙ (keep_site (record { to = to; line = line }) s).0)
    bring_on (Missed p to line) c d h = stays (Missed p to line) c d.is.now h
    bring_on (Again p to place line) c d h = stays (Again p to place line) c d.is.now h
    bring_on (Allows p from need) c d h = none (Allows p from need) c _ d.is.was refl h
    bring_on (Denies p from need free) c d h = none (Denies p from need free) c _ d.is.was refl h
    bring_on (Depart p to) c d h = none (Depart p to) c _ d.is.was refl h
    bring_on (Stay p to need free) c d h = none (Stay p to need free) c _ d.is.was refl h
    bring_on (Land p source) c d h = none (Land p source) c _ d.is.was refl h
    bring_on (Told p at source hops line poked) c d h = stays (Told p at source hops line poked) c d.is.now h
    bring_on (Refused p to why line) c d h = stays (Refused p to why line) c d.is.now h
    bring_on (Closed line) c d h = stays (Closed line) c d.is.now h
    bring_on (Gossips heard other) c d h = stays (Gossips heard other) c d.is.now h
    bring_on (Strange p) c d h = absurd d

    -- what is inside a reply was there
    abbrev Was_inside : ℕ → O.User → Type 0
    Was_inside q u = s ≡ InReply q u

  mark_inside : (s : Spot O) (q : ℕ) (u : O.User) → mark O s ≡ InReply q u → s ≡ InReply q u
  mark_inside Nowhere q2 u2 e = absurd cc
  mark_inside (Runs m b) q2 u2 e = absurd cc
  mark_inside (Calls m b k r) q2 u2 e = absurd cc
  mark_inside (Holds m b k r) q2 u2 e = absurd cc
  mark_inside (Pauses m b k r) q2 u2 e = absurd cc
  mark_inside (Answered m b k d x y) q2 u2 e = absurd cc
  mark_inside (Asks m b to l need) q2 u2 e = absurd cc
  mark_inside (Granted m b to l need) q2 u2 e = absurd cc
  mark_inside (Denied m b to l need free) q2 u2 e = absurd cc
  mark_inside (Travels a c b l need) q2 u2 e = absurd cc
  mark_inside (InReply q u) q2 u2 e = e
  mark_inside (Ended u) q2 u2 e = absurd cc

  keep_inside : (x : Kept) (s : Spot O) (q : ℕ) (u : O.User) → keep_in O x s ≡ InReply q u → s ≡ InReply q u
  keep_inside x Nowhere q2 u2 e = absurd cc
  keep_inside x (Runs m b) q2 u2 e = absurd cc
  keep_inside x (Calls m b k r) q2 u2 e = absurd cc
  keep_inside x (Holds m b k r) q2 u2 e = absurd cc
  keep_inside x (Pauses m b k r) q2 u2 e = absurd cc
  keep_inside x (Answered m b k d z y) q2 u2 e = absurd cc
  keep_inside x (Asks m b to l need) q2 u2 e = absurd cc
  keep_inside x (Granted m b to l need) q2 u2 e = absurd cc
  keep_inside x (Denied m b to l need free) q2 u2 e = absurd cc
  keep_inside x (Travels a c b l need) q2 u2 e = absurd cc
  keep_inside x (InReply q u) q2 u2 e = e
  keep_inside x (Ended u) q2 u2 e = absurd cc

  got_inside : (n : ℕ) (b : Body O) (k : Option Kept) (d : Done O) (q : ℕ) (u : O.User) → got_spot O n b k d ≡ InReply q u → ⊥
  got_inside n b None d q u = go d.ended
    where
      go : (e : Bool) → cond e (Ended (after O b.user d)) (Runs n (returned O b d)) ≡ InReply q u → ⊥
      go true h = cc
      go false h = cc
  got_inside n b (Some k) d q u = go d.ended
    where
      go : (e : Bool) → cond e (Ended (after O b.user d)) (Asks n (returned O b d) k.to (Some k.line) (O.pages (after O b.user d))) ≡ InReply q u → ⊥
      go true h = cc
      go false h = cc

  module _ (n : ℕ) (old new : Local O) (s r : Spot O) where
    out : (q : ℕ) (u : O.User) (b : Spot O) → r ≡ b → (b ≡ InReply q u → ⊥) → r ≡ InReply q u → s ≡ InReply q u
    out q u b e f h = absurd (f (sym e ∙ h))

    so_inside : (manner : Manner) (p : ℕ) (number : Option ℕ) (value : Option ℤ) (child signal : Option ℕ) (ends : Option End) (more : Bool) (poked : List ℕ) (q : ℕ) (u : O.User) → ServedSo O manner n p number value child signal ends more poked old new s r → r ≡ InReply q u → s ≡ InReply q u
    so_inside Did p number value child signal ends more poked q u d h = out q u _ d.now (λ z. cc) h
    so_inside Broke p number value child signal ends more poked q u d h = out q u _ d.now (λ z. cc) h
    so_inside Fell p number value child signal ends more poked q u d h = out q u _ d.now (λ z. cc) h
    so_inside Paused p number value child signal ends more poked q u d h = out q u _ d.now (λ z. cc) h

    pub was_inside : (what : Deed) (q : ℕ) (u : O.User) → Needs O what n old new s r → r ≡ InReply q u → s ≡ InReply q u
    was_inside (Run line i p) q u d h = out q u _ d.now (λ z. cc) h
    was_inside (Kill line p g poked) q u d h = sym d.now ∙ h
    was_inside (Bid line p to) q u d h = sym d.is.now ∙ h
    was_inside (Unsent line p never) q u d h = sym d.is.now ∙ h
    was_inside (Other line input) q u d h = sym d.now ∙ h
    was_inside (Steps p k) q u d h = out q u _ d.is.now (λ z. cc) h
    was_inside (Sent p k) q u d h = out q u _ d.is.now (λ z. cc) h
    was_inside (Heed p) q u d h = out q u _ d.is.now (λ z. cc) h
    was_inside (Held p k) q u d h = out q u _ d.is.now (λ z. cc) h
    was_inside (Served p manner number value child signal ends more poked) q u d h = so_inside manner p number value child signal ends more poked q u d h
    was_inside (Got p child ended kept) q u d h = out q u _ d.is.now (got_inside n d.is.body d.is.keeps d.is.done q u) h
    was_inside (Poked p true) q u d h = mark_inside s q u (sym d.is.now ∙ h)
    was_inside (Poked p false) q u d h = sym d.is.now ∙ h
    was_inside (Begin p to reason) q u d h = out q u _ d.is.now (λ z. cc) h
    was_inside (Keep p to line) q u d h = keep_inside (record { to = to; line = line }) s q u (sym d.is.now ∙ h)
    was_inside (Missed p to line) q u d h = sym d.is.now ∙ h
    was_inside (Again p to place line) q u d h = sym d.is.now ∙ h
    was_inside (Allows p from need) q u d h = out q u _ d.is.now (λ z. cc) h
    was_inside (Denies p from need free) q u d h = out q u _ d.is.now (λ z. cc) h
    was_inside (Depart p to) q u d h = out q u _ d.is.now (λ z. cc) h
    was_inside (Stay p to need free) q u d h = out q u _ d.is.now (λ z. cc) h
    was_inside (Land p source) q u d h = out q u _ d.is.now (λ z. cc) h
    was_inside (Told p at source hops line poked) q u d h = sym d.is.now ∙ h
    was_inside (Refused p to why line) q u d h = sym d.is.now ∙ h
    was_inside (Closed line) q u d h = sym d.is.now ∙ h
    was_inside (Gossips heard other) q u d h = sym d.is.now ∙ h
    was_inside (Strange p) q u d h = absurd d

  module _ (w : World O) (t : Turn O) (v : World O) (sp next : ℕ → Spot O) (stands : Stands O S sp w) (st : Step O S sp w t next v) where
    abbrev n : ℕ
    n = t.event.node

    abbrev what : Deed
    what = t.event.what

    abbrev p : ℕ
    p = pid_of t.event.what

    pub is_own : (q : ℕ) → q ≡ p → next q ≡ st.own
    is_own q e = st.next_is q ∙ at_own O what n sp st.own q e

    pub is_rest : (q : ℕ) → q ≢ p → is_child (child_of what) q ≡ false → next q ≡ sp q
    is_rest q ne h = st.next_is q ∙ at_rest O what n sp st.own q ne h

    pub is_born : (q c : ℕ) → child_of what ≡ Some c → q ≡ c → q ≢ p → next q ≡ born_spot O what n (sp p) q
    is_born q c h e ne = st.next_is q ∙ at_child O what n sp st.own q c h e ne

    -- the child was nowhere or in its parent's reply
    abbrev Child_was : Deed → Spot O → ℕ → Type 0
    Child_was what r c = ((sp c ≡ Nowhere) × ((u : O.User) × (born_spot O what n (sp (pid_of what)) c ≡ InReply (pid_of what) u)) × (brings O r ≡ Some c) × (n ≡ 0) × (O.count (v.nodes n).kernel ≡ O.count (w.nodes n).kernel + 1)) ⊎ (((u : O.User) × (sp c ≡ InReply (pid_of what) u)) × ((b : Body O) × (born_spot O what n (sp (pid_of what)) c ≡ Runs n b)) × (site O (sp (pid_of what)) ≡ n))

    child_was : (what : Deed) (r : Spot O) → Needs O what n (w.nodes n) (v.nodes n) (sp (pid_of what)) r → (c : ℕ) → child_of what ≡ Some c → Child_was what r c
    child_was (Run line i p) r load c e = absurd cc
    child_was (Kill line p g poked) r load c e = absurd cc
    child_was (Bid line p to) r load c e = absurd cc
    child_was (Unsent line p never) r load c e = absurd cc
    child_was (Other line input) r load c e = absurd cc
    child_was (Steps p k) r load c e = absurd cc
    child_was (Sent p k) r load c e = absurd cc
    child_was (Heed p) r load c e = absurd cc
    child_was (Held p k) r load c e = absurd cc
    child_was (Served p manner number value child signal ends more poked) r load c e =
        let home = home_so O S n (w.nodes n) (v.nodes n) (sp p) r manner p number value child signal ends more poked load in
        let is : c ≡ O.count (w.nodes 0).kernel + 1 = child_so O S n (w.nodes n) (v.nodes n) (sp p) r manner p number value child signal ends more poked c e load ∙ ap (λ (k : ℕ). O.count (w.nodes k).kernel + 1) home in
        inl (stands.unborn c (omega (arith, is)), (_, refl), (so_brings O n (w.nodes n) (v.nodes n) (sp p) r manner p number value child signal ends more poked load).0 ∙ e, home, counts O S n (w.nodes n) (v.nodes n) (sp p) r (Served p manner number value child signal ends more poked) load ∙ ap (λ (k : Option ℕ). counted k (O.count (w.nodes n).kernel)) e)
    child_was (Got p child ended kept) r load c e =
        let g = got_brings O n (w.nodes n) (v.nodes n) (sp p) r p child ended kept load.is in
        inr ((_, (stands.coupled.child p c (g.0 ∙ e)).0), (_, refl), ap (site O) load.is.was)
    child_was (Poked p used) r load c e = absurd cc
    child_was (Begin p to reason) r load c e = absurd cc
    child_was (Keep p to line) r load c e = absurd cc
    child_was (Missed p to line) r load c e = absurd cc
    child_was (Again p to place line) r load c e = absurd cc
    child_was (Allows p from need) r load c e = absurd cc
    child_was (Denies p from need free) r load c e = absurd cc
    child_was (Depart p to) r load c e = absurd cc
    child_was (Stay p to need free) r load c e = absurd cc
    child_was (Land p source) r load c e = absurd cc
    child_was (Told p at source hops line poked) r load c e = absurd cc
    child_was (Refused p to why line) r load c e = absurd cc
    child_was (Closed line) r load c e = absurd cc
    child_was (Gossips heard other) r load c e = absurd cc
    child_was (Strange p) r load c e = absurd cc

    pub was_child : (c : ℕ) → child_of what ≡ Some c → Child_was what st.own c
    was_child c e = child_was what st.own st.needs c e

    some_same : (a b : ℕ) → Some a ≡ Some b → a ≡ b
    some_same a b e = cc

    -- a reply goes on bringing its child
    pub step_bring : (q c : ℕ) → brings O (sp q) ≡ Some c → (child_of what ≡ Some c → ⊥) → (brings O (next q) ≡ Some c) × (site O (next q) ≡ site O (sp q))
    step_bring q c e not = go (part O what n sp st.own q)
      where
        own : q ≡ p → ((brings O st.own ≡ Some c) × (site O st.own ≡ site O (sp p))) ⊎ (child_of what ≡ Some c) → (brings O (next q) ≡ Some c) × (site O (next q) ≡ site O (sp q))
        own is (inl x) = (ap (brings O) (is_own q is) ∙ x.0, ap (site O) (is_own q is) ∙ (x.1 ∙ ap (λ (k : ℕ). site O (sp k)) (sym is)))
        own is (inr x) = absurd (not x)

        child : (d : ℕ) → q ≡ d → Child_was what st.own d → (brings O (next q) ≡ Some c) × (site O (next q) ≡ site O (sp q))
        child d is (inl x) = let z : None ≡ Some c = ap (brings O) (sym (ap sp is ∙ x.0)) ∙ e in absurd cc
        child d is (inr x) = let z : None ≡ Some c = ap (brings O) (sym (ap sp is ∙ x.0.1)) ∙ e in absurd cc

        go : Part O what n sp st.own q → (brings O (next q) ≡ Some c) × (site O (next q) ≡ site O (sp q))
        go (Own is) = own is (bring_on n (w.nodes n) (v.nodes n) (sp p) st.own what c st.needs (ap (λ (k : ℕ). brings O (sp k)) (sym is) ∙ e))
        go (Rest ne h) = (ap (brings O) (is_rest q ne h) ∙ e, ap (site O) (is_rest q ne h))
        go (Child d h is ne) = child d is (was_child d h)

    pub inside_next : Inside sp → Inside next
    inside_next ins = record { by = λ x q u e. go x q u e (part O what n sp st.own x) }
      where
        inside_parent : (a b : ℕ) (u y : O.User) (k : Spot O) → k ≡ InReply a u → k ≡ InReply b y → a ≡ b
        inside_parent a b u y k e f = let z = sym e ∙ f in cc

        child : (x q : ℕ) (u : O.User) (c : ℕ) → x ≡ c → next x ≡ InReply q u → next x ≡ born_spot O what n (sp p) x → Child_was what st.own c → brings O (next q) ≡ Some x
        child x q u c is e f (inl k) =
            let same : q ≡ p = inside_parent q p u k.1.0 (next x) e (f ∙ (ap (born_spot O what n (sp p)) is ∙ k.1.1)) in
            ap (brings O) (is_own q same) ∙ (k.2 ∙ ap (λ (z : ℕ). Some z) (sym is))
        child x q u c is e f (inr k) = let z : Runs n k.1.0 ≡ InReply q u = sym (f ∙ (ap (born_spot O what n (sp p)) is ∙ k.1.1)) ∙ e in absurd cc

        go : (x q : ℕ) (u : O.User) → next x ≡ InReply q u → Part O what n sp st.own x → brings O (next q) ≡ Some x
        go x q u e (Own is) =
            let was : sp p ≡ InReply q u = was_inside n (w.nodes n) (v.nodes n) (sp p) st.own what q u st.needs (sym (is_own x is) ∙ e) in
            (step_bring q x (ins.by x q u (ap sp is ∙ was)) (λ h. child_apart O S w t v st.goes sp stands st.own st.needs x h is)).0
        go x q u e (Rest ne h) =
            (step_bring q x (ins.by x q u (sym (is_rest x ne h) ∙ e)) (λ z. (let y : true ≡ false = sym (ap (λ (o : Option ℕ). is_child o x) z ∙ same_numbers x x refl) ∙ h in cc))).0
        go x q u e (Child c h is ne) = child x q u c is e (is_born x c h is ne) (was_child c h)

    -- a place stays one, where the process does not leave a reply
    place_stays : Inside sp → (x : ℕ) → (child_of what ≡ Some x → ⊥) → (s : Spot O) → s ≡ sp x → (at : ℕ) → AtPlace sp s at → AtPlace next s at
    place_stays ins z not Nowhere is at e = absurd e
    place_stays ins z not (Runs m b) is at e = e
    place_stays ins z not (Calls m b k r) is at e = e
    place_stays ins z not (Holds m b k r) is at e = e
    place_stays ins z not (Pauses m b k r) is at e = e
    place_stays ins z not (Answered m b k d x y) is at e = e
    place_stays ins z not (Asks m b to l need) is at e = e
    place_stays ins z not (Granted m b to l need) is at e = e
    place_stays ins z not (Denied m b to l need free) is at e = e
    place_stays ins z not (Travels a c b l need) is at e = absurd e
    place_stays ins z not (InReply q u) is at e = (step_bring q z (ins.by z q u (sym is)) not).1 ∙ e
    place_stays ins z not (Ended u) is at e = absurd e

    -- one event and its process
    steady : (what : Deed) (s r : Spot O) (m : Moves) (at i : ℕ) → (moves_own what m).departs ≡ m.departs → (over s ≡ true → over r ≡ true) → (AtPlace sp s at → (over r ≡ true) ⊎ AtPlace next r at) → Ok sp s m at i → Ok next r (moves_own what m) at i
    steady what s r m at i e f g (inl x) = inl (f x)
    steady what s r m at i e f g (inr (inl x)) = inr (inl (omega (arith, x, e)))
    steady what s r m at i e f g (inr (inr x)) = go (g x.1)
      where
        go : (over r ≡ true) ⊎ AtPlace next r at → Ok next r (moves_own what m) at i
        go (inl y) = inl y
        go (inr y) = inr (inr (x.0 ∙ sym e, y))

    -- from the spot a to the spot b
    from_to : (what : Deed) (s r a b : Spot O) (m : Moves) (at i : ℕ) → s ≡ a → r ≡ b → (moves_own what m).departs ≡ m.departs → (over a ≡ true → over b ≡ true) → (AtPlace sp a at → (over b ≡ true) ⊎ AtPlace next b at) → Ok sp s m at i → Ok next r (moves_own what m) at i
    from_to what s r a b m at i e f h k l ok = subst (λ (z : Spot O). Ok next z (moves_own what m) at i) (sym f) (steady what a b m at i h k l (subst (λ (z : Spot O). Ok sp z m at i) e ok))

    got_over : (b : Body O) (k : Option Kept) (d : Done O) → d.ended ≡ true → over (got_spot O n b k d) ≡ true
    got_over b None d e = ap (λ (z : Bool). over (cond z (Ended (after O b.user d)) (Runs n (returned O b d)))) e
    got_over b (Some k) d e = ap (λ (z : Bool). over (cond z (Ended (after O b.user d)) (Asks n (returned O b d) k.to (Some k.line) (O.pages (after O b.user d))))) e

    got_place : (b : Body O) (k : Option Kept) (d : Done O) (at : ℕ) → n ≡ at → (over (got_spot O n b k d) ≡ true) ⊎ AtPlace next (got_spot O n b k d) at
    got_place b None d at e = go d.ended
      where
        go : (z : Bool) → (over (cond z (Ended (after O b.user d)) (Runs n (returned O b d))) ≡ true) ⊎ AtPlace next (cond z (Ended (after O b.user d)) (Runs n (returned O b d))) at
        go true = inl refl
        go false = inr e
    got_place b (Some k) d at e = go d.ended
      where
        go : (z : Bool) → (over (cond z (Ended (after O b.user d)) (Asks n (returned O b d) k.to (Some k.line) (O.pages (after O b.user d)))) ≡ true) ⊎ AtPlace next (cond z (Ended (after O b.user d)) (Asks n (returned O b d) k.to (Some k.line) (O.pages (after O b.user d)))) at
        go true = inl refl
        go false = inr e

    call_ok : (manner : Manner) (x : ℕ) (number : Option ℕ) (value : Option ℤ) (child signal : Option ℕ) (ends : Option End) (more : Bool) (poked : List ℕ) (s r : Spot O) (m : Moves) (at i : ℕ) → ServedCall O n x manner number value child signal ends more poked (w.nodes n) (v.nodes n) s r → Ok sp s m at i → Ok next r m at i
    call_ok manner x number value child signal ends more poked s r m at i d ok =
        from_to (Served x manner number value child signal ends more poked) s r _ _ m at i d.was d.now refl (λ e. (let z : false ≡ true = sym (asked_brings d.held d.from d.body d.kept d.request).1 ∙ e in absurd cc)) (λ e. inr (asked_place sp d.held d.from d.body d.kept d.request at e)) ok

    so_ok : (manner : Manner) (x : ℕ) (number : Option ℕ) (value : Option ℤ) (child signal : Option ℕ) (ends : Option End) (more : Bool) (poked : List ℕ) (s r : Spot O) (m : Moves) (at i : ℕ) → ServedSo O manner n x number value child signal ends more poked (w.nodes n) (v.nodes n) s r → Ok sp s m at i → Ok next r m at i
    so_ok Did x number value child signal ends more poked s r m at i d ok = call_ok Did x number value child signal ends more poked s r m at i d ok
    so_ok Broke x number value child signal ends more poked s r m at i d ok = call_ok Broke x number value child signal ends more poked s r m at i d ok
    so_ok Fell x number value child signal ends more poked s r m at i d ok = call_ok Fell x number value child signal ends more poked s r m at i d ok
    so_ok Paused x number value child signal ends more poked s r m at i d ok = from_to (Served x Paused number value child signal ends more poked) s r _ _ m at i d.was d.now refl (λ e. absurd cc) (λ e. inr e) ok

    ok_own : Inside sp → (what2 : Deed) (r : Spot O) → Needs O what2 n (w.nodes n) (v.nodes n) (sp (pid_of what2)) r → (child_of what ≡ Some (pid_of what2) → ⊥) → (m : Moves) (at i : ℕ) → Ok sp (sp (pid_of what2)) m at i → Ok next r (moves_own what2 m) at i
    ok_own ins (Run line j x) r d not m spot i ok = from_to (Run line j x) (sp x) r _ _ m spot i d.was d.now refl (λ e. absurd cc) (λ e. absurd e) ok
    ok_own ins (Kill line x g poked) r d not m spot i ok = from_to (Kill line x g poked) (sp x) r (sp x) (sp x) m spot i refl d.now refl (λ e. e) (λ e. inr (place_stays ins x not (sp x) refl spot e)) ok
    ok_own ins (Bid line x to) r d not m spot i ok = from_to (Bid line x to) (sp x) r (sp x) (sp x) m spot i refl d.is.now refl (λ e. e) (λ e. inr (place_stays ins x not (sp x) refl spot e)) ok
    ok_own ins (Unsent line x never) r d not m spot i ok = from_to (Unsent line x never) (sp x) r (sp x) (sp x) m spot i refl d.is.now refl (λ e. e) (λ e. inr (place_stays ins x not (sp x) refl spot e)) ok
    ok_own ins (Other line input) r d not m spot i ok = from_to (Other line input) (sp 0) r (sp 0) (sp 0) m spot i refl d.now refl (λ e. e) (λ e. inr (place_stays ins 0 not (sp 0) refl spot e)) ok
    ok_own ins (Steps x k) r d not m spot i ok = from_to (Steps x k) (sp x) r _ _ m spot i d.is.was d.is.now refl (λ e. absurd cc) (λ e. inr e) ok
    ok_own ins (Sent x k) r d not m spot i ok = from_to (Sent x k) (sp x) r _ _ m spot i d.is.was d.is.now refl (λ e. absurd cc) (λ e. inr e) ok
    ok_own ins (Heed x) r d not m spot i ok = from_to (Heed x) (sp x) r _ _ m spot i d.is.was d.is.now refl (λ e. absurd cc) (λ e. inr e) ok
    ok_own ins (Held x k) r d not m spot i ok = from_to (Held x k) (sp x) r _ _ m spot i d.is.was d.is.now refl (λ e. absurd cc) (λ e. inr e) ok
    ok_own ins (Served x manner number value child signal ends more poked) r d not m spot i ok = so_ok manner x number value child signal ends more poked (sp x) r m spot i d ok
    ok_own ins (Got x child ended kept) r d not m spot i ok = from_to (Got x child ended kept) (sp x) r _ _ m spot i d.is.was d.is.now refl (got_over d.is.body d.is.keeps d.is.done) (got_place d.is.body d.is.keeps d.is.done spot) ok
    ok_own ins (Poked x true) r d not m spot i ok = from_to (Poked x true) (sp x) r (sp x) (mark O (sp x)) m spot i refl d.is.now refl (λ e. (mark_site (sp x)).2 ∙ e) (λ e. inr (mark_place next (sp x) spot (place_stays ins x not (sp x) refl spot e))) ok
    ok_own ins (Poked x false) r d not m spot i ok = from_to (Poked x false) (sp x) r (sp x) (sp x) m spot i refl d.is.now refl (λ e. e) (λ e. inr (place_stays ins x not (sp x) refl spot e)) ok
    ok_own ins (Begin x to reason) r d not m spot i ok = from_to (Begin x to reason) (sp x) r _ _ m spot i d.is.was d.is.now refl (λ e. absurd cc) (λ e. inr e) ok
    ok_own ins (Keep x to line) r d not m spot i ok = from_to (Keep x to line) (sp x) r (sp x) (keep_in O (record { to = to; line = line }) (sp x)) m spot i refl d.is.now refl (λ e. (keep_site (record { to = to; line = line }) (sp x)).2 ∙ e) (λ e. inr (keep_place next (record { to = to; line = line }) (sp x) spot (place_stays ins x not (sp x) refl spot e))) ok
    ok_own ins (Missed x to line) r d not m spot i ok = from_to (Missed x to line) (sp x) r (sp x) (sp x) m spot i refl d.is.now refl (λ e. e) (λ e. inr (place_stays ins x not (sp x) refl spot e)) ok
    ok_own ins (Again x to place line) r d not m spot i ok = from_to (Again x to place line) (sp x) r (sp x) (sp x) m spot i refl d.is.now refl (λ e. e) (λ e. inr (place_stays ins x not (sp x) refl spot e)) ok
    ok_own ins (Allows x from load) r d not m spot i ok = from_to (Allows x from load) (sp x) r _ _ m spot i d.is.was d.is.now refl (λ e. absurd cc) (λ e. inr e) ok
    ok_own ins (Denies x from load free) r d not m spot i ok = from_to (Denies x from load free) (sp x) r _ _ m spot i d.is.was d.is.now refl (λ e. absurd cc) (λ e. inr e) ok
    ok_own ins (Depart x to) r d not m spot i ok = departs_ok (subst (λ (k : Spot O). Ok sp k m spot i) d.is.was ok)
      where
        departs_ok : Ok sp (Granted n d.is.body to d.is.line d.is.need) m spot i → Ok next r (moves_own (Depart x to) m) spot i
        departs_ok (inl e) = absurd cc
        departs_ok (inr (inl e)) = inr (inl (omega (arith, e)))
        departs_ok (inr (inr e)) = inr (inl (omega (arith, e.0)))
    ok_own ins (Stay x to load free) r d not m spot i ok = from_to (Stay x to load free) (sp x) r _ _ m spot i d.is.was d.is.now refl (λ e. absurd cc) (λ e. inr e) ok
    ok_own ins (Land x source) r d not m spot i ok = from_to (Land x source) (sp x) r _ _ m spot i d.is.was d.is.now refl (λ e. absurd cc) (λ e. absurd e) ok
    ok_own ins (Told x at source hops line poked) r d not m spot i ok = from_to (Told x at source hops line poked) (sp x) r (sp x) (sp x) m spot i refl d.is.now refl (λ e. e) (λ e. inr (place_stays ins x not (sp x) refl spot e)) ok
    ok_own ins (Refused x to why line) r d not m spot i ok = from_to (Refused x to why line) (sp x) r (sp x) (sp x) m spot i refl d.is.now refl (λ e. e) (λ e. inr (place_stays ins x not (sp x) refl spot e)) ok
    ok_own ins (Closed line) r d not m spot i ok = from_to (Closed line) (sp 0) r (sp 0) (sp 0) m spot i refl d.is.now refl (λ e. e) (λ e. inr (place_stays ins 0 not (sp 0) refl spot e)) ok
    ok_own ins (Gossips heard other) r d not m spot i ok = from_to (Gossips heard other) (sp 0) r (sp 0) (sp 0) m spot i refl d.is.now refl (λ e. e) (λ e. inr (place_stays ins 0 not (sp 0) refl spot e)) ok
    ok_own ins (Strange x) r d not m spot i ok = absurd d

    moves_kept : (h : List (Turn O)) (q : ℕ) → q ≢ p → moves q (t.event ∷ events O h) ≡ moves q (events O h)
    moves_kept h q ne = ap (λ (b : Bool). cond b (moves_own what (moves q (events O h))) (moves q (events O h))) (other_numbers q p ne)

    pub moves_of : (h : List (Turn O)) (q : ℕ) → q ≡ p → moves q (t.event ∷ events O h) ≡ moves_own what (moves q (events O h))
    moves_of h q e = ap (λ (b : Bool). cond b (moves_own what (moves q (events O h))) (moves q (events O h))) (same_numbers q p e)

    -- whatever the event, and whichever the process
    pub ok_next : (h : List (Turn O)) → Inside sp → ((q : ℕ) → Balanced O S (sp q) (moves q (events O h))) → (q at i : ℕ) → Ok sp (sp q) (moves q (events O h)) at i → Ok next (next q) (moves q (t.event ∷ events O h)) at i
    ok_next h ins bal q at i ok = go (part O what n sp st.own q)
      where
        child : (c : ℕ) → q ≡ c → Child_was what st.own c → Ok next (born_spot O what n (sp p) c) (moves q (events O h)) at i
        child c is (inl k) = subst (λ (z : Spot O). Ok next z (moves q (events O h)) at i) (sym k.1.1) (new (subst (λ (z : Spot O). Ok sp z (moves q (events O h)) at i) (ap sp is ∙ k.0) ok))
          where
            new : Ok sp Nowhere (moves q (events O h)) at i → Ok next (InReply p k.1.0) (moves q (events O h)) at i
            new (inl e) = absurd cc
            new (inr (inl e)) = inr (inl e)
            new (inr (inr e)) = absurd e.1
        child c is (inr k) = subst (λ (z : Spot O). Ok next z (moves q (events O h)) at i) (sym k.1.1) (new (subst (λ (z : Spot O). Ok sp z (moves q (events O h)) at i) (ap sp is ∙ k.0.1) ok))
          where
            new : Ok sp (InReply p k.0.0) (moves q (events O h)) at i → Ok next (Runs n k.1.0) (moves q (events O h)) at i
            new (inl e) = absurd cc
            new (inr (inl e)) = inr (inl e)
            new (inr (inr e)) = inr (inr (e.0, sym k.2 ∙ e.1))

        go : Part O what n sp st.own q → Ok next (next q) (moves q (t.event ∷ events O h)) at i
        go (Own e) =
            let x : Ok next st.own (moves_own what (moves p (events O h))) at i = ok_own ins what st.own st.needs (λ z. child_apart O S w t v st.goes sp stands st.own st.needs p z refl) (moves p (events O h)) at i (subst (λ (k : ℕ). Ok sp (sp k) (moves k (events O h)) at i) e ok) in
            subst (λ (z : Spot O). Ok next z (moves q (t.event ∷ events O h)) at i) (sym (is_own q e)) (subst (λ (m : Moves). Ok next st.own m at i) (sym (moves_of h q e ∙ ap (λ (k : ℕ). moves_own what (moves k (events O h))) e)) x)
        go (Rest ne f) =
            subst (λ (z : Spot O). Ok next z (moves q (t.event ∷ events O h)) at i) (sym (is_rest q ne f)) (subst (λ (m : Moves). Ok next (sp q) m at i) (sym (moves_kept h q ne)) (rest ok))
          where
            rest : Ok sp (sp q) (moves q (events O h)) at i → Ok next (sp q) (moves q (events O h)) at i
            rest (inl e) = inl e
            rest (inr (inl e)) = inr (inl e)
            rest (inr (inr e)) = inr (inr (e.0, place_stays ins q (λ z. (let y : true ≡ false = sym (ap (λ (o : Option ℕ). is_child o q) z ∙ same_numbers q q refl) ∙ f in cc)) (sp q) refl at e.1))
        go (Child c f is ne) =
            subst (λ (z : Spot O). Ok next z (moves q (t.event ∷ events O h)) at i) (sym (is_born q c f is ne ∙ ap (born_spot O what n (sp p)) is)) (subst (λ (m : Moves). Ok next (born_spot O what n (sp p) c) m at i) (sym (moves_kept h q ne)) (child c is (was_child c f)))
