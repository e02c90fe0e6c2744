-- The pages in use at a node, counted by its own slots, are those that the events tell.
use Rattle.std.proofs.Common.{◌≡◌, ◌≢◌, ℕ, zero, suc, ◌+◌, ◌<◌, ◌≤◌, ◌==◌, ◌&&◌, Bool, true, false, cond, Option, Some, None, List, [], ◌∷◌, refl, sym, ap, ◌∙◌, arith}
use Rattle.std.specs.Prelude.{ℤ}
use Rattle.std.proofs.lemmas.Bool.Decides.{nat_tests}
use Rattle.call_table.specs.declared.process.End.{End}
use Rattle.protocol.specs.Ops.{Ops, Sound}
use Rattle.protocol.specs.Deeds.{Manner, Did, Broke, Fell, Paused, Deed, Run, Kill, Bid, Unsent, Other, Steps, Sent, Heed, Held, Served, Got, Poked, Begin, Keep, Missed, Again, Allows, Denies, Depart, Stay, Land, Told, Refused, Closed, Gossips, Strange, pid_of, child_of}
use Rattle.protocol.specs.Notes.{Done, Turn, Body, Kept, Context, Local}
use Rattle.protocol.specs.Spots.{Spot, Nowhere, Runs, Calls, Holds, Pauses, Answered, Asks, Granted, Denied, Travels, InReply, Ended, site, kept_at, goal, reserved, slot_by}
use Rattle.protocol.specs.Home.{give, enter, returned, after}
use Rattle.protocol.specs.Ops.{sum_below}
use Rattle.protocol.specs.Does.{context_pages, reserve_pages, slot_pages, InUse}
use Rattle.protocol.specs.Cluster.{World, events}
use Rattle.protocol.specs.Needs.{Needs, ServedSo, got_spot, asked, mark, keep_in, born_spot}
use Rattle.protocol.proofs.Talk.{same_numbers, other_numbers}
use Rattle.protocol.proofs.Quiet.{child_so, home_so}
use Rattle.protocol.proofs.Coupling.{Part, Own, Child, Rest, part, at_own, at_child, at_rest, got_brings}
use Rattle.protocol.proofs.Stand.{Stands, Step, Path}
use Rattle.run_laws.specs.Machine.{MachineState}
use Rattle.run_laws.specs.Pages.{allowed_by, allowed, is_at, pages_of, pages_at, used_pages}
use Rattle.run_laws.proofs.Facts.{facts_of, path_tells}
use Rattle.run_laws.proofs.Replay.{user_of}
use Rattle.run_laws.proofs.Played.{Agrees}

-- beyond its bound a sum grows no more
sum_more : (k a : ℕ) (f : ℕ → ℕ) → ((p : ℕ) → a ≤ p → f p ≡ 0) → sum_below (k + a) f ≡ sum_below a f
sum_more zero a f none = (let e : 0 + a ≡ a = omega arith in ap (λ (i : ℕ). sum_below i f) e)
sum_more (suc k) a f none =
    let e : suc k + a ≡ suc (k + a) = omega arith in
    let x : sum_below (suc k + a) f ≡ sum_below (suc (k + a)) f = ap (λ (i : ℕ). sum_below i f) e in
    let y : sum_below (suc (k + a)) f ≡ sum_below a f = omega (arith, sum_more k a f none, none (k + a) (omega arith)) in
    x ∙ y

pub sum_same : (a : ℕ) (f g : ℕ → ℕ) → ((p : ℕ) → f p ≡ g p) → sum_below a f ≡ sum_below a g
sum_same zero f g e = refl
sum_same (suc a) f g e = omega (arith, sum_same a f g e, e a)

-- sums of the same numbers, each to a bound of its own
pub sums : (a b : ℕ) (f g : ℕ → ℕ) → ((p : ℕ) → f p ≡ g p) → ((p : ℕ) → a ≤ p → f p ≡ 0) → ((p : ℕ) → b ≤ p → g p ≡ 0) → sum_below a f ≡ sum_below b g
sums a b f g e none none2 =
    let x : sum_below (b + a) f ≡ sum_below a f = sum_more b a f none in
    let y : sum_below (a + b) g ≡ sum_below b g = sum_more a b g none2 in
    let c : b + a ≡ a + b = omega arith in
    let z : sum_below (b + a) f ≡ sum_below (a + b) f = ap (λ (k : ℕ). sum_below k f) c in
    let u : sum_below (a + b) f ≡ sum_below (a + b) g = sum_same (a + b) f g e in
    sym x ∙ (z ∙ (u ∙ y))

both_off : (x : Bool) (p q n : ℕ) (y : ℕ) → q ≢ p → cond (x && (p == q)) n y ≡ y
both_off true p q n y ne = ap (λ (b : Bool). cond b n y) (other_numbers p q (λ z. ne (sym z)))
both_off false p q n y ne = refl

both_on : (x : Bool) (p : ℕ) (n y : ℕ) → cond (x && (p == p)) n y ≡ cond x n y
both_on true p n y = ap (λ (b : Bool). cond b n y) (same_numbers p p refl)
both_on false p n y = refl

-- another process's event leaves what is allowed to this one
allowed_rest : (what : Deed) (here : Bool) (q x : ℕ) → q ≢ pid_of what → allowed_by what here q x ≡ x
allowed_rest (Run line i p) here q x ne = refl
allowed_rest (Kill line p g poked) here q x ne = refl
allowed_rest (Bid line p to) here q x ne = refl
allowed_rest (Unsent line p never) here q x ne = refl
allowed_rest (Other line input) here q x ne = refl
allowed_rest (Steps p k) here q x ne = refl
allowed_rest (Sent p k) here q x ne = refl
allowed_rest (Heed p) here q x ne = refl
allowed_rest (Held p k) here q x ne = refl
allowed_rest (Served p manner number value child signal ends more poked) here q x ne = refl
allowed_rest (Got p child ended kept) here q x ne = refl
allowed_rest (Poked p true) here q x ne = refl
allowed_rest (Poked p false) here q x ne = refl
allowed_rest (Begin p to reason) here q x ne = refl
allowed_rest (Keep p to line) here q x ne = refl
allowed_rest (Missed p to line) here q x ne = refl
allowed_rest (Again p to place line) here q x ne = refl
allowed_rest (Allows p from need) here q x ne = both_off here p q (x + need) x ne
allowed_rest (Denies p from need free) here q x ne = refl
allowed_rest (Depart p to) here q x ne = refl
allowed_rest (Stay p to need free) here q x ne = refl
allowed_rest (Land p source) here q x ne = both_off here p q 0 x ne
allowed_rest (Told p at source hops line poked) here q x ne = refl
allowed_rest (Refused p to why line) here q x ne = refl
allowed_rest (Closed line) here q x ne = refl
allowed_rest (Gossips heard other) here q x ne = refl
allowed_rest (Strange p) here q x ne = refl

module _ (O : Ops) (S : Sound O) where
  -- what is reserved at a node for a process at this spot
  abbrev pub reserve_at : Spot O → ℕ → ℕ
  reserve_at s n = reserve_pages O (cond (n == goal O s) (reserved O s) None)

  pages_none : (b : Bool) → reserve_pages O (cond b None None) ≡ 0
  pages_none true = refl
  pages_none false = refl

  mark_reserve : (s : Spot O) (n : ℕ) → reserve_at (mark O s) n ≡ reserve_at s n
  mark_reserve Nowhere n = refl
  mark_reserve (Runs m b) n = refl
  mark_reserve (Calls m b k r) n = refl
  mark_reserve (Holds m b k r) n = refl
  mark_reserve (Pauses m b k r) n = refl
  mark_reserve (Answered m b k d x y) n = refl
  mark_reserve (Asks m b to l need) n = refl
  mark_reserve (Granted m b to l need) n = refl
  mark_reserve (Denied m b to l need free) n = refl
  mark_reserve (Travels a c b l need) n = refl
  mark_reserve (InReply q u) n = refl
  mark_reserve (Ended u) n = refl

  keep_reserve : (z : Kept) (s : Spot O) (n : ℕ) → reserve_at (keep_in O z s) n ≡ reserve_at s n
  keep_reserve z Nowhere n = refl
  keep_reserve z (Runs m b) n = refl
  keep_reserve z (Calls m b k r) n = refl
  keep_reserve z (Holds m b k r) n = refl
  keep_reserve z (Pauses m b k r) n = refl
  keep_reserve z (Answered m b k d x y) n = refl
  keep_reserve z (Asks m b to l need) n = refl
  keep_reserve z (Granted m b to l need) n = refl
  keep_reserve z (Denied m b to l need free) n = refl
  keep_reserve z (Travels a c b l need) n = refl
  keep_reserve z (InReply q u) n = refl
  keep_reserve z (Ended u) n = refl

  got_reserve : (m : ℕ) (b : Body O) (k : Option Kept) (d : Done O) (n : ℕ) → reserve_at (got_spot O m b k d) n ≡ 0
  got_reserve m b None d n = go d.ended
    where
      go : (e : Bool) → reserve_at (cond e (Ended (after O b.user d)) (Runs m (returned O b d))) n ≡ 0
      go true = pages_none (n == 0)
      go false = pages_none (n == 0)
  got_reserve m b (Some k) d n = go d.ended
    where
      go : (e : Bool) → reserve_at (cond e (Ended (after O b.user d)) (Asks m (returned O b d) k.to (Some k.line) (O.pages (after O b.user d)))) n ≡ 0
      go true = pages_none (n == 0)
      go false = pages_none (n == 0)

  asked_reserve : (h : Bool) (m : ℕ) (b : Body O) (k : Option Kept) (x : O.Request) (n : ℕ) → reserve_at (asked O h m b k x) n ≡ 0
  asked_reserve true m b k x n = pages_none (n == 0)
  asked_reserve false m b k x n = pages_none (n == 0)

  module _ (m : ℕ) (old new : Local O) (s r : Spot O) (n : ℕ) where
    abbrev here : Bool
    here = m == n

    -- from a spot with nothing reserved to another
    none : (a b : Spot O) → s ≡ a → r ≡ b → reserve_at a n ≡ 0 → reserve_at b n ≡ 0 → reserve_at s n ≡ reserve_at r n
    none a b was now e f = ap (λ (k : Spot O). reserve_at k n) was ∙ (e ∙ (sym f ∙ sym (ap (λ (k : Spot O). reserve_at k n) now)))

    stay : r ≡ s → reserve_at s n ≡ reserve_at r n
    stay e = sym (ap (λ (k : Spot O). reserve_at k n) e)

    so_allowed : (manner : Manner) (p : ℕ) (number : Option ℕ) (value : Option ℤ) (child signal : Option ℕ) (ends : Option End) (more : Bool) (poked : List ℕ) → ServedSo O manner m p number value child signal ends more poked old new s r → reserve_at s n ≡ reserve_at r n
    so_allowed Did p number value child signal ends more poked d = none _ _ d.was d.now (asked_reserve d.held d.from d.body d.kept d.request n) (pages_none (n == 0))
    so_allowed Broke p number value child signal ends more poked d = none _ _ d.was d.now (asked_reserve d.held d.from d.body d.kept d.request n) (pages_none (n == 0))
    so_allowed Fell p number value child signal ends more poked d = none _ _ d.was d.now (asked_reserve d.held d.from d.body d.kept d.request n) (pages_none (n == 0))
    so_allowed Paused p number value child signal ends more poked d = none _ _ d.was d.now (pages_none (n == 0)) (pages_none (n == 0))

    grant : (b : Bool) (x need : ℕ) → x ≡ 0 → cond b (x + need) x ≡ reserve_pages O (cond b (Some need) None)
    grant true x need e = omega (arith, e)
    grant false x need e = e

    landing : (b : Bool) (need : ℕ) → cond b 0 (reserve_pages O (cond b (Some need) None)) ≡ 0
    landing true need = refl
    landing false need = refl

    flip : (m == n) ≡ (n == m)
    flip = grind (arith, nat_tests)

    own_allowed : (what : Deed) → Needs O what m old new s r → allowed_by what here (pid_of what) (reserve_at s n) ≡ reserve_at r n
    own_allowed (Run line i p) d = none _ _ d.was d.now (pages_none (n == 0)) (pages_none (n == 0))
    own_allowed (Kill line p g poked) d = stay d.now
    own_allowed (Bid line p to) d = stay d.is.now
    own_allowed (Unsent line p never) d = stay d.is.now
    own_allowed (Other line input) d = stay d.now
    own_allowed (Steps p k) d = none _ _ d.is.was d.is.now (pages_none (n == 0)) (pages_none (n == 0))
    own_allowed (Sent p k) d = none _ _ d.is.was d.is.now (pages_none (n == 0)) (pages_none (n == 0))
    own_allowed (Heed p) d = none _ _ d.is.was d.is.now (pages_none (n == 0)) (pages_none (n == 0))
    own_allowed (Held p k) d = none _ _ d.is.was d.is.now (pages_none (n == 0)) (pages_none (n == 0))
    own_allowed (Served p manner number value child signal ends more poked) d = so_allowed manner p number value child signal ends more poked d
    own_allowed (Got p child ended kept) d = none _ _ d.is.was d.is.now (pages_none (n == 0)) (got_reserve m d.is.body d.is.keeps d.is.done n)
    own_allowed (Poked p true) d = sym (ap (λ (k : Spot O). reserve_at k n) d.is.now ∙ mark_reserve s n)
    own_allowed (Poked p false) d = stay d.is.now
    own_allowed (Begin p to reason) d = none _ _ d.is.was d.is.now (pages_none (n == 0)) (pages_none (n == 0))
    own_allowed (Keep p to line) d = sym (ap (λ (k : Spot O). reserve_at k n) d.is.now ∙ keep_reserve (record { to = to; line = line }) s n)
    own_allowed (Missed p to line) d = stay d.is.now
    own_allowed (Again p to place line) d = stay d.is.now
    own_allowed (Allows p from need) d = both_on here p _ _ ∙ (grant here (reserve_at s n) need (ap (λ (k : Spot O). reserve_at k n) d.is.was ∙ pages_none (n == 0)) ∙ (ap (λ (b : Bool). reserve_pages O (cond b (Some need) None)) flip ∙ sym (ap (λ (k : Spot O). reserve_at k n) d.is.now)))
    own_allowed (Denies p from need free) d = none _ _ d.is.was d.is.now (pages_none (n == 0)) (pages_none (n == 0))
    own_allowed (Depart p to) d = ap (λ (k : Spot O). reserve_at k n) d.is.was ∙ sym (ap (λ (k : Spot O). reserve_at k n) d.is.now)
    own_allowed (Stay p to need free) d = none _ _ d.is.was d.is.now (pages_none (n == 0)) (pages_none (n == 0))
    own_allowed (Land p source) d = both_on here p 0 _ ∙ (ap (λ (k : ℕ). cond here 0 k) (ap (λ (k : Spot O). reserve_at k n) d.is.was ∙ ap (λ (b : Bool). reserve_pages O (cond b (Some d.is.need) None)) (sym flip)) ∙ (landing here d.is.need ∙ (sym (pages_none (n == 0)) ∙ sym (ap (λ (k : Spot O). reserve_at k n) d.is.now))))
    own_allowed (Told p at source hops line poked) d = stay d.is.now
    own_allowed (Refused p to why line) d = stay d.is.now
    own_allowed (Closed line) d = stay d.is.now
    own_allowed (Gossips heard other) d = stay d.is.now
    own_allowed (Strange p) d = absurd d

  -- a child comes with nothing reserved
  child_allowed : (w : World O) (t : Turn O) (v : World O) (sp next : ℕ → Spot O) → Stands O S sp w → (st : Step O S sp w t next v) → (n : ℕ) (what : Deed) (r : Spot O) → Needs O what t.event.node (w.nodes t.event.node) (v.nodes t.event.node) (sp (pid_of what)) r → (c : ℕ) → child_of what ≡ Some c
      → reserve_at (sp c) n ≡ reserve_at (born_spot O what t.event.node (sp (pid_of what)) c) n
  child_allowed w t v sp next stands st n (Run line i p) r need c e = absurd cc
  child_allowed w t v sp next stands st n (Kill line p g poked) r need c e = absurd cc
  child_allowed w t v sp next stands st n (Bid line p to) r need c e = absurd cc
  child_allowed w t v sp next stands st n (Unsent line p never) r need c e = absurd cc
  child_allowed w t v sp next stands st n (Other line input) r need c e = absurd cc
  child_allowed w t v sp next stands st n (Steps p k) r need c e = absurd cc
  child_allowed w t v sp next stands st n (Sent p k) r need c e = absurd cc
  child_allowed w t v sp next stands st n (Heed p) r need c e = absurd cc
  child_allowed w t v sp next stands st n (Held p k) r need c e = absurd cc
  child_allowed w t v sp next stands st n (Served p manner number value child signal ends more poked) r need c e =
      let home = home_so O S t.event.node (w.nodes t.event.node) (v.nodes t.event.node) (sp p) r manner p number value child signal ends more poked need in
      let is : c ≡ O.count (w.nodes 0).kernel + 1 = child_so O S t.event.node (w.nodes t.event.node) (v.nodes t.event.node) (sp p) r manner p number value child signal ends more poked c e need ∙ ap (λ (k : ℕ). O.count (w.nodes k).kernel + 1) home in
      ap (λ (k : Spot O). reserve_at k n) (stands.unborn c (omega (arith, is)))
  child_allowed w t v sp next stands st n (Got p child ended kept) r need c e =
      let g = got_brings O t.event.node (w.nodes t.event.node) (v.nodes t.event.node) (sp p) r p child ended kept need.is in
      ap (λ (k : Spot O). reserve_at k n) (stands.coupled.child p c (g.0 ∙ e)).0
  child_allowed w t v sp next stands st n (Poked p used) r need c e = absurd cc
  child_allowed w t v sp next stands st n (Begin p to reason) r need c e = absurd cc
  child_allowed w t v sp next stands st n (Keep p to line) r need c e = absurd cc
  child_allowed w t v sp next stands st n (Missed p to line) r need c e = absurd cc
  child_allowed w t v sp next stands st n (Again p to place line) r need c e = absurd cc
  child_allowed w t v sp next stands st n (Allows p from x) r need c e = absurd cc
  child_allowed w t v sp next stands st n (Denies p from x free) r need c e = absurd cc
  child_allowed w t v sp next stands st n (Depart p to) r need c e = absurd cc
  child_allowed w t v sp next stands st n (Stay p to x free) r need c e = absurd cc
  child_allowed w t v sp next stands st n (Land p source) r need c e = absurd cc
  child_allowed w t v sp next stands st n (Told p at source hops line poked) r need c e = absurd cc
  child_allowed w t v sp next stands st n (Refused p to why line) r need c e = absurd cc
  child_allowed w t v sp next stands st n (Closed line) r need c e = absurd cc
  child_allowed w t v sp next stands st n (Gossips heard other) r need c e = absurd cc
  child_allowed w t v sp next stands st n (Strange p) r need c e = absurd cc

  pub path_allowed : (h : List (Turn O)) (sp : ℕ → Spot O) (w : World O) → Path O S h sp w → (n q : ℕ) → allowed n q (events O h) ≡ reserve_at (sp q) n
  path_allowed [] sp w r n q = sym (ap (λ (k : Spot O). reserve_at k n) (r.1 q) ∙ pages_none (n == 0))
  path_allowed (t ∷ h) sp v r n q = go (part O t.event.what t.event.node r.1 r.4.own q) (path_allowed h r.1 r.0 r.2 n q)
    where
      go : Part O t.event.what t.event.node r.1 r.4.own q → allowed n q (events O h) ≡ reserve_at (r.1 q) n → allowed_by t.event.what (t.event.node == n) q (allowed n q (events O h)) ≡ reserve_at (sp q) n
      go (Own e) was =
          let own = own_allowed t.event.node (r.0.nodes t.event.node) (v.nodes t.event.node) (r.1 (pid_of t.event.what)) r.4.own n t.event.what r.4.needs in
          ap (allowed_by t.event.what (t.event.node == n) q) was ∙ (ap (λ (k : ℕ). allowed_by t.event.what (t.event.node == n) k (reserve_at (r.1 k) n)) e ∙ (own ∙ sym (ap (λ (k : Spot O). reserve_at k n) (r.4.next_is q ∙ at_own O t.event.what t.event.node r.1 r.4.own q e))))
      go (Rest ne f) was = allowed_rest t.event.what (t.event.node == n) q _ ne ∙ (was ∙ sym (ap (λ (k : Spot O). reserve_at k n) (r.4.next_is q ∙ at_rest O t.event.what t.event.node r.1 r.4.own q ne f)))
      go (Child c a e ne) was =
          allowed_rest t.event.what (t.event.node == n) q _ ne
          ∙ (was
          ∙ (child_allowed r.0 t v r.1 sp r.3 r.4 n t.event.what r.4.own r.4.needs q (a ∙ ap (λ (k : ℕ). Some k) (sym e)) ∙ sym (ap (λ (k : Spot O). reserve_at k n) (r.4.next_is q ∙ at_child O t.event.what t.event.node r.1 r.4.own q c a e ne))))

  -- the context of a process has as many pages as the machine's user state
  pages_after : (u : O.User) (d : Done O) → O.pages (after O u d) ≡ O.pages u
  pages_after u d = entered (give O u d.answer) d.taken ∙ given d.answer
    where
      entered : (x : O.User) (k : Option O.Taken) → O.pages (enter O x k) ≡ O.pages x
      entered x None = refl
      entered x (Some k) = S.pages_entered x k

      given : (a : Option O.Answer) → O.pages (give O u a) ≡ O.pages u
      given None = refl
      given (Some a) = S.pages_given u a

  at_pages : (x : Bool) (c : Context O) (p : ℕ) → O.pages c.body.user ≡ p → context_pages O (cond x (Some c) None) ≡ cond x p 0
  at_pages true c p e = e
  at_pages false c p e = refl

  no_pages : (x : Bool) → context_pages O (cond x None None) ≡ 0
  no_pages true = refl
  no_pages false = refl

  spot_pages : (s : Spot O) (n : ℕ) → context_pages O (cond (n == site O s) (kept_at O s) None) ≡ cond (is_at n (facts_of O S s).places) (pages_of O (user_of O S s)) 0
  spot_pages Nowhere n = no_pages (n == 0)
  spot_pages (Runs m b) n = at_pages (n == m) _ _ refl
  spot_pages (Calls m b k r) n = at_pages (n == m) _ _ refl
  spot_pages (Holds m b k r) n = at_pages (n == m) _ _ refl
  spot_pages (Pauses m b k r) n = at_pages (n == m) _ _ refl
  spot_pages (Answered m b k d x y) n = at_pages (n == m) _ _ (sym (pages_after b.user d))
  spot_pages (Asks m b to l need) n = at_pages (n == m) _ _ refl
  spot_pages (Granted m b to l need) n = at_pages (n == m) _ _ refl
  spot_pages (Denied m b to l need free) n = at_pages (n == m) _ _ refl
  spot_pages (Travels a c b l need) n = no_pages (n == 0)
  spot_pages (InReply q u) n = no_pages (n == 0)
  spot_pages (Ended u) n = no_pages (n == 0)

  -- one process's slot, by what the events and the machine tell
  slot_same : (h : List (Turn O)) (sp : ℕ → Spot O) (w : World O) → Path O S h sp w → Stands O S sp w → (m : MachineState O) → ((p : ℕ) → m.users p ≡ user_of O S (sp p)) → (n p : ℕ) → slot_pages O ((w.nodes n).slots p) ≡ pages_at O n (events O h) m p
  slot_same h sp w path stands m users n p =
      ap (slot_pages O) ((stands.at p).slots n)
      ∙ (λ i. (spot_pages (sp p) n) i + (sym (path_allowed h sp w path n p)) i)
      ∙ (λ i. cond (is_at n ((sym (path_tells O S h sp w path p)) i).places) (pages_of O ((sym (users p)) i)) 0 + allowed n p (events O h))

  -- beyond the pids given there is nothing
  nothing_at : (s : Spot O) (n : ℕ) → s ≡ Nowhere → slot_pages O (slot_by O s n) ≡ 0
  nothing_at s n e = ap (λ (k : Spot O). slot_pages O (slot_by O k n)) e ∙ (λ i. (no_pages (n == 0)) i + (pages_none (n == 0)) i)

  pub path_used : (h : List (Turn O)) (sp : ℕ → Spot O) (w : World O) → Path O S h sp w → Stands O S sp w → (m : MachineState O) → Agrees O S h sp (w.nodes 0) m → (n used : ℕ) → InUse O (w.nodes n) used → used ≡ used_pages O n (events O h) m
  path_used h sp w path stands m agrees n used d =
      let same = slot_same h sp w path stands m agrees.users n in
      d.sum ∙ sums d.bound (O.count m.kernel + 1) (λ p. slot_pages O ((w.nodes n).slots p)) (pages_at O n (events O h) m) same d.beyond (λ p less. sym (same p) ∙ (ap (slot_pages O) ((stands.at p).slots n) ∙ nothing_at (sp p) n (stands.unborn p (beyond p less))))
    where
      beyond : (p : ℕ) → O.count m.kernel + 1 ≤ p → O.count (w.nodes 0).kernel < p
      beyond p less = omega (arith, less, ap O.count agrees.kernel)
