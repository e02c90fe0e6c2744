-- What the events tell of each process is what its spot tells.
use Rattle.std.proofs.Common.{◌≡◌, ℕ, ◌+◌, Bool, true, false, cond, Option, Some, None, List, [], ◌∷◌, refl, sym, ap, ◌∙◌, arith, ◌||◌}
use Rattle.protocol.specs.Ops.{Ops, Sound, is_child}
use Rattle.protocol.specs.Deeds.{Manner, Did, Broke, Fell, Paused, Deed, Run, Kill, Bid, Unsent, Other, Steps, Sent, Heed, Held, Served, Got, Poked, Begin, Keep, Missed, Again, Allows, Denies, Depart, Stay, Land, Told, Refused, Closed, Gossips, Strange, pid_of, child_of}
use Rattle.protocol.specs.Notes.{Done, Turn, Body, Kept, Local, is_some}
use Rattle.protocol.specs.Spots.{Spot, Nowhere, Runs, Calls, Holds, Pauses, Answered, Asks, Granted, Denied, Travels, InReply, Ended}
use Rattle.protocol.specs.Home.{last, returned, after, done_of}
use Rattle.protocol.specs.Does.{kept_told}
use Rattle.protocol.specs.Cluster.{World}
use Rattle.protocol.specs.Needs.{Needs, ServedSo, ServedCall, got_spot, asked, AwakeAt, FreeAt, mark, keep_in, born_spot}
use Rattle.protocol.specs.Cluster.{events}
use Rattle.run_laws.specs.Facts.{Denial, Place, Node, Link, Unborn, without, Facts, no_facts, fact_own, fact_child, facts}
use Rattle.protocol.proofs.Talk.{same_numbers, other_numbers}
use Rattle.protocol.proofs.Quiet.{child_so, home_so}
use Rattle.protocol.proofs.Coupling.{Part, Own, Child, Rest, part, at_own, at_child, at_rest, got_brings}
use Rattle.protocol.proofs.Stand.{Stands, Step, Path}
use Rattle.std.specs.Prelude.{ℤ}
use Rattle.call_table.specs.declared.process.End.{End}

gone : (n : ℕ) → without (Node n) (Node n ∷ []) ≡ []
gone n = ap (λ (b : Bool). cond b [] (Node n ∷ [])) (same_numbers n n refl)

gone_link : (a b : ℕ) → without (Link a b) (Link a b ∷ []) ≡ []
gone_link a b = rw (same_numbers a a refl, same_numbers b b refl) refl

or_false : (b : Bool) → (b || false) ≡ b
or_false true = refl
or_false false = refl

abbrev pub kept_to : Option Kept → Option ℕ
kept_to None = None
kept_to (Some k) = Some k.to

abbrev pub kept_line : Option Kept → Option ℕ
kept_line None = None
kept_line (Some k) = Some k.line

abbrev pub waiting : ℕ → Option Kept → Bool → ℕ → ℕ → Option ℕ → Bool → Facts
waiting m k paused served held child more = record { places = Node m ∷ []; waits = true; asks = false; target = None; allowed = false; paused = paused; served = served; held = held; child = child; kept = kept_to k; owes = false; more = more; denial = None; line = kept_line k }

abbrev pub there : List Place → Bool → Bool → Option ℕ → Facts
there ps asks owes line = record { places = ps; waits = false; asks = asks; target = None; allowed = false; paused = false; served = 0; held = 0; child = None; kept = None; owes = owes; more = false; denial = None; line = line }

abbrev pub asking : ℕ → Bool → Option ℕ → ℕ → Bool → Option Denial → Facts
asking m owes line to allowed denial = record { places = Node m ∷ []; waits = false; asks = true; target = Some to; allowed = allowed; paused = false; served = 0; held = 0; child = None; kept = None; owes = owes; more = false; denial = denial; line = line }

module _ (O : Ops) (S : Sound O) where
  abbrev pub facts_of : Spot O → Facts
  facts_of Nowhere = no_facts
  facts_of (Runs m b) = there (Node m ∷ []) false b.poked None
  facts_of (Calls m b k r) = waiting m k false 0 0 None false
  facts_of (Holds m b k r) = waiting m k false 0 1 None false
  facts_of (Pauses m b k r) = waiting m k true 0 0 None false
  facts_of (Answered m b k d x y) = waiting m k x 1 (cond y 1 0) d.child d.more
  facts_of (Asks m b to l need) = asking m b.poked l to false None
  facts_of (Granted m b to l need) = asking m b.poked l to true None
  facts_of (Denied m b to l need free) = asking m b.poked l to false (Some (record { node = to; need = need; free = free }))
  facts_of (Travels a c b l need) = there (Link a c ∷ []) false b.poked l
  facts_of (InReply q u) = there (Unborn ∷ []) false false None
  facts_of (Ended u) = there [] false false None

  mark_facts : (n p : ℕ) (s : Spot O) → AwakeAt O n s → fact_own (Poked p true) n (facts_of s) ≡ facts_of (mark O s)
  mark_facts n p Nowhere a = absurd a
  mark_facts n p (Runs m b) a = refl
  mark_facts n p (Calls m b k r) a = absurd a
  mark_facts n p (Holds m b k r) a = absurd a
  mark_facts n p (Pauses m b k r) a = absurd a
  mark_facts n p (Answered m b k d x y) a = absurd a
  mark_facts n p (Asks m b to l need) a = refl
  mark_facts n p (Granted m b to l need) a = refl
  mark_facts n p (Denied m b to l need free) a = refl
  mark_facts n p (Travels x c b l need) a = absurd a
  mark_facts n p (InReply q u) a = absurd a
  mark_facts n p (Ended u) a = absurd a

  keep_facts : (n p to line : ℕ) (s : Spot O) → FreeAt O n s → fact_own (Keep p to line) n (facts_of s) ≡ facts_of (keep_in O (record { to = to; line = line }) s)
  keep_facts n p to line Nowhere a = absurd a
  keep_facts n p to line (Runs m b) a = absurd a
  keep_facts n p to line (Calls m b k r) a = refl
  keep_facts n p to line (Holds m b k r) a = refl
  keep_facts n p to line (Pauses m b k r) a = refl
  keep_facts n p to line (Answered m b k d x y) a = refl
  keep_facts n p to line (Asks m b t2 l need) a = absurd a
  keep_facts n p to line (Granted m b t2 l need) a = absurd a
  keep_facts n p to line (Denied m b t2 l need free) a = absurd a
  keep_facts n p to line (Travels x c b l need) a = absurd a
  keep_facts n p to line (InReply q u) a = absurd a
  keep_facts n p to line (Ended u) a = absurd a

  got_facts : (n p : ℕ) (child : Option ℕ) (b : Body O) (k : Option Kept) (d : Done O) (x y : Bool) → fact_own (Got p child d.ended (kept_told O k d.ended)) n (facts_of (Answered n b k d x y)) ≡ facts_of (got_spot O n b k d)
  got_facts n p child b None d x y = go d.ended
    where
      go : (e : Bool) → fact_own (Got p child e None) n (facts_of (Answered n b None d x y)) ≡ facts_of (cond e (Ended (after O b.user d)) (Runs n (returned O b d)))
      go true = ap (λ (ps : List Place). there ps false false None) (gone n)
      go false = ap (λ (z : Bool). there (Node n ∷ []) false z None) (or_false d.more)
  got_facts n p child b (Some k) d x y = go d.ended
    where
      go : (e : Bool) → fact_own (Got p child e (Some (record { ends = e; to = k.to }))) n (facts_of (Answered n b (Some k) d x y)) ≡ facts_of (cond e (Ended (after O b.user d)) (Asks n (returned O b d) k.to (Some k.line) (O.pages (after O b.user d))))
      go true = ap (λ (ps : List Place). there ps false false None) (gone n)
      go false = ap (λ (z : Bool). asking n z (Some k.line) k.to false None) (or_false d.more)

  asked_facts : (h : Bool) (n p m : ℕ) (b : Body O) (k : Option Kept) (q : O.Request) (d : Done O) (manner : Manner) (number : Option ℕ) (value : Option ℤ) (child signal : Option ℕ) (ends : Option End) (more : Bool) (poked : List ℕ) → child ≡ d.child → more ≡ d.more → fact_own (Served p manner number value child signal ends more poked) n (facts_of (asked O h m b k q)) ≡ facts_of (Answered m b k d false h)
  asked_facts true n p m b k q d manner number value child signal ends more poked g e = λ i. waiting m k false 1 1 (g i) (e i)
  asked_facts false n p m b k q d manner number value child signal ends more poked g e = λ i. waiting m k false 1 0 (g i) (e i)

  module _ (n : ℕ) (old new : Local O) (s r : Spot O) where
    by : (what : Deed) (a b : Spot O) → s ≡ a → r ≡ b → fact_own what n (facts_of a) ≡ facts_of b → fact_own what n (facts_of s) ≡ facts_of r
    by what a b was now e = ap (λ (k : Spot O). fact_own what n (facts_of k)) was ∙ (e ∙ sym (ap facts_of now))

    call_facts : (manner : Manner) (p : ℕ) (number : Option ℕ) (value : Option ℤ) (child signal : Option ℕ) (ends : Option End) (more : Bool) (poked : List ℕ) → ServedCall O n p manner number value child signal ends more poked old new s r → fact_own (Served p manner number value child signal ends more poked) n (facts_of s) ≡ facts_of r
    call_facts manner p number value child signal ends more poked d =
        by (Served p manner number value child signal ends more poked) _ _ d.was d.now (asked_facts d.held n p d.from d.body d.kept d.request (done_of O p d.first (last O d.first.kernel p (O.room_of d.request))) manner number value child signal ends more poked d.answers.child_is (d.answers.more_is ∙ ap (λ (k : O.Kernel). is_some (O.lowest k p)) d.answers.kernel))

    so_facts : (manner : Manner) (p : ℕ) (number : Option ℕ) (value : Option ℤ) (child signal : Option ℕ) (ends : Option End) (more : Bool) (poked : List ℕ) → ServedSo O manner n p number value child signal ends more poked old new s r → fact_own (Served p manner number value child signal ends more poked) n (facts_of s) ≡ facts_of r
    so_facts Did p number value child signal ends more poked d = call_facts Did p number value child signal ends more poked d
    so_facts Broke p number value child signal ends more poked d = call_facts Broke p number value child signal ends more poked d
    so_facts Fell p number value child signal ends more poked d = call_facts Fell p number value child signal ends more poked d
    so_facts Paused p number value child signal ends more poked d = by (Served p Paused number value child signal ends more poked) _ _ d.was d.now (λ i. waiting d.from d.kept true 1 0 (d.answers.child_is i) ((d.answers.more_is ∙ ap (λ (k : O.Kernel). is_some (O.lowest k p)) d.answers.kernel) i))

    pub own_facts : (what : Deed) → Needs O what n old new s r → fact_own what n (facts_of s) ≡ facts_of r
    own_facts (Run line i p) d = by (Run line i p) _ _ d.was d.now refl
    own_facts (Kill line p g poked) d = by (Kill line p g poked) _ _ refl d.now refl
    own_facts (Bid line p to) d = by (Bid line p to) _ _ refl d.is.now refl
    own_facts (Unsent line p never) d = by (Unsent line p never) _ _ refl d.is.now refl
    own_facts (Other line input) d = by (Other line input) _ _ refl d.now refl
    own_facts (Steps p k) d = by (Steps p k) _ _ d.is.was d.is.now refl
    own_facts (Sent p k) d = by (Sent p k) _ _ d.is.was d.is.now (ap (λ (z : Bool). record { places = Node n ∷ []; waits = true; asks = false; target = None; allowed = false; paused = false; served = 0; held = 0; child = None; kept = None; owes = z; more = false; denial = None; line = None }) d.is.unpoked)
    own_facts (Heed p) d = by (Heed p) _ _ d.is.was d.is.now refl
    own_facts (Held p k) d = by (Held p k) _ _ d.is.was d.is.now refl
    own_facts (Served p manner number value child signal ends more poked) d = so_facts manner p number value child signal ends more poked d
    own_facts (Got p child ended kept) d = (λ i. fact_own (Got p child (d.is.ended_is i) (d.is.kept_is i)) n (facts_of s)) ∙ by (Got p child d.is.done.ended (kept_told O d.is.keeps d.is.done.ended)) _ _ d.is.was d.is.now (got_facts n p child d.is.body d.is.keeps d.is.done d.is.paused d.is.held)
    own_facts (Poked p true) d = mark_facts n p s d.is.awake ∙ sym (ap facts_of d.is.now)
    own_facts (Poked p false) d = by (Poked p false) _ _ refl d.is.now refl
    own_facts (Begin p to reason) d = by (Begin p to reason) _ _ d.is.was d.is.now refl
    own_facts (Keep p to line) d = keep_facts n p to line s d.is.free ∙ sym (ap facts_of d.is.now)
    own_facts (Missed p to line) d = by (Missed p to line) _ _ refl d.is.now refl
    own_facts (Again p to place line) d = by (Again p to place line) _ _ refl d.is.now refl
    own_facts (Allows p from need) d = by (Allows p from need) _ _ d.is.was d.is.now refl
    own_facts (Denies p from need free) d = by (Denies p from need free) _ _ d.is.was d.is.now refl
    own_facts (Depart p to) d = by (Depart p to) _ _ d.is.was d.is.now (ap (λ (ps : List Place). there (Link n to ∷ ps) false d.is.body.poked d.is.line) (gone n))
    own_facts (Stay p to need free) d = by (Stay p to need free) _ _ d.is.was d.is.now refl
    own_facts (Land p source) d = by (Land p source) _ _ d.is.was d.is.now (ap (λ (ps : List Place). there (Node n ∷ ps) false false None) (gone_link source n))
    own_facts (Told p at source hops line poked) d = by (Told p at source hops line poked) _ _ refl d.is.now refl
    own_facts (Refused p to why line) d = by (Refused p to why line) _ _ refl d.is.now refl
    own_facts (Closed line) d = by (Closed line) _ _ refl d.is.now refl
    own_facts (Gossips heard other) d = by (Gossips heard other) _ _ refl d.is.now refl
    own_facts (Strange p) d = absurd d

  -- the child's facts: it was nowhere, or in the reply
  module _ (w : World O) (t : Turn O) (v : World O) (sp next : ℕ → Spot O) (stands : Stands O S sp w) (st : Step O S sp w t next v) where
    abbrev n : ℕ
    n = t.event.node

    child_facts : (what : Deed) (r : Spot O) → Needs O what n (w.nodes n) (v.nodes n) (sp (pid_of what)) r → (c : ℕ) → child_of what ≡ Some c → fact_child what n (facts_of (sp c)) ≡ facts_of (born_spot O what n (sp (pid_of what)) c)
    child_facts (Run line i p) r need c e = absurd cc
    child_facts (Kill line p g poked) r need c e = absurd cc
    child_facts (Bid line p to) r need c e = absurd cc
    child_facts (Unsent line p never) r need c e = absurd cc
    child_facts (Other line input) r need c e = absurd cc
    child_facts (Steps p k) r need c e = absurd cc
    child_facts (Sent p k) r need c e = absurd cc
    child_facts (Heed p) r need c e = absurd cc
    child_facts (Held p k) r need c e = absurd cc
    child_facts (Served p manner number value child signal ends more poked) r need c e =
        let home = home_so O S n (w.nodes n) (v.nodes n) (sp p) r manner p number value child signal ends more poked need in
        let is : c ≡ O.count (w.nodes 0).kernel + 1 = child_so O S n (w.nodes n) (v.nodes n) (sp p) r manner p number value child signal ends more poked c e need ∙ ap (λ (k : ℕ). O.count (w.nodes k).kernel + 1) home in
        ap (λ (k : Spot O). fact_child (Served p manner number value child signal ends more poked) n (facts_of k)) (stands.unborn c (omega (arith, is)))
    child_facts (Got p child ended kept) r need c e =
        let g = got_brings O n (w.nodes n) (v.nodes n) (sp p) r p child ended kept need.is in
        ap (λ (k : Spot O). fact_child (Got p child ended kept) n (facts_of k)) (stands.coupled.child p c (g.0 ∙ e)).0
    child_facts (Poked p used) r need c e = absurd cc
    child_facts (Begin p to reason) r need c e = absurd cc
    child_facts (Keep p to line) r need c e = absurd cc
    child_facts (Missed p to line) r need c e = absurd cc
    child_facts (Again p to place line) r need c e = absurd cc
    child_facts (Allows p from x) r need c e = absurd cc
    child_facts (Denies p from x free) r need c e = absurd cc
    child_facts (Depart p to) r need c e = absurd cc
    child_facts (Stay p to x free) r need c e = absurd cc
    child_facts (Land p source) r need c e = absurd cc
    child_facts (Told p at source hops line poked) r need c e = absurd cc
    child_facts (Refused p to why line) r need c e = absurd cc
    child_facts (Closed line) r need c e = absurd cc
    child_facts (Gossips heard other) r need c e = absurd cc
    child_facts (Strange p) r need c e = absurd cc

    tells_next : (h : List (Turn O)) → ((q : ℕ) → facts q (events O h) ≡ facts_of (sp q)) → (q : ℕ) → Part O t.event.what n sp st.own q → facts q (t.event ∷ events O h) ≡ facts_of (next q)
    tells_next h tells q (Own e) =
        ap (λ (b : Bool). cond b (fact_own t.event.what n (facts q (events O h))) (cond (is_child (child_of t.event.what) q) (fact_child t.event.what n (facts q (events O h))) (facts q (events O h)))) (same_numbers q (pid_of t.event.what) e)
        ∙ (ap (fact_own t.event.what n) (tells q ∙ ap (λ (k : ℕ). facts_of (sp k)) e) ∙ (own_facts n (w.nodes n) (v.nodes n) (sp (pid_of t.event.what)) st.own t.event.what st.needs ∙ sym (ap facts_of (st.next_is q ∙ at_own O t.event.what n sp st.own q e))))
    tells_next h tells q (Rest ne f) =
        ap (λ (b : Bool). cond b (fact_own t.event.what n (facts q (events O h))) (cond (is_child (child_of t.event.what) q) (fact_child t.event.what n (facts q (events O h))) (facts q (events O h)))) (other_numbers q (pid_of t.event.what) ne)
        ∙ (ap (λ (b : Bool). cond b (fact_child t.event.what n (facts q (events O h))) (facts q (events O h))) f ∙ (tells q ∙ sym (ap facts_of (st.next_is q ∙ at_rest O t.event.what n sp st.own q ne f))))
    tells_next h tells q (Child c a e ne) =
        let f : is_child (child_of t.event.what) q ≡ true = ap (λ (o : Option ℕ). is_child o q) a ∙ same_numbers c q (sym e) in
        ap (λ (b : Bool). cond b (fact_own t.event.what n (facts q (events O h))) (cond (is_child (child_of t.event.what) q) (fact_child t.event.what n (facts q (events O h))) (facts q (events O h)))) (other_numbers q (pid_of t.event.what) ne)
        ∙ (ap (λ (b : Bool). cond b (fact_child t.event.what n (facts q (events O h))) (facts q (events O h))) f
        ∙ (ap (fact_child t.event.what n) (tells q) ∙ (child_facts t.event.what st.own st.needs q (a ∙ ap (λ (k : ℕ). Some k) (sym e)) ∙ sym (ap facts_of (st.next_is q ∙ at_child O t.event.what n sp st.own q c a e ne)))))

  pub path_tells : (h : List (Turn O)) (sp : ℕ → Spot O) (w : World O) → Path O S h sp w → (q : ℕ) → facts q (events O h) ≡ facts_of (sp q)
  path_tells [] sp w r q = sym (ap facts_of (r.1 q))
  path_tells (t ∷ h) sp v r q = tells_next r.0 t v r.1 sp r.3 r.4 h (path_tells h r.1 r.0 r.2) q (part O t.event.what t.event.node r.1 r.4.own q)
