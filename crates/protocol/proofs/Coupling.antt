-- A child that comes with an answer belongs to that answer alone.
use Rattle.std.proofs.Common.{◌≡◌, ◌≢◌, ℕ, ◌==◌, Bool, true, false, cond, Option, Some, None, List, refl, sym, ap, ◌∙◌}
use Rattle.protocol.specs.Ops.{Ops, is_child}
use Rattle.protocol.specs.Deeds.{Manner, Did, Broke, Fell, Paused, KeptTold, Deed, Run, Kill, Bid, Unsent, Other, Steps, Sent, Heed, Held, Served, Got, Poked, Begin, Keep, Missed, Again, Allows, Denies, Depart, Stay, Land, Told, Refused, Closed, Gossips, Strange, pid_of, child_of}
use Rattle.protocol.specs.Notes.{Done, Body, Kept, Local}
use Rattle.protocol.specs.Spots.{Spot, Nowhere, Runs, Calls, Holds, Pauses, Answered, Asks, Granted, Denied, Travels, InReply, Ended}
use Rattle.protocol.specs.Home.{returned, after}
use Rattle.protocol.specs.Needs.{Needs, ServedSo, ServedCall, GotReply, got_spot, asked, mark, keep_in, Coupled, brings, user_at, born_spot, next_spot}
use Rattle.protocol.proofs.Talk.{same_numbers, numbers_same, numbers_other}
use Rattle.protocol.proofs.Process.{cond_off}
use Rattle.std.specs.Prelude.{ℤ}
use Rattle.call_table.specs.declared.process.End.{End}

module _ (O : Ops) where
  -- a spot that brings no new child, and is in no reply unless it was
  pub record Gentle (s r : Spot O) : Type 0 where
    pub kept : (c : ℕ) → brings O r ≡ Some c → (brings O s ≡ Some c) × (user_at O r ≡ user_at O s)
    pub inside : (q : ℕ) (u : O.User) → s ≡ InReply q u → r ≡ s

  same_gentle : (s r : Spot O) → r ≡ s → Gentle s r
  same_gentle s r e = record { kept = λ c h. (sym (ap (brings O) e) ∙ h, ap (user_at O) e); inside = λ q u h. e }

  none_gentle : (s r : Spot O) → brings O r ≡ None → ((q : ℕ) (u : O.User) → s ≡ InReply q u → ⊥) → Gentle s r
  none_gentle s r e f = record { kept = λ c h. (let z : None ≡ Some c = sym e ∙ h in absurd cc); inside = λ q u h. absurd (f q u h) }

  mark_brings : (s : Spot O) → (brings O (mark O s) ≡ brings O s) × (user_at O (mark O s) ≡ user_at O s)
  mark_brings Nowhere = (refl, refl)
  mark_brings (Runs m b) = (refl, refl)
  mark_brings (Calls m b k r) = (refl, refl)
  mark_brings (Holds m b k r) = (refl, refl)
  mark_brings (Pauses m b k r) = (refl, refl)
  mark_brings (Answered m b k d x y) = (refl, refl)
  mark_brings (Asks m b to l need) = (refl, refl)
  mark_brings (Granted m b to l need) = (refl, refl)
  mark_brings (Denied m b to l need free) = (refl, refl)
  mark_brings (Travels a c b l need) = (refl, refl)
  mark_brings (InReply q u) = (refl, refl)
  mark_brings (Ended u) = (refl, refl)

  keep_brings : (x : Kept) (s : Spot O) → (brings O (keep_in O x s) ≡ brings O s) × (user_at O (keep_in O x s) ≡ user_at O s)
  keep_brings x Nowhere = (refl, refl)
  keep_brings x (Runs m b) = (refl, refl)
  keep_brings x (Calls m b k r) = (refl, refl)
  keep_brings x (Holds m b k r) = (refl, refl)
  keep_brings x (Pauses m b k r) = (refl, refl)
  keep_brings x (Answered m b k d p y) = (refl, refl)
  keep_brings x (Asks m b to l need) = (refl, refl)
  keep_brings x (Granted m b to l need) = (refl, refl)
  keep_brings x (Denied m b to l need free) = (refl, refl)
  keep_brings x (Travels a c b l need) = (refl, refl)
  keep_brings x (InReply q u) = (refl, refl)
  keep_brings x (Ended u) = (refl, refl)

  mark_gentle : (s r : Spot O) → r ≡ mark O s → Gentle s r
  mark_gentle s r e = record { kept = λ c h. (sym (mark_brings s).0 ∙ (sym (ap (brings O) e) ∙ h), ap (user_at O) e ∙ (mark_brings s).1); inside = λ q u h. e ∙ (ap (mark O) h ∙ sym h) }

  keep_gentle : (x : Kept) (s r : Spot O) → r ≡ keep_in O x s → Gentle s r
  keep_gentle x s r e = record { kept = λ c h. (sym (keep_brings x s).0 ∙ (sym (ap (brings O) e) ∙ h), ap (user_at O) e ∙ (keep_brings x s).1); inside = λ q u h. e ∙ (ap (keep_in O x) h ∙ sym h) }

  asked_out : (h : Bool) (m : ℕ) (b : Body O) (k : Option Kept) (x : O.Request) (q : ℕ) (u : O.User) → asked O h m b k x ≡ InReply q u → ⊥
  asked_out true m b k x q u e = cc
  asked_out false m b k x q u e = cc

  got_none : (n : ℕ) (b : Body O) (k : Option Kept) (d : Done O) → brings O (got_spot O n b k d) ≡ None
  got_none n b None d = go d.ended
    where
      go : (e : Bool) → brings O (cond e (Ended (after O b.user d)) (Runs n (returned O b d))) ≡ None
      go true = refl
      go false = refl
  got_none n b (Some k) d = go d.ended
    where
      go : (e : Bool) → brings O (cond e (Ended (after O b.user d)) (Asks n (returned O b d) k.to (Some k.line) (O.pages (after O b.user d)))) ≡ None
      go true = refl
      go false = refl

  module _ (n : ℕ) (old new : Local O) (s r : Spot O) where
    call_out : (m : Manner) (p : ℕ) (number : Option ℕ) (value : Option ℤ) (child signal : Option ℕ) (ends : Option End) (more : Bool) (poked : List ℕ) → ServedCall O n p m number value child signal ends more poked old new s r → (q : ℕ) (u : O.User) → s ≡ InReply q u → ⊥
    call_out m p number value child signal ends more poked d q u e = asked_out d.held d.from d.body d.kept d.request q u (sym d.was ∙ e)

    pub so_out : (m : Manner) (p : ℕ) (number : Option ℕ) (value : Option ℤ) (child signal : Option ℕ) (ends : Option End) (more : Bool) (poked : List ℕ) → ServedSo O m n p number value child signal ends more poked old new s r → (q : ℕ) (u : O.User) → s ≡ InReply q u → ⊥
    so_out Did p number value child signal ends more poked d q u e = call_out Did p number value child signal ends more poked d q u e
    so_out Broke p number value child signal ends more poked d q u e = call_out Broke p number value child signal ends more poked d q u e
    so_out Fell p number value child signal ends more poked d q u e = call_out Fell p number value child signal ends more poked d q u e
    so_out Paused p number value child signal ends more poked d q u e = let z = sym d.was ∙ e in cc

    -- what a served call brings is its child
    pub so_brings : (m : Manner) (p : ℕ) (number : Option ℕ) (value : Option ℤ) (child signal : Option ℕ) (ends : Option End) (more : Bool) (poked : List ℕ) → ServedSo O m n p number value child signal ends more poked old new s r → (brings O r ≡ child) × (user_at O r ≡ user_at O s)
    so_brings Did p number value child signal ends more poked d = (ap (brings O) d.now ∙ sym d.answers.child_is, ap (user_at O) d.now ∙ (asked_user d.held d.from d.body d.kept d.request ∙ sym (ap (user_at O) d.was)))
      where
        asked_user : (h : Bool) (m : ℕ) (b : Body O) (k : Option Kept) (x : O.Request) → b.user ≡ user_at O (asked O h m b k x)
        asked_user true m b k x = refl
        asked_user false m b k x = refl
    so_brings Broke p number value child signal ends more poked d = (ap (brings O) d.now ∙ sym d.answers.child_is, ap (user_at O) d.now ∙ (asked_user d.held d.from d.body d.kept d.request ∙ sym (ap (user_at O) d.was)))
      where
        asked_user : (h : Bool) (m : ℕ) (b : Body O) (k : Option Kept) (x : O.Request) → b.user ≡ user_at O (asked O h m b k x)
        asked_user true m b k x = refl
        asked_user false m b k x = refl
    so_brings Fell p number value child signal ends more poked d = (ap (brings O) d.now ∙ sym d.answers.child_is, ap (user_at O) d.now ∙ (asked_user d.held d.from d.body d.kept d.request ∙ sym (ap (user_at O) d.was)))
      where
        asked_user : (h : Bool) (m : ℕ) (b : Body O) (k : Option Kept) (x : O.Request) → b.user ≡ user_at O (asked O h m b k x)
        asked_user true m b k x = refl
        asked_user false m b k x = refl
    so_brings Paused p number value child signal ends more poked d = (ap (brings O) d.now ∙ sym d.answers.child_is, ap (user_at O) d.now ∙ sym (ap (user_at O) d.was))

    -- one that has just got its reply brings nothing
    pub got_brings : (p : ℕ) (child : Option ℕ) (ended : Bool) (kept : Option KeptTold) → GotReply O n p child ended kept s r → (brings O s ≡ child) × (brings O r ≡ None)
    got_brings p child ended kept d = (ap (brings O) d.was ∙ sym d.child_is, ap (brings O) d.now ∙ got_none n d.body d.keeps d.done)

    pub gentle : (what : Deed) → child_of what ≡ None → Needs O what n old new s r → Gentle s r
    gentle (Run line i p) h d = none_gentle s r (ap (brings O) d.now) (λ q u e. let z = sym d.was ∙ e in cc)
    gentle (Kill line p g poked) h d = same_gentle s r d.now
    gentle (Bid line p to) h d = same_gentle s r d.is.now
    gentle (Unsent line p never) h d = same_gentle s r d.is.now
    gentle (Other line input) h d = same_gentle s r d.now
    gentle (Steps p x) h d = none_gentle s r (ap (brings O) d.is.now) (λ q u e. let z = sym d.is.was ∙ e in cc)
    gentle (Sent p x) h d = none_gentle s r (ap (brings O) d.is.now) (λ q u e. let z = sym d.is.was ∙ e in cc)
    gentle (Heed p) h d = none_gentle s r (ap (brings O) d.is.now) (λ q u e. let z = sym d.is.was ∙ e in cc)
    gentle (Held p x) h d = none_gentle s r (ap (brings O) d.is.now) (λ q u e. let z = sym d.is.was ∙ e in cc)
    gentle (Served p manner number value child signal ends more poked) h d = none_gentle s r ((so_brings manner p number value child signal ends more poked d).0 ∙ h) (so_out manner p number value child signal ends more poked d)
    gentle (Got p child ended kept) h d = none_gentle s r (got_brings p child ended kept d.is).1 (λ q u e. let z = sym d.is.was ∙ e in cc)
    gentle (Poked p true) h d = mark_gentle s r d.is.now
    gentle (Poked p false) h d = same_gentle s r d.is.now
    gentle (Begin p to reason) h d = none_gentle s r (ap (brings O) d.is.now) (λ q u e. let z = sym d.is.was ∙ e in cc)
    gentle (Keep p to line) h d = keep_gentle (record { to = to; line = line }) s r d.is.now
    gentle (Missed p to line) h d = same_gentle s r d.is.now
    gentle (Again p to place line) h d = same_gentle s r d.is.now
    gentle (Allows p from need) h d = none_gentle s r (ap (brings O) d.is.now) (λ q u e. let z = sym d.is.was ∙ e in cc)
    gentle (Denies p from need free) h d = none_gentle s r (ap (brings O) d.is.now) (λ q u e. let z = sym d.is.was ∙ e in cc)
    gentle (Depart p to) h d = none_gentle s r (ap (brings O) d.is.now) (λ q u e. let z = sym d.is.was ∙ e in cc)
    gentle (Stay p to need free) h d = none_gentle s r (ap (brings O) d.is.now) (λ q u e. let z = sym d.is.was ∙ e in cc)
    gentle (Land p source) h d = none_gentle s r (ap (brings O) d.is.now) (λ q u e. let z = sym d.is.was ∙ e in cc)
    gentle (Told p at source hops line poked) h d = same_gentle s r d.is.now
    gentle (Refused p to why line) h d = same_gentle s r d.is.now
    gentle (Closed line) h d = same_gentle s r d.is.now
    gentle (Gossips heard other) h d = same_gentle s r d.is.now
    gentle (Strange p) h d = absurd d

  -- the spots after an event, at its process, at its child and elsewhere
  module _ (what : Deed) (n : ℕ) (sp : ℕ → Spot O) (r : Spot O) where
    abbrev next : ℕ → Spot O
    next = next_spot O what n sp r

    pub at_own : (q : ℕ) → q ≡ pid_of what → next q ≡ r
    at_own q e = ap (λ (b : Bool). cond b r (cond (is_child (child_of what) q) (born_spot O what n (sp (pid_of what)) q) (sp q))) (same_numbers q (pid_of what) e)

    pub at_child : (q c : ℕ) → child_of what ≡ Some c → q ≡ c → q ≢ pid_of what → next q ≡ born_spot O what n (sp (pid_of what)) q
    at_child q c h e ne = cond_off q (pid_of what) r _ ne ∙ ap (λ (b : Bool). cond b (born_spot O what n (sp (pid_of what)) q) (sp q)) (ap (λ (k : Option ℕ). is_child k q) h ∙ same_numbers c q (sym e))

    pub at_rest : (q : ℕ) → q ≢ pid_of what → is_child (child_of what) q ≡ false → next q ≡ sp q
    at_rest q ne h = cond_off q (pid_of what) r _ ne ∙ ap (λ (b : Bool). cond b (born_spot O what n (sp (pid_of what)) q) (sp q)) h

    -- the three places of a pid at an event
    pub data Part (q : ℕ) : Type 0 where
      Own : q ≡ pid_of what → Part q
      Child : (c : ℕ) → child_of what ≡ Some c → q ≡ c → q ≢ pid_of what → Part q
      Rest : q ≢ pid_of what → is_child (child_of what) q ≡ false → Part q

    pub part : (q : ℕ) → Part q
    part q = go (q == pid_of what) refl (child_of what) refl
      where
        child : q ≢ pid_of what → (c : ℕ) → child_of what ≡ Some c → (x : Bool) → (c == q) ≡ x → Part q
        child ne c h true e = Child c h (sym (numbers_same c q e)) ne
        child ne c h false e = Rest ne (ap (λ (k : Option ℕ). is_child k q) h ∙ e)

        go : (b : Bool) → (q == pid_of what) ≡ b → (o : Option ℕ) → child_of what ≡ o → Part q
        go true e o h = Own (numbers_same q (pid_of what) e)
        go false e None h = Rest (numbers_other q (pid_of what) e) (ap (λ (k : Option ℕ). is_child k q) h)
        go false e (Some c) h = child (numbers_other q (pid_of what) e) c h (c == q) refl

    abbrev Kept_for : ℕ → ℕ → Type 0
    Kept_for q d = (next d ≡ InReply q (O.forked (user_at O (next q)) d)) × (d ≢ q)

    keep_rest : (q d : ℕ) → Coupled O sp → next q ≡ sp q → next d ≡ sp d → brings O (next q) ≡ Some d → Kept_for q d
    keep_rest q d k e f h =
        let x = k.child q d (sym (ap (brings O) e) ∙ h) in
        (f ∙ (x.0 ∙ ap (λ (u : O.User). InReply q (O.forked u d)) (sym (ap (user_at O) e))), x.1)

    pub coupled_quiet : Coupled O sp → child_of what ≡ None → Gentle (sp (pid_of what)) r → Coupled O next
    coupled_quiet k none g = record { child = λ q d h. go q d h (part q) (part d) }
      where
        go : (q d : ℕ) → brings O (next q) ≡ Some d → Part q → Part d → Kept_for q d
        go q d h (Child c a e ne) y = let z : None ≡ Some c = sym none ∙ a in absurd cc
        go q d h y (Child c a e ne) = let z : None ≡ Some c = sym none ∙ a in absurd cc
        go q d h (Own e) y =
            let a : next q ≡ r = at_own q e in
            let b = g.kept d (sym (ap (brings O) a) ∙ h) in
            let x = k.child (pid_of what) d b.0 in
            let ne : d ≢ pid_of what = x.1 in
            (at_rest d ne (ap (λ (o : Option ℕ). is_child o d) none) ∙ (x.0 ∙ ((λ i. InReply ((sym e) i) (O.forked ((sym (ap (user_at O) a ∙ b.1)) i) d)))), λ z. ne (z ∙ e))
        go q d h (Rest ne f) (Own e) =
            let a : next q ≡ sp q = at_rest q ne f in
            let x = k.child q d (sym (ap (brings O) a) ∙ h) in
            let is : sp (pid_of what) ≡ InReply q (O.forked (user_at O (sp q)) d) = ap sp (sym e) ∙ x.0 in
            keep_rest q d k a (at_own d e ∙ (g.inside q _ is ∙ ap sp (sym e))) h
        go q d h (Rest ne f) (Rest ne2 f2) = keep_rest q d k (at_rest q ne f) (at_rest d ne2 f2) h

    some_same : (a b : ℕ) → Some a ≡ Some b → a ≡ b
    some_same a b e = cc

    inside_same : (a b : ℕ) (u x : O.User) (s : Spot O) → s ≡ InReply a u → s ≡ InReply b x → a ≡ b
    inside_same a b u x s e f = let z = sym e ∙ f in cc

    -- a fork is served: the child is new, and is in the answer that its parent waits for
    pub coupled_fork : (c : ℕ) → Coupled O sp → child_of what ≡ Some c → c ≢ pid_of what → sp c ≡ Nowhere → brings O r ≡ Some c → user_at O r ≡ user_at O (sp (pid_of what)) → ((q : ℕ) (u : O.User) → sp (pid_of what) ≡ InReply q u → ⊥)
        → born_spot O what n (sp (pid_of what)) c ≡ InReply (pid_of what) (O.forked (user_at O (sp (pid_of what))) c) → Coupled O next
    coupled_fork c k is apart new bears user out born = record { child = λ q d h. go q d h (part q) (part d) }
      where
        born_at : (d : ℕ) → d ≡ c → next d ≡ InReply (pid_of what) (O.forked (user_at O (sp (pid_of what))) c)
        born_at d e = at_child d c is e (λ z. apart (sym e ∙ z)) ∙ (ap (born_spot O what n (sp (pid_of what))) e ∙ born)

        go : (q d : ℕ) → brings O (next q) ≡ Some d → Part q → Part d → Kept_for q d
        go q d h (Own e) y =
            let a : next q ≡ r = at_own q e in
            let same : c ≡ d = some_same c d (sym bears ∙ (sym (ap (brings O) a) ∙ h)) in
            (born_at d (sym same) ∙ (λ i. InReply ((sym e) i) (O.forked ((sym (ap (user_at O) a ∙ user)) i) (same i))), λ z. apart (same ∙ (z ∙ e)))
        go q d h (Child b a e ne) y =
            let same : b ≡ c = some_same b c (sym a ∙ is) in
            let z : None ≡ Some d = ap (brings O) (sym (born_at q (e ∙ same))) ∙ h in absurd cc
        go q d h (Rest ne f) (Own e) = absurd (out q _ (ap sp (sym e) ∙ (k.child q d (sym (ap (brings O) (at_rest q ne f)) ∙ h)).0))
        go q d h (Rest ne f) (Child b a e ne2) =
            let same : b ≡ c = some_same b c (sym a ∙ is) in
            let z : Nowhere ≡ InReply q (O.forked (user_at O (sp q)) d) = sym new ∙ (ap sp (sym (e ∙ same)) ∙ (k.child q d (sym (ap (brings O) (at_rest q ne f)) ∙ h)).0) in absurd cc
        go q d h (Rest ne f) (Rest ne2 f2) = keep_rest q d k (at_rest q ne f) (at_rest d ne2 f2) h

    -- the answer comes: the child that it brings is in no answer any more
    pub coupled_got : (c : ℕ) → Coupled O sp → child_of what ≡ Some c → brings O (sp (pid_of what)) ≡ Some c → brings O r ≡ None → brings O (born_spot O what n (sp (pid_of what)) c) ≡ None → Coupled O next
    coupled_got c k is had none born = record { child = λ q d h. go q d h (part q) (part d) }
      where
        of_p : (sp c ≡ InReply (pid_of what) (O.forked (user_at O (sp (pid_of what))) c)) × (c ≢ pid_of what)
        of_p = k.child (pid_of what) c had

        go : (q d : ℕ) → brings O (next q) ≡ Some d → Part q → Part d → Kept_for q d
        go q d h (Own e) y = let z : None ≡ Some d = sym none ∙ (sym (ap (brings O) (at_own q e)) ∙ h) in absurd cc
        go q d h (Child b a e ne) y =
            let same : q ≡ c = e ∙ some_same b c (sym a ∙ is) in
            let z : None ≡ Some d = sym born ∙ (ap (λ (k : ℕ). brings O (born_spot O what n (sp (pid_of what)) k)) (sym same) ∙ (sym (ap (brings O) (at_child q b a e ne)) ∙ h)) in absurd cc
        go q d h (Rest ne f) (Own e) =
            let x = (k.child q d (sym (ap (brings O) (at_rest q ne f)) ∙ h)).0 in
            let z : None ≡ Some c = sym (ap (brings O) (ap sp (sym e) ∙ x)) ∙ had in absurd cc
        go q d h (Rest ne f) (Child b a e ne2) =
            let same : d ≡ c = e ∙ some_same b c (sym a ∙ is) in
            let x = (k.child q d (sym (ap (brings O) (at_rest q ne f)) ∙ h)).0 in
            absurd (ne (sym (inside_same (pid_of what) q _ _ (sp c) of_p.0 (ap sp (sym same) ∙ x))))
        go q d h (Rest ne f) (Rest ne2 f2) = keep_rest q d k (at_rest q ne f) (at_rest d ne2 f2) h
