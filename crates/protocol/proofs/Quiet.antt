-- What an event does to spots alone: a process that was nowhere stays so, moves go to other nodes, and children belong to their parents' answers.
use Rattle.std.proofs.Common.{◌≡◌, ◌≢◌, ℕ, ◌+◌, ◌⊎◌, inl, inr, Bool, true, false, cond, Option, Some, None, List, refl, sym, ap, ◌∙◌, subst}
use Rattle.protocol.specs.Ops.{Ops, Sound, counted, typed}
use Rattle.protocol.specs.Deeds.{Manner, Did, Broke, Fell, Paused, Deed, Run, Kill, Bid, Unsent, Other, Steps, Sent, Heed, Held, Served, Got, Poked, Begin, Keep, Missed, Again, Allows, Denies, Depart, Stay, Land, Told, Refused, Closed, Gossips, Strange, pid_of, Input, Text, Finish, Nothing}
use Rattle.protocol.specs.Notes.{Done, Body, Kept, Local}
use Rattle.protocol.specs.Spots.{Spot, Nowhere, Runs, Calls, Holds, Pauses, Answered, Asks, Granted, Denied, Travels, InReply, Ended}
use Rattle.protocol.specs.Home.{First, last, last_by, Acts, give, enter, returned, after}
use Rattle.protocol.specs.Needs.{Needs, ServedSo, ServedCall, got_spot, asked, FreeAt, mark, keep_in, Aims, KeptAims, Named}
use Rattle.std.specs.Prelude.{ℤ}
use Rattle.call_table.specs.declared.process.End.{End}

module _ (O : Ops) (S : Sound O) where
  -- the number of pids after the taking of a signal
  pub count_last : (k : O.Kernel) (p : ℕ) (room : Bool) → O.count (last O k p room).kernel ≡ O.count k
  count_last k p room = go (O.lowest k p)
    where
      go : (o : Option ℕ) → O.count (last_by O o k p room).kernel ≡ O.count k
      go None = refl
      go (Some s) = S.count_take k p room

  pub count_typed : (input : Input) (k : O.Kernel) → O.count (typed O input k) ≡ O.count k
  count_typed (Text i) k = S.count_feed k i
  count_typed Finish k = S.count_finish k
  count_typed Nothing k = refl

  count_acts : (m : Manner) (k : O.Kernel) (p : ℕ) (r : O.Request) (f : First O) → Acts O m k p r f → O.count f.kernel ≡ counted f.child (O.count k)
  count_acts Did k p r f (d, served, some, is) = ap (λ (x : First O). O.count x.kernel) is ∙ (S.count_serve k p r d served ∙ ap (λ (x : First O). counted x.child (O.count k)) (sym is))
  count_acts Broke k p r f (s, low, blocks, some, is) = ap (λ (x : First O). O.count x.kernel) is ∙ ap (λ (x : First O). counted x.child (O.count k)) (sym is)
  count_acts Fell k p r f (none, is) = ap (λ (x : First O). O.count x.kernel) is ∙ (S.count_fall k p r ∙ ap (λ (x : First O). counted x.child (O.count k)) (sym is))
  count_acts Paused k p r f a = absurd a

  pub child_acts : (m : Manner) (k : O.Kernel) (p : ℕ) (r : O.Request) (f : First O) (c : ℕ) → Acts O m k p r f → f.child ≡ Some c → c ≡ O.count k + 1
  child_acts Did k p r f c (d, served, some, is) e = S.child_serve k p r d c served (ap (λ (x : First O). x.child) (sym is) ∙ e)
  child_acts Broke k p r f c (s, low, blocks, some, is) e = let z : None ≡ Some c = ap (λ (x : First O). x.child) (sym is) ∙ e in absurd cc
  child_acts Fell k p r f c (none, is) e = let z : None ≡ Some c = ap (λ (x : First O). x.child) (sym is) ∙ e in absurd cc
  child_acts Paused k p r f c a e = absurd a

  module _ (n : ℕ) (old new : Local O) (s r : Spot O) where
    count_served : (m : Manner) (p : ℕ) (number : Option ℕ) (value : Option ℤ) (child signal : Option ℕ) (ends : Option End) (more : Bool) (poked : List ℕ) → ServedCall O n p m number value child signal ends more poked old new s r → O.count new.kernel ≡ counted child (O.count old.kernel)
    count_served m p number value child signal ends more poked d =
        ap O.count d.answers.kernel ∙ (count_last d.first.kernel p (O.room_of d.request) ∙ (count_acts m old.kernel p d.request d.first d.acts ∙ ap (λ (x : Option ℕ). counted x (O.count old.kernel)) (sym d.answers.child_is)))

    count_so : (m : Manner) (p : ℕ) (number : Option ℕ) (value : Option ℤ) (child signal : Option ℕ) (ends : Option End) (more : Bool) (poked : List ℕ) → ServedSo O m n p number value child signal ends more poked old new s r → O.count new.kernel ≡ counted child (O.count old.kernel)
    count_so Did p number value child signal ends more poked d = count_served Did p number value child signal ends more poked d
    count_so Broke p number value child signal ends more poked d = count_served Broke p number value child signal ends more poked d
    count_so Fell p number value child signal ends more poked d = count_served Fell p number value child signal ends more poked d
    count_so Paused p number value child signal ends more poked d = ap O.count d.answers.kernel ∙ (count_last old.kernel p d.room ∙ ap (λ (x : Option ℕ). counted x (O.count old.kernel)) (sym d.answers.child_is))

    -- the child that is born is the next pid
    pub child_so : (m : Manner) (p : ℕ) (number : Option ℕ) (value : Option ℤ) (child signal : Option ℕ) (ends : Option End) (more : Bool) (poked : List ℕ) (c : ℕ) → child ≡ Some c → ServedSo O m n p number value child signal ends more poked old new s r → c ≡ O.count old.kernel + 1
    child_so Did p number value child signal ends more poked c e d = child_acts Did old.kernel p d.request d.first c d.acts (sym d.answers.child_is ∙ e)
    child_so Broke p number value child signal ends more poked c e d = child_acts Broke old.kernel p d.request d.first c d.acts (sym d.answers.child_is ∙ e)
    child_so Fell p number value child signal ends more poked c e d = child_acts Fell old.kernel p d.request d.first c d.acts (sym d.answers.child_is ∙ e)
    child_so Paused p number value child signal ends more poked c e d = let z : None ≡ Some c = sym d.answers.child_is ∙ e in absurd cc

    pub home_so : (m : Manner) (p : ℕ) (number : Option ℕ) (value : Option ℤ) (child signal : Option ℕ) (ends : Option End) (more : Bool) (poked : List ℕ) → ServedSo O m n p number value child signal ends more poked old new s r → n ≡ 0
    home_so Did p number value child signal ends more poked d = d.home
    home_so Broke p number value child signal ends more poked d = d.home
    home_so Fell p number value child signal ends more poked d = d.home
    home_so Paused p number value child signal ends more poked d = d.home

    -- what an event makes of the number of pids
    abbrev pub born_count : Deed → ℕ → ℕ
    born_count (Run line i p) k = k + 1
    born_count (Kill line p g poked) k = k
    born_count (Bid line p to) k = k
    born_count (Unsent line p never) k = k
    born_count (Other line input) k = k
    born_count (Steps p x) k = k
    born_count (Sent p x) k = k
    born_count (Heed p) k = k
    born_count (Held p x) k = k
    born_count (Served p manner number value child signal ends more poked) k = counted child k
    born_count (Got p child ended kept) k = k
    born_count (Poked p used) k = k
    born_count (Begin p to reason) k = k
    born_count (Keep p to line) k = k
    born_count (Missed p to line) k = k
    born_count (Again p to place line) k = k
    born_count (Allows p from need) k = k
    born_count (Denies p from need free) k = k
    born_count (Depart p to) k = k
    born_count (Stay p to need free) k = k
    born_count (Land p source) k = k
    born_count (Told p at source hops line poked) k = k
    born_count (Refused p to why line) k = k
    born_count (Closed line) k = k
    born_count (Gossips heard other) k = k
    born_count (Strange p) k = k

    pub counts : (what : Deed) → Needs O what n old new s r → O.count new.kernel ≡ born_count what (O.count old.kernel)
    counts (Run line i p) d = S.count_launch old.kernel new.kernel d.launched
    counts (Kill line p g poked) d = ap O.count d.kernel ∙ S.count_raise old.kernel p g
    counts (Bid line p to) d = ap O.count d.kernel
    counts (Unsent line p never) d = ap O.count d.kernel
    counts (Other line input) d = ap O.count d.kernel ∙ count_typed input old.kernel
    counts (Steps p x) d = ap O.count d.kernel
    counts (Sent p x) d = ap O.count d.kernel
    counts (Heed p) d = ap O.count d.kernel
    counts (Held p x) d = ap O.count d.kernel
    counts (Served p manner number value child signal ends more poked) d = count_so manner p number value child signal ends more poked d
    counts (Got p child ended kept) d = ap O.count d.kernel
    counts (Poked p used) d = ap O.count d.kernel
    counts (Begin p to reason) d = ap O.count d.kernel
    counts (Keep p to line) d = ap O.count d.kernel
    counts (Missed p to line) d = ap O.count d.kernel
    counts (Again p to place line) d = ap O.count d.kernel
    counts (Allows p from need) d = ap O.count d.kernel
    counts (Denies p from need free) d = ap O.count d.kernel
    counts (Depart p to) d = ap O.count d.kernel
    counts (Stay p to need free) d = ap O.count d.kernel
    counts (Land p source) d = ap O.count d.kernel
    counts (Told p at source hops line poked) d = ap O.count d.kernel
    counts (Refused p to why line) d = ap O.count d.kernel
    counts (Closed line) d = ap O.count d.kernel
    counts (Gossips heard other) d = ap O.count d.kernel
    counts (Strange p) d = absurd d

    -- nothing but its launch takes a process out of nowhere
    abbrev Nowhere_or : Deed → Type 0
    Nowhere_or what = (r ≡ Nowhere) ⊎ ((n ≡ 0) × (pid_of what ≡ O.count old.kernel + 1) × (O.count new.kernel ≡ O.count old.kernel + 1))

    pub nowhere_so : (m : Manner) (p : ℕ) (number : Option ℕ) (value : Option ℤ) (child signal : Option ℕ) (ends : Option End) (more : Bool) (poked : List ℕ) → ServedSo O m n p number value child signal ends more poked old new s r → s ≡ Nowhere → ⊥
    nowhere_so Did p number value child signal ends more poked d e = asked_not d.held d.from d.body d.kept d.request (sym d.was ∙ e)
      where
        asked_not : (h : Bool) (m : ℕ) (b : Body O) (k : Option Kept) (q : O.Request) → asked O h m b k q ≡ Nowhere → ⊥
        asked_not true m b k q e = cc
        asked_not false m b k q e = cc
    nowhere_so Broke p number value child signal ends more poked d e = asked_not d.held d.from d.body d.kept d.request (sym d.was ∙ e)
      where
        asked_not : (h : Bool) (m : ℕ) (b : Body O) (k : Option Kept) (q : O.Request) → asked O h m b k q ≡ Nowhere → ⊥
        asked_not true m b k q e = cc
        asked_not false m b k q e = cc
    nowhere_so Fell p number value child signal ends more poked d e = asked_not d.held d.from d.body d.kept d.request (sym d.was ∙ e)
      where
        asked_not : (h : Bool) (m : ℕ) (b : Body O) (k : Option Kept) (q : O.Request) → asked O h m b k q ≡ Nowhere → ⊥
        asked_not true m b k q e = cc
        asked_not false m b k q e = cc
    nowhere_so Paused p number value child signal ends more poked d e = let z = sym d.was ∙ e in cc

    pub nowhere : (what : Deed) → Needs O what n old new s r → s ≡ Nowhere → Nowhere_or what
    nowhere (Run line i p) d e = inr (d.home, d.next, S.count_launch old.kernel new.kernel d.launched)
    nowhere (Kill line p g poked) d e = inl (d.now ∙ e)
    nowhere (Bid line p to) d e = inl (d.is.now ∙ e)
    nowhere (Unsent line p never) d e = inl (d.is.now ∙ e)
    nowhere (Other line input) d e = inl (d.now ∙ e)
    nowhere (Steps p x) d e = let z = sym d.is.was ∙ e in absurd cc
    nowhere (Sent p x) d e = let z = sym d.is.was ∙ e in absurd cc
    nowhere (Heed p) d e = let z = sym d.is.was ∙ e in absurd cc
    nowhere (Held p x) d e = let z = sym d.is.was ∙ e in absurd cc
    nowhere (Served p manner number value child signal ends more poked) d e = absurd (nowhere_so manner p number value child signal ends more poked d e)
    nowhere (Got p child ended kept) d e = let z = sym d.is.was ∙ e in absurd cc
    nowhere (Poked p true) d e = inl (d.is.now ∙ ap (mark O) e)
    nowhere (Poked p false) d e = inl (d.is.now ∙ e)
    nowhere (Begin p to reason) d e = let z = sym d.is.was ∙ e in absurd cc
    nowhere (Keep p to line) d e = inl (d.is.now ∙ ap (keep_in O (record { to = to; line = line })) e)
    nowhere (Missed p to line) d e = inl (d.is.now ∙ e)
    nowhere (Again p to place line) d e = inl (d.is.now ∙ e)
    nowhere (Allows p from need) d e = let z = sym d.is.was ∙ e in absurd cc
    nowhere (Denies p from need free) d e = let z = sym d.is.was ∙ e in absurd cc
    nowhere (Depart p to) d e = let z = sym d.is.was ∙ e in absurd cc
    nowhere (Stay p to need free) d e = let z = sym d.is.was ∙ e in absurd cc
    nowhere (Land p source) d e = let z = sym d.is.was ∙ e in absurd cc
    nowhere (Told p at source hops line poked) d e = inl (d.is.now ∙ e)
    nowhere (Refused p to why line) d e = inl (d.is.now ∙ e)
    nowhere (Closed line) d e = inl (d.is.now ∙ e)
    nowhere (Gossips heard other) d e = inl (d.is.now ∙ e)
    nowhere (Strange p) d e = absurd d

  -- a move goes to another node
  aims_free : (x : Kept) (n : ℕ) (s : Spot O) → x.to ≢ n → FreeAt O n s → Aims O (keep_in O x s)
  aims_free x n Nowhere ne f = tt
  aims_free x n (Runs m b) ne f = tt
  aims_free x n (Calls m b k r) ne f = λ e. ne (e ∙ f.0)
  aims_free x n (Holds m b k r) ne f = λ e. ne (e ∙ f.0)
  aims_free x n (Pauses m b k r) ne f = λ e. ne (e ∙ f.0)
  aims_free x n (Answered m b k d p y) ne f = λ e. ne (e ∙ f.0)
  aims_free x n (Asks m b to l need) ne f = absurd f
  aims_free x n (Granted m b to l need) ne f = absurd f
  aims_free x n (Denied m b to l need free) ne f = absurd f
  aims_free x n (Travels a c b l need) ne f = tt
  aims_free x n (InReply q u) ne f = tt
  aims_free x n (Ended u) ne f = tt

  aims_mark : (s : Spot O) → Aims O s → Aims O (mark O s)
  aims_mark Nowhere a = a
  aims_mark (Runs m b) a = a
  aims_mark (Calls m b k r) a = a
  aims_mark (Holds m b k r) a = a
  aims_mark (Pauses m b k r) a = a
  aims_mark (Answered m b k d x y) a = a
  aims_mark (Asks m b to l need) a = a
  aims_mark (Granted m b to l need) a = a
  aims_mark (Denied m b to l need free) a = a
  aims_mark (Travels x c b l need) a = a
  aims_mark (InReply q u) a = a
  aims_mark (Ended u) a = a

  aims_got : (n : ℕ) (b : Body O) (k : Option Kept) (d : Done O) (x y : Bool) → Aims O (Answered n b k d x y) → Aims O (got_spot O n b k d)
  aims_got n b None d x y a = go d.ended
    where
      go : (e : Bool) → Aims O (cond e (Ended (after O b.user d)) (Runs n (returned O b d)))
      go true = tt
      go false = tt
  aims_got n b (Some k) d x y a = go d.ended
    where
      go : (e : Bool) → Aims O (cond e (Ended (after O b.user d)) (Asks n (returned O b d) k.to (Some k.line) (O.pages (after O b.user d))))
      go true = tt
      go false = a

  module _ (n : ℕ) (old new : Local O) (s r : Spot O) where
    aims_call : (m : Manner) (p : ℕ) (number : Option ℕ) (value : Option ℤ) (child signal : Option ℕ) (ends : Option End) (more : Bool) (poked : List ℕ) → ServedCall O n p m number value child signal ends more poked old new s r → Aims O s → Aims O r
    aims_call m p number value child signal ends more poked d a = subst (Aims O) (sym d.now) (go d.held d.from d.body d.kept d.request (subst (Aims O) d.was a))
      where
        go : (h : Bool) (m : ℕ) (b : Body O) (k : Option Kept) (q : O.Request) → Aims O (asked O h m b k q) → KeptAims O m k
        go true m b k q x = x
        go false m b k q x = x

    aims_so : (m : Manner) (p : ℕ) (number : Option ℕ) (value : Option ℤ) (child signal : Option ℕ) (ends : Option End) (more : Bool) (poked : List ℕ) → ServedSo O m n p number value child signal ends more poked old new s r → Aims O s → Aims O r
    aims_so Did p number value child signal ends more poked d a = aims_call Did p number value child signal ends more poked d a
    aims_so Broke p number value child signal ends more poked d a = aims_call Broke p number value child signal ends more poked d a
    aims_so Fell p number value child signal ends more poked d a = aims_call Fell p number value child signal ends more poked d a
    aims_so Paused p number value child signal ends more poked d a = subst (Aims O) (sym d.now) (subst (Aims O) d.was a)

    pub aims : (what : Deed) → Needs O what n old new s r → Aims O s → Aims O r
    aims (Run line i p) d a = subst (Aims O) (sym d.now) tt
    aims (Kill line p g poked) d a = subst (Aims O) (sym d.now) a
    aims (Bid line p to) d a = subst (Aims O) (sym d.is.now) a
    aims (Unsent line p never) d a = subst (Aims O) (sym d.is.now) a
    aims (Other line input) d a = subst (Aims O) (sym d.now) a
    aims (Steps p x) d a = subst (Aims O) (sym d.is.now) tt
    aims (Sent p x) d a = subst (Aims O) (sym d.is.now) tt
    aims (Heed p) d a = subst (Aims O) (sym d.is.now) tt
    aims (Held p x) d a = subst (Aims O) (sym d.is.now) (subst (Aims O) d.is.was a)
    aims (Served p manner number value child signal ends more poked) d a = aims_so manner p number value child signal ends more poked d a
    aims (Got p child ended kept) d a = subst (Aims O) (sym d.is.now) (aims_got n d.is.body d.is.keeps d.is.done d.is.paused d.is.held (subst (Aims O) d.is.was a))
    aims (Poked p true) d a = subst (Aims O) (sym d.is.now) (aims_mark s a)
    aims (Poked p false) d a = subst (Aims O) (sym d.is.now) a
    aims (Begin p to reason) d a = subst (Aims O) (sym d.is.now) d.is.away
    aims (Keep p to line) d a = subst (Aims O) (sym d.is.now) (aims_free (record { to = to; line = line }) n s d.is.away d.is.free)
    aims (Missed p to line) d a = subst (Aims O) (sym d.is.now) a
    aims (Again p to place line) d a = subst (Aims O) (sym d.is.now) a
    aims (Allows p from need) d a = subst (Aims O) (sym d.is.now) (subst (Aims O) d.is.was a)
    aims (Denies p from need free) d a = subst (Aims O) (sym d.is.now) (subst (Aims O) d.is.was a)
    aims (Depart p to) d a = subst (Aims O) (sym d.is.now) tt
    aims (Stay p to need free) d a = subst (Aims O) (sym d.is.now) tt
    aims (Land p source) d a = subst (Aims O) (sym d.is.now) tt
    aims (Told p at source hops line poked) d a = subst (Aims O) (sym d.is.now) a
    aims (Refused p to why line) d a = subst (Aims O) (sym d.is.now) a
    aims (Closed line) d a = subst (Aims O) (sym d.is.now) a
    aims (Gossips heard other) d a = subst (Aims O) (sym d.is.now) a
    aims (Strange p) d a = absurd d

  -- a user state keeps its pid
  named_mark : (p : ℕ) (s : Spot O) → Named O p s → Named O p (mark O s)
  named_mark p Nowhere a = a
  named_mark p (Runs m b) a = a
  named_mark p (Calls m b k r) a = a
  named_mark p (Holds m b k r) a = a
  named_mark p (Pauses m b k r) a = a
  named_mark p (Answered m b k d x y) a = a
  named_mark p (Asks m b to l need) a = a
  named_mark p (Granted m b to l need) a = a
  named_mark p (Denied m b to l need free) a = a
  named_mark p (Travels x c b l need) a = a
  named_mark p (InReply q u) a = a
  named_mark p (Ended u) a = a

  named_keep : (x : Kept) (p : ℕ) (s : Spot O) → Named O p s → Named O p (keep_in O x s)
  named_keep x p Nowhere a = a
  named_keep x p (Runs m b) a = a
  named_keep x p (Calls m b k r) a = a
  named_keep x p (Holds m b k r) a = a
  named_keep x p (Pauses m b k r) a = a
  named_keep x p (Answered m b k d z y) a = a
  named_keep x p (Asks m b to l need) a = a
  named_keep x p (Granted m b to l need) a = a
  named_keep x p (Denied m b to l need free) a = a
  named_keep x p (Travels y c b l need) a = a
  named_keep x p (InReply q u) a = a
  named_keep x p (Ended u) a = a

  named_give : (u : O.User) (o : Option O.Answer) → O.pid_of (give O u o) ≡ O.pid_of u
  named_give u None = refl
  named_give u (Some a) = S.pid_given u a

  named_enter : (u : O.User) (o : Option O.Taken) → O.pid_of (enter O u o) ≡ O.pid_of u
  named_enter u None = refl
  named_enter u (Some t) = S.pid_entered u t

  named_got : (p n : ℕ) (b : Body O) (k : Option Kept) (d : Done O) → O.pid_of b.user ≡ p → Named O p (got_spot O n b k d)
  named_got p n b None d a = go d.ended
    where
      go : (e : Bool) → Named O p (cond e (Ended (after O b.user d)) (Runs n (returned O b d)))
      go true = tt
      go false = named_enter (give O b.user d.answer) d.taken ∙ (named_give b.user d.answer ∙ a)
  named_got p n b (Some k) d a = go d.ended
    where
      go : (e : Bool) → Named O p (cond e (Ended (after O b.user d)) (Asks n (returned O b d) k.to (Some k.line) (O.pages (after O b.user d))))
      go true = tt
      go false = named_enter (give O b.user d.answer) d.taken ∙ (named_give b.user d.answer ∙ a)

  module _ (n : ℕ) (old new : Local O) (s r : Spot O) where
    named_call : (m : Manner) (p : ℕ) (number : Option ℕ) (value : Option ℤ) (child signal : Option ℕ) (ends : Option End) (more : Bool) (poked : List ℕ) → ServedCall O n p m number value child signal ends more poked old new s r → Named O p s → Named O p r
    named_call m p number value child signal ends more poked d a = subst (Named O p) (sym d.now) (go d.held d.from d.body d.kept d.request (subst (Named O p) d.was a))
      where
        go : (h : Bool) (m : ℕ) (b : Body O) (k : Option Kept) (q : O.Request) → Named O p (asked O h m b k q) → O.pid_of b.user ≡ p
        go true m b k q x = x
        go false m b k q x = x

    named_so : (m : Manner) (p : ℕ) (number : Option ℕ) (value : Option ℤ) (child signal : Option ℕ) (ends : Option End) (more : Bool) (poked : List ℕ) → ServedSo O m n p number value child signal ends more poked old new s r → Named O p s → Named O p r
    named_so Did p number value child signal ends more poked d a = named_call Did p number value child signal ends more poked d a
    named_so Broke p number value child signal ends more poked d a = named_call Broke p number value child signal ends more poked d a
    named_so Fell p number value child signal ends more poked d a = named_call Fell p number value child signal ends more poked d a
    named_so Paused p number value child signal ends more poked d a = subst (Named O p) (sym d.now) (subst (Named O p) d.was a)

    pub named : (what : Deed) → Needs O what n old new s r → Named O (pid_of what) s → Named O (pid_of what) r
    named (Run line i p) d a = subst (Named O p) (sym d.now) (S.pid_loaded i p d.image)
    named (Kill line p g poked) d a = subst (Named O p) (sym d.now) a
    named (Bid line p to) d a = subst (Named O p) (sym d.is.now) a
    named (Unsent line p never) d a = subst (Named O p) (sym d.is.now) a
    named (Other line input) d a = subst (Named O 0) (sym d.now) a
    named (Steps p x) d a = subst (Named O p) (sym d.is.now) (S.pid_went d.is.body.user d.is.user x d.is.went ∙ subst (Named O p) d.is.was a)
    named (Sent p x) d a = subst (Named O p) (sym d.is.now) (subst (Named O p) d.is.was a)
    named (Heed p) d a = subst (Named O p) (sym d.is.now) (subst (Named O p) d.is.was a)
    named (Held p x) d a = subst (Named O p) (sym d.is.now) (subst (Named O p) d.is.was a)
    named (Served p manner number value child signal ends more poked) d a = named_so manner p number value child signal ends more poked d a
    named (Got p child ended kept) d a = subst (Named O p) (sym d.is.now) (named_got p n d.is.body d.is.keeps d.is.done (subst (Named O p) d.is.was a))
    named (Poked p true) d a = subst (Named O p) (sym d.is.now) (named_mark p s a)
    named (Poked p false) d a = subst (Named O p) (sym d.is.now) a
    named (Begin p to reason) d a = subst (Named O p) (sym d.is.now) (subst (Named O p) d.is.was a)
    named (Keep p to line) d a = subst (Named O p) (sym d.is.now) (named_keep (record { to = to; line = line }) p s a)
    named (Missed p to line) d a = subst (Named O p) (sym d.is.now) a
    named (Again p to place line) d a = subst (Named O p) (sym d.is.now) a
    named (Allows p from need) d a = subst (Named O p) (sym d.is.now) (subst (Named O p) d.is.was a)
    named (Denies p from need free) d a = subst (Named O p) (sym d.is.now) (subst (Named O p) d.is.was a)
    named (Depart p to) d a = subst (Named O p) (sym d.is.now) (subst (Named O p) d.is.was a)
    named (Stay p to need free) d a = subst (Named O p) (sym d.is.now) (subst (Named O p) d.is.was a)
    named (Land p source) d a = subst (Named O p) (sym d.is.now) (subst (Named O p) d.is.was a)
    named (Told p at source hops line poked) d a = subst (Named O p) (sym d.is.now) a
    named (Refused p to why line) d a = subst (Named O p) (sym d.is.now) a
    named (Closed line) d a = subst (Named O 0) (sym d.is.now) a
    named (Gossips heard other) d a = subst (Named O 0) (sym d.is.now) a
    named (Strange p) d a = absurd d
