-- What an event does to who lives at home, and to what is under way for its process.
use Rattle.std.proofs.Common.{◌≡◌, ◌≢◌, ◌<◌, ◌&&◌, ◌⊎◌, inl, inr, ℕ, Bool, true, false, not, cond, Option, Some, None, List, ◌+◌, refl, sym, ap, ◌∙◌, subst}
use Rattle.std.specs.Prelude.{ℤ}
use Rattle.protocol.specs.Ops.{Ops, Sound, Took, is_child, typed, counted, lives_in}
use Rattle.protocol.specs.Deeds.{Manner, Did, Broke, Fell, Paused, Deed, Run, Kill, Bid, Unsent, Other, Steps, Sent, Heed, Held, Served, Got, Poked, Begin, Keep, Missed, Again, Allows, Denies, Depart, Stay, Land, Told, Refused, Closed, Gossips, Strange, pid_of, child_of, Input, Text, Finish, Nothing}
use Rattle.protocol.specs.Notes.{Done, Body, Kept, Local}
use Rattle.protocol.specs.Spots.{Spot, Nowhere, Runs, Calls, Holds, Pauses, Answered, Asks, Granted, Denied, Travels, InReply, Ended}
use Rattle.protocol.specs.Home.{First, last, last_by, Acts, returned, after, forwards, fits_entered, fits_done, done_of}
use Rattle.protocol.specs.Needs.{Needs, ServedSo, ServedCall, ServedPause, got_spot, asked, mark, keep_in, brings, born_spot, alive, Right}
use Rattle.protocol.proofs.Quiet.{count_typed, counts}
use Rattle.protocol.proofs.Talk.{same_numbers, other_numbers}
use Rattle.call_table.specs.declared.process.End.{End}

module _ (O : Ops) (S : Sound O) where
  live_typed : (input : Input) (k : O.Kernel) (q : ℕ) → O.live (typed O input k) q ≡ O.live k q
  live_typed (Text i) k q = S.live_feed k i q
  live_typed Finish k q = S.live_finish k q
  live_typed Nothing k q = refl

  -- liveness after the call and the signal
  live_last : (k : O.Kernel) (p : ℕ) (room : Bool) (q : ℕ) → q ≢ p → O.live (last O k p room).kernel q ≡ O.live k q
  live_last k p room q ne = go (O.lowest k p)
    where
      go : (o : Option ℕ) → O.live (last_by O o k p room).kernel q ≡ O.live k q
      go None = refl
      go (Some s) = S.live_take k p room q ne

  live_acts : (m : Manner) (k : O.Kernel) (p : ℕ) (r : O.Request) (f : First O) (q : ℕ) → Acts O m k p r f → q ≢ p → is_child f.child q ≡ false → O.live f.kernel q ≡ O.live k q
  live_acts Did k p r f q (d, served, some, is) ne h = ap (λ (x : First O). O.live x.kernel q) is ∙ S.live_serve k p r d q served ne (ap (λ (x : First O). is_child x.child q) (sym is) ∙ h)
  live_acts Broke k p r f q (s, low, blocked, some, is) ne h = ap (λ (x : First O). O.live x.kernel q) is
  live_acts Fell k p r f q (none, is) ne h = ap (λ (x : First O). O.live x.kernel q) is ∙ S.live_fall k p r q ne
  live_acts Paused k p r f q a ne h = absurd a

  live_born : (m : Manner) (k : O.Kernel) (p : ℕ) (r : O.Request) (f : First O) (c : ℕ) → Acts O m k p r f → f.child ≡ Some c → O.live f.kernel c ≡ true
  live_born Did k p r f c (d, served, some, is) e = ap (λ (x : First O). O.live x.kernel c) is ∙ S.live_child k p r d c served (ap (λ (x : First O). x.child) (sym is) ∙ e)
  live_born Broke k p r f c (s, low, blocked, some, is) e = let z : None ≡ Some c = ap (λ (x : First O). x.child) (sym is) ∙ e in absurd cc
  live_born Fell k p r f c (none, is) e = let z : None ≡ Some c = ap (λ (x : First O). x.child) (sym is) ∙ e in absurd cc
  live_born Paused k p r f c a e = absurd a

  pub twice : (b : Bool) → b ≡ not (not b)
  twice true = refl
  twice false = refl

  -- the answer of a call fits it
  forwarded : (u : O.User) (r : O.Request) → O.asks u ≡ Some r → O.number r ≢ 0 → forwards O (O.asks u) ≡ true
  forwarded u r asks some = ap (forwards O) asks ∙ ap not (other_numbers (O.number r) 0 some)

  faulted : (u : O.User) (r : O.Request) → O.asks u ≡ Some r → O.number r ≡ 0 → not (forwards O (O.asks u)) ≡ true
  faulted u r asks none = ap (λ (o : Option O.Request). not (forwards O o)) asks ∙ ap (λ (b : Bool). not (not b)) (same_numbers (O.number r) 0 none)

  -- the signal that is taken after it has room for its frame, or kills
  fits_last : (k : O.Kernel) (p : ℕ) (room : Bool) (u : O.User) → ((s : ℕ) → O.lowest k p ≡ Some s → O.take k p (O.room u) ≡ O.take k p room) → fits_entered O u (last O k p room).taken ≡ true
  fits_last k p room u rooms = go (O.lowest k p) refl
    where
      go : (o : Option ℕ) → O.lowest k p ≡ o → fits_entered O u (last_by O o k p room).taken ≡ true
      go None e = refl
      go (Some s) e = ap (λ (x : Took O.Kernel O.Taken). O.fits_taken u x.taken) (sym (rooms s e)) ∙ S.fits_take k p s u e

  both_true : (a b : Bool) → a ≡ true → b ≡ true → (a && b) ≡ true
  both_true a b e f = rw (e, f) refl

  fits_acts : (m : Manner) (k : O.Kernel) (p : ℕ) (u : O.User) (r : O.Request) (f : First O) → O.asks u ≡ Some r → O.live k p ≡ true → Acts O m k p r f → fits_done O false u (done_of O p f (last O f.kernel p (O.room_of r))) ≡ true
  fits_acts Did k p u r f asks live (d, served, some, is) =
      subst (λ (x : First O). fits_done O false u (done_of O p x (last O x.kernel p (O.room_of r))) ≡ true) (sym is)
      (both_true _ _ (both_true _ _ (forwarded u r asks some) (S.fits_serve k p u r d asks some served)) (fits_last d.kernel p (O.room_of r) (O.given u d.answer) (λ s e. S.room_serve k p u r d asks served)))
  fits_acts Broke k p u r f asks live (s, low, blocked, some, is) =
      subst (λ (x : First O). fits_done O false u (done_of O p x (last O x.kernel p (O.room_of r))) ≡ true) (sym is)
      (both_true _ _ (both_true _ _ (forwarded u r asks some) (S.fits_broken k p s u r live low asks some blocked)) (fits_last k p (O.room_of r) (O.given u O.broken) (λ x e. S.room_broken k p s u r live low asks some blocked)))
  fits_acts Fell k p u r f asks live (none, is) =
      subst (λ (x : First O). fits_done O false u (done_of O p x (last O x.kernel p (O.room_of r))) ≡ true) (sym is)
      (both_true _ _ (faulted u r asks none) (fits_last (O.fall k p r).kernel p (O.room_of r) u (λ s e. (let z : true ≡ false = sym (S.lowest_live (O.fall k p r).kernel p s e) ∙ S.dead_fall k p r in absurd cc))))
  fits_acts Paused k p u r f asks live a = absurd a

  -- one event: who lives after it, and what is under way for its process
  pub record LivesAt (what : Deed) (before now : O.Kernel) (r : Spot O) : Type 0 where
    pub right : Right O r
    pub own : O.live now (pid_of what) ≡ alive O r
    pub child : (c : ℕ) → child_of what ≡ Some c → O.live now c ≡ true
    pub others : (q : ℕ) → q ≢ pid_of what → is_child (child_of what) q ≡ false → O.live now q ≡ O.live before q

  mark_alive : (s : Spot O) → (alive O (mark O s) ≡ alive O s) × (Right O s → Right O (mark O s))
  mark_alive Nowhere = (refl, λ x. x)
  mark_alive (Runs m b) = (refl, λ x. x)
  mark_alive (Calls m b k r) = (refl, λ x. x)
  mark_alive (Holds m b k r) = (refl, λ x. x)
  mark_alive (Pauses m b k r) = (refl, λ x. x)
  mark_alive (Answered m b k d x y) = (refl, λ x. x)
  mark_alive (Asks m b to l need) = (refl, λ x. x)
  mark_alive (Granted m b to l need) = (refl, λ x. x)
  mark_alive (Denied m b to l need free) = (refl, λ x. x)
  mark_alive (Travels a c b l need) = (refl, λ x. x)
  mark_alive (InReply q u) = (refl, λ x. x)
  mark_alive (Ended u) = (refl, λ x. x)

  keep_alive : (x : Kept) (s : Spot O) → (alive O (keep_in O x s) ≡ alive O s) × (Right O s → Right O (keep_in O x s))
  keep_alive x Nowhere = (refl, λ x. x)
  keep_alive x (Runs m b) = (refl, λ x. x)
  keep_alive x (Calls m b k r) = (refl, λ x. x)
  keep_alive x (Holds m b k r) = (refl, λ x. x)
  keep_alive x (Pauses m b k r) = (refl, λ x. x)
  keep_alive x (Answered m b k d p y) = (refl, λ x. x)
  keep_alive x (Asks m b to l need) = (refl, λ x. x)
  keep_alive x (Granted m b to l need) = (refl, λ x. x)
  keep_alive x (Denied m b to l need free) = (refl, λ x. x)
  keep_alive x (Travels a c b l need) = (refl, λ x. x)
  keep_alive x (InReply q u) = (refl, λ x. x)
  keep_alive x (Ended u) = (refl, λ x. x)

  got_alive : (n : ℕ) (b : Body O) (k : Option Kept) (d : Done O) → (alive O (got_spot O n b k d) ≡ not d.ended) × Right O (got_spot O n b k d)
  got_alive n b None d = go d.ended
    where
      go : (e : Bool) → (alive O (cond e (Ended (after O b.user d)) (Runs n (returned O b d))) ≡ not e) × Right O (cond e (Ended (after O b.user d)) (Runs n (returned O b d)))
      go true = (refl, tt)
      go false = (refl, tt)
  got_alive n b (Some k) d = go d.ended
    where
      go : (e : Bool) → (alive O (cond e (Ended (after O b.user d)) (Asks n (returned O b d) k.to (Some k.line) (O.pages (after O b.user d)))) ≡ not e) × Right O (cond e (Ended (after O b.user d)) (Asks n (returned O b d) k.to (Some k.line) (O.pages (after O b.user d))))
      go true = (refl, tt)
      go false = (refl, refl)

  pub asked_alive : (h : Bool) (m : ℕ) (b : Body O) (k : Option Kept) (x : O.Request) → (alive O (asked O h m b k x) ≡ true) × (Right O (asked O h m b k x) → O.asks b.user ≡ Some x)
  asked_alive true m b k x = (refl, λ z. z)
  asked_alive false m b k x = (refl, λ z. z)

  -- a child that is born lives
  pub born_plain : (what : Deed) (n : ℕ) (s : Spot O) (c : ℕ) → child_of what ≡ Some c → (Right O (born_spot O what n s c)) × (true ≡ alive O (born_spot O what n s c))
  born_plain (Run line i p) n s c e = absurd cc
  born_plain (Kill line p g poked) n s c e = absurd cc
  born_plain (Bid line p to) n s c e = absurd cc
  born_plain (Unsent line p never) n s c e = absurd cc
  born_plain (Other line input) n s c e = absurd cc
  born_plain (Steps p k) n s c e = absurd cc
  born_plain (Sent p k) n s c e = absurd cc
  born_plain (Heed p) n s c e = absurd cc
  born_plain (Held p k) n s c e = absurd cc
  born_plain (Served p manner number value child signal ends more poked) n s c e = (tt, refl)
  born_plain (Got p child ended kept) n s c e = (tt, refl)
  born_plain (Poked p used) n s c e = absurd cc
  born_plain (Begin p to reason) n s c e = absurd cc
  born_plain (Keep p to line) n s c e = absurd cc
  born_plain (Missed p to line) n s c e = absurd cc
  born_plain (Again p to place line) n s c e = absurd cc
  born_plain (Allows p from need) n s c e = absurd cc
  born_plain (Denies p from need free) n s c e = absurd cc
  born_plain (Depart p to) n s c e = absurd cc
  born_plain (Stay p to need free) n s c e = absurd cc
  born_plain (Land p source) n s c e = absurd cc
  born_plain (Told p at source hops line poked) n s c e = absurd cc
  born_plain (Refused p to why line) n s c e = absurd cc
  born_plain (Closed line) n s c e = absurd cc
  born_plain (Gossips heard other) n s c e = absurd cc
  born_plain (Strange p) n s c e = absurd cc

  few_acts : (m : Manner) (k : O.Kernel) (p : ℕ) (r : O.Request) (f : First O) (c : ℕ) → Acts O m k p r f → f.child ≡ Some c → lives_in O k < 64
  few_acts Did k p r f c (d, served, some, is) e = S.few_serve k p r d c served (ap (λ (x : First O). x.child) (sym is) ∙ e)
  few_acts Broke k p r f c (s, low, blocked, some, is) e = let z : None ≡ Some c = ap (λ (x : First O). x.child) (sym is) ∙ e in absurd cc
  few_acts Fell k p r f c (none, is) e = let z : None ≡ Some c = ap (λ (x : First O). x.child) (sym is) ∙ e in absurd cc
  few_acts Paused k p r f c a e = absurd a

  module _ (n : ℕ) (old new : Local O) (s r : Spot O) where
    -- a process is made only while there is room
    abbrev pub GrowsFew : Type 0
    GrowsFew = (O.count new.kernel ≡ O.count old.kernel) ⊎ ((n ≡ 0) × (O.count new.kernel ≡ O.count old.kernel + 1) × (lives_in O old.kernel < 64))

    call_few : (manner : Manner) (p : ℕ) (number : Option ℕ) (value : Option ℤ) (child signal : Option ℕ) (ends : Option End) (more : Bool) (poked : List ℕ) → ServedCall O n p manner number value child signal ends more poked old new s r → O.count new.kernel ≡ counted child (O.count old.kernel) → GrowsFew
    call_few manner p number value None signal ends more poked d e = inl e
    call_few manner p number value (Some c) signal ends more poked d e = inr (d.home, e, few_acts manner old.kernel p d.request d.first c d.acts (sym d.answers.child_is))

    so_few : (manner : Manner) (p : ℕ) (number : Option ℕ) (value : Option ℤ) (child signal : Option ℕ) (ends : Option End) (more : Bool) (poked : List ℕ) → ServedSo O manner n p number value child signal ends more poked old new s r → GrowsFew
    so_few Did p number value child signal ends more poked d = call_few Did p number value child signal ends more poked d (counts O S n old new s r (Served p Did number value child signal ends more poked) d)
    so_few Broke p number value child signal ends more poked d = call_few Broke p number value child signal ends more poked d (counts O S n old new s r (Served p Broke number value child signal ends more poked) d)
    so_few Fell p number value child signal ends more poked d = call_few Fell p number value child signal ends more poked d (counts O S n old new s r (Served p Fell number value child signal ends more poked) d)
    so_few Paused p number value child signal ends more poked d = inl (counts O S n old new s r (Served p Paused number value child signal ends more poked) d ∙ ap (λ (x : Option ℕ). counted x (O.count old.kernel)) d.answers.child_is)

    pub grows_few : (what : Deed) → Needs O what n old new s r → GrowsFew
    grows_few (Run line i p) d = inr (d.home, S.count_launch old.kernel new.kernel d.launched, S.few_launch old.kernel new.kernel d.launched)
    grows_few (Kill line p g poked) d = inl (ap O.count d.kernel ∙ S.count_raise old.kernel p g)
    grows_few (Bid line p to) d = inl (ap O.count d.kernel)
    grows_few (Unsent line p never) d = inl (ap O.count d.kernel)
    grows_few (Other line input) d = inl (ap O.count d.kernel ∙ count_typed O S input old.kernel)
    grows_few (Steps p x) d = inl (ap O.count d.kernel)
    grows_few (Sent p x) d = inl (ap O.count d.kernel)
    grows_few (Heed p) d = inl (ap O.count d.kernel)
    grows_few (Held p x) d = inl (ap O.count d.kernel)
    grows_few (Served p manner number value child signal ends more poked) d = so_few manner p number value child signal ends more poked d
    grows_few (Got p child ended kept) d = inl (ap O.count d.kernel)
    grows_few (Poked p used) d = inl (ap O.count d.kernel)
    grows_few (Begin p to reason) d = inl (ap O.count d.kernel)
    grows_few (Keep p to line) d = inl (ap O.count d.kernel)
    grows_few (Missed p to line) d = inl (ap O.count d.kernel)
    grows_few (Again p to place line) d = inl (ap O.count d.kernel)
    grows_few (Allows p from need) d = inl (ap O.count d.kernel)
    grows_few (Denies p from need free) d = inl (ap O.count d.kernel)
    grows_few (Depart p to) d = inl (ap O.count d.kernel)
    grows_few (Stay p to need free) d = inl (ap O.count d.kernel)
    grows_few (Land p source) d = inl (ap O.count d.kernel)
    grows_few (Told p at source hops line poked) d = inl (ap O.count d.kernel)
    grows_few (Refused p to why line) d = inl (ap O.count d.kernel)
    grows_few (Closed line) d = inl (ap O.count d.kernel)
    grows_few (Gossips heard other) d = inl (ap O.count d.kernel)
    grows_few (Strange p) d = absurd d

    -- one that is served lived
    so_dead : (manner : Manner) (p : ℕ) (number : Option ℕ) (value : Option ℤ) (child signal : Option ℕ) (ends : Option End) (more : Bool) (poked : List ℕ) → ServedSo O manner n p number value child signal ends more poked old new s r → alive O s ≡ false → ⊥
    so_dead Did p number value child signal ends more poked d e = let z : true ≡ false = sym (ap (alive O) d.was ∙ (asked_alive d.held d.from d.body d.kept d.request).0) ∙ e in cc
    so_dead Broke p number value child signal ends more poked d e = let z : true ≡ false = sym (ap (alive O) d.was ∙ (asked_alive d.held d.from d.body d.kept d.request).0) ∙ e in cc
    so_dead Fell p number value child signal ends more poked d e = let z : true ≡ false = sym (ap (alive O) d.was ∙ (asked_alive d.held d.from d.body d.kept d.request).0) ∙ e in cc
    so_dead Paused p number value child signal ends more poked d e = let z : true ≡ false = sym (ap (alive O) d.was) ∙ e in cc

    -- no event but its launch makes a process live
    pub last_alive : (what : Deed) → Needs O what n old new s r → (alive O s ≡ false → alive O r ≡ false) ⊎ (pid_of what ≡ O.count old.kernel + 1)
    last_alive (Run line i p) d = inr d.next
    last_alive (Kill line p g poked) d = inl (λ e. ap (alive O) d.now ∙ e)
    last_alive (Bid line p to) d = inl (λ e. ap (alive O) d.is.now ∙ e)
    last_alive (Unsent line p never) d = inl (λ e. ap (alive O) d.is.now ∙ e)
    last_alive (Other line input) d = inl (λ e. ap (alive O) d.now ∙ e)
    last_alive (Steps p x) d = inl (λ e. (let z : true ≡ false = sym (ap (alive O) d.is.was) ∙ e in cc))
    last_alive (Sent p x) d = inl (λ e. (let z : true ≡ false = sym (ap (alive O) d.is.was) ∙ e in cc))
    last_alive (Heed p) d = inl (λ e. (let z : true ≡ false = sym (ap (alive O) d.is.was) ∙ e in cc))
    last_alive (Held p x) d = inl (λ e. (let z : true ≡ false = sym (ap (alive O) d.is.was) ∙ e in cc))
    last_alive (Served p manner number value child signal ends more poked) d = inl (λ e. absurd (so_dead manner p number value child signal ends more poked d e))
    last_alive (Got p child ended kept) d = inl (λ e. ap (alive O) d.is.now ∙ ((got_alive n d.is.body d.is.keeps d.is.done).0 ∙ (sym (ap (alive O) d.is.was) ∙ e)))
    last_alive (Poked p true) d = inl (λ e. ap (alive O) d.is.now ∙ ((mark_alive s).0 ∙ e))
    last_alive (Poked p false) d = inl (λ e. ap (alive O) d.is.now ∙ e)
    last_alive (Begin p to reason) d = inl (λ e. (let z : true ≡ false = sym (ap (alive O) d.is.was) ∙ e in cc))
    last_alive (Keep p to line) d = inl (λ e. ap (alive O) d.is.now ∙ ((keep_alive (record { to = to; line = line }) s).0 ∙ e))
    last_alive (Missed p to line) d = inl (λ e. ap (alive O) d.is.now ∙ e)
    last_alive (Again p to place line) d = inl (λ e. ap (alive O) d.is.now ∙ e)
    last_alive (Allows p from need) d = inl (λ e. (let z : true ≡ false = sym (ap (alive O) d.is.was) ∙ e in cc))
    last_alive (Denies p from need free) d = inl (λ e. (let z : true ≡ false = sym (ap (alive O) d.is.was) ∙ e in cc))
    last_alive (Depart p to) d = inl (λ e. (let z : true ≡ false = sym (ap (alive O) d.is.was) ∙ e in cc))
    last_alive (Stay p to need free) d = inl (λ e. (let z : true ≡ false = sym (ap (alive O) d.is.was) ∙ e in cc))
    last_alive (Land p source) d = inl (λ e. (let z : true ≡ false = sym (ap (alive O) d.is.was) ∙ e in cc))
    last_alive (Told p at source hops line poked) d = inl (λ e. ap (alive O) d.is.now ∙ e)
    last_alive (Refused p to why line) d = inl (λ e. ap (alive O) d.is.now ∙ e)
    last_alive (Closed line) d = inl (λ e. ap (alive O) d.is.now ∙ e)
    last_alive (Gossips heard other) d = inl (λ e. ap (alive O) d.is.now ∙ e)
    last_alive (Strange p) d = absurd d

  module _ (n : ℕ) (old new : Local O) (s r : Spot O) (k k2 : O.Kernel) (home : n ≡ 0 → (old.kernel ≡ k) × (new.kernel ≡ k2)) (same : new.kernel ≡ old.kernel → k2 ≡ k) where
    none_child : (c : ℕ) (A : Type 0) → None ≡ Some c → A
    none_child c A e = absurd cc

    -- an event that leaves the kernel
    still_lives : (what : Deed) → new.kernel ≡ old.kernel → O.live k (pid_of what) ≡ alive O s → alive O r ≡ alive O s → Right O r → ((c : ℕ) → child_of what ≡ Some c → O.live k c ≡ true) → LivesAt what k k2 r
    still_lives what e live now right child = record {
      right = right;
      own = ap (λ (x : O.Kernel). O.live x (pid_of what)) (same e) ∙ (live ∙ sym now);
      child = λ c h. ap (λ (x : O.Kernel). O.live x c) (same e) ∙ child c h;
      others = λ q ne h. ap (λ (x : O.Kernel). O.live x q) (same e);
    }

    ran_lives : (what : Deed) → child_of what ≡ None → new.kernel ≡ old.kernel → O.live k (pid_of what) ≡ alive O s → (a b : Spot O) → s ≡ a → r ≡ b → alive O b ≡ alive O a → Right O b → LivesAt what k k2 r
    ran_lives what none e live a b was now f right = still_lives what e live (ap (alive O) now ∙ (f ∙ sym (ap (alive O) was))) (subst (Right O) (sym now) right) (λ c h. none_child c _ (sym none ∙ h))

    loose_lives : (what : Deed) → child_of what ≡ None → new.kernel ≡ old.kernel → O.live k (pid_of what) ≡ alive O s → r ≡ s → Right O s → LivesAt what k k2 r
    loose_lives what none e live now right = ran_lives what none e live s s refl now refl right

    -- one that changes the kernel, and no process's life
    input_lives : (what : Deed) (x : O.Kernel) → child_of what ≡ None → x ≡ k2 → ((q : ℕ) → O.live x q ≡ O.live k q) → O.live k (pid_of what) ≡ alive O s → r ≡ s → Right O s → LivesAt what k k2 r
    input_lives what x none e lives live now right = record {
      right = subst (Right O) (sym now) right;
      own = ap (λ (y : O.Kernel). O.live y (pid_of what)) (sym e) ∙ (lives (pid_of what) ∙ (live ∙ sym (ap (alive O) now)));
      child = λ c h. none_child c _ (sym none ∙ h);
      others = λ q ne h. ap (λ (y : O.Kernel). O.live y q) (sym e) ∙ lives q;
    }

    served_lives : (manner : Manner) (p : ℕ) (number : Option ℕ) (value : Option ℤ) (child signal : Option ℕ) (ends : Option End) (more : Bool) (poked : List ℕ) → ServedCall O n p manner number value child signal ends more poked old new s r → ((c : ℕ) → child ≡ Some c → c ≢ p) → O.live k p ≡ alive O s → Right O s → LivesAt (Served p manner number value child signal ends more poked) k k2 r
    served_lives manner p number value child signal ends more poked d apart live right =
        let h = home d.home in
        let room = O.room_of d.request in
        let asks : O.asks d.body.user ≡ Some d.request = (asked_alive d.held d.from d.body d.kept d.request).1 (subst (Right O) d.was right) in
        let acts : Acts O manner k p d.request d.first = subst (λ (x : O.Kernel). Acts O manner x p d.request d.first) h.0 d.acts in
        let kernel : k2 ≡ (last O d.first.kernel p room).kernel = sym h.1 ∙ d.answers.kernel in
        record {
          right = subst (Right O) (sym d.now) (fits_acts manner k p d.body.user d.request d.first asks (live ∙ (ap (alive O) d.was ∙ (asked_alive d.held d.from d.body d.kept d.request).0)) acts);
          own = ap (λ (x : O.Kernel). O.live x p) kernel ∙ (twice (O.live (last O d.first.kernel p room).kernel p) ∙ sym (ap (alive O) d.now));
          child = λ c e. ap (λ (x : O.Kernel). O.live x c) kernel ∙ (live_last d.first.kernel p room c (apart c e) ∙ live_born manner k p d.request d.first c acts (sym d.answers.child_is ∙ e));
          others = λ q ne e. ap (λ (x : O.Kernel). O.live x q) kernel ∙ (live_last d.first.kernel p room q ne ∙ live_acts manner k p d.request d.first q acts ne (ap (λ (o : Option ℕ). is_child o q) (sym d.answers.child_is) ∙ e));
        }

    paused_lives : (p : ℕ) (number : Option ℕ) (value : Option ℤ) (child signal : Option ℕ) (ends : Option End) (more : Bool) (poked : List ℕ) → ServedPause O n p number value child signal ends more poked old new s r → Right O s → LivesAt (Served p Paused number value child signal ends more poked) k k2 r
    paused_lives p number value child signal ends more poked d right =
        let h = home d.home in
        let kernel : k2 ≡ (last O old.kernel p d.room).kernel = sym h.1 ∙ d.answers.kernel in
        let none : child ≡ None = d.answers.child_is in
        record {
          right = subst (Right O) (sym d.now) (fits_last old.kernel p d.room d.body.user (λ s e. ap (O.take old.kernel p) (subst (Right O) d.was right)));
          own = ap (λ (x : O.Kernel). O.live x p) kernel ∙ (twice (O.live (last O old.kernel p d.room).kernel p) ∙ sym (ap (alive O) d.now));
          child = λ c e. none_child c _ (sym none ∙ e);
          others = λ q ne e. ap (λ (x : O.Kernel). O.live x q) kernel ∙ (live_last old.kernel p d.room q ne ∙ ap (λ (x : O.Kernel). O.live x q) h.0);
        }

    so_lives : (manner : Manner) (p : ℕ) (number : Option ℕ) (value : Option ℤ) (child signal : Option ℕ) (ends : Option End) (more : Bool) (poked : List ℕ) → ServedSo O manner n p number value child signal ends more poked old new s r → ((c : ℕ) → child ≡ Some c → c ≢ p) → O.live k p ≡ alive O s → Right O s → LivesAt (Served p manner number value child signal ends more poked) k k2 r
    so_lives Did p number value child signal ends more poked d apart live right = served_lives Did p number value child signal ends more poked d apart live right
    so_lives Broke p number value child signal ends more poked d apart live right = served_lives Broke p number value child signal ends more poked d apart live right
    so_lives Fell p number value child signal ends more poked d apart live right = served_lives Fell p number value child signal ends more poked d apart live right
    so_lives Paused p number value child signal ends more poked d apart live right = paused_lives p number value child signal ends more poked d right

    pub lives_at : (what : Deed) → Needs O what n old new s r → ((c : ℕ) → child_of what ≡ Some c → c ≢ pid_of what) → ((c : ℕ) → brings O s ≡ Some c → O.live k c ≡ true) → O.live k (pid_of what) ≡ alive O s → Right O s → LivesAt what k k2 r
    lives_at (Run line i p) d apart kid live right =
        let h = home d.home in
        let launch : O.launch k ≡ Some k2 = ap O.launch (sym h.0) ∙ (d.launched ∙ ap (λ (x : O.Kernel). Some x) h.1) in
        let next : p ≡ O.count k + 1 = d.next ∙ ap (λ (x : O.Kernel). O.count x + 1) h.0 in
        record {
          right = subst (Right O) (sym d.now) tt;
          own = ap (O.live k2) next ∙ (S.live_new k k2 launch ∙ sym (ap (alive O) d.now));
          child = λ c e. absurd cc;
          others = λ q ne e. S.live_launch k k2 q launch (λ z. ne (z ∙ sym next));
        }
    lives_at (Kill line p g poked) d apart kid live right = input_lives (Kill line p g poked) (O.raise k p g) refl (ap (λ (x : O.Kernel). O.raise x p g) (sym (home d.home).0) ∙ (sym d.kernel ∙ (home d.home).1)) (λ q. S.live_raise k p g q) live d.now right
    lives_at (Bid line p to) d apart kid live right = loose_lives (Bid line p to) refl d.kernel live d.is.now right
    lives_at (Unsent line p never) d apart kid live right = loose_lives (Unsent line p never) refl d.kernel live d.is.now right
    lives_at (Other line input) d apart kid live right = input_lives (Other line input) (typed O input k) refl (ap (λ (x : O.Kernel). typed O input x) (sym (home d.home).0) ∙ (sym d.kernel ∙ (home d.home).1)) (λ q. live_typed input k q) live d.now right
    lives_at (Steps p x) d apart kid live right = ran_lives (Steps p x) refl d.kernel live _ _ d.is.was d.is.now refl tt
    lives_at (Sent p x) d apart kid live right = ran_lives (Sent p x) refl d.kernel live _ _ d.is.was d.is.now refl d.is.asks
    lives_at (Heed p) d apart kid live right = ran_lives (Heed p) refl d.kernel live _ _ d.is.was d.is.now refl refl
    lives_at (Held p x) d apart kid live right = ran_lives (Held p x) refl d.kernel live _ _ d.is.was d.is.now refl (subst (Right O) d.is.was right)
    lives_at (Served p manner number value child signal ends more poked) d apart kid live right = so_lives manner p number value child signal ends more poked d apart live right
    lives_at (Got p child ended kept) d apart kid live right =
        let g = got_alive n d.is.body d.is.keeps d.is.done in
        let b : (brings O s ≡ child) = ap (brings O) d.is.was ∙ sym d.is.child_is in
        still_lives (Got p child ended kept) d.kernel live (ap (alive O) d.is.now ∙ (g.0 ∙ sym (ap (alive O) d.is.was))) (subst (Right O) (sym d.is.now) g.1) (λ c e. kid c (b ∙ e))
    lives_at (Poked p true) d apart kid live right = still_lives (Poked p true) d.kernel live (ap (alive O) d.is.now ∙ (mark_alive s).0) (subst (Right O) (sym d.is.now) ((mark_alive s).1 right)) (λ c h. none_child c _ h)
    lives_at (Poked p false) d apart kid live right = loose_lives (Poked p false) refl d.kernel live d.is.now right
    lives_at (Begin p to reason) d apart kid live right = ran_lives (Begin p to reason) refl d.kernel live _ _ d.is.was d.is.now refl refl
    lives_at (Keep p to line) d apart kid live right =
        let x = keep_alive (record { to = to; line = line }) s in
        still_lives (Keep p to line) d.kernel live (ap (alive O) d.is.now ∙ x.0) (subst (Right O) (sym d.is.now) (x.1 right)) (λ c h. none_child c _ h)
    lives_at (Missed p to line) d apart kid live right = loose_lives (Missed p to line) refl d.kernel live d.is.now right
    lives_at (Again p to place line) d apart kid live right = loose_lives (Again p to place line) refl d.kernel live d.is.now right
    lives_at (Allows p from need) d apart kid live right = ran_lives (Allows p from need) refl d.kernel live _ _ d.is.was d.is.now refl (subst (Right O) d.is.was right)
    lives_at (Denies p from need free) d apart kid live right = ran_lives (Denies p from need free) refl d.kernel live _ _ d.is.was d.is.now refl (subst (Right O) d.is.was right)
    lives_at (Depart p to) d apart kid live right = ran_lives (Depart p to) refl d.kernel live _ _ d.is.was d.is.now refl (subst (Right O) d.is.was right)
    lives_at (Stay p to need free) d apart kid live right = ran_lives (Stay p to need free) refl d.kernel live _ _ d.is.was d.is.now refl tt
    lives_at (Land p source) d apart kid live right = ran_lives (Land p source) refl d.kernel live _ _ d.is.was d.is.now refl tt
    lives_at (Told p at source hops line poked) d apart kid live right = loose_lives (Told p at source hops line poked) refl d.kernel live d.is.now right
    lives_at (Refused p to why line) d apart kid live right = loose_lives (Refused p to why line) refl d.kernel live d.is.now right
    lives_at (Closed line) d apart kid live right = loose_lives (Closed line) refl d.kernel live d.is.now right
    lives_at (Gossips heard other) d apart kid live right = loose_lives (Gossips heard other) refl d.kernel live d.is.now right
    lives_at (Strange p) d apart kid live right = absurd d
