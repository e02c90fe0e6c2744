-- What stays true of a process while it waits: its user state is the machine's as of its `sent` or `heed`, a kept move is of its line, and a held call is no fault.
use Rattle.std.proofs.Common.{◌≡◌, ◌≢◌, ℕ, Bool, true, false, cond, Option, Some, None, List, [], ◌∷◌, refl, sym, ap, ◌∙◌, subst}
use Rattle.std.specs.Prelude.{ℤ}
use Rattle.call_table.specs.declared.process.End.{End}
use Rattle.protocol.specs.Ops.{Ops, Sound, IsMove}
use Rattle.protocol.specs.Deeds.{Manner, Did, Broke, Fell, Paused, Deed, Run, Kill, Bid, Unsent, Other, Steps, Sent, Heed, Held, Served, Got, Poked, Begin, Keep, Missed, Again, Allows, Denies, Depart, Stay, Land, Told, Refused, Closed, Gossips, Strange, Noted, pid_of, child_of}
use Rattle.protocol.specs.Notes.{Done, Turn, Body, Kept, Local}
use Rattle.protocol.specs.Spots.{Spot, Nowhere, Runs, Calls, Holds, Pauses, Answered, Asks, Granted, Denied, Travels, InReply, Ended}
use Rattle.protocol.specs.Home.{returned, after, done_of, last}
use Rattle.protocol.specs.Cluster.{World, events}
use Rattle.protocol.specs.Needs.{Names, Needs, ServedSo, ServedCall, got_spot, asked, mark, keep_in, born_spot}
use Rattle.protocol.proofs.Talk.{same_numbers, other_numbers}
use Rattle.protocol.proofs.Coupling.{Part, Own, Child, Rest, part, at_own, at_child, at_rest}
use Rattle.protocol.proofs.Stand.{Path, names_at}
use Rattle.run_laws.specs.Owned.{stops, as_of_stop, HasUser}
use Rattle.run_laws.proofs.Plays.{at_replay, with_some}
use Rattle.run_laws.proofs.Replay.{user_of}
use Rattle.run_laws.proofs.Played.{path_played}

-- another process does not begin to wait
stops_other : (q : ℕ) (what : Deed) → q ≢ pid_of what → stops q what ≡ false
stops_other q (Run line i p) ne = refl
stops_other q (Kill line p g poked) ne = refl
stops_other q (Bid line p to) ne = refl
stops_other q (Unsent line p never) ne = refl
stops_other q (Other line input) ne = refl
stops_other q (Steps p k) ne = refl
stops_other q (Sent p k) ne = other_numbers q p ne
stops_other q (Heed p) ne = other_numbers q p ne
stops_other q (Held p k) ne = refl
stops_other q (Served p manner number value child signal ends more poked) ne = refl
stops_other q (Got p child ended kept) ne = refl
stops_other q (Poked p used) ne = refl
stops_other q (Begin p to reason) ne = refl
stops_other q (Keep p to line) ne = refl
stops_other q (Missed p to line) ne = refl
stops_other q (Again p to place line) ne = refl
stops_other q (Allows p from need) ne = refl
stops_other q (Denies p from need free) ne = refl
stops_other q (Depart p to) ne = refl
stops_other q (Stay p to need free) ne = refl
stops_other q (Land p source) ne = refl
stops_other q (Told p at source hops line poked) ne = refl
stops_other q (Refused p to why line) ne = refl
stops_other q (Closed line) ne = refl
stops_other q (Gossips heard other) ne = refl
stops_other q (Strange p) ne = refl

module _ (O : Ops) (S : Sound O) where
  -- a kept move is that of its line
  abbrev pub KeptFor : ℕ → Option Kept → Type 0
  KeptFor p None = Unit {0}
  KeptFor p (Some k) = IsMove O k.line p k.to

  abbrev pub Sleeps : ℕ → (O.User → Type 0) → Spot O → Type 0
  Sleeps p P Nowhere = Unit {0}
  Sleeps p P (Runs m b) = Unit {0}
  Sleeps p P (Calls m b k r) = P b.user × KeptFor p k
  Sleeps p P (Holds m b k r) = P b.user × KeptFor p k × (O.number r ≢ 0)
  Sleeps p P (Pauses m b k r) = P b.user × KeptFor p k
  Sleeps p P (Answered m b k d x y) = P b.user × KeptFor p k
  Sleeps p P (Asks m b to l need) = Unit {0}
  Sleeps p P (Granted m b to l need) = Unit {0}
  Sleeps p P (Denied m b to l need free) = Unit {0}
  Sleeps p P (Travels a c b l need) = Unit {0}
  Sleeps p P (InReply q u) = Unit {0}
  Sleeps p P (Ended u) = Unit {0}

  mark_sleeps : (p : ℕ) (P : O.User → Type 0) (s : Spot O) → Sleeps p P s → Sleeps p P (mark O s)
  mark_sleeps p P Nowhere x = x
  mark_sleeps p P (Runs m b) x = x
  mark_sleeps p P (Calls m b k r) x = x
  mark_sleeps p P (Holds m b k r) x = x
  mark_sleeps p P (Pauses m b k r) x = x
  mark_sleeps p P (Answered m b k d z y) x = x
  mark_sleeps p P (Asks m b to l need) x = x
  mark_sleeps p P (Granted m b to l need) x = x
  mark_sleeps p P (Denied m b to l need free) x = x
  mark_sleeps p P (Travels a c b l need) x = x
  mark_sleeps p P (InReply q u) x = x
  mark_sleeps p P (Ended u) x = x

  keep_sleeps : (p : ℕ) (P : O.User → Type 0) (k : Kept) (s : Spot O) → IsMove O k.line p k.to → Sleeps p P s → Sleeps p P (keep_in O k s)
  keep_sleeps p P k Nowhere is x = x
  keep_sleeps p P k (Runs m b) is x = x
  keep_sleeps p P k (Calls m b j r) is x = (x.0, is)
  keep_sleeps p P k (Holds m b j r) is x = (x.0, is, x.2)
  keep_sleeps p P k (Pauses m b j r) is x = (x.0, is)
  keep_sleeps p P k (Answered m b j d z y) is x = (x.0, is)
  keep_sleeps p P k (Asks m b to l need) is x = x
  keep_sleeps p P k (Granted m b to l need) is x = x
  keep_sleeps p P k (Denied m b to l need free) is x = x
  keep_sleeps p P k (Travels a c b l need) is x = x
  keep_sleeps p P k (InReply q u) is x = x
  keep_sleeps p P k (Ended u) is x = x

  asked_sleeps : (p : ℕ) (P : O.User → Type 0) (held : Bool) (m : ℕ) (b : Body O) (k : Option Kept) (q : O.Request) (d : Done O) → Sleeps p P (asked O held m b k q) → Sleeps p P (Answered m b k d false held)
  asked_sleeps p P true m b k q d x = (x.0, x.1)
  asked_sleeps p P false m b k q d x = x

  got_sleeps : (p : ℕ) (P : O.User → Type 0) (n : ℕ) (b : Body O) (k : Option Kept) (d : Done O) → Sleeps p P (got_spot O n b k d)
  got_sleeps p P n b None d = go d.ended
    where
      go : (e : Bool) → Sleeps p P (cond e (Ended (after O b.user d)) (Runs n (returned O b d)))
      go true = tt
      go false = tt
  got_sleeps p P n b (Some k) d = go d.ended
    where
      go : (e : Bool) → Sleeps p P (cond e (Ended (after O b.user d)) (Asks n (returned O b d) k.to (Some k.line) (O.pages (after O b.user d))))
      go true = tt
      go false = tt

  module _ (n : ℕ) (old new : Local O) (s r : Spot O) (P : O.User → Type 0) where
    by : (p : ℕ) (a b : Spot O) → s ≡ a → r ≡ b → (Sleeps p P a → Sleeps p P b) → Sleeps p P s → Sleeps p P r
    by p a b e f g x = subst (Sleeps p P) (sym f) (g (subst (Sleeps p P) e x))

    call_sleeps : (manner : Manner) (p : ℕ) (number : Option ℕ) (value : Option ℤ) (child signal : Option ℕ) (ends : Option End) (more : Bool) (poked : List ℕ) → ServedCall O n p manner number value child signal ends more poked old new s r → Sleeps p P s → Sleeps p P r
    call_sleeps manner p number value child signal ends more poked d x = by p _ _ d.was d.now (asked_sleeps p P d.held d.from d.body d.kept d.request (done_of O p d.first (last O d.first.kernel p (O.room_of d.request)))) x

    so_sleeps : (manner : Manner) (p : ℕ) (number : Option ℕ) (value : Option ℤ) (child signal : Option ℕ) (ends : Option End) (more : Bool) (poked : List ℕ) → ServedSo O manner n p number value child signal ends more poked old new s r → Sleeps p P s → Sleeps p P r
    so_sleeps Did p number value child signal ends more poked d x = call_sleeps Did p number value child signal ends more poked d x
    so_sleeps Broke p number value child signal ends more poked d x = call_sleeps Broke p number value child signal ends more poked d x
    so_sleeps Fell p number value child signal ends more poked d x = call_sleeps Fell p number value child signal ends more poked d x
    so_sleeps Paused p number value child signal ends more poked d x = by p _ _ d.was d.now (λ z. z) x

    -- an event of a process that does not begin to wait
    own_sleeps : (what : Deed) → stops (pid_of what) what ≡ false → Needs O what n old new s r → Names O what → Sleeps (pid_of what) P s → Sleeps (pid_of what) P r
    own_sleeps (Run line i p) e d is x = by p _ _ d.was d.now (λ z. tt) x
    own_sleeps (Kill line p g poked) e d is x = by p _ _ refl d.now (λ z. z) x
    own_sleeps (Bid line p to) e d is x = by p _ _ refl d.is.now (λ z. z) x
    own_sleeps (Unsent line p never) e d is x = by p _ _ refl d.is.now (λ z. z) x
    own_sleeps (Other line input) e d is x = by 0 _ _ refl d.now (λ z. z) x
    own_sleeps (Steps p k) e d is x = by p _ _ d.is.was d.is.now (λ z. tt) x
    own_sleeps (Sent p k) e d is x = (let z : true ≡ false = sym (same_numbers p p refl) ∙ e in absurd cc)
    own_sleeps (Heed p) e d is x = (let z : true ≡ false = sym (same_numbers p p refl) ∙ e in absurd cc)
    own_sleeps (Held p k) e d is x = by p _ _ d.is.was d.is.now (λ z. (z.0, z.1, d.is.some)) x
    own_sleeps (Served p manner number value child signal ends more poked) e d is x = so_sleeps manner p number value child signal ends more poked d x
    own_sleeps (Got p child ended kept) e d is x = by p _ _ d.is.was d.is.now (λ z. got_sleeps p P n d.is.body d.is.keeps d.is.done) x
    own_sleeps (Poked p true) e d is x = subst (Sleeps p P) (sym d.is.now) (mark_sleeps p P s x)
    own_sleeps (Poked p false) e d is x = by p _ _ refl d.is.now (λ z. z) x
    own_sleeps (Begin p to reason) e d is x = by p _ _ d.is.was d.is.now (λ z. tt) x
    own_sleeps (Keep p to line) e d is x = subst (Sleeps p P) (sym d.is.now) (keep_sleeps p P (record { to = to; line = line }) s is x)
    own_sleeps (Missed p to line) e d is x = by p _ _ refl d.is.now (λ z. z) x
    own_sleeps (Again p to place line) e d is x = by p _ _ refl d.is.now (λ z. z) x
    own_sleeps (Allows p from need) e d is x = by p _ _ d.is.was d.is.now (λ z. tt) x
    own_sleeps (Denies p from need free) e d is x = by p _ _ d.is.was d.is.now (λ z. tt) x
    own_sleeps (Depart p to) e d is x = by p _ _ d.is.was d.is.now (λ z. tt) x
    own_sleeps (Stay p to need free) e d is x = by p _ _ d.is.was d.is.now (λ z. tt) x
    own_sleeps (Land p source) e d is x = by p _ _ d.is.was d.is.now (λ z. tt) x
    own_sleeps (Told p at source hops line poked) e d is x = by p _ _ refl d.is.now (λ z. z) x
    own_sleeps (Refused p to why line) e d is x = by p _ _ refl d.is.now (λ z. z) x
    own_sleeps (Closed line) e d is x = by 0 _ _ refl d.is.now (λ z. z) x
    own_sleeps (Gossips heard other) e d is x = by 0 _ _ refl d.is.now (λ z. z) x
    own_sleeps (Strange p) e d is x = absurd d

    -- and one of a process that does
    stop_sleeps : (what : Deed) → stops (pid_of what) what ≡ true → Needs O what n old new s r → ((u : O.User) → user_of O S r ≡ Some u → P u) → Sleeps (pid_of what) P r
    stop_sleeps (Sent p k) e d put = subst (Sleeps p P) (sym d.is.now) (put d.is.body.user (ap (user_of O S) d.is.now), tt)
    stop_sleeps (Heed p) e d put = subst (Sleeps p P) (sym d.is.now) (put d.is.body.user (ap (user_of O S) d.is.now), tt)
    stop_sleeps (Run line i p) e d put = absurd cc
    stop_sleeps (Kill line p g poked) e d put = absurd cc
    stop_sleeps (Bid line p to) e d put = absurd cc
    stop_sleeps (Unsent line p never) e d put = absurd cc
    stop_sleeps (Other line input) e d put = absurd cc
    stop_sleeps (Steps p k) e d put = absurd cc
    stop_sleeps (Held p k) e d put = absurd cc
    stop_sleeps (Served p manner number value child signal ends more poked) e d put = absurd cc
    stop_sleeps (Got p child ended kept) e d put = absurd cc
    stop_sleeps (Poked p used) e d put = absurd cc
    stop_sleeps (Begin p to reason) e d put = absurd cc
    stop_sleeps (Keep p to line) e d put = absurd cc
    stop_sleeps (Missed p to line) e d put = absurd cc
    stop_sleeps (Again p to place line) e d put = absurd cc
    stop_sleeps (Allows p from need) e d put = absurd cc
    stop_sleeps (Denies p from need free) e d put = absurd cc
    stop_sleeps (Depart p to) e d put = absurd cc
    stop_sleeps (Stay p to need free) e d put = absurd cc
    stop_sleeps (Land p source) e d put = absurd cc
    stop_sleeps (Told p at source hops line poked) e d put = absurd cc
    stop_sleeps (Refused p to why line) e d put = absurd cc
    stop_sleeps (Closed line) e d put = absurd cc
    stop_sleeps (Gossips heard other) e d put = absurd cc
    stop_sleeps (Strange p) e d put = absurd cc

  -- a child that is born does not wait
  born_sleeps : (P : O.User → Type 0) (q : ℕ) (what : Deed) (n : ℕ) (s : Spot O) (c : ℕ) → child_of what ≡ Some c → Sleeps q P (born_spot O what n s c)
  born_sleeps P q (Served p manner number value child signal ends more poked) n s c e = tt
  born_sleeps P q (Got p child ended kept) n s c e = tt
  born_sleeps P q (Run line i p) n s c e = absurd cc
  born_sleeps P q (Kill line p g poked) n s c e = absurd cc
  born_sleeps P q (Bid line p to) n s c e = absurd cc
  born_sleeps P q (Unsent line p never) n s c e = absurd cc
  born_sleeps P q (Other line input) n s c e = absurd cc
  born_sleeps P q (Steps p k) n s c e = absurd cc
  born_sleeps P q (Sent p k) n s c e = absurd cc
  born_sleeps P q (Heed p) n s c e = absurd cc
  born_sleeps P q (Held p k) n s c e = absurd cc
  born_sleeps P q (Poked p used) n s c e = absurd cc
  born_sleeps P q (Begin p to reason) n s c e = absurd cc
  born_sleeps P q (Keep p to line) n s c e = absurd cc
  born_sleeps P q (Missed p to line) n s c e = absurd cc
  born_sleeps P q (Again p to place line) n s c e = absurd cc
  born_sleeps P q (Allows p from need) n s c e = absurd cc
  born_sleeps P q (Denies p from need free) n s c e = absurd cc
  born_sleeps P q (Depart p to) n s c e = absurd cc
  born_sleeps P q (Stay p to need free) n s c e = absurd cc
  born_sleeps P q (Land p source) n s c e = absurd cc
  born_sleeps P q (Told p at source hops line poked) n s c e = absurd cc
  born_sleeps P q (Refused p to why line) n s c e = absurd cc
  born_sleeps P q (Closed line) n s c e = absurd cc
  born_sleeps P q (Gossips heard other) n s c e = absurd cc
  born_sleeps P q (Strange p) n s c e = absurd cc

  -- the machine has the user state that the spot tells
  pub user_now : (h : List (Turn O)) (sp : ℕ → Spot O) (w : World O) → Path O S h sp w → (q : ℕ) (u : O.User) → user_of O S (sp q) ≡ Some u → HasUser O (events O h) q u
  user_now h sp w r q u e =
      let b = path_played O S h sp w r in
      with_some _ b.machine _ (at_replay O (events O h) ∙ b.agrees.plays) (b.agrees.users q ∙ e)

  abbrev pub Since : List Noted → ℕ → O.User → Type 0
  Since es q u = HasUser O (as_of_stop q es) q u

  module _ (h : List (Turn O)) (t : Turn O) (v : World O) (sp : ℕ → Spot O) (r : Path O S (t ∷ h) sp v) (q : ℕ) (before : Sleeps q (Since (events O h) q) (r.1 q)) where
    since : (b : Bool) → stops q t.event.what ≡ b → (s : Spot O) → Sleeps q (λ u. HasUser O (cond b (t.event ∷ events O h) (as_of_stop q (events O h))) q u) s → Sleeps q (Since (t.event ∷ events O h) q) s
    since b e s x = subst (λ (k : Bool). Sleeps q (λ u. HasUser O (cond k (t.event ∷ events O h) (as_of_stop q (events O h))) q u) s) (sym e) x

    own_next : q ≡ pid_of t.event.what → (b : Bool) → stops q t.event.what ≡ b → Sleeps q (λ u. HasUser O (cond b (t.event ∷ events O h) (as_of_stop q (events O h))) q u) r.4.own
    own_next is true e = subst (λ (k : ℕ). Sleeps k (λ u. HasUser O (t.event ∷ events O h) q u) r.4.own) (sym is)
        (stop_sleeps t.event.node (r.0.nodes t.event.node) (v.nodes t.event.node) (r.1 (pid_of t.event.what)) r.4.own (λ u. HasUser O (t.event ∷ events O h) q u) t.event.what (ap (λ (k : ℕ). stops k t.event.what) (sym is) ∙ e) r.4.needs
        (λ u x. user_now (t ∷ h) sp v r q u (ap (user_of O S) (r.4.next_is q ∙ at_own O t.event.what t.event.node r.1 r.4.own q is) ∙ x)))
    own_next is false e = subst (λ (k : ℕ). Sleeps k (Since (events O h) q) r.4.own) (sym is)
        (own_sleeps t.event.node (r.0.nodes t.event.node) (v.nodes t.event.node) (r.1 (pid_of t.event.what)) r.4.own (Since (events O h) q) t.event.what (ap (λ (k : ℕ). stops k t.event.what) (sym is) ∙ e) r.4.needs (names_at O S r.0 t v r.4.goes r.1 r.3)
        (subst (λ (k : ℕ). Sleeps k (Since (events O h) q) (r.1 k)) is before))

    sleeps_next : Part O t.event.what t.event.node r.1 r.4.own q → Sleeps q (Since (t.event ∷ events O h) q) (sp q)
    sleeps_next (Own is) = subst (Sleeps q (Since (t.event ∷ events O h) q)) (sym (r.4.next_is q ∙ at_own O t.event.what t.event.node r.1 r.4.own q is)) (since (stops q t.event.what) refl r.4.own (own_next is (stops q t.event.what) refl))
    sleeps_next (Rest ne f) = subst (Sleeps q (Since (t.event ∷ events O h) q)) (sym (r.4.next_is q ∙ at_rest O t.event.what t.event.node r.1 r.4.own q ne f)) (since false (stops_other q t.event.what ne) (r.1 q) before)
    sleeps_next (Child c a e ne) = subst (Sleeps q (Since (t.event ∷ events O h) q)) (sym (r.4.next_is q ∙ at_child O t.event.what t.event.node r.1 r.4.own q c a e ne)) (born_sleeps (Since (t.event ∷ events O h) q) q t.event.what t.event.node (r.1 (pid_of t.event.what)) q (a ∙ ap (λ (k : ℕ). Some k) (sym e)))

  pub path_sleeps : (h : List (Turn O)) (sp : ℕ → Spot O) (w : World O) → Path O S h sp w → (q : ℕ) → Sleeps q (Since (events O h) q) (sp q)
  path_sleeps [] sp w r q = subst (Sleeps q (Since [] q)) (sym (r.1 q)) tt
  path_sleeps (t ∷ h) sp v r q = sleeps_next h t v sp r q (path_sleeps h r.1 r.0 r.2 q) (part O t.event.what t.event.node r.1 r.4.own q)
