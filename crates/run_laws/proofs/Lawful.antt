-- The laws hold of every run.
use Rattle.std.proofs.Common.{◌≡◌, inl, inr, ◌<◌, ◌≢◌, ℕ, Bool, true, false, not, cond, Option, Some, None, List, [], ◌∷◌, ◌++◌, refl, sym, ap, ◌∙◌, subst}
use Rattle.std.specs.Prelude.{ℤ}
use Rattle.protocol.specs.Ops.{Ops, Sound}
use Rattle.protocol.specs.Deeds.{Manner, Did, Broke, Fell, Paused, KeptTold, Deed, Run, Kill, Bid, Unsent, Other, Steps, Sent, Heed, Held, Served, Got, Poked, Begin, Keep, Missed, Again, Allows, Denies, Depart, Stay, Land, Told, Refused, Closed, Gossips, Strange, pid_of, child_of}
use Rattle.protocol.specs.Notes.{Turn, Body, Kept, Local, Slot, is_some}
use Rattle.protocol.specs.Spots.{Spot, Nowhere, Runs, Calls, Holds, Pauses, Answered, Asks, Granted, Denied, Travels, InReply, Ended, call_at}
use Rattle.protocol.specs.Home.{First, last, last_by, Acts, unheld}
use Rattle.protocol.specs.Does.{kept_told}
use Rattle.protocol.specs.Cluster.{World}
use Rattle.protocol.specs.Needs.{Needs, ServedSo, ServedCall, asked, AwakeAt, AsleepAt, AwayFrom, FreeAt, alive, Right}
use Rattle.run_laws.specs.Machine.{MachineState}
use Rattle.protocol.specs.Cluster.{events}
use Rattle.run_laws.specs.Facts.{Place, Node, Facts, facts, is_held}
use Rattle.run_laws.specs.PlaceLaw.{PlaceAt}
use Rattle.run_laws.specs.FreezeLaw.{FreezeAt, kept_target, KeptWord}
use Rattle.run_laws.specs.HeedLaw.{HeedAt}
use Rattle.run_laws.specs.OnceLaw.{FellFor, Requests, OnceAt}
use Rattle.run_laws.specs.SignalLaw.{SignalAt}
use Rattle.run_laws.specs.PokeLaw.{PokeAt, in_order, to_wake}
use Rattle.run_laws.specs.SilentLaw.{SilentAt, SilentLaw}
use Rattle.run_laws.proofs.Silent.{silent_law}
use Rattle.run_laws.proofs.Poking.{wakes, wakes_any, call_raised, pause_raised}
use Rattle.protocol.proofs.Alive.{asked_alive}
use Rattle.std.proofs.lemmas.List.{append-nil}
use Rattle.run_laws.specs.ScriptLaw.{ScriptAt}
use Rattle.run_laws.specs.NewsLaw.{NewsLaw}
use Rattle.run_laws.proofs.Again.{path_again}
use Rattle.run_laws.specs.Lawful.{Lawful}
use Rattle.run_laws.specs.Machine.{machine_steps, listed, raised_in, raised_by, Raise}
use Rattle.run_laws.specs.Schedule.{call_step, take_step, machine_at, With, told_so, told_by}
use Rattle.protocol.specs.Home.{NeverGiven}
use Rattle.run_laws.proofs.Plays.{at_replay, call_plays, with_some}
use Rattle.run_laws.proofs.Script.{script_next}
use Rattle.run_laws.proofs.Held.{held_same}
use Rattle.protocol.proofs.Coupling.{at_own}
use Rattle.run_laws.specs.OnePlace.{OnePlace, PlacedAt}
use Rattle.protocol.proofs.Talk.{same_numbers}
use Rattle.protocol.proofs.Stand.{Stands, Step, Path, child_apart}
use Rattle.run_laws.proofs.Facts.{kept_to, facts_of, path_tells}
use Rattle.run_laws.proofs.Replay.{user_of, first_plays}
use Rattle.run_laws.proofs.Played.{Agrees, path_played}
use Rattle.call_table.specs.declared.process.End.{End}
use Rattle.run_laws.specs.GossipLaw.{GossipLaw}
use Rattle.run_laws.specs.ChoiceLaw.{ChoiceLaw}
use Rattle.run_laws.proofs.GossipLaws.{path_gossip, path_choice}

node_same : (a b : ℕ) → Node a ∷ [] ≡ Node b ∷ [] → a ≡ b
node_same a b e = cc

module _ (O : Ops) (S : Sound O) where
  asked_in : (h : Bool) (m : ℕ) (b : Body O) (k : Option Kept) (x : O.Request) → ((facts_of O S (asked O h m b k x)).waits ≡ true) × ((facts_of O S (asked O h m b k x)).paused ≡ false) × ((facts_of O S (asked O h m b k x)).served ≡ 0) × (user_of O S (asked O h m b k x) ≡ Some b.user) × (Right O (asked O h m b k x) → O.asks b.user ≡ Some x)
  asked_in true m b k x = (refl, refl, refl, refl, λ z. z)
  asked_in false m b k x = (refl, refl, refl, refl, λ z. z)

  away_places : (n : ℕ) (s : Spot O) → AwayFrom O n s → (facts_of O S s).places ≢ Node n ∷ []
  away_places n Nowhere a e = cc
  away_places n (Runs m b) a e = a (node_same m n e)
  away_places n (Calls m b k r) a e = a (node_same m n e)
  away_places n (Holds m b k r) a e = a (node_same m n e)
  away_places n (Pauses m b k r) a e = a (node_same m n e)
  away_places n (Answered m b k d x y) a e = a (node_same m n e)
  away_places n (Asks m b to l need) a e = a (node_same m n e)
  away_places n (Granted m b to l need) a e = a (node_same m n e)
  away_places n (Denied m b to l need free) a e = a (node_same m n e)
  away_places n (Travels z c b l need) a e = cc
  away_places n (InReply q u) a e = cc
  away_places n (Ended u) a e = cc

  awake_places : (n : ℕ) (s : Spot O) → AwakeAt O n s → ((facts_of O S s).places ≡ Node n ∷ []) × ((facts_of O S s).waits ≡ false)
  awake_places n Nowhere a = absurd a
  awake_places n (Runs m b) a = (ap (λ (k : ℕ). Node k ∷ []) a, refl)
  awake_places n (Calls m b k r) a = absurd a
  awake_places n (Holds m b k r) a = absurd a
  awake_places n (Pauses m b k r) a = absurd a
  awake_places n (Answered m b k d x y) a = absurd a
  awake_places n (Asks m b to l need) a = (ap (λ (k : ℕ). Node k ∷ []) a, refl)
  awake_places n (Granted m b to l need) a = (ap (λ (k : ℕ). Node k ∷ []) a, refl)
  awake_places n (Denied m b to l need free) a = (ap (λ (k : ℕ). Node k ∷ []) a, refl)
  awake_places n (Travels z c b l need) a = absurd a
  awake_places n (InReply q u) a = absurd a
  awake_places n (Ended u) a = absurd a

  asleep_places : (n : ℕ) (s : Spot O) → AsleepAt O n s → (facts_of O S s).places ≡ Node n ∷ [] → (facts_of O S s).waits ≡ false → ⊥
  asleep_places n Nowhere a e f = cc
  asleep_places n (Runs m b) a e f = a (node_same m n e)
  asleep_places n (Calls m b k r) a e f = cc
  asleep_places n (Holds m b k r) a e f = cc
  asleep_places n (Pauses m b k r) a e f = cc
  asleep_places n (Answered m b k d x y) a e f = cc
  asleep_places n (Asks m b to l need) a e f = a (node_same m n e)
  asleep_places n (Granted m b to l need) a e f = a (node_same m n e)
  asleep_places n (Denied m b to l need free) a e f = a (node_same m n e)
  asleep_places n (Travels z c b l need) a e f = cc
  asleep_places n (InReply q u) a e f = cc
  asleep_places n (Ended u) a e f = cc

  free_waits : (n : ℕ) (s : Spot O) → FreeAt O n s → ((facts_of O S s).places ≡ Node n ∷ []) × ((facts_of O S s).waits ≡ true) × ((facts_of O S s).kept ≡ None)
  free_waits n Nowhere a = absurd a
  free_waits n (Runs m b) a = absurd a
  free_waits n (Calls m b k r) a = (ap (λ (k : ℕ). Node k ∷ []) a.0, refl, ap kept_to a.1)
  free_waits n (Holds m b k r) a = (ap (λ (k : ℕ). Node k ∷ []) a.0, refl, ap kept_to a.1)
  free_waits n (Pauses m b k r) a = (ap (λ (k : ℕ). Node k ∷ []) a.0, refl, ap kept_to a.1)
  free_waits n (Answered m b k d x y) a = (ap (λ (k : ℕ). Node k ∷ []) a.0, refl, ap kept_to a.1)
  free_waits n (Asks m b to l need) a = absurd a
  free_waits n (Granted m b to l need) a = absurd a
  free_waits n (Denied m b to l need free) a = absurd a
  free_waits n (Travels z c b l need) a = absurd a
  free_waits n (InReply q u) a = absurd a
  free_waits n (Ended u) a = absurd a

  -- the facts of the process before the event, by its spot
  module _ (n : ℕ) (old new : Local O) (s r : Spot O) (f : Facts) (tells : f ≡ facts_of O S s) where
    placed : (s2 : Spot O) → s ≡ s2 → f.places ≡ (facts_of O S s2).places
    placed s2 e = ap (λ (k : Facts). k.places) (tells ∙ ap (facts_of O S) e)

    waited : (s2 : Spot O) → s ≡ s2 → f.waits ≡ (facts_of O S s2).waits
    waited s2 e = ap (λ (k : Facts). k.waits) (tells ∙ ap (facts_of O S) e)

    asked_so : (s2 : Spot O) → s ≡ s2 → f.asks ≡ (facts_of O S s2).asks
    asked_so s2 e = ap (λ (k : Facts). k.asks) (tells ∙ ap (facts_of O S) e)

    owed : (s2 : Spot O) → s ≡ s2 → f.owes ≡ (facts_of O S s2).owes
    owed s2 e = ap (λ (k : Facts). k.owes) (tells ∙ ap (facts_of O S) e)

    so_home : (manner : Manner) (p : ℕ) (number : Option ℕ) (value : Option ℤ) (child signal : Option ℕ) (ends : Option End) (more : Bool) (poked : List ℕ) → ServedSo O manner n p number value child signal ends more poked old new s r → n ≡ 0
    so_home Did p number value child signal ends more poked d = d.home
    so_home Broke p number value child signal ends more poked d = d.home
    so_home Fell p number value child signal ends more poked d = d.home
    so_home Paused p number value child signal ends more poked d = d.home

    pub place_law : (what : Deed) → Needs O what n old new s r → PlaceAt what n f
    place_law (Run line i p) d = placed _ d.was
    place_law (Kill line p g poked) d = tt
    place_law (Bid line p to) d = tt
    place_law (Unsent line p never) d = tt
    place_law (Other line input) d = tt
    place_law (Steps p k) d = placed _ d.is.was
    place_law (Sent p k) d = placed _ d.is.was
    place_law (Heed p) d = placed _ d.is.was
    place_law (Held p k) d = tt
    place_law (Served p manner number value child signal ends more poked) d = tt
    place_law (Got p child ended kept) d = placed _ d.is.was
    place_law (Poked p used) d = tt
    place_law (Begin p to reason) d = placed _ d.is.was
    place_law (Keep p to line) d = ap (λ (k : Facts). k.places) tells ∙ (free_waits n s d.is.free).0
    place_law (Missed p to line) d = λ e. away_places n s d.is.away (sym (ap (λ (k : Facts). k.places) tells) ∙ e)
    place_law (Again p to place line) d = tt
    place_law (Allows p from need) d = tt
    place_law (Denies p from need free) d = tt
    place_law (Depart p to) d = placed _ d.is.was
    place_law (Stay p to need free) d = placed _ d.is.was
    place_law (Land p source) d = placed _ d.is.was
    place_law (Told p at source hops line poked) d = tt
    place_law (Refused p to why line) d = tt
    place_law (Closed line) d = tt
    place_law (Gossips heard other) d = tt
    place_law (Strange p) d = absurd d

    got_word : (k : Option Kept) (e : Bool) → KeptWord (kept_told O k e) e
    got_word None e = tt
    got_word (Some k) e = refl

    got_target : (k : Option Kept) (e : Bool) → kept_target (kept_told O k e) ≡ kept_to k
    got_target None e = refl
    got_target (Some k) e = refl

    pub freeze_law : (what : Deed) → Needs O what n old new s r → FreezeAt what f
    freeze_law (Run line i p) d = tt
    freeze_law (Kill line p g poked) d = tt
    freeze_law (Bid line p to) d = tt
    freeze_law (Unsent line p never) d = tt
    freeze_law (Other line input) d = tt
    freeze_law (Steps p k) d = (waited _ d.is.was, asked_so _ d.is.was)
    freeze_law (Sent p k) d = (waited _ d.is.was, asked_so _ d.is.was)
    freeze_law (Heed p) d = (waited _ d.is.was, asked_so _ d.is.was)
    freeze_law (Held p k) d = tt
    freeze_law (Served p manner number value child signal ends more poked) d = tt
    freeze_law (Got p child ended kept) d = (waited _ d.is.was, ap kept_target d.is.kept_is ∙ (got_target d.is.keeps d.is.done.ended ∙ sym (ap (λ (k : Facts). k.kept) (tells ∙ ap (facts_of O S) d.is.was))), subst (λ (x : Option KeptTold). KeptWord x ended) (sym d.is.kept_is) (subst (λ (x : Bool). KeptWord (kept_told O d.is.keeps d.is.done.ended) x) (sym d.is.ended_is) (got_word d.is.keeps d.is.done.ended)))
    freeze_law (Poked p used) d = tt
    freeze_law (Begin p to reason) d = (waited _ d.is.was, asked_so _ d.is.was)
    freeze_law (Keep p to line) d = (ap (λ (k : Facts). k.waits) tells ∙ (free_waits n s d.is.free).1, ap (λ (k : Facts). k.kept) tells ∙ (free_waits n s d.is.free).2)
    freeze_law (Missed p to line) d = tt
    freeze_law (Again p to place line) d = tt
    freeze_law (Allows p from need) d = tt
    freeze_law (Denies p from need free) d = tt
    freeze_law (Depart p to) d = asked_so _ d.is.was
    freeze_law (Stay p to need free) d = asked_so _ d.is.was
    freeze_law (Land p source) d = tt
    freeze_law (Told p at source hops line poked) d = tt
    freeze_law (Refused p to why line) d = tt
    freeze_law (Closed line) d = tt
    freeze_law (Gossips heard other) d = tt
    freeze_law (Strange p) d = tt

    pub heed_law : (what : Deed) → Needs O what n old new s r → HeedAt what n f
    heed_law (Run line i p) d = tt
    heed_law (Kill line p g poked) d = tt
    heed_law (Bid line p to) d = tt
    heed_law (Unsent line p never) d = tt
    heed_law (Other line input) d = tt
    heed_law (Steps p k) d = owed _ d.is.was ∙ d.is.unpoked
    heed_law (Sent p k) d = owed _ d.is.was ∙ d.is.unpoked
    heed_law (Heed p) d = owed _ d.is.was ∙ d.is.poked
    heed_law (Held p k) d = tt
    heed_law (Served p manner number value child signal ends more poked) d = tt
    heed_law (Got p child ended kept) d = tt
    heed_law (Poked p true) d = (ap (λ (k : Facts). k.places) tells ∙ (awake_places n s d.is.awake).0, ap (λ (k : Facts). k.waits) tells ∙ (awake_places n s d.is.awake).1)
    heed_law (Poked p false) d = λ (e, g). asleep_places n s d.is.asleep (sym (ap (λ (k : Facts). k.places) tells) ∙ e) (sym (ap (λ (k : Facts). k.waits) tells) ∙ g)
    heed_law (Begin p to reason) d = tt
    heed_law (Keep p to line) d = tt
    heed_law (Missed p to line) d = tt
    heed_law (Again p to place line) d = tt
    heed_law (Allows p from need) d = tt
    heed_law (Denies p from need free) d = tt
    heed_law (Depart p to) d = tt
    heed_law (Stay p to need free) d = tt
    heed_law (Land p source) d = tt
    heed_law (Told p at source hops line poked) d = tt
    heed_law (Refused p to why line) d = tt
    heed_law (Closed line) d = tt
    heed_law (Gossips heard other) d = tt
    heed_law (Strange p) d = tt

  last_signal : (k : O.Kernel) (p : ℕ) (room : Bool) → (last O k p room).signal ≡ O.lowest k p
  last_signal k p room = go (O.lowest k p)
    where
      go : (o : Option ℕ) → (last_by O o k p room).signal ≡ o
      go None = refl
      go (Some s) = refl

  fell_for : (manner : Manner) (k : O.Kernel) (p : ℕ) (q : O.Request) (a : First O) → Acts O manner k p q a → FellFor manner (O.number q)
  fell_for Did k p q a (d, served, some, is) = some
  fell_for Broke k p q a (s, low, blocks, some, is) = some
  fell_for Fell k p q a (none, is) = none
  fell_for Paused k p q a x = absurd x

  module _ (n : ℕ) (old new : Local O) (s r : Spot O) (f : Facts) (tells : f ≡ facts_of O S s) (m m2 : MachineState O) (before : n ≡ 0 → old.kernel ≡ m.kernel) (now : n ≡ 0 → new.kernel ≡ m2.kernel) where
    serve_once : (manner : Manner) (p : ℕ) (number : Option ℕ) (value : Option ℤ) (child signal : Option ℕ) (ends : Option End) (more : Bool) (poked : List ℕ) → ServedCall O n p manner number value child signal ends more poked old new s r → m.users p ≡ user_of O S s → Right O s
        → (f.waits ≡ true) × (f.paused ≡ false) × (f.served ≡ 0) × ((x : ℕ) × (number ≡ Some x) × FellFor manner x × Requests O m p x)
    serve_once manner p number value child signal ends more poked d user right =
        let a = asked_in d.held d.from d.body d.kept d.request in
        let t = tells ∙ ap (facts_of O S) d.was in (
          ap (λ (k : Facts). k.waits) t ∙ a.0,
          ap (λ (k : Facts). k.paused) t ∙ a.1,
          ap (λ (k : Facts). k.served) t ∙ a.2,
          (O.number d.request, d.number_is, fell_for manner old.kernel p d.request d.first d.acts, record { user = d.body.user; request = d.request; has = user ∙ (ap (user_of O S) d.was ∙ a.3); asks = a.4 (subst (Right O) d.was right); number_is = refl }),
        )

    so_once : (manner : Manner) (p : ℕ) (number : Option ℕ) (value : Option ℤ) (child signal : Option ℕ) (ends : Option End) (more : Bool) (poked : List ℕ) → ServedSo O manner n p number value child signal ends more poked old new s r → m.users p ≡ user_of O S s → Right O s → m2.replies ≡ told_so p number value m.replies
        → OnceAt O (Served p manner number value child signal ends more poked) f m m2
    so_once Did p number value child signal ends more poked d user right reply =
        let x = serve_once Did p number value child signal ends more poked d user right in
        record { waits = x.0; kind = x.1; first = x.2; number_is = x.3; value_is = tt; reply = reply; end_is = d.answers.end_is ∙ ap (λ (k : O.Kernel). O.end_of k p) (now d.home) }
    so_once Broke p number value child signal ends more poked d user right reply =
        let x = serve_once Broke p number value child signal ends more poked d user right in
        record { waits = x.0; kind = x.1; first = x.2; number_is = x.3; value_is = tt; reply = reply; end_is = d.answers.end_is ∙ ap (λ (k : O.Kernel). O.end_of k p) (now d.home) }
    so_once Fell p number value child signal ends more poked d user right reply =
        let x = serve_once Fell p number value child signal ends more poked d user right in
        record { waits = x.0; kind = x.1; first = x.2; number_is = x.3; value_is = tt; reply = reply; end_is = d.answers.end_is ∙ ap (λ (k : O.Kernel). O.end_of k p) (now d.home) }
    so_once Paused p number value child signal ends more poked d user right reply =
        let t = tells ∙ ap (facts_of O S) d.was in
        record { waits = ap (λ (k : Facts). k.waits) t; kind = ap (λ (k : Facts). k.paused) t; first = ap (λ (k : Facts). k.served) t; number_is = d.number_is; value_is = d.answers.value_is; reply = reply; end_is = d.answers.end_is ∙ ap (λ (k : O.Kernel). O.end_of k p) (now d.home) }

    pub once_law : (what : Deed) → Needs O what n old new s r → m.users (pid_of what) ≡ user_of O S s → Right O s → m2.users (pid_of what) ≡ user_of O S r → m2.replies ≡ told_by what m.replies → OnceAt O what f m m2
    once_law (Run line i p) d user right user2 reply = tt
    once_law (Kill line p g poked) d user right user2 reply = tt
    once_law (Bid line p to) d user right user2 reply = tt
    once_law (Unsent line p never) d user right user2 reply = tt
    once_law (Other line input) d user right user2 reply = tt
    once_law (Steps p k) d user right user2 reply = record { least = d.is.bounds.least; most = d.is.bounds.most; user = d.is.user; has = user2 ∙ ap (user_of O S) d.is.now; whole = d.is.bounds.whole }
    once_law (Sent p k) d user right user2 reply = record { user = d.is.body.user; request = d.is.request; has = user ∙ ap (user_of O S) d.is.was; asks = d.is.asks; number_is = d.is.number_is }
    once_law (Heed p) d user right user2 reply = tt
    once_law (Held p k) d user right user2 reply =
        let t = tells ∙ ap (facts_of O S) d.is.was in
        let k2 = before d.is.home in
        record {
          waits = ap (λ (x : Facts). x.waits) t;
          calls = ap (λ (x : Facts). x.paused) t;
          unserved = ap (λ (x : Facts). x.served) t;
          call = λ e. d.is.some (sym d.is.number_is ∙ e);
          first = ap (λ (x : Facts). x.held) t;
          requests = record { user = d.is.body.user; request = d.is.request; has = user ∙ ap (user_of O S) d.is.was; asks = subst (Right O) d.is.was right; number_is = d.is.number_is };
          blocks = ap (λ (x : O.Kernel). O.serve x p d.is.request) (sym k2) ∙ d.is.blocks;
          quiet = ap (λ (x : O.Kernel). O.lowest x p) (sym k2) ∙ d.is.quiet;
        }
    once_law (Served p manner number value child signal ends more poked) d user right user2 reply = so_once manner p number value child signal ends more poked d user right reply
    once_law (Got p child ended kept) d user right user2 reply = (let t = tells ∙ ap (facts_of O S) d.is.was in (ap (λ (x : Facts). x.waits) t, ap (λ (x : Facts). x.served) t, d.is.child_is ∙ sym (ap (λ (x : Facts). x.child) t)))
    once_law (Poked p used) d user right user2 reply = tt
    once_law (Begin p to reason) d user right user2 reply = tt
    once_law (Keep p to line) d user right user2 reply = tt
    once_law (Missed p to line) d user right user2 reply = tt
    once_law (Again p to place line) d user right user2 reply = tt
    once_law (Allows p from need) d user right user2 reply = tt
    once_law (Denies p from need free) d user right user2 reply = tt
    once_law (Depart p to) d user right user2 reply = tt
    once_law (Stay p to need free) d user right user2 reply = tt
    once_law (Land p source) d user right user2 reply = tt
    once_law (Told p at source hops line poked) d user right user2 reply = tt
    once_law (Refused p to why line) d user right user2 reply = tt
    once_law (Closed line) d user right user2 reply = tt
    once_law (Gossips heard other) d user right user2 reply = tt
    once_law (Strange p) d user right user2 reply = tt

    serve_signal : (manner : Manner) (p : ℕ) (number : Option ℕ) (value : Option ℤ) (child signal : Option ℕ) (ends : Option End) (more : Bool) (poked : List ℕ) → ServedCall O n p manner number value child signal ends more poked old new s r → ((c : ℕ) → child ≡ Some c → c ≢ p) → m.users p ≡ user_of O S s → O.live m.kernel p ≡ alive O s → Right O s
        → SignalAt O (Served p manner number value child signal ends more poked) m m2
    serve_signal manner p number value child signal ends more poked d apart user live right =
        let a = asked_in d.held d.from d.body d.kept d.request in
        let acts : Acts O manner m.kernel p d.request d.first = subst (λ (k : O.Kernel). Acts O manner k p d.request d.first) (before d.home) d.acts in
        let first = first_plays O S manner p d.body.user d.request d.first m (live ∙ (ap (alive O) d.was ∙ (asked_alive O S d.held d.from d.body d.kept d.request).0)) (user ∙ (ap (user_of O S) d.was ∙ a.3)) (a.4 (subst (Right O) d.was right)) (λ c e. apart c (d.answers.child_is ∙ e)) acts in
        record {
          takes = with_some (machine_steps O (call_step manner p) m) first.machine _ (call_plays O manner p m ∙ first.plays_it) (d.answers.signal_is ∙ (last_signal d.first.kernel p (O.room_of d.request) ∙ ap (λ (k : O.Kernel). O.lowest k p) (sym first.kernel)));
          more_is = d.answers.more_is ∙ ap (λ (k : O.Kernel). is_some (O.lowest k p)) (now d.home);
        }

    so_signal : (manner : Manner) (p : ℕ) (number : Option ℕ) (value : Option ℤ) (child signal : Option ℕ) (ends : Option End) (more : Bool) (poked : List ℕ) → ServedSo O manner n p number value child signal ends more poked old new s r → ((c : ℕ) → child ≡ Some c → c ≢ p) → m.users p ≡ user_of O S s → O.live m.kernel p ≡ alive O s → Right O s
        → SignalAt O (Served p manner number value child signal ends more poked) m m2
    so_signal Did p number value child signal ends more poked d apart user live right = serve_signal Did p number value child signal ends more poked d apart user live right
    so_signal Broke p number value child signal ends more poked d apart user live right = serve_signal Broke p number value child signal ends more poked d apart user live right
    so_signal Fell p number value child signal ends more poked d apart user live right = serve_signal Fell p number value child signal ends more poked d apart user live right
    so_signal Paused p number value child signal ends more poked d apart user live right =
        record {
          takes = d.answers.signal_is ∙ (last_signal old.kernel p d.room ∙ ap (λ (k : O.Kernel). O.lowest k p) (before d.home));
          more_is = d.answers.more_is ∙ ap (λ (k : O.Kernel). is_some (O.lowest k p)) (now d.home);
        }

    pub signal_law : (what : Deed) → Needs O what n old new s r → ((c : ℕ) → child_of what ≡ Some c → c ≢ pid_of what) → m.users (pid_of what) ≡ user_of O S s → O.live m.kernel (pid_of what) ≡ alive O s → Right O s → SignalAt O what m m2
    signal_law (Run line i p) d apart user live right = tt
    signal_law (Kill line p g poked) d apart user live right = tt
    signal_law (Bid line p to) d apart user live right = tt
    signal_law (Unsent line p never) d apart user live right = tt
    signal_law (Other line input) d apart user live right = tt
    signal_law (Steps p k) d apart user live right = tt
    signal_law (Sent p k) d apart user live right = tt
    signal_law (Heed p) d apart user live right = tt
    signal_law (Held p k) d apart user live right = tt
    signal_law (Served p manner number value child signal ends more poked) d apart user live right = so_signal manner p number value child signal ends more poked d apart user live right
    signal_law (Got p child ended kept) d apart user live right = tt
    signal_law (Poked p used) d apart user live right = tt
    signal_law (Begin p to reason) d apart user live right = tt
    signal_law (Keep p to line) d apart user live right = tt
    signal_law (Missed p to line) d apart user live right = tt
    signal_law (Again p to place line) d apart user live right = tt
    signal_law (Allows p from need) d apart user live right = tt
    signal_law (Denies p from need free) d apart user live right = tt
    signal_law (Depart p to) d apart user live right = tt
    signal_law (Stay p to need free) d apart user live right = tt
    signal_law (Land p source) d apart user live right = tt
    signal_law (Told p at source hops line poked) d apart user live right = tt
    signal_law (Refused p to why line) d apart user live right = tt
    signal_law (Closed line) d apart user live right = tt
    signal_law (Gossips heard other) d apart user live right = tt
    signal_law (Strange p) d apart user live right = tt

    module _ (held : ℕ → Bool) (holds : n ≡ 0 → (q : ℕ) → unheld O (old.slots q).call ≡ not (held q)) where
      serve_poke : (manner : Manner) (p : ℕ) (number : Option ℕ) (value : Option ℤ) (child signal : Option ℕ) (ends : Option End) (more : Bool) (poked : List ℕ) → ServedCall O n p manner number value child signal ends more poked old new s r → ((c : ℕ) → child ≡ Some c → c ≢ p) → m.users p ≡ user_of O S s → O.live m.kernel p ≡ alive O s → Right O s
          → poked ≡ in_order (to_wake O (Some p) held m2 (raised_by O (call_step manner p ++ take_step signal p) (Some m)))
      serve_poke manner p number value child signal ends more poked d apart user live right =
          let a = asked_in d.held d.from d.body d.kept d.request in
          let u : m.users p ≡ Some d.body.user = user ∙ (ap (user_of O S) d.was ∙ a.3) in
          let asks : O.asks d.body.user ≡ Some d.request = a.4 (subst (Right O) d.was right) in
          let room = O.room_of d.request in
          let acts : Acts O manner m.kernel p d.request d.first = subst (λ (k : O.Kernel). Acts O manner k p d.request d.first) (before d.home) d.acts in
          let first = first_plays O S manner p d.body.user d.request d.first m (live ∙ (ap (alive O) d.was ∙ (asked_alive O S d.held d.from d.body d.kept d.request).0)) u asks (λ c e. apart c (d.answers.child_is ∙ e)) acts in
          let sig : signal ≡ (last O first.machine.kernel p room).signal = d.answers.signal_is ∙ ap (λ (k : O.Kernel). (last O k p room).signal) (sym first.kernel) in
          let told = call_raised O S manner p d.body.user d.request d.first signal m u asks acts first sig ∙ ap (λ (k : O.Kernel). listed d.first.raised ++ listed (last O k p room).raised) first.kernel in
          d.tells ∙ (wakes O S new.kernel old.slots held m2 (now d.home) (holds d.home) p d.first.raised (last O d.first.kernel p room).raised ∙ ap (λ (k : List ℕ). in_order (to_wake O (Some p) held m2 k)) (sym told))

      so_poke : (manner : Manner) (p : ℕ) (number : Option ℕ) (value : Option ℤ) (child signal : Option ℕ) (ends : Option End) (more : Bool) (poked : List ℕ) → ServedSo O manner n p number value child signal ends more poked old new s r → ((c : ℕ) → child ≡ Some c → c ≢ p) → m.users p ≡ user_of O S s → O.live m.kernel p ≡ alive O s → Right O s → PokeAt O (Served p manner number value child signal ends more poked) held m m2
      so_poke Did p number value child signal ends more poked d apart user live right = serve_poke Did p number value child signal ends more poked d apart user live right
      so_poke Broke p number value child signal ends more poked d apart user live right = serve_poke Broke p number value child signal ends more poked d apart user live right
      so_poke Fell p number value child signal ends more poked d apart user live right = serve_poke Fell p number value child signal ends more poked d apart user live right
      so_poke Paused p number value child signal ends more poked d apart user live right =
          let u : m.users p ≡ Some d.body.user = user ∙ ap (user_of O S) d.was in
          let sig : signal ≡ (last O m.kernel p d.room).signal = d.answers.signal_is ∙ ap (λ (k : O.Kernel). (last O k p d.room).signal) (before d.home) in
          let told = pause_raised O S p d.room d.body.user signal m u (subst (Right O) d.was right) sig ∙ ap (λ (k : O.Kernel). listed None ++ listed (last O k p d.room).raised) (sym (before d.home)) in
          d.tells ∙ (wakes O S new.kernel old.slots held m2 (now d.home) (holds d.home) p None (last O old.kernel p d.room).raised ∙ ap (λ (k : List ℕ). in_order (to_wake O (Some p) held m2 k)) (sym told))

      pub poke_law : (what : Deed) → Needs O what n old new s r → ((c : ℕ) → child_of what ≡ Some c → c ≢ pid_of what) → m.users (pid_of what) ≡ user_of O S s → O.live m.kernel (pid_of what) ≡ alive O s → Right O s → PokeAt O what held m m2
      poke_law (Run line i p) d apart user live right = tt
      poke_law (Kill line p g poked) d apart user live right =
          d.tells ∙ (wakes_any O S new.kernel old.slots held m2 (now d.home) (holds d.home) (cond (O.hit old.kernel p g) (Some p) None)
          ∙ ap (λ (k : List ℕ). in_order (to_wake O None held m2 k)) (ap (λ (k : O.Kernel). listed (cond (O.hit k p g) (Some p) None)) (before d.home) ∙ sym (append-nil (raised_in O (Raise p g) m))))
      poke_law (Bid line p to) d apart user live right = tt
      poke_law (Unsent line p never) d apart user live right = tt
      poke_law (Other line input) d apart user live right = tt
      poke_law (Steps p k) d apart user live right = tt
      poke_law (Sent p k) d apart user live right = tt
      poke_law (Heed p) d apart user live right = tt
      poke_law (Held p k) d apart user live right = tt
      poke_law (Served p manner number value child signal ends more poked) d apart user live right = so_poke manner p number value child signal ends more poked d apart user live right
      poke_law (Got p child ended kept) d apart user live right = tt
      poke_law (Poked p used) d apart user live right = tt
      poke_law (Begin p to reason) d apart user live right = tt
      poke_law (Keep p to line) d apart user live right = tt
      poke_law (Missed p to line) d apart user live right = tt
      poke_law (Again p to place line) d apart user live right = tt
      poke_law (Allows p from need) d apart user live right = tt
      poke_law (Denies p from need free) d apart user live right = tt
      poke_law (Depart p to) d apart user live right = tt
      poke_law (Stay p to need free) d apart user live right = tt
      poke_law (Land p source) d apart user live right = tt
      poke_law (Told p at source hops line poked) d apart user live right = d.is.why.1 ∙ ap (λ (k : O.Kernel). is_some (O.lowest k p)) (before d.is.why.0)
      poke_law (Refused p to why line) d apart user live right = tt
      poke_law (Closed line) d apart user live right = tt
      poke_law (Gossips heard other) d apart user live right = tt
      poke_law (Strange p) d apart user live right = tt

  some_machine : (m m2 : MachineState O) → Some m ≡ Some m2 → m ≡ m2
  some_machine m m2 e = cc

  -- one event of a path is lawful
  module _ (h : List (Turn O)) (w : World O) (t : Turn O) (v : World O) (sp next : ℕ → Spot O) (path : Path O S h sp w) (stands : Stands O S sp w) (st : Step O S sp w t next v) (m : MachineState O) (before : Agrees O S h sp (w.nodes 0) m) (m2 : MachineState O) (then : Agrees O S (t ∷ h) next (v.nodes 0) m2) where
    abbrev n : ℕ
    n = t.event.node

    abbrev p : ℕ
    p = pid_of t.event.what

    abbrev f : Facts
    f = facts (pid_of t.event.what) (events O h)

    abbrev held : ℕ → Bool
    held q = is_held (facts q (events O h))

    tells : f ≡ facts_of O S (sp p)
    tells = path_tells O S h sp w path p

    home : n ≡ 0 → (w.nodes n).kernel ≡ m.kernel
    home e = ap (λ (k : ℕ). (w.nodes k).kernel) e ∙ before.kernel

    now : n ≡ 0 → (v.nodes n).kernel ≡ m2.kernel
    now e = ap (λ (k : ℕ). (v.nodes k).kernel) e ∙ then.kernel

    holds : n ≡ 0 → (q : ℕ) → unheld O ((w.nodes n).slots q).call ≡ not (held q)
    holds e q =
        let slot : ((w.nodes n).slots q).call ≡ call_at O (sp q) = ap (λ (k : Slot O). k.call) ((stands.at q).slots n) ∙ ap (λ (b : Bool). cond b (call_at O (sp q)) None) (same_numbers n 0 e) in
        ap (unheld O) slot ∙ (held_same O S (sp q) ∙ ap (λ (k : Facts). not (is_held k)) (sym (path_tells O S h sp w path q)))

    at_before : machine_at O (events O h) ≡ Some m
    at_before = at_replay O (events O h) ∙ before.plays

    at_then : machine_at O (t.event ∷ events O h) ≡ Some m2
    at_then = at_replay O (t.event ∷ events O h) ∙ then.plays

    user2 : m2.users p ≡ user_of O S st.own
    user2 = then.users p ∙ ap (user_of O S) (st.next_is p ∙ at_own O t.event.what n sp st.own p refl)

    reply : m2.replies ≡ told_by t.event.what m.replies
    reply = sym then.replies ∙ ap (told_by t.event.what) before.replies

    -- a law on the machine before the event, and on that after it
    with_both : (P : MachineState O → MachineState O → Type 0) → P m m2 → With (machine_at O (events O h)) (λ x. With (machine_at O (t.event ∷ events O h)) (λ y. P x y))
    with_both P x = with_some _ m _ at_before (with_some _ m2 _ at_then x)

    lawful_next : Lawful O (events O h) → ScriptAt O t.event (events O h) → NewsLaw O (t.event ∷ events O h) → GossipLaw O (t.event ∷ events O h) → ChoiceLaw O (t.event ∷ events O h) → Lawful O (t.event ∷ events O h)
    lawful_next all script news gossip choice =
        record {
          gossip = gossip;
          choice = choice;
          script = (script, all.script);
          news = news;
          place = (place_law n (w.nodes n) (v.nodes n) (sp p) st.own f tells t.event.what st.needs, all.place);
          freeze = (freeze_law n (w.nodes n) (v.nodes n) (sp p) st.own f tells t.event.what st.needs, all.freeze);
          heed = (heed_law n (w.nodes n) (v.nodes n) (sp p) st.own f tells t.event.what st.needs, all.heed);
          once = (with_both (λ x y. OnceAt O t.event.what f x y) (once_law n (w.nodes n) (v.nodes n) (sp p) st.own f tells m m2 home now t.event.what st.needs (before.users p) (before.right p) user2 reply), all.once);
          signal = (with_both (λ x y. SignalAt O t.event.what x y) (signal_law n (w.nodes n) (v.nodes n) (sp p) st.own f tells m m2 home now t.event.what st.needs (child_apart O S w t v st.goes sp stands st.own st.needs) (before.users p) (before.alive p) (before.right p)), all.signal);
          poke = (with_both (λ x y. PokeAt O t.event.what held x y) (poke_law n (w.nodes n) (v.nodes n) (sp p) st.own f tells m m2 home now held holds t.event.what st.needs (child_apart O S w t v st.goes sp stands st.own st.needs) (before.users p) (before.alive p) (before.right p)), all.poke);
        }

    silent_next : SilentLaw O (events O h) → SilentLaw O (t.event ∷ events O h)
    silent_next all = (with_both (λ x y. SilentAt O t.event.what held x y) (silent_law O S n (w.nodes n) (v.nodes n) (sp p) st.own m m2 home now held holds t.event.what st.needs), all)

  pub path_silent : (h : List (Turn O)) (sp : ℕ → Spot O) (w : World O) → Path O S h sp w → SilentLaw O (events O h)
  path_silent [] sp w r = tt
  path_silent (t ∷ h) sp v r =
      let before = path_played O S h r.1 r.0 r.2 in
      let then = path_played O S (t ∷ h) sp v r in
      silent_next h r.0 t v r.1 sp r.2 r.3 r.4 before.machine before.agrees then.machine then.agrees (path_silent h r.1 r.0 r.2)

  pub path_lawful : (h : List (Turn O)) (sp : ℕ → Spot O) (w : World O) → Path O S h sp w → Lawful O (events O h)
  path_lawful [] sp w r = record { script = tt; place = tt; news = tt; freeze = tt; once = tt; signal = tt; poke = tt; heed = tt; gossip = tt; choice = tt }
  path_lawful (t ∷ h) sp v r =
      let before = path_played O S h r.1 r.0 r.2 in
      let then = path_played O S (t ∷ h) sp v r in
      lawful_next h r.0 t v r.1 sp r.2 r.3 r.4 before.machine before.agrees then.machine then.agrees (path_lawful h r.1 r.0 r.2) (script_next O S h r.0 t v r.1 sp r.2 r.3 r.4 before.machine before.agrees) (path_again O S (t ∷ h) sp v r) (path_gossip O S (t ∷ h) sp v r) (path_choice O S (t ∷ h) sp v r)

  -- the places that a spot tells are at most one, and exactly one where it is alive
  alive_place : (s : Spot O) → alive O s ≡ true → (x : Place) × ((facts_of O S s).places ≡ x ∷ [])
  alive_place Nowhere e = absurd cc
  alive_place (Runs m b) e = (_, refl)
  alive_place (Calls m b k r) e = (_, refl)
  alive_place (Holds m b k r) e = (_, refl)
  alive_place (Pauses m b k r) e = (_, refl)
  alive_place (Answered m b k d x y) e = (_, refl)
  alive_place (Asks m b to l need) e = (_, refl)
  alive_place (Granted m b to l need) e = (_, refl)
  alive_place (Denied m b to l need free) e = (_, refl)
  alive_place (Travels a c b l need) e = (_, refl)
  alive_place (InReply q u) e = (_, refl)
  alive_place (Ended u) e = absurd cc

  some_place : (s : Spot O) → ((facts_of O S s).places ≡ [] → ⊥) → (x : Place) × ((facts_of O S s).places ≡ x ∷ [])
  some_place Nowhere h = absurd (h refl)
  some_place (Runs m b) h = (_, refl)
  some_place (Calls m b k r) h = (_, refl)
  some_place (Holds m b k r) h = (_, refl)
  some_place (Pauses m b k r) h = (_, refl)
  some_place (Answered m b k d x y) h = (_, refl)
  some_place (Asks m b to l need) h = (_, refl)
  some_place (Granted m b to l need) h = (_, refl)
  some_place (Denied m b to l need free) h = (_, refl)
  some_place (Travels a c b l need) h = (_, refl)
  some_place (InReply q u) h = (_, refl)
  some_place (Ended u) h = absurd (h refl)

  one_place : (h : List (Turn O)) (sp : ℕ → Spot O) (w : World O) → Path O S h sp w → Stands O S sp w → With (machine_at O (events O h)) (λ m. PlacedAt O (events O h) m)
  one_place h sp w r stands =
      let b = path_played O S h sp w r in
      with_some _ b.machine _ (at_replay O (events O h) ∙ b.agrees.plays) (record {
        live = λ p l. (let x = alive_place (sp p) (sym (b.agrees.alive p) ∙ l) in (x.0, ap (λ (k : Facts). k.places) (path_tells O S h sp w r p) ∙ x.1));
        at_most = λ p n. (let x = some_place (sp p) (λ z. n (ap (λ (k : Facts). k.places) (path_tells O S h sp w r p) ∙ z)) in (x.0, ap (λ (k : Facts). k.places) (path_tells O S h sp w r p) ∙ x.1));
        never = λ p n. ap (λ (k : Facts). k.places) (path_tells O S h sp w r p ∙ ap (facts_of O S) (nowhere_at p b.agrees.kernel n));
      })
    where
      nowhere_at : (p : ℕ) {k : O.Kernel} → (w.nodes 0).kernel ≡ k → NeverGiven O k p → sp p ≡ Nowhere
      nowhere_at p e (inl z) = ap sp z ∙ stands.zero
      nowhere_at p e (inr less) = stands.unborn p (subst (λ (k : O.Kernel). O.count k < p) (sym e) less)

  pub path_placed : (h : List (Turn O)) (sp : ℕ → Spot O) (w : World O) → Path O S h sp w → Stands O S sp w → OnePlace O (events O h)
  path_placed [] sp w r stands = one_place [] sp w r stands
  path_placed (t ∷ h) sp v r stands = (one_place (t ∷ h) sp v r stands, path_placed h r.1 r.0 r.2 r.3)
