-- Where a kind of turn applies such a turn can be made, in every run.
use Rattle.std.proofs.Common.{◌≡◌, ◌≢◌, ℕ, zero, suc, ◌+◌, ◌-◌, ◌<◌, ◌≤◌, ◌==◌, ◌⊎◌, inl, inr, Bool, true, false, cond, Option, Some, None, List, [], ◌∷◌, ◌++◌, refl, sym, ap, ◌∙◌, subst, arith}
use Rattle.std.specs.Prelude.{ℤ, slice_get}
use Rattle.std.proofs.lemmas.Bool.Decides.{leb_tells}
use lib.Dec.{leb}
use Rattle.call_table.specs.declared.process.End.{End}
use Rattle.node_event.specs.declared.script.Order.{Order}
use Rattle.node_event.specs.declared.script.Order.TheVariants as order
use Rattle.node_event.specs.declared.script.ScriptLine.{ScriptLine}
use Rattle.protocol.specs.Ops.{Ops, Sound, Acted, typed, has_text}
use Rattle.protocol.specs.Gossip.{Entry, Gossip, one_step, Choice, Movable, told_places, gossip_after}
use Rattle.protocol.specs.Deeds.{Chosen, runs_before, feeds_before, Input, Text, Finish, Nothing, Manner, Did, Broke, Fell, Paused, Deed, Run, Kill, Bid, Unsent, Other, Steps, Sent, Heed, Held, Served, Got, Poked, Begin, Keep, Missed, Again, Allows, Denies, Depart, Stay, Land, Told, Refused, Closed, Gossips, Strange}
use Rattle.protocol.specs.Notes.{Progress, SameProgress, served_one, is_some, Call, Pause, Reply, Go, Half, Ask, Asking, Post, letter, Turn, Body, context, fresh, Called, Running, Waiting, Slot, Local}
use Rattle.protocol.specs.Spots.{Spot}
use Rattle.protocol.specs.Home.{UnsentFor, First, Last, last, done_of, value_of, to_poke, both, pokes, born_at}
use Rattle.protocol.specs.Does.{Does, ServedBy, EnabledHere, Ordered, Feeds, Makes, Quantum, InUse, Loaded, CanMove, NoneRuns, HalfDueTo, seen, Talks, hosts, holds, pokes_of}
use Rattle.protocol.specs.Cluster.{World, for_link, Goes, events}
use Rattle.protocol.specs.Rests.{Kind, Retry, RunOn, NextLine, SendHalf, Applies}
use Rattle.protocol.proofs.Talk.{numbers_same, numbers_other}
use Rattle.protocol.proofs.Process.{cond_here, cond_off, call_tells}
use Rattle.protocol.proofs.Stand.{Stands, Path}
use Rattle.run_laws.specs.Going.{Able}
use Rattle.run_laws.proofs.Here.{can_run, loaded, in_use, can_move}
use Rattle.run_laws.proofs.Sleeps.{Sleeps, Since, path_sleeps}
use Rattle.protocol.proofs.Progress.{itself}

module _ (O : Ops) (S : Sound O) where
  -- the least line that may come next is the one after the last that was carried out
  abbrev pub LineAt : Progress → Type 0
  LineAt g = ((g.done ≡ 0) × (g.line ≡ 0)) ⊎ ((k : ℕ) × (s : ScriptLine) × (g.done ≡ suc k) × (slice_get O.script k ≡ Some s) × (g.line ≡ s.line + 1))

  line_same : (g h : Progress) → h ≡ g → LineAt g → LineAt h
  line_same g h e x = subst LineAt (sym e) x

  line_served : (p : ℕ) (g h : Progress) → SameProgress h (served_one p g) → LineAt g → LineAt h
  line_served p g h e (inl x) = inl (e.done ∙ x.0, e.line ∙ x.1)
  line_served p g h e (inr (k, s, x, y, z)) = inr (k, s, e.done ∙ x, y, e.line ∙ z)

  line_ordered : (line : ℕ) (o : Order) (ps : List ℕ) (old new : Local O) → Ordered O line o ps old new → LineAt new.progress
  line_ordered line o ps old new d = inr (old.progress.done, record { line = line; order = o }, d.is.done ∙ omega arith, d.next, d.is.line)

  module _ (n : ℕ) (old : Local O) (t : Turn O) (new : Local O) where
    served_line : (manner : Manner) (p : ℕ) (number : Option ℕ) (value : Option ℤ) (child signal : Option ℕ) (ends : Option End) (more : Bool) (poked : List ℕ) → ServedBy O manner n p number value child signal ends more poked old t new → LineAt old.progress → LineAt new.progress
    served_line Did p number value child signal ends more poked (inl d) x = line_served p old.progress new.progress d.progress x
    served_line Did p number value child signal ends more poked (inr d) x = line_served p old.progress new.progress d.progress x
    served_line Broke p number value child signal ends more poked (inl d) x = line_served p old.progress new.progress d.progress x
    served_line Broke p number value child signal ends more poked (inr d) x = line_served p old.progress new.progress d.progress x
    served_line Fell p number value child signal ends more poked d x = line_served p old.progress new.progress d.progress x
    served_line Paused p number value child signal ends more poked d x = line_same old.progress new.progress d.progress x

    line_next : (what : Deed) → Does O what n old t new → LineAt old.progress → LineAt new.progress
    line_next (Run line i p) d x = line_ordered line _ _ old new d.order
    line_next (Kill line p g poked) d x = line_ordered line _ _ old new d.order
    line_next (Bid line p to) d x = line_ordered line _ _ old new d.order
    line_next (Unsent line p never) d x = line_ordered line _ _ old new d.order
    line_next (Other line input) d x = line_ordered line _ _ old new d.order
    line_next (Steps p k) d x = line_same old.progress new.progress d.still.progress x
    line_next (Sent p k) d x = line_same old.progress new.progress d.still.progress x
    line_next (Heed p) d x = line_same old.progress new.progress d.still.progress x
    line_next (Held p k) d x = line_same old.progress new.progress d.still.progress x
    line_next (Served p manner number value child signal ends more poked) d x = served_line manner p number value child signal ends more poked d x
    line_next (Got p child ended kept) d x = line_same old.progress new.progress d.still.progress x
    line_next (Poked p true) d x = line_same old.progress new.progress d.still.progress x
    line_next (Poked p false) d x = line_same old.progress new.progress d.still.progress x
    line_next (Begin p to reason) d x = line_same old.progress new.progress d.still.progress x
    line_next (Keep p to line) d x = line_same old.progress new.progress d.still.progress x
    line_next (Missed p to line) d x = line_same old.progress new.progress d.still.progress x
    line_next (Again p to place line) d x = line_same old.progress new.progress d.still.progress x
    line_next (Allows p from load) d x = line_same old.progress new.progress d.still.progress x
    line_next (Denies p from load free) d x = line_same old.progress new.progress d.still.progress x
    line_next (Depart p to) d x = line_same old.progress new.progress d.still.progress x
    line_next (Stay p to load free) d x = line_same old.progress new.progress d.still.progress x
    line_next (Land p source) d x = line_same old.progress new.progress d.still.progress x
    line_next (Told p at source hops line poked) d x = line_same old.progress new.progress d.progress x
    line_next (Refused p to why line) (inl d) x = line_same old.progress new.progress d.still.progress x
    line_next (Refused p to why line) (inr d) x = line_same old.progress new.progress d.still.progress x
    line_next (Closed line) d x = line_same old.progress new.progress d.still.progress x
    line_next (Gossips heard other) d x = line_same old.progress new.progress d.still.progress x
    line_next (Strange p) d x = line_same old.progress new.progress d.still.progress x

  home_line : (w : World O) (t : Turn O) (v : World O) → Goes O w t v → LineAt (w.nodes 0).progress → LineAt (v.nodes 0).progress
  home_line w t v goes x = go (t.event.node == 0) refl
    where
      go : (b : Bool) → (t.event.node == 0) ≡ b → LineAt (v.nodes 0).progress
      go true e = let z = numbers_same t.event.node 0 e in subst (λ (k : ℕ). LineAt (v.nodes k).progress) z (line_next t.event.node (w.nodes t.event.node) t (v.nodes t.event.node) t.event.what goes.makes.does (subst (λ (k : ℕ). LineAt (w.nodes k).progress) (sym z) x))
      go false e = subst (λ (l : Local O). LineAt l.progress) (sym (goes.elsewhere 0 (λ z. numbers_other t.event.node 0 e (sym z)))) x

  pub path_line : (h : List (Turn O)) (sp : ℕ → Spot O) (w : World O) → Path O S h sp w → LineAt (w.nodes 0).progress
  path_line [] sp w r = subst LineAt (sym ((r.0.nodes 0).home refl).progress) (inl (refl, refl))
  path_line (t ∷ h) sp v r = home_line r.0 t v r.4.goes (path_line h r.1 r.0 r.2)

  rises : (A : Able O) (g : Progress) (s : ScriptLine) → LineAt g → slice_get O.script g.done ≡ Some s → g.line ≤ s.line
  rises A g s (inl x) e = omega (arith, x.1)
  rises A g s (inr (k, a, x, y, l)) e = let z = A.rising k a s y (ap (slice_get O.script) (sym x) ∙ e) in omega (arith, z, l)

  -- a quantum of steps
  abbrev Ran : O.User → Type 0
  Ran u = (k : ℕ) × (v : O.User) × (O.went u k ≡ Some v) × Quantum O k v

  steps_from : (A : Able O) (fuel k : ℕ) (u v : O.User) → 1 ≤ k → k + fuel ≡ O.quantum → O.went u k ≡ Some v → Ran u
  steps_from A zero k u v least sum went = (k, v, went, record { least = least; most = omega (arith, sum); whole = inl (omega (arith, sum)) })
  steps_from A (suc fuel) k u v least sum went = go (O.went v 1) refl (λ x f. steps_from A fuel (k + 1) u x (omega arith) (omega (arith, sum)) f)
    where
      go : (o : Option O.User) → O.went v 1 ≡ o → ((x : O.User) → O.went u (k + 1) ≡ Some x → Ran u) → Ran u
      go None e rest = (k, v, went, record { least = least; most = omega (arith, sum); whole = inr (inl e) })
      go (Some x) e rest = rest x (A.more u v k went ∙ e)

  steps_of : (A : Able O) (u : O.User) → O.asks u ≡ None → Ran u
  steps_of A u e = go (O.went u 1) refl
    where
      go : (o : Option O.User) → O.went u 1 ≡ o → Ran u
      go None f = absurd (A.goes u e f)
      go (Some v) f = by (O.quantum) refl A.quantum
        where
          by : (q : ℕ) → O.quantum ≡ q → 1 ≤ q → Ran u
          by zero x y = absurd (omega (arith, y))
          by (suc q) x y = steps_from A q 1 u v (omega arith) (omega (arith, x)) f

  some_of : {A : Type 0} (o : Option A) → (o ≢ None) → (a : A) × (o ≡ Some a)
  some_of None f = absurd (f refl)
  some_of (Some a) f = (a, refl)

  module _ (A : Able O) (n : ℕ) (old : Local O) (below : n < O.nodes) where
    -- a turn that the node makes without a letter
    abbrev pub Made : Type 0
    Made = (t : Turn O) × (new : Local O) × Makes O n old t new × (t.taken ≡ None) × (t.event.node ≡ n)

    abbrev now : ℕ
    now = old.clock + 1

    abbrev turn : Deed → List (Post O) → Turn O
    turn what posted = record { event = record { stamp = old.clock + 1; node = n; what = what }; taken = None; posted = posted }

    -- one slot changes
    abbrev put : ℕ → (Slot O → Slot O) → ℕ → Slot O
    put p change q = cond (q == p) (change (old.slots q)) (old.slots q)

    makes : (what : Deed) (posted : List (Post O)) (new : Local O) → new.clock ≡ old.clock + 1 → Does O what n old (turn what posted) new → Made
    makes what posted new clock does = (turn what posted, new, record { node = refl; below = below; stamp_is = omega arith; clock = clock; does = does }, refl, refl)

    run_made : (p : ℕ) (b : Body O) → (old.slots p).context ≡ Some (context O b Running) → (2 ≤ O.nodes → 16 ≤ old.gossip.steps → Made) → Made
    run_made p b was half = by_poke b.poked refl
      where
        by_steps : b.poked ≡ false → O.asks b.user ≡ None → Ran b.user → Made
        by_steps calm asks r = go (leb_tells 2 O.nodes) (leb_tells 16 old.gossip.steps)
          where
            steps : (2 ≤ O.nodes → old.gossip.steps < 16) → Ran b.user → Made
            steps few (k, v, went, bounds) = makes (Steps p k) [] (record { clock = old.clock + 1; kernel = old.kernel; slots = put p (hosts O (Some (context O (record b { user = v }) Running))); believed = old.believed; progress = old.progress; gossip = one_step old.gossip }) refl
                (record { body = b; user = v; was = was; unpoked = calm; went = went; bounds = bounds; no_half = few; base = record { took = refl; posts = refl; slots = λ q. refl }; still = record { kernel = refl; believed = λ q. refl; progress = refl; gossip = refl } })

            go : ((leb 2 O.nodes ≡ true) × (2 ≤ O.nodes)) ⊎ ((leb 2 O.nodes ≡ false) × (O.nodes < 2)) → ((leb 16 old.gossip.steps ≡ true) × (16 ≤ old.gossip.steps)) ⊎ ((leb 16 old.gossip.steps ≡ false) × (old.gossip.steps < 16)) → Made
            go (inl x) (inl y) = half x.1 y.1
            go (inl x) (inr y) = steps (λ z. y.1) r
            go (inr x) y = let few = x.1 in steps (λ z. absurd (omega (arith, z, few))) r

        by_asks : b.poked ≡ false → (o : Option O.Request) → O.asks b.user ≡ o → Made
        by_asks calm None e = by_steps calm e (steps_of A b.user e)
        by_asks calm (Some r) e = (makes (Sent p (O.number r)) (letter O n 0 (old.clock + 1) (Call p r) ∷ []) (record { clock = old.clock + 1; kernel = old.kernel; slots = put p (hosts O (Some (context O b (Waiting false None)))); believed = old.believed; progress = old.progress; gossip = old.gossip }) refl
            (record { body = b; request = r; was = was; unpoked = calm; asks = e; number_is = refl; base = record { took = refl; posts = refl; slots = λ q. refl }; still = record { kernel = refl; believed = λ q. refl; progress = refl; gossip = refl } }))

        by_poke : (k : Bool) → b.poked ≡ k → Made
        by_poke true e = (makes (Heed p) (letter O n 0 (old.clock + 1) (Pause p (O.room b.user)) ∷ []) (record { clock = old.clock + 1; kernel = old.kernel; slots = put p (hosts O (Some (context O (record b { poked = false }) (Waiting true None)))); believed = old.believed; progress = old.progress; gossip = old.gossip }) refl
            (record { body = b; was = was; poked = e; base = record { took = refl; posts = refl; slots = λ q. refl }; still = record { kernel = refl; believed = λ q. refl; progress = refl; gossip = refl } }))
        by_poke false e = by_asks e (O.asks b.user) refl

    -- a held call is served
    module _ (home : n ≡ 0) (p from : ℕ) (r : O.Request) (was : (old.slots p).call ≡ Some (record { from = from; request = r })) (some : O.number r ≢ 0) where
      abbrev then : First O → Last O
      then f = last O f.kernel p (O.room_of r)

      abbrev served : Manner → First O → Deed
      served manner f = Served p manner (Some (O.number r)) (value_of O f.answer) f.child (then f).signal (O.end_of (then f).kernel p) (is_some (O.lowest (then f).kernel p)) (pokes_of O p (then f).kernel old.slots f.raised (then f).raised)

      abbrev letters : First O → List (Post O)
      letters f = letter O n from (old.clock + 1) (Reply p (done_of O p f (then f))) ∷ pokes O (old.clock + 1) old.believed (pokes_of O p (then f).kernel old.slots f.raised (then f).raised)

      abbrev after : First O → Local O
      after f = record { clock = old.clock + 1; kernel = (then f).kernel; slots = put p (holds O None); believed = born_at O from f.child old.believed; progress = served_one p old.progress; gossip = old.gossip }

      did_made : (d : Acted O.Kernel O.Answer) → O.serve old.kernel p r ≡ Some d → Made
      did_made d e = let f : First O = record { kernel = d.kernel; answer = Some d.answer; child = d.child; raised = d.raised } in
          makes (served Did f) (letters f) (after f) refl
          (inr (record { home = home; from = from; request = r; was = was; first = f; acts = (d, e, some, refl); answers = record { kernel = refl; value_is = refl; child_is = refl; signal_is = refl; end_is = refl; more_is = refl }; number_is = refl; tells = refl; base = record { took = refl; posts = refl; slots = λ q. refl }; gossip = refl; believed = λ q. refl; progress = itself _ }))

      broke_made : (s : ℕ) → O.lowest old.kernel p ≡ Some s → O.serve old.kernel p r ≡ None → Made
      broke_made s low e = let f : First O = record { kernel = old.kernel; answer = Some O.broken; child = None; raised = None } in
          makes (served Broke f) (letters f) (after f) refl
          (inr (record { home = home; from = from; request = r; was = was; first = f; acts = (s, low, e, some, refl); answers = record { kernel = refl; value_is = refl; child_is = refl; signal_is = refl; end_is = refl; more_is = refl }; number_is = refl; tells = refl; base = record { took = refl; posts = refl; slots = λ q. refl }; gossip = refl; believed = λ q. refl; progress = itself _ }))

      retry_made : (O.serve old.kernel p r ≢ None) ⊎ (O.lowest old.kernel p ≢ None) → Made
      retry_made ready = by_serve (O.serve old.kernel p r) refl
        where
          by_lowest : O.serve old.kernel p r ≡ None → (O.serve old.kernel p r ≢ None) ⊎ (O.lowest old.kernel p ≢ None) → Made
          by_lowest e (inl f) = absurd (f e)
          by_lowest e (inr f) = let s = some_of (O.lowest old.kernel p) f in broke_made s.0 s.1 e

          by_serve : (o : Option (Acted O.Kernel O.Answer)) → O.serve old.kernel p r ≡ o → Made
          by_serve None e = by_lowest e ready
          by_serve (Some d) e = did_made d e

    -- the next line is carried out
    module _ (home : n ≡ 0) (line : ℕ) (higher : old.progress.line ≤ line) where
      abbrev further : List ℕ → Progress
      further ps = record { line = line + 1; done = old.progress.done + 1; launched = ps; served = old.progress.served }

      abbrev Next : Order → Type 0
      Next o = (slice_get O.script old.progress.done ≡ Some (record { line = line; order = o })) × EnabledHere O o old

      other_made : (o : Order) (input : Input) → Next o → has_text O input ≡ true → Feeds O input o → Made
      other_made o input x text suits = makes (Other line input) [] (record { clock = old.clock + 1; kernel = typed O input old.kernel; slots = old.slots; believed = old.believed; progress = further old.progress.launched; gossip = old.gossip }) refl
          (record { home = home; text = text; kernel = refl; base = record { took = refl; posts = refl; slots = λ q. sym (Rattle.protocol.proofs.Process.cond_same (q == 0) (old.slots q)) }; gossip = refl; believed = λ q. refl; what = o; suits = suits; order = record { next = x.0; enabled = x.1; rises = higher; is = itself _ } })

      move_made : (p to : ℕ) → Next (order.Move p to) → Made
      move_made p to x = by_live (O.live old.kernel p) refl
        where
          unsent : (never : Bool) → UnsentFor O never old.kernel p → Made
          unsent never why = makes (Unsent line p never) [] (record { clock = old.clock + 1; kernel = old.kernel; slots = old.slots; believed = old.believed; progress = further old.progress.launched; gossip = old.gossip }) refl
              (record { home = home; why = why; base = record { took = refl; posts = refl; slots = λ q. sym (Rattle.protocol.proofs.Process.cond_same (q == p) (old.slots q)) }; kernel = refl; gossip = refl; believed = λ q. refl; to = to; order = record { next = x.0; enabled = x.1; rises = higher; is = itself _ } })

          by_given : O.live old.kernel p ≡ false → ((leb 1 p ≡ true) × (1 ≤ p)) ⊎ ((leb 1 p ≡ false) × (p < 1)) → ((leb p (O.count old.kernel) ≡ true) × (p ≤ O.count old.kernel)) ⊎ ((leb p (O.count old.kernel) ≡ false) × (O.count old.kernel < p)) → Made
          by_given dead (inl a) (inl b) = unsent false (record { given = (a.1, b.1); dead = dead })
          by_given dead (inl a) (inr b) = unsent true (inr b.1)
          by_given dead (inr a) b = unsent true (inl (omega (arith, a.1)))

          by_live : (b : Bool) → O.live old.kernel p ≡ b → Made
          by_live true e = makes (Bid line p to) (letter O 0 (old.believed p).place (old.clock + 1) (Go p to (old.believed p).hops line) ∷ []) (record { clock = old.clock + 1; kernel = old.kernel; slots = old.slots; believed = old.believed; progress = further old.progress.launched; gossip = old.gossip }) refl
              (record { home = home; live = e; base = record { took = refl; posts = refl; slots = λ q. sym (Rattle.protocol.proofs.Process.cond_same (q == p) (old.slots q)) }; kernel = refl; gossip = refl; believed = λ q. refl; order = record { next = x.0; enabled = x.1; rises = higher; is = itself _ } })
          by_live false e = by_given e (leb_tells 1 p) (leb_tells p (O.count old.kernel))

      kill_made : (p s : ℕ) → Next (order.Kill p s) → Made
      kill_made p s x =
          let kernel : O.Kernel = O.raise old.kernel p s in
          let poked : List ℕ = both (to_poke O kernel old.slots (cond (O.hit old.kernel p s) (Some p) None)) None in
          makes (Kill line p s poked) (pokes O (old.clock + 1) old.believed poked) (record { clock = old.clock + 1; kernel = kernel; slots = old.slots; believed = old.believed; progress = further old.progress.launched; gossip = old.gossip }) refl
          (record { home = home; signal_is = A.signal old.progress.done _ x.0 p s refl; kernel = refl; tells = refl; base = record { took = refl; posts = refl; slots = λ q. sym (Rattle.protocol.proofs.Process.cond_same (q == p) (old.slots q)) }; gossip = refl; believed = λ q. refl; order = record { next = x.0; enabled = x.1; rises = higher; is = itself _ } })

      run_line : (words : List (List ℕ)) → Next (order.Run words) → Made
      run_line words x =
          let l = some_of (O.launch old.kernel) x.1 in
          let p : ℕ = O.count old.kernel + 1 in
          let i : ℕ = runs_before line O.script in
          makes (Run line i p) [] (record { clock = old.clock + 1; kernel = l.0; slots = put p (hosts O (Some (context O (fresh O (O.loaded i p)) Running))); believed = λ q. cond (q == p) (record { place = 0; hops = 0 }) (old.believed q); progress = further (p ∷ old.progress.launched); gossip = old.gossip }) refl
          (record { home = home; image = A.image old.progress.done _ x.0 words refl; launched = l.1; next = refl; base = record { took = refl; posts = refl; slots = λ q. refl }; gossip = refl; believed = λ q. refl; words = words; order = record { next = x.0; enabled = x.1; rises = higher; is = itself _ } })

      line_made : (o : Order) → Next o → Made
      line_made (order.Run words) x = run_line words x
      line_made (order.Kill p s) x = kill_made p s x
      line_made (order.Move p to) x = move_made p to x
      line_made (order.Feed bytes) x = other_made (order.Feed bytes) (Text (feeds_before line O.script)) x (A.text old.progress.done _ x.0 bytes refl) tt
      line_made order.Eof x = other_made order.Eof Finish x refl tt
      line_made (order.Wait p) x = other_made (order.Wait p) Nothing x refl tt
      line_made (order.After p k) x = other_made (order.After p k) Nothing x refl tt
      line_made (order.Held p) x = other_made (order.Held p) Nothing x refl tt
      line_made (order.Slots c) x = other_made (order.Slots c) Nothing x refl tt

  -- the cluster makes the turn
  whole : (w : World O) (n : ℕ) (t : Turn O) (new : Local O) → Makes O n (w.nodes n) t new → t.taken ≡ None → t.event.node ≡ n → (v : World O) × Goes O w t v
  whole w n t new makes off is = (
    record { nodes = λ m. cond (m == n) new (w.nodes m); links = λ a b. w.links a b ++ for_link O a b t.posted },
    record {
      makes = subst (λ (k : ℕ). Makes O k (w.nodes k) t (cond (k == n) new (w.nodes k))) (sym is) (subst (Makes O n (w.nodes n) t) (sym (cond_here n new (w.nodes n))) makes);
      elsewhere = λ m ne. cond_off m n new (w.nodes m) (λ z. ne (z ∙ sym is));
      rest = w.links;
      takes = λ a b. ap (λ (o : Option (Post O)). Rattle.protocol.specs.Cluster.at_front O o a b ++ w.links a b) (sym off);
      posts = λ a b. refl;
    },
  )

  -- a half that is due can be sent
  module _ (n : ℕ) (old : Local O) (below : n < O.nodes) (other load used : ℕ) (loaded : Loaded O old load) (in_use : InUse O old used) (movable : List Movable) (can_move : CanMove O old movable) (many : 2 ≤ O.nodes) (due : HalfDueTo O n other load (O.cap - used) (NoneRuns O old) old.gossip) where
    abbrev own : Entry
    own = record { node = n; load = load; free = O.cap - used; stamp = old.clock + 1 }

    abbrev gossip : Gossip
    gossip = gossip_after false (record { node = n; load = load; free = O.cap - used; stamp = old.clock + 1 }) [] old.gossip

    abbrev told : List (Option Entry)
    told = told_places (record { node = n; load = load; free = O.cap - used; stamp = old.clock + 1 }) old.gossip

    abbrev Half_made : Type 0
    Half_made = (t : Turn O) × (new : Local O) × Makes O n old t new × (t.taken ≡ None) × (t.event.node ≡ n)

    abbrev pub talks : (chosen : Option Choice) (t : Turn O) (new : Local O) → t.event.stamp ≡ old.clock + 1 → new.gossip ≡ gossip → O.Chooses (seen O n own gossip.vector movable) chosen → Talks O false n other chosen old t new
    talks chosen t new stamp is chooses = record {
      own = own;
      places = told;
      stamp = 0;
      used = used;
      in_use = in_use;
      loaded = loaded;
      own_is = λ i. record { node = n; load = load; free = O.cap - used; stamp = (sym stamp) i };
      sends = (many, due, refl);
      gossip = is;
      movable = movable;
      can_move = can_move;
      chooses = subst (λ (g : Gossip). O.Chooses (seen O n own g.vector movable) chosen) (sym is) chooses;
    }

    send_made : (chosen : Option Choice) → O.Chooses (seen O n own gossip.vector movable) chosen → Half_made
    send_made None chooses =
        let t : Turn O = record { event = record { stamp = old.clock + 1; node = n; what = Gossips false other }; taken = None; posted = letter O n other (old.clock + 1) (Half told) ∷ [] } in
        let new : Local O = record { clock = old.clock + 1; kernel = old.kernel; slots = old.slots; believed = old.believed; progress = old.progress; gossip = gossip } in
        (t, new, record { node = refl; below = below; stamp_is = omega arith; clock = refl; does = record { talks = talks None t new refl refl chooses; base = record { took = refl; posts = refl; slots = λ q. sym (Rattle.protocol.proofs.Process.cond_same (q == 0) (old.slots q)) }; still = record { kernel = refl; believed = λ q. refl; progress = refl } } }, refl, refl)
    send_made (Some c) chooses =
        let x = S.chosen _ c chooses in
        let y = can_run O old movable can_move c.pid x.0 in
        let t : Turn O = record { event = record { stamp = old.clock + 1; node = n; what = Begin c.pid c.to (Chosen false other) }; taken = None; posted = letter O n other (old.clock + 1) (Half told) ∷ letter O n c.to (old.clock + 1) (Ask c.pid (O.pages y.0.user)) ∷ [] } in
        let new : Local O = record { clock = old.clock + 1; kernel = old.kernel; slots = λ q. cond (q == c.pid) (hosts O (Some (context O y.0 (Asking c.to None))) (old.slots q)) (old.slots q); believed = old.believed; progress = old.progress; gossip = gossip } in
        (t, new, record { node = refl; below = below; stamp_is = omega arith; clock = refl; does = record { body = y.0; was = y.1; away = x.2; why = talks (Some c) t new refl refl chooses; base = record { took = refl; posts = refl; slots = λ q. refl }; still = record { kernel = refl; believed = λ q. refl; progress = refl } } }, refl, refl)

    half_made : Able O → Half_made
    half_made A = let a = A.answers (seen O n own gossip.vector movable) in send_made a.0 a.1

  -- after sixteen quanta of steps one is due
  late_due : (n load free : ℕ) (P : Type 0) (g : Gossip) → 16 ≤ g.steps → (other : ℕ) × HalfDueTo O n other load free P g
  late_due n load free P g late = go (leb_tells (O.nodes - 1) g.sent)
    where
      go : ((leb (O.nodes - 1) g.sent ≡ true) × (O.nodes - 1 ≤ g.sent)) ⊎ ((leb (O.nodes - 1) g.sent ≡ false) × (g.sent < O.nodes - 1)) → (other : ℕ) × HalfDueTo O n other load free P g
      go (inl x) = (_, inr (x.1, refl, inl late))
      go (inr x) = (_, inl (x.1, refl))

  pub can_go : (h : List (Turn O)) (sp : ℕ → Spot O) (w : World O) → Path O S h sp w → Stands O S sp w → Able O → (k : Kind) (n : ℕ) → n < O.nodes → Applies O k n (w.nodes n) → (t : Turn O) × (v : World O) × Goes O w t v × (t.taken ≡ None) × (t.event.node ≡ n)
  can_go h sp w path st A kind n below x = go (made kind x)
    where
      no_fault : (p : ℕ) (c : Called O) → n ≡ 0 → ((w.nodes n).slots p).call ≡ Some c → O.number c.request ≢ 0
      no_fault p c home was = let y = call_tells O p (sp p) w (st.at p) n home c was in (subst (Sleeps O S p (Since O S (events O h) p)) y.2 (path_sleeps O S h sp w path p)).2

      late : 2 ≤ O.nodes → 16 ≤ (w.nodes n).gossip.steps → Made A n (w.nodes n) below
      late many steps =
          let d = late_due n _ _ (NoneRuns O (w.nodes n)) (w.nodes n).gossip steps in
          half_made n (w.nodes n) below d.0 _ _ (loaded O S sp w st n) (in_use O S sp w st n) _ (can_move O S sp w st n) many d.1 A

      made : (k : Kind) → Applies O k n (w.nodes n) → Made A n (w.nodes n) below
      made (Retry p) (home, d) = retry_made A n (w.nodes n) below home p d.call.from d.call.request d.held (no_fault p d.call home d.held) d.ready
      made (RunOn p) (b, was) = run_made A n (w.nodes n) below p b was late
      made NextLine (home, d) = line_made A n (w.nodes n) below home d.line.line (rises A (w.nodes n).progress d.line (subst (λ (k : ℕ). LineAt (w.nodes k).progress) (sym home) (path_line h sp w path)) d.next) d.line.order (d.next, d.enabled)
      made (SendHalf other) d = half_made n (w.nodes n) below other d.load d.used d.loaded d.in_use _ (can_move O S sp w st n) d.many d.due A

      go : Made A n (w.nodes n) below → (t : Turn O) × (v : World O) × Goes O w t v × (t.taken ≡ None) × (t.event.node ≡ n)
      go (t, new, makes, off, is) = let v = whole w n t new makes off is in (t, v.0, v.1, off, is)
