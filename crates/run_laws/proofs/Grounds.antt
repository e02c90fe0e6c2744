-- Each refusal of a move that is under way has such a move, and each decision is on the machine's pages.
use Rattle.std.proofs.Common.{◌≡◌, ℕ, zero, suc, ◌+◌, ◌<◌, ◌≤◌, ◌⊎◌, inl, inr, Bool, true, false, not, Option, Some, None, List, [], ◌∷◌, refl, sym, ap, ◌∙◌, subst, arith}
use Rattle.protocol.specs.Ops.{Ops, Sound}
use Rattle.protocol.specs.Deeds.{Gone, Moving, There, Deed, Run, Kill, Bid, Unsent, Other, Steps, Sent, Heed, Held, Served, Got, Poked, Begin, Keep, Missed, Again, Allows, Denies, Depart, Stay, Land, Told, Refused, Closed, Gossips, Strange, Noted, pid_of}
use Rattle.protocol.specs.Notes.{Turn, Body, Kept, Running, Waiting, Asking, context}
use Rattle.protocol.specs.Spots.{Spot, Nowhere, Runs, Calls, Holds, Pauses, Answered, Asks, Granted, Denied, Travels, InReply, Ended}
use Rattle.protocol.specs.Cluster.{World}
use Rattle.protocol.specs.Does.{Does}
use Rattle.protocol.specs.Needs.{Needs}
use Rattle.run_laws.specs.Machine.{MachineState}
use Rattle.protocol.specs.Cluster.{events}
use Rattle.run_laws.specs.Facts.{Facts, facts, Node}
use Rattle.run_laws.specs.UnderWay.{moves, UnderWay}
use Rattle.run_laws.specs.Grounds.{EndedWhere, GroundedAt, Grounded}
use Rattle.protocol.specs.Deeds.{KeptTold}
use Rattle.protocol.specs.Home.{HasEnded, UnsentFor}
use Rattle.protocol.specs.Does.{InUse}
use Rattle.protocol.specs.Needs.{GotReply}
use Rattle.std.specs.Prelude.{nat_lt, ◌-◌}
use Rattle.std.proofs.lemmas.Bool.Decides.{nat_tests}
use Rattle.run_laws.specs.Schedule.{machine_at, With}
use Rattle.run_laws.specs.Pages.{pages_of, used_pages}
use Rattle.run_laws.proofs.Pages.{path_used}
use Rattle.run_laws.proofs.Plays.{at_replay, with_some}
use Rattle.run_laws.proofs.Played.{Agrees}
use Rattle.protocol.proofs.Process.{StateTells, context_tells}
use Rattle.protocol.proofs.Stand.{Stands, Step, Path}
use Rattle.run_laws.proofs.Facts.{facts_of, kept_to, path_tells}
use Rattle.run_laws.proofs.Replay.{user_of}
use Rattle.protocol.specs.Needs.{alive, Right}
use Rattle.run_laws.proofs.Played.{path_played}
use Rattle.run_laws.proofs.Moves.{Balanced, asks_of, path_balanced}
use Rattle.run_laws.proofs.Hops.{over, AtPlace, Ok}
use Rattle.run_laws.proofs.Trails.{path_trails, path_lives, taken_ok, TakenOk}
use Rattle.run_laws.specs.Outcomes.{outcomes}
use Rattle.protocol.proofs.Talk.{same_numbers}
use Rattle.run_laws.proofs.Errands.{settled, errand_way, of_line}
use Rattle.run_laws.proofs.Family.{was_under}
use Rattle.run_laws.proofs.Lines.{errand_tells, path_lines}
use Rattle.run_laws.proofs.Reports.{tolds_least}

module _ (O : Ops) (S : Sound O) where
  place_one : (sp : ℕ → Spot O) (s : Spot O) (i j : ℕ) → AtPlace O S sp s i → AtPlace O S sp s j → i ≡ j
  place_one sp Nowhere i j e f = absurd e
  place_one sp (Runs m b) i j e f = sym e ∙ f
  place_one sp (Calls m b k r) i j e f = sym e ∙ f
  place_one sp (Holds m b k r) i j e f = sym e ∙ f
  place_one sp (Pauses m b k r) i j e f = sym e ∙ f
  place_one sp (Answered m b k d x y) i j e f = sym e ∙ f
  place_one sp (Asks m b to l need) i j e f = sym e ∙ f
  place_one sp (Granted m b to l need) i j e f = sym e ∙ f
  place_one sp (Denied m b to l need free) i j e f = sym e ∙ f
  place_one sp (Travels a c b l need) i j e f = absurd e
  place_one sp (InReply q u) i j e f = sym e ∙ f
  place_one sp (Ended u) i j e f = absurd e

  over_dead : (s : Spot O) → over O S s ≡ true → alive O s ≡ false
  over_dead Nowhere e = absurd cc
  over_dead (Runs m b) e = absurd cc
  over_dead (Calls m b k r) e = absurd cc
  over_dead (Holds m b k r) e = absurd cc
  over_dead (Pauses m b k r) e = absurd cc
  over_dead (Answered m b k d x y) e = ap not e
  over_dead (Asks m b to l need) e = absurd cc
  over_dead (Granted m b to l need) e = absurd cc
  over_dead (Denied m b to l need free) e = absurd cc
  over_dead (Travels a c b l need) e = absurd cc
  over_dead (InReply q u) e = absurd cc
  over_dead (Ended u) e = refl

  waiting_kept : (x : Bool) (k : Option Kept) (b : Body O) (n : ℕ) (s : Spot O) → StateTells O (Waiting x k) b n s → (facts_of O S s).kept ≡ kept_to k
  waiting_kept x k b n s (inl (q, e, z)) = ap (λ (z : Spot O). (facts_of O S z).kept) e
  waiting_kept x k b n s (inr (inl (q, e, z))) = ap (λ (z : Spot O). (facts_of O S z).kept) e
  waiting_kept x k b n s (inr (inr (inl (q, e, z)))) = ap (λ (z : Spot O). (facts_of O S z).kept) e
  waiting_kept x k b n s (inr (inr (inr (d, y, e)))) = ap (λ (z : Spot O). (facts_of O S z).kept) e

  waiting_place : (x : Bool) (k : Option Kept) (b : Body O) (n : ℕ) (s : Spot O) → StateTells O (Waiting x k) b n s → (facts_of O S s).places ≡ Node n ∷ []
  waiting_place x k b n s (inl (q, e, z)) = ap (λ (z : Spot O). (facts_of O S z).places) e
  waiting_place x k b n s (inr (inl (q, e, z))) = ap (λ (z : Spot O). (facts_of O S z).places) e
  waiting_place x k b n s (inr (inr (inl (q, e, z)))) = ap (λ (z : Spot O). (facts_of O S z).places) e
  waiting_place x k b n s (inr (inr (inr (d, y, e)))) = ap (λ (z : Spot O). (facts_of O S z).places) e

  asking_one : (to : ℕ) (l : Option ℕ) (b : Body O) (n : ℕ) (s : Spot O) → StateTells O (Asking to l) b n s → (asks_of O S s ≡ 1) × (over O S s ≡ false) × (s ≡ Nowhere → ⊥)
  asking_one to l b n s (inl (x, e)) = (ap (asks_of O S) e, ap (over O S) e, λ z. (let y = sym e ∙ z in cc))
  asking_one to l b n s (inr (inl (x, e))) = (ap (asks_of O S) e, ap (over O S) e, λ z. (let y = sym e ∙ z in cc))
  asking_one to l b n s (inr (inr (x, y, e))) = (ap (asks_of O S) e, ap (over O S) e, λ z. (let y2 = sym e ∙ z in cc))

  module _ (h : List (Turn O)) (w : World O) (t : Turn O) (v : World O) (sp next : ℕ → Spot O) (path : Path O S h sp w) (stands : Stands O S sp w) (st : Step O S sp w t next v) where
    abbrev es : List Noted
    es = events O h

    bal : (q : ℕ) → Balanced O S (sp q) (moves q es)
    bal q = path_balanced O S h sp w path q

    refused : (p to line : ℕ) → t.event.what ≡ Refused p to Moving line → Does O (Refused p to Moving line) t.event.node (w.nodes t.event.node) t (v.nodes t.event.node) → UnderWay p es
    refused p to line is (inl d) = go d.was
      where
        go : ((b : Body O) × (to2 : ℕ) × (line2 : Option ℕ) × (((w.nodes t.event.node).slots p).context ≡ Some (context O b (Asking to2 line2)))) ⊎ ((b : Body O) × (x : Bool) × (k : Kept) × (((w.nodes t.event.node).slots p).context ≡ Some (context O b (Waiting x (Some k))))) → UnderWay p es
        go (inr (b, x, k, e)) = inl (k.to, ap (λ (z : Facts). z.kept) (path_tells O S h sp w path p) ∙ waiting_kept x (Some k) b t.event.node (sp p) (context_tells O p (sp p) w (stands.at p) t.event.node b (Waiting x (Some k)) e))
        go (inl (b, to2, line2, e)) =
            let a = asking_one to2 line2 b t.event.node (sp p) (context_tells O p (sp p) w (stands.at p) t.event.node b (Asking to2 line2) e) in
            inr (by a.0 (belief a.1 ((path_trails O S h sp w path).belief p a.2)))
          where
            belief : over O S (sp p) ≡ false → Ok O S sp (sp p) (moves p es) ((w.nodes 0).believed p).place ((w.nodes 0).believed p).hops → ((w.nodes 0).believed p).hops ≤ (moves p es).departs
            belief f (inl x) = let z : true ≡ false = sym x ∙ f in absurd cc
            belief f (inr (inl x)) = omega (arith, x)
            belief f (inr (inr x)) = omega (arith, x.0)

            by : asks_of O S (sp p) ≡ 1 → ((w.nodes 0).believed p).hops ≤ (moves p es).departs → (moves p es).stays + (moves p es).tolds < (moves p es).begins
            by a least = omega (arith, (bal p).begins, a, tolds_least O S h sp w path p (moves p es).departs least)
    refused p to line is (inr d) = inr (by (late (taken 0) (taken 1)))
      where
        taken : (x : ℕ) → Ok O S sp (sp p) (moves p es) x d.hops
        taken = subst (TakenOk O S h w t v sp next stands st bal (path_trails O S h sp w path) (path_lives O S h sp w path)) d.base.took (taken_ok O S h w t v sp next stands st bal (path_trails O S h sp w path) (path_lives O S h sp w path))

        living : over O S (sp p) ≡ true → ⊥
        living e =
            let b = path_played O S h sp w path in
            let home : (w.nodes 0).kernel ≡ (w.nodes t.event.node).kernel = ap (λ (k : ℕ). (w.nodes k).kernel) (sym d.home) in
            let z : true ≡ false = sym d.was.0 ∙ (ap (λ (k : O.Kernel). O.live k p) (sym home ∙ b.agrees.kernel) ∙ (b.agrees.alive p ∙ over_dead (sp p) e)) in cc

        late : Ok O S sp (sp p) (moves p es) 0 d.hops → Ok O S sp (sp p) (moves p es) 1 d.hops → d.hops < (moves p es).departs
        late (inl x) y = absurd (living x)
        late (inr (inl x)) y = x
        late (inr (inr x)) (inl y) = absurd (living y)
        late (inr (inr x)) (inr (inl y)) = y
        late (inr (inr x)) (inr (inr y)) = let z : 0 ≡ 1 = place_one sp (sp p) 0 1 x.1 y.1 in absurd (omega (arith, z))

        least : ((w.nodes 0).believed p).hops ≤ d.hops
        least = subst (λ (k : ℕ). ((w.nodes k).believed p).hops ≤ d.hops) d.home d.was.1

        by : d.hops < (moves p es).departs → (moves p es).stays + (moves p es).tolds < (moves p es).begins
        by less = omega (arith, (bal p).begins, less, tolds_least O S h sp w path p d.hops least)

    module _ (m : MachineState O) (agrees : Agrees O S h sp (w.nodes 0) m) where
      abbrev n : ℕ
      n = t.event.node

      kernel_at : n ≡ 0 → (w.nodes n).kernel ≡ m.kernel
      kernel_at e = ap (λ (k : ℕ). (w.nodes k).kernel) e ∙ agrees.kernel

      -- a process that is somewhere was given its pid
      given : (p : ℕ) → (sp p ≡ Nowhere → ⊥) → (1 ≤ p) × (p ≤ O.count m.kernel)
      given p some = (first p some, least (nat_lt (O.count m.kernel) p) refl)
        where
          first : (k : ℕ) → (sp k ≡ Nowhere → ⊥) → 1 ≤ k
          first zero some = absurd (some stands.zero)
          first (suc k) some = omega arith

          least : (b : Bool) → nat_lt (O.count m.kernel) p ≡ b → p ≤ O.count m.kernel
          least true e = absurd (some (stands.unborn p (omega (arith, ap O.count agrees.kernel, beyond))))
            where
              beyond : O.count m.kernel < p
              beyond = grind (arith, nat_tests)
          least false e = grind (arith, nat_tests)

      ended_at : (p : ℕ) → (sp p ≡ Nowhere → ⊥) → O.live m.kernel p ≡ false → HasEnded O m.kernel p
      ended_at p some dead = record { given = given p some; dead = dead }

      got_ended : (ended : Bool) (p : ℕ) (child : Option ℕ) (kept : Option KeptTold) → GotReply O n p child ended kept (sp p) st.own → EndedWhere O ended p m
      got_ended true p child kept d = ended_at p (λ z. (let y = sym d.was ∙ z in cc)) (agrees.alive p ∙ (ap (alive O) d.was ∙ ap not (sym d.ended_is)))
      got_ended false p child kept d = agrees.alive p ∙ (ap (alive O) d.was ∙ ap not (sym d.ended_is))

      needed : (p need : ℕ) (s : Spot O) → sp p ≡ s → (b : Body O) → user_of O S s ≡ Some b.user → (Right O s → need ≡ O.pages b.user) → need ≡ pages_of O (m.users p)
      needed p need s e b f g = g (subst (Right O) e (agrees.right p)) ∙ sym (ap (pages_of O) (agrees.users p ∙ (ap (user_of O S) e ∙ f)))

      unused : (used : ℕ) → InUse O (w.nodes n) used → used ≡ used_pages O n es m
      unused used d = path_used O S h sp w path stands m agrees n used d

      -- a Go that comes to its target, where its process is
      there : (p to line : ℕ) → Does O (Refused p to There line) n (w.nodes n) t (v.nodes n) → (n ≡ to) × ((facts p es).places ≡ Node n ∷ [])
      there p to line (inl d) = (sym d.was.1, ap (λ (k : Facts). k.places) (path_tells O S h sp w path p) ∙ go d.was.0)
        where
          go : ((b : Body O) × (((w.nodes n).slots p).context ≡ Some (context O b Running))) ⊎ ((b : Body O) × (x : Bool) × (((w.nodes n).slots p).context ≡ Some (context O b (Waiting x None)))) → (facts_of O S (sp p)).places ≡ Node n ∷ []
          go (inl (b, e)) = ap (λ (k : Spot O). (facts_of O S k).places) (context_tells O p (sp p) w (stands.at p) n b Running e)
          go (inr (b, x, e)) = waiting_place x None b n (sp p) (context_tells O p (sp p) w (stands.at p) n b (Waiting x None) e)
      there p to line (inr d) = absurd d.was

      nowhere_not : (p i : ℕ) → sp p ≡ Nowhere → Ok O S sp (sp p) (moves p es) 0 i → ⊥
      nowhere_not p i e (inl x) = let z : true ≡ false = sym x ∙ ap (over O S) e in cc
      nowhere_not p i e (inr (inl x)) =
          let b = subst (λ (k : Spot O). Balanced O S k (moves p es)) e (bal p) in
          absurd (omega (arith, x, b.departs, b.hops))
      nowhere_not p i e (inr (inr x)) = absurd (subst (λ (k : Spot O). AtPlace O S sp k 0) e x.1)

      gone : (p to line : ℕ) → t.event.what ≡ Refused p to Gone line → Does O (Refused p to Gone line) n (w.nodes n) t (v.nodes n) → HasEnded O m.kernel p
      gone p to line is (inl d) = absurd d.was
      gone p to line is (inr d) = ended_at p (λ e. nowhere_not p d.hops e (taken 0)) (ap (λ (k : O.Kernel). O.live k p) (sym (kernel_at d.home)) ∙ d.was)
        where
          taken : (x : ℕ) → Ok O S sp (sp p) (moves p es) x d.hops
          taken = subst (TakenOk O S h w t v sp next stands st bal (path_trails O S h sp w path) (path_lives O S h sp w path)) d.base.took (taken_ok O S h w t v sp next stands st bal (path_trails O S h sp w path) (path_lives O S h sp w path))

      -- the letter that closes a line comes after its outcome
      closed : (line : ℕ) → Does O (Closed line) n (w.nodes n) t (v.nodes n) → outcomes line es ≡ 1
      closed line d =
          let ln = path_lines O S h sp w path in
          let was = errand_tells O S line (ln.errands line) _ (was_under O (of_line O line) w t v st.goes (errand_way O line (ln.errands line)) _ (ln.under line) d.base.took (same_numbers line line refl)).0 in
          ln.result line ∙ ap settled was

      grounded_at : (what : Deed) → t.event.what ≡ what → Does O what n (w.nodes n) t (v.nodes n) → Needs O what n (w.nodes n) (v.nodes n) (sp (pid_of what)) st.own → GroundedAt O what n es m
      grounded_at (Run line i p) is d need = tt
      grounded_at (Kill line p g poked) is d need = tt
      grounded_at (Bid line p to) is d need = ap (λ (k : O.Kernel). O.live k p) (sym (kernel_at need.is.why.0)) ∙ need.is.why.1
      grounded_at (Unsent line p never) is d need = subst (λ (k : O.Kernel). UnsentFor O never k p) (kernel_at need.is.why.0) need.is.why.1
      grounded_at (Other line input) is d need = tt
      grounded_at (Steps p k) is d need = tt
      grounded_at (Sent p k) is d need = tt
      grounded_at (Heed p) is d need = tt
      grounded_at (Held p k) is d need = tt
      grounded_at (Served p manner number value child signal ends more poked) is d need = tt
      grounded_at (Got p child ended kept) is d need = got_ended ended p child kept need.is
      grounded_at (Poked p used) is d need = tt
      grounded_at (Begin p to reason) is d need = tt
      grounded_at (Keep p to line) is d need = tt
      grounded_at (Missed p to line) is d need = tt
      grounded_at (Again p to place line) is d need = tt
      grounded_at (Allows p from load) is d need = record { need_is = needed p load _ need.is.was need.is.body refl (λ z. z); room = subst (λ (k : ℕ). load ≤ O.cap - k) (unused need.is.used need.is.in_use) need.is.room }
      grounded_at (Denies p from load free) is d need = record { need_is = needed p load _ need.is.was need.is.body refl (λ z. z); free_is = need.is.free_is ∙ ap (λ (k : ℕ). O.cap - k) (unused need.is.used need.is.in_use); short = need.is.short }
      grounded_at (Depart p to) is d need = tt
      grounded_at (Stay p to load free) is d need = ap (λ (k : Facts). k.denial) (path_tells O S h sp w path p ∙ ap (facts_of O S) need.is.was)
      grounded_at (Land p source) is d need = tt
      grounded_at (Told p at source hops line poked) is d need = tt
      grounded_at (Refused p to Gone line) is d need = gone p to line is d
      grounded_at (Refused p to Moving line) is d need = refused p to line is d
      grounded_at (Refused p to There line) is d need = there p to line d
      grounded_at (Closed line) is d need = closed line d
      grounded_at (Gossips heard other) is d need = tt
      grounded_at (Strange p) is d need = tt

    grounded_next : With (machine_at O es) (λ m. GroundedAt O t.event.what t.event.node es m)
    grounded_next =
        let b = path_played O S h sp w path in
        with_some _ b.machine _ (at_replay O es ∙ b.agrees.plays) (grounded_at b.machine b.agrees t.event.what refl st.goes.makes.does st.needs)

  pub path_grounded : (h : List (Turn O)) (sp : ℕ → Spot O) (w : World O) → Path O S h sp w → Grounded O (events O h)
  path_grounded [] sp w r = tt
  path_grounded (t ∷ h) sp v r = (grounded_next h r.0 t v r.1 sp r.2 r.3 r.4, path_grounded h r.1 r.0 r.2)
