-- What a node can do without a letter is what is due there, by the events and the machine.
use Rattle.std.proofs.Common.{◌≡◌, ◌≢◌, ℕ, ◌-◌, ◌<◌, ◌≤◌, ◌⊎◌, inl, inr, Bool, true, false, not, cond, Option, Some, None, List, [], ◌∷◌, refl, sym, ap, ◌∙◌, subst}
use Rattle.std.specs.Prelude.{slice_get}
use Rattle.node_event.specs.declared.script.Order.{Order}
use Rattle.node_event.specs.declared.script.Order.TheVariants as order
use Rattle.protocol.specs.Ops.{Ops, Sound}
use Rattle.protocol.specs.Deeds.{Noted}
use Rattle.protocol.specs.Notes.{Turn, Body, Kept, Slot, Running, context}
use Rattle.protocol.specs.Spots.{Spot, Nowhere, Runs, Calls, Holds, Pauses, Answered, Asks, Granted, Denied, Travels, InReply, Ended, call_at, slot_by}
use Rattle.protocol.specs.Home.{live_of, HasEnded, unheld}
use Rattle.protocol.specs.Needs.{Right, alive}
use Rattle.protocol.specs.Does.{EnabledHere, NoneRuns}
use Rattle.protocol.specs.Cluster.{World, events}
use Rattle.protocol.specs.Rests.{Kind, Retry, RunOn, NextLine, SendHalf, HalfReady, MayGoOn, RunsHere, LineReady, Applies, Finished, Busy}
use Rattle.protocol.proofs.Talk.{same_numbers}
use Rattle.protocol.proofs.Process.{cond_here, context_tells, call_tells}
use Rattle.protocol.proofs.Stand.{Stands, Path}
use Rattle.run_laws.specs.Machine.{MachineState}
use Rattle.run_laws.specs.Facts.{Node, Facts, facts, is_held}
use Rattle.run_laws.specs.ScriptLaw.{commands, Enabled}
use Rattle.run_laws.specs.Due.{Same, CanGoOn, LineEnabled, DueAs, Due, LeastFull}
use Rattle.run_laws.specs.Ends.{IsDone}
use Rattle.run_laws.specs.Pages.{used_pages}
use Rattle.run_laws.specs.Loads.{IsFree, load_at}
use Rattle.run_laws.specs.GossipLaw.{HalfIsDue}
use Rattle.run_laws.specs.Vectors.{exchanged}
use Rattle.run_laws.proofs.HalfTargets.{target_near}
use Rattle.run_laws.proofs.Here.{load_told, used_told, loaded_at, used_at}
use Rattle.run_laws.proofs.Exchanged.{due_same, path_exchanged}
use Rattle.run_laws.proofs.Facts.{facts_of, path_tells}
use Rattle.run_laws.proofs.Held.{held_same}
use Rattle.run_laws.proofs.Replay.{user_of}
use Rattle.run_laws.proofs.Played.{Agrees}
use Rattle.run_laws.proofs.Script.{Follows, path_follows}

not_true : (b : Bool) → b ≡ true → not b ≡ false
not_true true e = refl
not_true false e = absurd cc

not_false : (b : Bool) → not b ≡ false → b ≡ true
not_false true e = refl
not_false false e = absurd cc

node_same : (a b : ℕ) → Node a ∷ [] ≡ Node b ∷ [] → a ≡ b
node_same a b e = cc

module _ (O : Ops) (S : Sound O) where
  -- what the events tell of a process tells its spot
  pub held_spot : (s : Spot O) → is_held (facts_of O S s) ≡ true → (n : ℕ) × (b : Body O) × (k : Option Kept) × (r : O.Request) × (s ≡ Holds n b k r)
  held_spot Nowhere e = absurd cc
  held_spot (Runs m b) e = absurd cc
  held_spot (Calls m b k r) e = absurd cc
  held_spot (Holds m b k r) e = (m, b, k, r, refl)
  held_spot (Pauses m b k r) e = absurd cc
  held_spot (Answered m b k d x y) e = absurd cc
  held_spot (Asks m b to l need) e = absurd cc
  held_spot (Granted m b to l need) e = absurd cc
  held_spot (Denied m b to l need free) e = absurd cc
  held_spot (Travels a c b l need) e = absurd cc
  held_spot (InReply q u) e = absurd cc
  held_spot (Ended u) e = absurd cc

  free_spot : (n : ℕ) (s : Spot O) → (facts_of O S s).places ≡ Node n ∷ [] → (facts_of O S s).waits ≡ false → (facts_of O S s).asks ≡ false → (b : Body O) × (s ≡ Runs n b)
  free_spot n Nowhere e f g = absurd cc
  free_spot n (Runs m b) e f g = (b, ap (λ (k : ℕ). Runs k b) (node_same m n e))
  free_spot n (Calls m b k r) e f g = absurd cc
  free_spot n (Holds m b k r) e f g = absurd cc
  free_spot n (Pauses m b k r) e f g = absurd cc
  free_spot n (Answered m b k d x y) e f g = absurd cc
  free_spot n (Asks m b to l need) e f g = absurd cc
  free_spot n (Granted m b to l need) e f g = absurd cc
  free_spot n (Denied m b to l need free) e f g = absurd cc
  free_spot n (Travels a c b l need) e f g = absurd cc
  free_spot n (InReply q u) e f g = absurd cc
  free_spot n (Ended u) e f g = absurd cc

  same_request : (u v : O.User) (q r : O.Request) (o : Option O.User) → o ≡ Some u → o ≡ Some v → O.asks u ≡ Some q → O.asks v ≡ Some r → q ≡ r
  same_request u v q r o e f a b = let same : u ≡ v = cc in let x : Some q ≡ Some r = sym a ∙ (ap O.asks same ∙ b) in cc

  module _ (h : List (Turn O)) (sp : ℕ → Spot O) (w : World O) (path : Path O S h sp w) (st : Stands O S sp w) (m : MachineState O) (agrees : Agrees O S h sp (w.nodes 0) m) where
    abbrev es : List Noted
    es = events O h

    tells : (q : ℕ) → facts q es ≡ facts_of O S (sp q)
    tells q = path_tells O S h sp w path q

    kernel_at : (n : ℕ) → n ≡ 0 → (w.nodes n).kernel ≡ m.kernel
    kernel_at n home = ap (λ (k : ℕ). (w.nodes k).kernel) home ∙ agrees.kernel

    call_is : (n : ℕ) → n ≡ 0 → (p : ℕ) → ((w.nodes n).slots p).call ≡ call_at O (sp p)
    call_is n home p = ap (λ (k : Slot O). k.call) ((st.at p).slots n) ∙ ap (λ (b : Bool). cond b (call_at O (sp p)) None) (same_numbers n 0 home)

    retry_due : (n p : ℕ) → n ≡ 0 → MayGoOn O (w.nodes n) p → CanGoOn O p es m
    retry_due n p home d =
        let t = call_tells O p (sp p) w (st.at p) n home d.call d.held in record {
          held = ap is_held (tells p) ∙ ap (λ (s : Spot O). is_held (facts_of O S s)) t.2;
          number = O.number d.call.request;
          requests = record {
            user = t.0.user;
            request = d.call.request;
            has = agrees.users p ∙ ap (user_of O S) t.2;
            asks = subst (Right O) t.2 (agrees.right p);
            number_is = refl;
          };
          ready = subst (λ (k : O.Kernel). (O.serve k p d.call.request ≢ None) ⊎ (O.lowest k p ≢ None)) (kernel_at n home) d.ready;
        }

    due_retry : (n p : ℕ) → n ≡ 0 → CanGoOn O p es m → MayGoOn O (w.nodes n) p
    due_retry n p home d =
        let t = held_spot (sp p) (sym (ap is_held (tells p)) ∙ d.held) in
        let asks : O.asks t.1.user ≡ Some t.3 = subst (Right O) t.4 (agrees.right p) in
        let same : d.requests.request ≡ t.3 = same_request d.requests.user t.1.user d.requests.request t.3 (m.users p) d.requests.has (agrees.users p ∙ ap (user_of O S) t.4) d.requests.asks asks in
        record {
          call = record { from = t.0; request = t.3 };
          held = call_is n home p ∙ ap (call_at O) t.4;
          ready = subst (λ (k : O.Kernel). (O.serve k p t.3 ≢ None) ⊎ (O.lowest k p ≢ None)) (sym (kernel_at n home)) (subst (λ (q : O.Request). (O.serve m.kernel p q ≢ None) ⊎ (O.lowest m.kernel p ≢ None)) same d.ready);
        }

    run_due : (n p : ℕ) → RunsHere O (w.nodes n) p → IsFree O n p es m
    run_due n p (b, e) =
        let is : sp p ≡ Runs n b = context_tells O p (sp p) w (st.at p) n b Running e in record {
          holder = ap (λ (f : Facts). f.places) (tells p) ∙ ap (λ (s : Spot O). (facts_of O S s).places) is;
          live = agrees.alive p ∙ ap (alive O) is;
          awake = ap (λ (f : Facts). f.waits) (tells p) ∙ ap (λ (s : Spot O). (facts_of O S s).waits) is;
          settled = ap (λ (f : Facts). f.asks) (tells p) ∙ ap (λ (s : Spot O). (facts_of O S s).asks) is;
        }

    due_run : (n p : ℕ) → IsFree O n p es m → RunsHere O (w.nodes n) p
    due_run n p d =
        let t = free_spot n (sp p) (sym (ap (λ (f : Facts). f.places) (tells p)) ∙ d.holder) (sym (ap (λ (f : Facts). f.waits) (tells p)) ∙ d.awake) (sym (ap (λ (f : Facts). f.asks) (tells p)) ∙ d.settled) in
        (t.0, ap (λ (k : Slot O). k.context) ((st.at p).slots n) ∙ (ap (λ (s : Spot O). (slot_by O s n).context) t.1 ∙ cond_here n (Some (context O t.0 Running)) None))

    follows : Follows es (w.nodes 0).progress
    follows = path_follows O S h sp w path

    holds : (q : ℕ) → unheld O ((w.nodes 0).slots q).call ≡ not (is_held (facts q es))
    holds q = ap (unheld O) (call_is 0 refl q) ∙ (held_same O S (sp q) ∙ ap (λ (k : Facts). not (is_held k)) (sym (tells q)))

    live_same : (c : ℕ) → live_of (O.live (w.nodes 0).kernel) (w.nodes 0).progress.launched < c → live_of (O.live m.kernel) (Rattle.run_laws.specs.ScriptLaw.launched_in es) < c
    live_same c e = subst (λ (x : ℕ). x < c) (ap (λ (k : O.Kernel). live_of (O.live k) (w.nodes 0).progress.launched) agrees.kernel ∙ ap (live_of (O.live m.kernel)) follows.launched) e

    live_back : (c : ℕ) → live_of (O.live m.kernel) (Rattle.run_laws.specs.ScriptLaw.launched_in es) < c → live_of (O.live (w.nodes 0).kernel) (w.nodes 0).progress.launched < c
    live_back c e = subst (λ (x : ℕ). x < c) (sym (ap (λ (k : O.Kernel). live_of (O.live k) (w.nodes 0).progress.launched) agrees.kernel ∙ ap (live_of (O.live m.kernel)) follows.launched)) e

    ended_at : (p : ℕ) → HasEnded O (w.nodes 0).kernel p → HasEnded O m.kernel p
    ended_at p e = subst (λ (k : O.Kernel). HasEnded O k p) agrees.kernel e

    ended_back : (p : ℕ) → HasEnded O m.kernel p → HasEnded O (w.nodes 0).kernel p
    ended_back p e = subst (λ (k : O.Kernel). HasEnded O k p) (sym agrees.kernel) e

    enabled_at : (o : Order) → EnabledHere O o (w.nodes 0) → Enabled O o es m
    enabled_at (order.Run words) e = subst (λ (k : O.Kernel). O.launch k ≢ None) agrees.kernel e
    enabled_at (order.Kill p s) e = tt
    enabled_at (order.Move p to) e = tt
    enabled_at (order.Feed text) e = tt
    enabled_at order.Eof e = tt
    enabled_at (order.Wait p) e = ended_at p e
    enabled_at (order.After p k) (inl e) = inl (subst (λ (x : ℕ). k ≤ x) (follows.served p) e)
    enabled_at (order.After p k) (inr e) = inr (ended_at p e)
    enabled_at (order.Held p) (inl e) = inl (not_false (is_held (facts p es)) (sym (holds p) ∙ e))
    enabled_at (order.Held p) (inr e) = inr (ended_at p e)
    enabled_at (order.Slots c) e = live_same c e

    enabled_back : (o : Order) → Enabled O o es m → EnabledHere O o (w.nodes 0)
    enabled_back (order.Run words) e = subst (λ (k : O.Kernel). O.launch k ≢ None) (sym agrees.kernel) e
    enabled_back (order.Kill p s) e = tt
    enabled_back (order.Move p to) e = tt
    enabled_back (order.Feed text) e = tt
    enabled_back order.Eof e = tt
    enabled_back (order.Wait p) e = ended_back p e
    enabled_back (order.After p k) (inl e) = inl (subst (λ (x : ℕ). k ≤ x) (sym (follows.served p)) e)
    enabled_back (order.After p k) (inr e) = inr (ended_back p e)
    enabled_back (order.Held p) (inl e) = inl (holds p ∙ not_true (is_held (facts p es)) e)
    enabled_back (order.Held p) (inr e) = inr (ended_back p e)
    enabled_back (order.Slots c) e = live_back c e

    line_due : LineReady O (w.nodes 0) → LineEnabled O es m
    line_due d = record {
      line = d.line;
      next = ap (slice_get O.script) (sym follows.done) ∙ d.next;
      enabled = enabled_at d.line.order d.enabled;
    }

    due_line : LineEnabled O es m → LineReady O (w.nodes 0)
    due_line d = record {
      line = d.line;
      next = ap (slice_get O.script) follows.done ∙ d.next;
      enabled = enabled_back d.line.order d.enabled;
    }

    told : (n : ℕ) → (exchanged O es).nodes n ≡ (w.nodes n).gossip
    told n = (path_exchanged O S h sp w path).nodes n

    pub none_free : (n : ℕ) → NoneRuns O (w.nodes n) → (p : ℕ) → IsFree O n p es m → ⊥
    none_free n f p d = let x = due_run n p d in f p x.0 x.1

    none_runs : (n : ℕ) → ((p : ℕ) → IsFree O n p es m → ⊥) → NoneRuns O (w.nodes n)
    none_runs n f p b e = f p (run_due n p (b, e))

    half_due : (n other : ℕ) → HalfReady O n other (w.nodes n) → HalfIsDue O n other es m
    half_due n other d =
        let load = load_told O S h sp w path st m agrees n d.load d.loaded in
        let used = used_told O S h sp w path st m agrees n d.used d.in_use in
        let t = target_near O n other d.load (O.cap - d.used) (NoneRuns O (w.nodes n)) (w.nodes n).gossip d.many d.due in record {
          here = d.below;
          many = d.many;
          below = t.0;
          apart = t.1;
          due = due_same O n other _ _ _ _ _ _ _ _ load (ap (λ (k : ℕ). O.cap - k) used) (none_free n) (sym (told n)) d.due;
        }

    due_half : (n other : ℕ) → HalfIsDue O n other es m → HalfReady O n other (w.nodes n)
    due_half n other d = record {
      below = d.here;
      many = d.many;
      load = load_at O n es m;
      loaded = loaded_at O S h sp w path st m agrees n;
      used = used_pages O n es m;
      in_use = used_at O S h sp w path st m agrees n;
      due = due_same O n other _ _ _ _ _ _ _ _ refl refl (none_runs n) (told n) d.due;
    }

    pub kinds_due : (k : Kind) (n : ℕ) → Same (Applies O k n (w.nodes n)) (DueAs O k n es m)
    kinds_due (Retry p) n = (λ d. (d.0, retry_due n p d.0 d.1), λ d. (d.0, due_retry n p d.0 d.1))
    kinds_due (RunOn p) n = (λ d. run_due n p d, λ d. due_run n p d)
    kinds_due (SendHalf other) n = (half_due n other, due_half n other)
    kinds_due NextLine n = (λ d. (d.0, line_due (subst (λ (k : ℕ). LineReady O (w.nodes k)) d.0 d.1)), λ d. (d.0, subst (λ (k : ℕ). LineReady O (w.nodes k)) (sym d.0) (due_line d.1)))

    pub busy_due : (n : ℕ) → Same (Busy O n w) (Due O n es m w)
    busy_due n = (there, back)
      where
        there : Busy O n w → Due O n es m w
        there (inl a) = inl a
        there (inr (k, d)) = inr (k, (kinds_due k n).0 d)

        back : Due O n es m w → Busy O n w
        back (inl a) = inl a
        back (inr (k, d)) = inr (k, (kinds_due k n).1 d)

    pub full_due : (room n : ℕ) → Same (LeastFull room n es (λ k. Busy O k w)) (LeastFull room n es (λ k. Due O k es m w))
    full_due room n = (
      λ d. record { full = d.full; has = (busy_due n).0 d.has; least = λ k less full x. d.least k less full ((busy_due k).1 x) },
      λ d. record { full = d.full; has = (busy_due n).1 d.has; least = λ k less full x. d.least k less full ((busy_due k).0 x) },
    )

    pub finished_done : Same (Finished O (w.nodes 0)) (IsDone O es m)
    finished_done = (
      λ d. record { script = sym follows.done ∙ d.script; ended = λ p. ap (λ (k : O.Kernel). O.live k p) (sym agrees.kernel) ∙ d.ended p },
      λ d. record { script = follows.done ∙ d.script; ended = λ p. ap (λ (k : O.Kernel). O.live k p) agrees.kernel ∙ d.ended p },
    )
