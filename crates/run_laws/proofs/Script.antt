-- The commands of a run are the lines of the script, in their order, each where it is enabled.
use Rattle.std.proofs.Common.{◌≡◌, ◌≢◌, ℕ, ◌+◌, ◌<◌, ◌≤◌, ◌==◌, ◌⊎◌, inl, inr, Bool, true, false, not, cond, Option, Some, None, List, [], ◌∷◌, refl, sym, ap, ◌∙◌, subst}
use Rattle.std.specs.Prelude.{ℤ, slice_get}
use Rattle.call_table.specs.declared.process.End.{End}
use Rattle.node_event.specs.declared.script.Order.{Order}
use Rattle.node_event.specs.declared.script.Order.TheVariants as order
use Rattle.protocol.specs.Ops.{Ops, Sound}
use Rattle.protocol.specs.Deeds.{Input, Text, Finish, Nothing, Manner, Did, Broke, Fell, Paused, Deed, Run, Kill, Bid, Unsent, Other, Steps, Sent, Heed, Held, Served, Got, Poked, Begin, Keep, Missed, Again, Allows, Denies, Depart, Stay, Land, Told, Refused, Closed, Gossips, Strange, Noted, pid_of}
use Rattle.protocol.specs.Notes.{Progress, SameProgress, served_one, Turn, Slot, Local}
use Rattle.protocol.specs.Spots.{Spot, call_at}
use Rattle.protocol.specs.Home.{live_of, HasEnded, unheld}
use Rattle.protocol.specs.Does.{Does, ServedBy, EnabledHere, Ordered, Feeds}
use Rattle.protocol.specs.Cluster.{World, events}
use Rattle.protocol.specs.Needs.{Needs}
use Rattle.protocol.proofs.Talk.{same_numbers, numbers_same, numbers_other}
use Rattle.protocol.proofs.Stand.{Stands, Step, Path}
use Rattle.run_laws.specs.Machine.{MachineState}
use Rattle.run_laws.specs.Facts.{Facts, facts, is_held, is_paused}
use Rattle.run_laws.specs.ScriptLaw.{line_of, one_more, launched_by, commands, launched_in, calls_by, calls_served, Suits, AtHome, Enabled, LaunchedPid, IsNext, CommandAt, ScriptAt}
use Rattle.run_laws.proofs.Facts.{path_tells}
use Rattle.run_laws.proofs.Plays.{at_replay, with_some}
use Rattle.run_laws.proofs.Played.{Agrees}
use Rattle.run_laws.proofs.Held.{held_same}

-- home's progress in the script is what the events tell
pub record Follows (es : List Noted) (g : Progress) : Type 0 where
  pub done : g.done ≡ commands es
  pub launched : g.launched ≡ launched_in es
  pub served : (q : ℕ) → g.served q ≡ calls_served q es

-- an event that tells nothing of the script
pub record Silent (what : Deed) : Type 0 where
  pub line : line_of what ≡ None
  pub launched : (ps : List ℕ) → launched_by what ps ≡ ps
  pub served : (q k : ℕ) → calls_by what q k ≡ k

not_false : (b : Bool) → not b ≡ false → b ≡ true
not_false true e = refl
not_false false e = absurd cc

module _ (O : Ops) (S : Sound O) where
  module _ (n : ℕ) (old : Local O) (t : Turn O) (new : Local O) (es : List Noted) where
    -- the event moves home's progress as it tells, or it is silent and leaves it
    abbrev Moves_on : Deed → Type 0
    Moves_on what = ((n ≡ 0) × ((e : Noted) → e.what ≡ what → Follows es old.progress → Follows (e ∷ es) new.progress)) ⊎ ((new.progress ≡ old.progress) × Silent what)

    ordered_on : (line : ℕ) (what : Deed) (o : Order) (ps : List ℕ) → Ordered O line o ps old new → line_of what ≡ Some line → ps ≡ launched_by what old.progress.launched → ((q k : ℕ) → calls_by what q k ≡ k) → (e : Noted) → e.what ≡ what → Follows es old.progress → Follows (e ∷ es) new.progress
    ordered_on line what o ps d is launched quiet e x was = record {
      done = d.is.done ∙ (ap (λ (k : ℕ). k + 1) was.done ∙ sym (ap (λ (k : Option ℕ). one_more k (commands es)) (ap line_of x ∙ is)));
      launched = d.is.launched ∙ (launched ∙ (ap (launched_by what) was.launched ∙ ap (λ (k : Deed). launched_by k (launched_in es)) (sym x)));
      served = λ q. d.is.served q ∙ (was.served q ∙ (sym (quiet q (calls_served q es)) ∙ ap (λ (k : Deed). calls_by k q (calls_served q es)) (sym x)));
    }

    silent_on : (what : Deed) → new.progress ≡ old.progress → Silent what → (e : Noted) → e.what ≡ what → Follows es old.progress → Follows (e ∷ es) new.progress
    silent_on what same s e x was = record {
      done = ap (λ (g : Progress). g.done) same ∙ (was.done ∙ sym (ap (λ (k : Option ℕ). one_more k (commands es)) (ap line_of x ∙ s.line)));
      launched = ap (λ (g : Progress). g.launched) same ∙ (was.launched ∙ (sym (s.launched (launched_in es)) ∙ ap (λ (k : Deed). launched_by k (launched_in es)) (sym x)));
      served = λ q. ap (λ (g : Progress). g.served q) same ∙ (was.served q ∙ (sym (s.served q (calls_served q es)) ∙ ap (λ (k : Deed). calls_by k q (calls_served q es)) (sym x)));
    }

    served_on : (manner : Manner) (p : ℕ) (number : Option ℕ) (value : Option ℤ) (child signal : Option ℕ) (ends : Option End) (more : Bool) (poked : List ℕ) → SameProgress new.progress (served_one p old.progress) → is_paused manner ≡ false → (e : Noted) → e.what ≡ Served p manner number value child signal ends more poked → Follows es old.progress → Follows (e ∷ es) new.progress
    served_on manner p number value child signal ends more poked same call e x was = record {
      done = same.done ∙ (was.done ∙ sym (ap (λ (k : Deed). one_more (line_of k) (commands es)) x));
      launched = same.launched ∙ (was.launched ∙ sym (ap (λ (k : Deed). launched_by k (launched_in es)) x));
      served = λ q. same.served q
          ∙ (ap (λ (k : ℕ). cond (q == p) (k + 1) k) (was.served q) ∙ (sym (ap (λ (b : Bool). cond b (calls_served q es) (cond (q == p) (calls_served q es + 1) (calls_served q es))) call) ∙ sym (ap (λ (k : Deed). calls_by k q (calls_served q es)) x)));
    }

    so_on : (manner : Manner) (p : ℕ) (number : Option ℕ) (value : Option ℤ) (child signal : Option ℕ) (ends : Option End) (more : Bool) (poked : List ℕ) → ServedBy O manner n p number value child signal ends more poked old t new → Moves_on (Served p manner number value child signal ends more poked)
    so_on Did p number value child signal ends more poked (inl d) = inl (d.home, served_on Did p number value child signal ends more poked d.progress refl)
    so_on Did p number value child signal ends more poked (inr d) = inl (d.home, served_on Did p number value child signal ends more poked d.progress refl)
    so_on Broke p number value child signal ends more poked (inl d) = inl (d.home, served_on Broke p number value child signal ends more poked d.progress refl)
    so_on Broke p number value child signal ends more poked (inr d) = inl (d.home, served_on Broke p number value child signal ends more poked d.progress refl)
    so_on Fell p number value child signal ends more poked d = inl (d.home, served_on Fell p number value child signal ends more poked d.progress refl)
    so_on Paused p number value child signal ends more poked d = inr (d.progress, record { line = refl; launched = λ ps. refl; served = λ q k. refl })

    moves_on : (what : Deed) → Does O what n old t new → Moves_on what
    moves_on (Run line i p) d = inl (d.home, ordered_on line (Run line i p) _ _ d.order refl refl (λ q k. refl))
    moves_on (Kill line p g poked) d = inl (d.home, ordered_on line (Kill line p g poked) _ _ d.order refl refl (λ q k. refl))
    moves_on (Bid line p to) d = inl (d.home, ordered_on line (Bid line p to) _ _ d.order refl refl (λ q k. refl))
    moves_on (Unsent line p never) d = inl (d.home, ordered_on line (Unsent line p never) _ _ d.order refl refl (λ q k. refl))
    moves_on (Other line input) d = inl (d.home, ordered_on line (Other line input) _ _ d.order refl refl (λ q k. refl))
    moves_on (Served p manner number value child signal ends more poked) d = so_on manner p number value child signal ends more poked d
    moves_on (Told p at source hops line poked) d = inr (d.progress, record { line = refl; launched = λ ps. refl; served = λ q k. refl })
    moves_on (Steps p k) d = inr (d.still.progress, record { line = refl; launched = λ ps. refl; served = λ q k. refl })
    moves_on (Sent p k) d = inr (d.still.progress, record { line = refl; launched = λ ps. refl; served = λ q k. refl })
    moves_on (Heed p) d = inr (d.still.progress, record { line = refl; launched = λ ps. refl; served = λ q k. refl })
    moves_on (Got p child ended kept) d = inr (d.still.progress, record { line = refl; launched = λ ps. refl; served = λ q k. refl })
    moves_on (Poked p true) d = inr (d.still.progress, record { line = refl; launched = λ ps. refl; served = λ q k. refl })
    moves_on (Poked p false) d = inr (d.still.progress, record { line = refl; launched = λ ps. refl; served = λ q k. refl })
    moves_on (Begin p to reason) d = inr (d.still.progress, record { line = refl; launched = λ ps. refl; served = λ q k. refl })
    moves_on (Keep p to line) d = inr (d.still.progress, record { line = refl; launched = λ ps. refl; served = λ q k. refl })
    moves_on (Missed p to line) d = inr (d.still.progress, record { line = refl; launched = λ ps. refl; served = λ q k. refl })
    moves_on (Allows p from need) d = inr (d.still.progress, record { line = refl; launched = λ ps. refl; served = λ q k. refl })
    moves_on (Denies p from need free) d = inr (d.still.progress, record { line = refl; launched = λ ps. refl; served = λ q k. refl })
    moves_on (Depart p to) d = inr (d.still.progress, record { line = refl; launched = λ ps. refl; served = λ q k. refl })
    moves_on (Stay p to need free) d = inr (d.still.progress, record { line = refl; launched = λ ps. refl; served = λ q k. refl })
    moves_on (Land p source) d = inr (d.still.progress, record { line = refl; launched = λ ps. refl; served = λ q k. refl })
    moves_on (Strange p) d = inr (d.still.progress, record { line = refl; launched = λ ps. refl; served = λ q k. refl })
    moves_on (Held p k) d = inr (d.still.progress, record { line = refl; launched = λ ps. refl; served = λ q k. refl })
    moves_on (Again p to place line) d = inr (d.still.progress, record { line = refl; launched = λ ps. refl; served = λ q k. refl })
    moves_on (Closed line) d = inr (d.still.progress, record { line = refl; launched = λ ps. refl; served = λ q k. refl })
    moves_on (Gossips heard other) d = inr (d.still.progress, record { line = refl; launched = λ ps. refl; served = λ q k. refl })
    moves_on (Refused p to why line) (inl d) = inr (d.still.progress, record { line = refl; launched = λ ps. refl; served = λ q k. refl })
    moves_on (Refused p to why line) (inr d) = inr (d.still.progress, record { line = refl; launched = λ ps. refl; served = λ q k. refl })

    -- what home alone does
    so_home : (manner : Manner) (p : ℕ) (number : Option ℕ) (value : Option ℤ) (child signal : Option ℕ) (ends : Option End) (more : Bool) (poked : List ℕ) → ServedBy O manner n p number value child signal ends more poked old t new → n ≡ 0
    so_home Did p number value child signal ends more poked (inl d) = d.home
    so_home Did p number value child signal ends more poked (inr d) = d.home
    so_home Broke p number value child signal ends more poked (inl d) = d.home
    so_home Broke p number value child signal ends more poked (inr d) = d.home
    so_home Fell p number value child signal ends more poked d = d.home
    so_home Paused p number value child signal ends more poked d = d.home

    at_home : (what : Deed) → (what ≡ Strange (pid_of what) → ⊥) → Does O what n old t new → AtHome what n
    at_home (Run line i p) some d = tt
    at_home (Kill line p g poked) some d = tt
    at_home (Bid line p to) some d = tt
    at_home (Unsent line p never) some d = tt
    at_home (Other line input) some d = tt
    at_home (Steps p k) some d = tt
    at_home (Sent p k) some d = tt
    at_home (Heed p) some d = tt
    at_home (Got p child ended kept) some d = tt
    at_home (Poked p used) some d = tt
    at_home (Begin p to reason) some d = tt
    at_home (Keep p to line) some d = tt
    at_home (Missed p to line) some d = tt
    at_home (Allows p from need) some d = tt
    at_home (Denies p from need free) some d = tt
    at_home (Depart p to) some d = tt
    at_home (Stay p to need free) some d = tt
    at_home (Land p source) some d = tt
    at_home (Refused p to why line) some d = tt
    at_home (Held p k) some d = d.home
    at_home (Told p at source hops line poked) some d = d.home
    at_home (Again p to place line) some d = d.home
    at_home (Closed line) some d = d.home
    at_home (Gossips heard other) some d = tt
    at_home (Served p manner number value child signal ends more poked) some d = so_home manner p number value child signal ends more poked d
    at_home (Strange p) some d = absurd (some refl)

    -- a line that is enabled at home is enabled by what the events tell
    module _ (m : MachineState O) (kernel : old.kernel ≡ m.kernel) (was : Follows es old.progress) (holds : (q : ℕ) → unheld O (old.slots q).call ≡ not (is_held (facts q es))) where
      ended_at : (p : ℕ) → HasEnded O old.kernel p → HasEnded O m.kernel p
      ended_at p e = subst (λ (k : O.Kernel). HasEnded O k p) kernel e

      enabled_at : (o : Order) → EnabledHere O o old → Enabled O o es m
      enabled_at (order.Run words) e = subst (λ (k : O.Kernel). O.launch k ≢ None) kernel e
      enabled_at (order.Kill p s) e = tt
      enabled_at (order.Move p to) e = tt
      enabled_at (order.Feed text) e = tt
      enabled_at order.Eof e = tt
      enabled_at (order.Wait p) e = ended_at p e
      enabled_at (order.After p k) (inl e) = inl (subst (λ (x : ℕ). k ≤ x) (was.served p) e)
      enabled_at (order.After p k) (inr e) = inr (ended_at p e)
      enabled_at (order.Held p) (inl e) = inl (not_false (is_held (facts p es)) (sym (holds p) ∙ e))
      enabled_at (order.Held p) (inr e) = inr (ended_at p e)
      enabled_at (order.Slots c) e = subst (λ (x : ℕ). x < c) (ap (λ (k : O.Kernel). live_of (O.live k) old.progress.launched) kernel ∙ ap (live_of (O.live m.kernel)) was.launched) e

      is_next : (line : ℕ) (what : Deed) (o : Order) (ps : List ℕ) → n ≡ 0 → Ordered O line o ps old new → Suits what o → LaunchedPid O what m → IsNext O line what n es m
      is_next line what o ps home d suits pid = record { home = home; asked = o; next = ap (slice_get O.script) (sym was.done) ∙ d.next; suits = suits; enabled = enabled_at o d.enabled; pid = pid }

      feeds_suit : (line : ℕ) (input : Input) (o : Order) → Feeds O input o → Suits (Other line input) o
      feeds_suit line (Text i) (order.Feed text) f = tt
      feeds_suit line (Text i) (order.Run words) f = absurd f
      feeds_suit line (Text i) (order.Kill p s) f = absurd f
      feeds_suit line (Text i) (order.Move p to) f = absurd f
      feeds_suit line (Text i) order.Eof f = absurd f
      feeds_suit line (Text i) (order.Wait p) f = absurd f
      feeds_suit line (Text i) (order.After p k) f = absurd f
      feeds_suit line (Text i) (order.Held p) f = absurd f
      feeds_suit line (Text i) (order.Slots c) f = absurd f
      feeds_suit line Finish order.Eof f = tt
      feeds_suit line Finish (order.Run words) f = absurd f
      feeds_suit line Finish (order.Kill p s) f = absurd f
      feeds_suit line Finish (order.Move p to) f = absurd f
      feeds_suit line Finish (order.Feed text) f = absurd f
      feeds_suit line Finish (order.Wait p) f = absurd f
      feeds_suit line Finish (order.After p k) f = absurd f
      feeds_suit line Finish (order.Held p) f = absurd f
      feeds_suit line Finish (order.Slots c) f = absurd f
      feeds_suit line Nothing (order.Wait p) f = tt
      feeds_suit line Nothing (order.After p k) f = tt
      feeds_suit line Nothing (order.Held p) f = tt
      feeds_suit line Nothing (order.Slots c) f = tt
      feeds_suit line Nothing (order.Run words) f = absurd f
      feeds_suit line Nothing (order.Kill p s) f = absurd f
      feeds_suit line Nothing (order.Move p to) f = absurd f
      feeds_suit line Nothing (order.Feed text) f = absurd f
      feeds_suit line Nothing order.Eof f = absurd f

    command_law : (m : MachineState O) → (n ≡ 0 → old.kernel ≡ m.kernel) → (n ≡ 0 → Follows es old.progress) → (n ≡ 0 → (q : ℕ) → unheld O (old.slots q).call ≡ not (is_held (facts q es))) → (what : Deed) → Does O what n old t new → CommandAt O (line_of what) what n es m
    command_law m kernel was holds (Run line i p) d = is_next m (kernel d.home) (was d.home) (holds d.home) line (Run line i p) _ _ d.home d.order tt (d.next ∙ ap (λ (k : O.Kernel). O.count k + 1) (kernel d.home))
    command_law m kernel was holds (Kill line p g poked) d = is_next m (kernel d.home) (was d.home) (holds d.home) line (Kill line p g poked) _ _ d.home d.order (refl, refl) tt
    command_law m kernel was holds (Bid line p to) d = is_next m (kernel d.home) (was d.home) (holds d.home) line (Bid line p to) _ _ d.home d.order (refl, refl) tt
    command_law m kernel was holds (Unsent line p never) d = is_next m (kernel d.home) (was d.home) (holds d.home) line (Unsent line p never) _ _ d.home d.order refl tt
    command_law m kernel was holds (Other line input) d = is_next m (kernel d.home) (was d.home) (holds d.home) line (Other line input) _ _ d.home d.order (feeds_suit m (kernel d.home) (was d.home) (holds d.home) line input d.what d.suits) tt
    command_law m kernel was holds (Steps p k) d = tt
    command_law m kernel was holds (Sent p k) d = tt
    command_law m kernel was holds (Heed p) d = tt
    command_law m kernel was holds (Held p k) d = tt
    command_law m kernel was holds (Served p manner number value child signal ends more poked) d = tt
    command_law m kernel was holds (Got p child ended kept) d = tt
    command_law m kernel was holds (Poked p used) d = tt
    command_law m kernel was holds (Begin p to reason) d = tt
    command_law m kernel was holds (Keep p to line) d = tt
    command_law m kernel was holds (Missed p to line) d = tt
    command_law m kernel was holds (Again p to place line) d = tt
    command_law m kernel was holds (Allows p from need) d = tt
    command_law m kernel was holds (Denies p from need free) d = tt
    command_law m kernel was holds (Depart p to) d = tt
    command_law m kernel was holds (Stay p to need free) d = tt
    command_law m kernel was holds (Land p source) d = tt
    command_law m kernel was holds (Told p at source hops line poked) d = tt
    command_law m kernel was holds (Refused p to why line) d = tt
    command_law m kernel was holds (Closed line) d = tt
    command_law m kernel was holds (Gossips heard other) d = tt
    command_law m kernel was holds (Strange p) d = tt

  follows_next : (es : List Noted) (w : World O) (t : Turn O) (v : World O) (sp next : ℕ → Spot O) → Step O S sp w t next v → Follows es (w.nodes 0).progress → Follows (t.event ∷ es) (v.nodes 0).progress
  follows_next es w t v sp next st was = go (moves_on t.event.node (w.nodes t.event.node) t (v.nodes t.event.node) es t.event.what st.goes.makes.does) (t.event.node == 0) refl
    where
      same : (v.nodes t.event.node).progress ≡ (w.nodes t.event.node).progress → (b : Bool) → (t.event.node == 0) ≡ b → (v.nodes 0).progress ≡ (w.nodes 0).progress
      same e true x = let z = numbers_same t.event.node 0 x in ap (λ (k : ℕ). (v.nodes k).progress) (sym z) ∙ (e ∙ ap (λ (k : ℕ). (w.nodes k).progress) z)
      same e false x = ap (λ (k : Local O). k.progress) (st.goes.elsewhere 0 (λ z. numbers_other t.event.node 0 x (sym z)))

      go : Moves_on t.event.node (w.nodes t.event.node) t (v.nodes t.event.node) es t.event.what → (b : Bool) → (t.event.node == 0) ≡ b → Follows (t.event ∷ es) (v.nodes 0).progress
      go (inl (home, f)) b x = subst (λ (k : ℕ). Follows (t.event ∷ es) (v.nodes k).progress) home (f t.event refl (subst (λ (k : ℕ). Follows es (w.nodes k).progress) (sym home) was))
      go (inr (e, s)) b x = record {
        done = ap (λ (g : Progress). g.done) (same e b x) ∙ (was.done ∙ sym (ap (λ (k : Option ℕ). one_more k (commands es)) s.line));
        launched = ap (λ (g : Progress). g.launched) (same e b x) ∙ (was.launched ∙ sym (s.launched (launched_in es)));
        served = λ q. ap (λ (g : Progress). g.served q) (same e b x) ∙ (was.served q ∙ sym (s.served q (calls_served q es)));
      }

  pub path_follows : (h : List (Turn O)) (sp : ℕ → Spot O) (w : World O) → Path O S h sp w → Follows (events O h) (w.nodes 0).progress
  path_follows [] sp w r = record {
    done = ap (λ (g : Progress). g.done) ((r.0.nodes 0).home refl).progress;
    launched = ap (λ (g : Progress). g.launched) ((r.0.nodes 0).home refl).progress;
    served = λ q. ap (λ (g : Progress). g.served q) ((r.0.nodes 0).home refl).progress;
  }
  path_follows (t ∷ h) sp v r = follows_next (events O h) r.0 t v r.1 sp r.4 (path_follows h r.1 r.0 r.2)

  pub script_next : (h : List (Turn O)) (w : World O) (t : Turn O) (v : World O) (sp next : ℕ → Spot O) → Path O S h sp w → Stands O S sp w → Step O S sp w t next v → (m : MachineState O) → Agrees O S h sp (w.nodes 0) m → ScriptAt O t.event (events O h)
  script_next h w t v sp next path stands st m before = record {
    below = st.goes.makes.below;
    at_home = at_home t.event.node (w.nodes t.event.node) t (v.nodes t.event.node) (events O h) t.event.what strange st.goes.makes.does;
    command = with_some _ m _ (at_replay O (events O h) ∙ before.plays) (command_law t.event.node (w.nodes t.event.node) t (v.nodes t.event.node) (events O h) m kernel was holds t.event.what st.goes.makes.does);
  }
    where
      strange : t.event.what ≡ Strange (pid_of t.event.what) → ⊥
      strange e = subst (λ (k : Deed). Needs O k t.event.node (w.nodes t.event.node) (v.nodes t.event.node) (sp (pid_of t.event.what)) st.own) e st.needs

      kernel : t.event.node ≡ 0 → (w.nodes t.event.node).kernel ≡ m.kernel
      kernel e = ap (λ (k : ℕ). (w.nodes k).kernel) e ∙ before.kernel

      was : t.event.node ≡ 0 → Follows (events O h) (w.nodes t.event.node).progress
      was e = subst (λ (k : ℕ). Follows (events O h) (w.nodes k).progress) (sym e) (path_follows h sp w path)

      holds : t.event.node ≡ 0 → (q : ℕ) → unheld O ((w.nodes t.event.node).slots q).call ≡ not (is_held (facts q (events O h)))
      holds e q =
          let slot : ((w.nodes t.event.node).slots q).call ≡ call_at O (sp q) = ap (λ (k : Slot O). k.call) ((stands.at q).slots t.event.node) ∙ ap (λ (b : Bool). cond b (call_at O (sp q)) None) (same_numbers t.event.node 0 e) in
          ap (unheld O) slot ∙ (held_same O S (sp q) ∙ ap (λ (k : Facts). not (is_held k)) (sym (path_tells O S h sp w path q)))
