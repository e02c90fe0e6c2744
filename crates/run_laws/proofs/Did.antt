-- What nodes did by themselves, in whatever order, is lawful when it is woven.
use Rattle.std.proofs.Common.{◌≡◌, ◌≢◌, ℕ, ◌<◌, ◌≤◌, ◌==◌, ◌⊎◌, inl, inr, Bool, true, false, cond, List, [], ◌∷◌, ◌++◌, refl, sym, ap, ◌∙◌, subst, append_assoc, arith}
use Rattle.std.proofs.lemmas.List.{append-nil}
use Rattle.std.proofs.lemmas.Bool.Decides.{leb_tells}
use lib.Dec.{leb}
use Rattle.protocol.specs.Cluster.{events}
use Rattle.protocol.specs.Notes.{Local}
use Rattle.protocol.specs.Cluster.{World, Goes, Reached, for_link, at_front}
use Rattle.run_laws.specs.Carried.{steps, IsUsual, NoneStrange, Carried, CarriedRun, posted_on, taken_on, own_events, Alone, Marked, Sorted, Did, Each, grown, recorded, shown}
use Rattle.run_laws.specs.Whole.{Holds}
use Rattle.protocol.proofs.Talk.{same_numbers, numbers_same}
use Rattle.run_laws.proofs.Weave.{marked, keeps, did_run}
use Rattle.run_laws.proofs.Weaving.{takes_elsewhere, posts_elsewhere, run_sorted}
use Rattle.run_laws.proofs.Merge.{All_joined, join_all}
use Rattle.run_laws.proofs.Awaiting.{lies}
use Rattle.run_laws.proofs.Whole.{laws_of_runs}
use Rattle.run_laws.specs.ScriptLaw.{AtHome, ScriptLaw}
use Rattle.protocol.specs.Ops.{Ops, Sound}
use Rattle.protocol.specs.Deeds.{Deed, Run, Kill, Bid, Unsent, Other, Steps, Sent, Heed, Held, Served, Got, Poked, Begin, Keep, Missed, Again, Allows, Denies, Depart, Stay, Land, Told, Refused, Closed, Gossips, Strange, Noted}
use Rattle.protocol.specs.Notes.{Post, Turn}

usual_from : (what : Deed) (n : ℕ) → AtHome what n → IsUsual what
usual_from (Run line i p) n l = tt
usual_from (Kill line p g poked) n l = tt
usual_from (Bid line p to) n l = tt
usual_from (Unsent line p never) n l = tt
usual_from (Other line input) n l = tt
usual_from (Steps p k) n l = tt
usual_from (Sent p k) n l = tt
usual_from (Heed p) n l = tt
usual_from (Held p k) n l = tt
usual_from (Served p manner number value child signal ends more poked) n l = tt
usual_from (Got p child ended kept) n l = tt
usual_from (Poked p used) n l = tt
usual_from (Begin p to reason) n l = tt
usual_from (Keep p to line) n l = tt
usual_from (Missed p to line) n l = tt
usual_from (Again p to place line) n l = tt
usual_from (Allows p from need) n l = tt
usual_from (Denies p from need free) n l = tt
usual_from (Depart p to) n l = tt
usual_from (Stay p to need free) n l = tt
usual_from (Land p source) n l = tt
usual_from (Told p at source hops line poked) n l = tt
usual_from (Refused p to why line) n l = tt
usual_from (Closed line) n l = tt
usual_from (Gossips heard other) n l = tt
usual_from (Strange p) n l = l

usual : (O : Ops) (es : List Noted) → ScriptLaw O es → Each (λ e. IsUsual e.what) es
usual O [] l = tt
usual O (e ∷ es) l = (usual_from e.what e.node l.0.at_home, usual O es l.1)

usual_own : (n : ℕ) (es : List Noted) → Each (λ e. IsUsual e.what) es → Each (λ e. IsUsual e.what) (own_events n es)
usual_own n [] u = tt
usual_own n (e ∷ es) u = go (e.node == n) (usual_own n es u.1)
  where
    go : (b : Bool) → Each (λ e. IsUsual e.what) (own_events n es) → Each (λ e. IsUsual e.what) (cond b (e ∷ own_events n es) (own_events n es))
    go true r = (u.0, r)
    go false r = r

pub line_usual : (e : Noted) (what : Deed) → IsUsual what → recorded e what ≡ e ∷ []
line_usual e (Run line i p) u = refl
line_usual e (Kill line p g poked) u = refl
line_usual e (Bid line p to) u = refl
line_usual e (Unsent line p never) u = refl
line_usual e (Other line input) u = refl
line_usual e (Steps p k) u = refl
line_usual e (Sent p k) u = refl
line_usual e (Heed p) u = refl
line_usual e (Held p k) u = refl
line_usual e (Served p manner number value child signal ends more poked) u = refl
line_usual e (Got p child ended kept) u = refl
line_usual e (Poked p used) u = refl
line_usual e (Begin p to reason) u = refl
line_usual e (Keep p to line) u = refl
line_usual e (Missed p to line) u = refl
line_usual e (Again p to place line) u = refl
line_usual e (Allows p from need) u = refl
line_usual e (Denies p from need free) u = refl
line_usual e (Depart p to) u = refl
line_usual e (Stay p to need free) u = refl
line_usual e (Land p source) u = refl
line_usual e (Told p at source hops line poked) u = refl
line_usual e (Refused p to why line) u = refl
line_usual e (Closed line) u = refl
line_usual e (Gossips heard other) u = refl
line_usual e (Strange p) u = absurd u

module _ (O : Ops) where
  -- a turn of one node adds to what the nodes did
  pub did_step : (turns : ℕ → List (Turn O)) (w : (World O)) (t : (Turn O)) (v : (World O)) → (Did O) turns w → (Goes O) w t v → (Did O) ((grown O) turns t) v
  did_step turns w t v did goes = record { nodes = λ n. run_at n (n == t.event.node) refl; links = λ a b. link_at a b (b == t.event.node) (a == t.event.node) refl refl }
    where
      run_at : (n : ℕ) (k : Bool) → (n == t.event.node) ≡ k → (Alone O) n (cond k (t ∷ turns n) (turns n)) (v.nodes n)
      run_at n true e = let same = numbers_same n t.event.node e in
          subst (λ (m : ℕ). (Alone O) m (t ∷ turns m) (v.nodes m)) (sym same) (w.nodes t.event.node, did.nodes t.event.node, goes.makes)
      run_at n false e = subst (λ (l : (Local O)). (Alone O) n (turns n) l) (sym (goes.elsewhere n (λ k. let z : true ≡ false = sym (same_numbers n t.event.node k) ∙ e in cc))) (did.nodes n)

      apart : (n : ℕ) → (n == t.event.node) ≡ false → t.event.node ≢ n
      apart n e k = let z : true ≡ false = sym (same_numbers n t.event.node (sym k)) ∙ e in cc

      marks : (Marked O) t
      marks = (marked O) t.event.node (w.nodes t.event.node) t (v.nodes t.event.node) goes.makes

      taken_at : (a b : ℕ) (k : Bool) → (b == t.event.node) ≡ k → (taken_on O) a b (cond k (t ∷ turns b) (turns b)) ≡ (taken_on O) a b (turns b) ++ (at_front O) t.taken a b
      taken_at a b true e = refl
      taken_at a b false e = sym (ap (λ (x : List (Post O)). (taken_on O) a b (turns b) ++ x) (takes_elsewhere (steps O) a b t.event.node t.event.stamp t.taken marks.taken (apart b e)) ∙ append-nil ((taken_on O) a b (turns b)))

      posted_at : (a b : ℕ) (k : Bool) → (a == t.event.node) ≡ k → (posted_on O) a b (cond k (t ∷ turns a) (turns a)) ≡ (posted_on O) a b (turns a) ++ (for_link O) a b t.posted
      posted_at a b true e = refl
      posted_at a b false e = sym (ap (λ (x : List (Post O)). (posted_on O) a b (turns a) ++ x) (posts_elsewhere (steps O) a b t.event.node t.event.stamp t.posted marks.posted (apart a e)) ∙ append-nil ((posted_on O) a b (turns a)))

      link_at : (a b : ℕ) (j k : Bool) → (b == t.event.node) ≡ j → (a == t.event.node) ≡ k → (taken_on O) a b (cond j (t ∷ turns b) (turns b)) ++ v.links a b ≡ (posted_on O) a b (cond k (t ∷ turns a) (turns a))
      link_at a b j k ej ek =
          let rest = goes.rest a b in
          let front = (at_front O) t.taken a b in
          ap (λ (x : List (Post O)). x ++ v.links a b) (taken_at a b j ej)
          ∙ (ap (λ (x : List (Post O)). ((taken_on O) a b (turns b) ++ front) ++ x) (goes.posts a b)
          ∙ (sym (append_assoc ((taken_on O) a b (turns b) ++ front) rest ((for_link O) a b t.posted))
          ∙ (ap (λ (x : List (Post O)). x ++ (for_link O) a b t.posted) (append_assoc ((taken_on O) a b (turns b)) front rest ∙ (ap (λ (x : List (Post O)). (taken_on O) a b (turns b) ++ x) (sym (goes.takes a b)) ∙ did.links a b))
          ∙ sym (posted_at a b k ek))))

  shown_usual : (h : List (Turn O)) → Each (λ e. IsUsual e.what) ((events O) h) → (shown O) h ≡ (events O) h
  shown_usual [] u = refl
  shown_usual (t ∷ h) u = ap (λ (x : List Noted). x ++ (shown O) h) (line_usual t.event t.event.what u.0) ∙ ap (λ (x : List Noted). t.event ∷ x) (shown_usual h u.1)

  own_joined : (N : ℕ) (turns : ℕ → List (Turn O)) (all : All_joined N (λ n. (events O) (turns n))) → ((n : ℕ) → N ≤ n → turns n ≡ []) → (n : ℕ) → (events O) (turns n) ≡ own_events n all.list
  own_joined N turns all few n = go (leb_tells N n)
    where
      go : ((leb N n ≡ true) × (N ≤ n)) ⊎ ((leb N n ≡ false) × (n < N)) → (events O) (turns n) ≡ own_events n all.list
      go (inl x) = ap (events O) (few n x.1) ∙ sym (all.others n x.1)
      go (inr x) = sym (all.own n x.1)

  -- what a run took from its links was posted before
  carried_reached : (h : List (Turn O)) (w : World O) → Reached O h w → Carried O h
  carried_reached [] w r = tt
  carried_reached (t ∷ h) v r = (
    λ a b. (r.2.rest a b, append_assoc (taken_on O a b h) (at_front O t.taken a b) (r.2.rest a b) ∙ (ap (λ (x : List (Post O)). taken_on O a b h ++ x) (sym (r.2.takes a b)) ∙ lies O h r.0 r.1 a b)),
    carried_reached h r.0 r.1,
  )

  marked_reached : (h : List (Turn O)) (w : World O) → Reached O h w → Each (λ t. Marked O t) h
  marked_reached [] w r = tt
  marked_reached (t ∷ h) v r = (marked O t.event.node (r.0.nodes t.event.node) t (v.nodes t.event.node) r.2.makes, marked_reached h r.0 r.1)

  none_strange : (h : List (Turn O)) → Each (λ e. IsUsual e.what) (events O h) → NoneStrange O h
  none_strange [] u = tt
  none_strange (t ∷ h) u = (u.0, none_strange h u.1)

  -- of every run all laws hold, its letters are carried, and none is strange
  pub runs_hold : (S : Sound O) (h : List (Turn O)) (w : World O) → Reached O h w → Holds O (events O h) w × CarriedRun O (events O h) w × NoneStrange O h
  runs_hold S h w r = let holds = laws_of_runs O S h w r in (
    holds,
    record { turns = h; events_are = refl; reached = r; carried = carried_reached h w r; marked = marked_reached h w r },
    none_strange h (usual O (events O h) holds.lawful.script),
  )

  -- a node that the cluster does not have does nothing
  beyond : (S : Sound O) (turns : ℕ → List (Turn O)) (w : World O) → Did O turns w → (n : ℕ) → O.nodes ≤ n → turns n ≡ []
  beyond S turns w did n least = go (turns n) (did.nodes n)
    where
      go : (ts : List (Turn O)) → Alone O n ts (w.nodes n) → ts ≡ []
      go [] r = refl
      go (t ∷ ts) r = absurd (omega (arith, least, r.2.below))

  -- the nodes did this by themselves, and their journals are woven by stamps: no letter was strange, all the laws hold, and the links carried the letters
  pub did_holds : (S : Sound O) (turns : ℕ → List (Turn O)) (w : World O) (es : List Noted) → Did O turns w → Sorted es → ((n : ℕ) → own_events n es ≡ shown O (turns n)) → Holds O es w × CarriedRun O es w × ((n : ℕ) → NoneStrange O (turns n))
  did_holds S turns w es did sorted own =
      let N : ℕ = O.nodes in
      let few : (n : ℕ) → N ≤ n → turns n ≡ [] = beyond S turns w did in
      let each : ℕ → List Noted = λ n. events O (turns n) in
      let all : All_joined N each = join_all N each (λ n. (run_sorted (steps O) (keeps O) n (turns n) (w.nodes n) (did.nodes n)).0) (λ n. (run_sorted (steps O) (keeps O) n (turns n) (w.nodes n) (did.nodes n)).1) in
      let own_all : (n : ℕ) → events O (turns n) ≡ own_events n all.list = λ n. own_joined N turns all few n in
      let run = did_run O turns w all.list did all.sorted own_all in
      let holds = laws_of_runs O S run.turns w run.reached in
      let usual_all : Each (λ e. IsUsual e.what) all.list = subst (λ (k : List Noted). Each (λ e. IsUsual e.what) k) run.events_are (usual O (events O run.turns) holds.lawful.script) in
      let shown_is : (n : ℕ) → shown O (turns n) ≡ events O (turns n) = λ n. shown_usual (turns n) (subst (λ (k : List Noted). Each (λ e. IsUsual e.what) k) (sym (own_all n)) (usual_own n all.list usual_all)) in
      let run2 = did_run O turns w es did sorted (λ n. sym (own n ∙ shown_is n)) in
      (subst (λ (k : List Noted). Holds O k w) run2.events_are (laws_of_runs O S run2.turns w run2.reached), run2, λ n. none_strange (turns n) (subst (λ (k : List Noted). Each (λ e. IsUsual e.what) k) (sym (own_all n)) (usual_own n all.list usual_all)))
