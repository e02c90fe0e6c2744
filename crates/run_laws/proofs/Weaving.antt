-- What nodes did by themselves, woven by stamps, is a run of the whole cluster: over any kind of turn and step.
use Rattle.std.proofs.Common.{◌≡◌, ◌≢◌, ℕ, ◌<◌, ◌≤◌, ◌==◌, ◌&&◌, inl, inr, Bool, true, false, cond, Option, Some, None, List, [], ◌∷◌, ◌++◌, refl, sym, ap, ◌∙◌, subst, arith, append_assoc, IfSome}
use Rattle.std.proofs.lemmas.List.{append-nil, append_cancel_left}
use Rattle.protocol.specs.Deeds.{Noted}
use Rattle.protocol.proofs.Talk.{same_numbers, numbers_same, other_numbers}
use Rattle.run_laws.specs.Weaving.{Steps, World, Goes, Reached, for_link, at_front, events, Begins, posted_on, taken_on, Carried, Marked, own, own_events, Alone, Did, Each, Later, Sorted, Woven, Keeps}
use Rattle.run_laws.proofs.Merge.{Of, each_weaker}

le_self : (n : ℕ) → n ≤ n
le_self n = omega arith

module _ (K : Steps) where
  -- what begins P and then Q, and has nothing of Q's kind, begins P
  pub prefix_cut : (S : K.Letter → Type 0) (xs P Q : List K.Letter) → Each S xs → Each (λ l. S l → ⊥) Q → Begins K xs (P ++ Q) → Begins K xs P
  prefix_cut S [] P Q s q b = (P, refl)
  prefix_cut S (x ∷ xs) [] [] s q b = absurd (cc (b.1))
  prefix_cut S (x ∷ xs) [] (y ∷ ys) s q b = let e : x ≡ y = cc (b.1) in absurd (q.0 (subst S e s.0))
  prefix_cut S (x ∷ xs) (p ∷ P) Q s q b =
      let e : x ≡ p = cc (b.1) in
      let r = prefix_cut S xs P Q s.1 q (b.0, cc (b.1)) in
      (r.0, cc (e, r.1))

  pub all-append : (S : K.Letter → Type 0) (xs ys : List K.Letter) → Each S xs → Each S ys → Each S (xs ++ ys)
  all-append S [] ys p q = q
  all-append S (x ∷ xs) ys p q = (p.0, all-append S xs ys p.1 q)

  abbrev pub AllMarked : List K.Turn → Type 0
  AllMarked h = Each (Marked K) h

  front_before : (a b : ℕ) (o : Option K.Letter) (s : ℕ) (n : ℕ) → IfSome o (λ l. ((K.to l) ≡ n) × ((K.stamp l) < s)) → (bound : ℕ) → s ≤ bound → Each (λ l. (K.stamp l) < bound) (at_front K o a b)
  front_before a b None s n m bound le = tt
  front_before a b (Some l) s n m bound le = elim ((a == (K.from l)) && (b == (K.to l))) as (λ k. Each (λ l. (K.stamp l) < bound) (cond k (l ∷ []) [])) [ true ↦ (omega (arith, m.1), tt) | false ↦ tt ]

  pub taken_before : (a b bound : ℕ) (h : List K.Turn) → AllMarked h → Each (λ t. (K.event t).stamp ≤ bound) h → Each (λ l. (K.stamp l) < bound) (taken_on K a b h)
  taken_before a b bound [] m le = tt
  taken_before a b bound (t ∷ h) m le = all-append (λ l. (K.stamp l) < bound) (taken_on K a b h) (at_front K (K.taken t) a b) (taken_before a b bound h m.1 le.1) (front_before a b (K.taken t) (K.event t).stamp (K.event t).node m.0.taken bound le.0)

  posted_at : (a b n s : ℕ) (ls : List K.Letter) → Each (λ l. ((K.from l) ≡ n) × ((K.stamp l) ≡ s)) ls → Each (λ l. (K.stamp l) < s → ⊥) (for_link K a b ls)
  posted_at a b n s [] m = tt
  posted_at a b n s (l ∷ ls) m = elim ((a == (K.from l)) && (b == (K.to l))) as (λ k. Each (λ l. (K.stamp l) < s → ⊥) (cond k (l ∷ for_link K a b ls) (for_link K a b ls))) [
    | true ↦ (λ less. omega (arith, m.0.1), posted_at a b n s ls m.1)
    | false ↦ posted_at a b n s ls m.1
  ]

  no_later : (e : Noted) (h : List K.Turn) → Each (λ f. Later e f) (events K h) → Each (λ t. (K.event t).stamp ≤ e.stamp) h
  no_later e [] s = tt
  no_later e (t ∷ h) s = (not_after s.0, no_later e h s.1)
    where
      not_after : Later e (K.event t) → (K.event t).stamp ≤ e.stamp
      not_after (inl x) = omega arith
      not_after (inr x) = omega (arith, x.0)

  -- where stamps rise from a letter's post to its receipt, a list sorted by stamps is carried
  pub stamped_carried : (h : List K.Turn) → Sorted (events K h) → AllMarked h → ((a b : ℕ) → Begins K (taken_on K a b h) (posted_on K a b h)) → Carried K h
  stamped_carried [] s m all = tt
  stamped_carried (t ∷ h) s m all =
      let fits : (a b : ℕ) → Begins K (taken_on K a b (t ∷ h)) (posted_on K a b h) = λ a b.
      prefix_cut (λ l. (K.stamp l) < (K.event t).stamp) (taken_on K a b (t ∷ h)) (posted_on K a b h) (for_link K a b (K.posted t))
      (taken_before a b (K.event t).stamp (t ∷ h) m (le_self (K.event t).stamp, no_later (K.event t) h s.0)) (posted_at a b (K.event t).node (K.event t).stamp (K.posted t) m.0.posted) (all a b) in
      (fits, stamped_carried h s.1 m.1 (λ a b. (at_front K (K.taken t) a b ++ (fits a b).0, sym (append_assoc (taken_on K a b h) (at_front K (K.taken t) a b) (fits a b).0) ∙ (fits a b).1)))

  -- what lies on the links after these turns
  pub record Lies (h : List K.Turn) (w : (World K)) : Type 0 where
    pub nodes : (n : ℕ) → Alone K n (own K n h) (w.nodes n)
    pub links : (a b : ℕ) → taken_on K a b h ++ w.links a b ≡ posted_on K a b h

  -- the state of a node before the last turn of all
  run_before : (n : ℕ) (t : K.Turn) (h : List K.Turn) (new : K.Local) (b : Bool) → ((K.event t).node == n) ≡ b → Alone K n (cond b (t ∷ own K n h) (own K n h)) new → (old : K.Local) × Alone K n (own K n h) old × (cond b (K.Makes n old t new) (new ≡ old))
  run_before n t h new true e r = (r.0, r.1, r.2)
  run_before n t h new false e r = (new, r, refl)

  carried_step : (t : K.Turn) (h : List K.Turn) (v : (World K)) → Lies (t ∷ h) v → ((a b : ℕ) → Begins K (taken_on K a b (t ∷ h)) (posted_on K a b h)) → (w : (World K)) × Lies h w × Goes K w t v
  carried_step t h v lies fits =
      let back : (n : ℕ) → (old : K.Local) × Alone K n (own K n h) old × (cond ((K.event t).node == n) (K.Makes n old t (v.nodes n)) (v.nodes n ≡ old)) = λ n. run_before n t h (v.nodes n) ((K.event t).node == n) refl (lies.nodes n) in
      let w : (World K) = record { nodes = λ n. (back n).0; links = λ a b. at_front K (K.taken t) a b ++ (fits a b).0 } in (
        w,
        record { nodes = λ n. (back n).1; links = λ a b. sym (append_assoc (taken_on K a b h) (at_front K (K.taken t) a b) (fits a b).0) ∙ (fits a b).1 },
        record {
          makes = made ((K.event t).node == (K.event t).node) (same_numbers (K.event t).node (K.event t).node refl) (back (K.event t).node).0 (back (K.event t).node).2;
          elsewhere = λ m ne. kept m ((K.event t).node == m) (other_numbers (K.event t).node m (λ x. ne (sym x))) (back m).0 (back m).2;
          rest = λ a b. (fits a b).0;
          takes = λ a b. refl;
          posts = λ a b. left a b;
        },
      )
    where
      made : (b : Bool) → b ≡ true → (old : K.Local) → cond b (K.Makes (K.event t).node old t (v.nodes (K.event t).node)) (v.nodes (K.event t).node ≡ old) → K.Makes (K.event t).node old t (v.nodes (K.event t).node)
      made true e old m = m
      made false e old m = absurd cc

      kept : (m : ℕ) (b : Bool) → b ≡ false → (old : K.Local) → cond b (K.Makes m old t (v.nodes m)) (v.nodes m ≡ old) → v.nodes m ≡ old
      kept m true e old k = absurd cc
      kept m false e old k = k

      left : (a b : ℕ) → v.links a b ≡ (fits a b).0 ++ for_link K a b (K.posted t)
      left a b = append_cancel_left (taken_on K a b (t ∷ h)) (v.links a b) ((fits a b).0 ++ for_link K a b (K.posted t))
          (lies.links a b ∙ (ap (λ (x : List K.Letter). x ++ for_link K a b (K.posted t)) (sym (fits a b).1) ∙ append_assoc (taken_on K a b (t ∷ h)) (fits a b).0 (for_link K a b (K.posted t))))

  pub carried_reached : (h : List K.Turn) (v : (World K)) → Carried K h → Lies h v → Reached K h v
  carried_reached [] v carried lies = record { nodes = λ n. lies.nodes n; links = λ a b. lies.links a b }
  carried_reached (t ∷ h) v carried lies =
      let back = carried_step t h v lies carried.0 in
      (back.0, carried_reached h back.0 carried.1 back.1, back.2)

  -- a turn of another node posts nothing on a link from here, and takes nothing from a link to here
  pub posts_elsewhere : (a b n s : ℕ) (ls : List K.Letter) → Each (λ l. ((K.from l) ≡ n) × ((K.stamp l) ≡ s)) ls → n ≢ a → for_link K a b ls ≡ []
  posts_elsewhere a b n s [] m ne = refl
  posts_elsewhere a b n s (l ∷ ls) m ne = go (a == (K.from l)) refl (posts_elsewhere a b n s ls m.1 ne)
    where
      go : (k : Bool) → (a == (K.from l)) ≡ k → for_link K a b ls ≡ [] → cond (k && (b == (K.to l))) (l ∷ for_link K a b ls) (for_link K a b ls) ≡ []
      go true e ih = absurd (ne (sym m.0.0 ∙ sym (numbers_same a (K.from l) e)))
      go false e ih = ih

  pub takes_elsewhere : (a b n s : ℕ) (o : Option K.Letter) → IfSome o (λ l. ((K.to l) ≡ n) × ((K.stamp l) < s)) → n ≢ b → at_front K o a b ≡ []
  takes_elsewhere a b n s None m ne = refl
  takes_elsewhere a b n s (Some l) m ne = go (a == (K.from l)) (b == (K.to l)) refl
    where
      go : (j k : Bool) → (b == (K.to l)) ≡ k → cond (j && k) (l ∷ []) [] ≡ []
      go true true e = absurd (ne (sym m.0 ∙ sym (numbers_same b (K.to l) e)))
      go true false e = refl
      go false true e = refl
      go false false e = refl

  pub posted_own : (a b : ℕ) (h : List K.Turn) → AllMarked h → posted_on K a b (own K a h) ≡ posted_on K a b h
  posted_own a b [] m = refl
  posted_own a b (t ∷ h) m = go ((K.event t).node == a) refl (posted_own a b h m.1)
    where
      go : (k : Bool) → ((K.event t).node == a) ≡ k → posted_on K a b (own K a h) ≡ posted_on K a b h → posted_on K a b (cond k (t ∷ own K a h) (own K a h)) ≡ posted_on K a b h ++ for_link K a b (K.posted t)
      go true e ih = ap (λ (x : List K.Letter). x ++ for_link K a b (K.posted t)) ih
      go false e ih = ih ∙ (sym (append-nil (posted_on K a b h)) ∙ ap (λ (x : List K.Letter). posted_on K a b h ++ x) (sym (posts_elsewhere a b (K.event t).node (K.event t).stamp (K.posted t) m.0.posted (λ x. let z : true ≡ false = sym (same_numbers (K.event t).node a x) ∙ e in cc))))

  taken_own : (a b : ℕ) (h : List K.Turn) → AllMarked h → taken_on K a b (own K b h) ≡ taken_on K a b h
  taken_own a b [] m = refl
  taken_own a b (t ∷ h) m = go ((K.event t).node == b) refl (taken_own a b h m.1)
    where
      go : (k : Bool) → ((K.event t).node == b) ≡ k → taken_on K a b (own K b h) ≡ taken_on K a b h → taken_on K a b (cond k (t ∷ own K b h) (own K b h)) ≡ taken_on K a b h ++ at_front K (K.taken t) a b
      go true e ih = ap (λ (x : List K.Letter). x ++ at_front K (K.taken t) a b) ih
      go false e ih = ih ∙ (sym (append-nil (taken_on K a b h)) ∙ ap (λ (x : List K.Letter). taken_on K a b h ++ x) (sym (takes_elsewhere a b (K.event t).node (K.event t).stamp (K.taken t) m.0.taken (λ x. let z : true ≡ false = sym (same_numbers (K.event t).node b x) ∙ e in cc))))

  -- a woven list of events has its list of turns
  record Listed (turns : ℕ → List K.Turn) (es : List Noted) : Type 0 where
    h : List K.Turn
    same : events K h ≡ es
    each : (n : ℕ) → own K n h ≡ turns n

  abbrev nodes_of : List K.Turn → ℕ → Type 0
  nodes_of h n = Each (λ t. (K.event t).node ≡ n) h

  -- a list of turns whose events begin with e begins with the turn of e
  record Split (e : Noted) (fs : List Noted) (ts : List K.Turn) : Type 0 where
    t : K.Turn
    rest : List K.Turn
    is : ts ≡ t ∷ rest
    event : (K.event t) ≡ e
    others : events K rest ≡ fs

  split : (e : Noted) (fs : List Noted) (ts : List K.Turn) → events K ts ≡ e ∷ fs → Split e fs ts
  split e fs [] h = absurd cc
  split e fs (t ∷ ts) h = record { t = t; rest = ts; is = refl; event = cc; others = cc }

  split_off : (e : Noted) (es : List Noted) (turns : ℕ → List K.Turn) → ((n : ℕ) → events K (turns n) ≡ own_events n (e ∷ es)) → Split e (own_events e.node es) (turns e.node)
  split_off e es turns h = split e (own_events e.node es) (turns e.node) (h e.node ∙ ap (λ (b : Bool). cond b (e ∷ own_events e.node es) (own_events e.node es)) (same_numbers e.node e.node refl))

  abbrev turns_left : (e : Noted) (rest : List K.Turn) (turns : ℕ → List K.Turn) → ℕ → List K.Turn
  turns_left e rest turns n = cond (e.node == n) rest (turns n)

  left_over : (e : Noted) (es : List Noted) (turns : ℕ → List K.Turn) → ((n : ℕ) → events K (turns n) ≡ own_events n (e ∷ es)) → (s : Split e (own_events e.node es) (turns e.node)) → (n : ℕ) → events K (turns_left e s.rest turns n) ≡ own_events n es
  left_over e es turns h s n = go (e.node == n) refl (h n)
    where
      go : (b : Bool) → (e.node == n) ≡ b → events K (turns n) ≡ cond b (e ∷ own_events n es) (own_events n es) → events K (cond b s.rest (turns n)) ≡ own_events n es
      go true same k = s.others ∙ ap (λ (x : ℕ). own_events x es) (numbers_same e.node n same)
      go false same k = k

  put_back : (e : Noted) (turns : ℕ → List K.Turn) (t : K.Turn) (rest h : List K.Turn) → turns e.node ≡ t ∷ rest → (K.event t) ≡ e → ((n : ℕ) → own K n h ≡ turns_left e rest turns n) → (n : ℕ) → own K n (t ∷ h) ≡ turns n
  put_back e turns t rest h is same each n = ap (λ (x : Noted). cond (x.node == n) (t ∷ own K n h) (own K n h)) same ∙ go (e.node == n) refl (each n)
    where
      go : (b : Bool) → (e.node == n) ≡ b → own K n h ≡ cond b rest (turns n) → cond b (t ∷ own K n h) (own K n h) ≡ turns n
      go true eq k = ap (λ (x : List K.Turn). t ∷ x) k ∙ (sym is ∙ ap turns (numbers_same e.node n eq))
      go false eq k = k

  weave_turns : (es : List Noted) (turns : ℕ → List K.Turn) → ((n : ℕ) → events K (turns n) ≡ own_events n es) → Listed turns es
  weave_turns [] turns h = record { h = []; same = refl; each = λ n. sym (nothing (turns n) (h n)) }
    where
      nothing : (ts : List K.Turn) → events K ts ≡ [] → ts ≡ []
      nothing [] e = refl
      nothing (t ∷ ts) e = absurd cc
  weave_turns (e ∷ es) turns h =
      let s = split_off e es turns h in
      let before = weave_turns es (turns_left e s.rest turns) (left_over e es turns h s) in
      record { h = s.t ∷ before.h; same = cc (s.event, before.same); each = put_back e turns s.t s.rest before.h s.is s.event before.each }

  -- what holds of each node's turns holds of all
  all_from_own : (P : K.Turn → Type 0) (h : List K.Turn) → ((n : ℕ) → Each P (own K n h)) → Each P h
  all_from_own P [] each = tt
  all_from_own P (t ∷ h) each = (first ((K.event t).node == (K.event t).node) (same_numbers (K.event t).node (K.event t).node refl) (each (K.event t).node), all_from_own P h (λ n. rest n ((K.event t).node == n) (each n)))
    where
      first : (b : Bool) → b ≡ true → Each P (cond b (t ∷ own K (K.event t).node h) (own K (K.event t).node h)) → P t
      first true e k = k.0
      first false e k = absurd cc

      rest : (n : ℕ) (b : Bool) → Each P (cond b (t ∷ own K n h) (own K n h)) → Each P (own K n h)
      rest n true k = k.1
      rest n false k = k

  pub each_part : (P Q : K.Turn → Type 0) (h : List K.Turn) → ((t : K.Turn) → P t → Q t) → Each P h → Each Q h
  each_part P Q [] f k = tt
  each_part P Q (t ∷ h) f k = (f t k.0, each_part P Q h f k.1)

  module _ (keeps : Keeps K) where
    -- each turn of a node's run is marked, and is the node's
    pub run_marked : (n : ℕ) (h : List K.Turn) (l : K.Local) → Alone K n h l → Each (λ t. Marked K t × ((K.event t).node ≡ n)) h
    run_marked n [] l r = tt
    run_marked n (t ∷ h) l r = ((keeps.marked n r.0 t l r.2, keeps.node n r.0 t l r.2), run_marked n h r.0 r.1)

    -- a node's own events stand by rising stamps
    pub run_sorted : (n : ℕ) (h : List K.Turn) (l : K.Local) → Alone K n h l → Sorted (events K h) × Of n (events K h) × Each (λ e. e.stamp ≤ K.clock l) (events K h)
    run_sorted n [] l r = (tt, tt, tt)
    run_sorted n (t ∷ h) l r =
        let before = run_sorted n h r.0 r.1 in
        let up : K.clock r.0 < (K.event t).stamp = keeps.rises n r.0 t l r.2 in
        let clock : K.clock l ≡ (K.event t).stamp = keeps.clock n r.0 t l r.2 in
        ((each_weaker (λ e. e.stamp ≤ K.clock r.0) (λ f. Later (K.event t) f) (events K h) (λ f le. inl (omega arith)) before.2, before.0), (keeps.node n r.0 t l r.2, before.1), (omega arith, each_weaker (λ e. e.stamp ≤ K.clock r.0) (λ e. e.stamp ≤ K.clock l) (events K h) (λ f le. omega arith) before.2))

    -- the nodes did this by themselves; the events, sorted by stamps, are those of a run of the whole cluster
    pub did_run : (turns : ℕ → List K.Turn) (w : (World K)) (es : List Noted) → Did K turns w → Sorted es → ((n : ℕ) → events K (turns n) ≡ own_events n es) → Woven K turns es w
    did_run turns w es did sorted same =
        let woven = weave_turns es turns same in
        let h = woven.h in
        let marked_all : AllMarked h = all_from_own (Marked K) h (λ n. let P : List K.Turn → Type 0 = λ k. Each (Marked K) k in subst P (sym (woven.each n)) (each_part _ (Marked K) (turns n) (λ t k. k.0) (run_marked n (turns n) (w.nodes n) (did.nodes n)))) in
        let taken_is : (a b : ℕ) → taken_on K a b (turns b) ≡ taken_on K a b h = λ a b. ap (taken_on K a b) (sym (woven.each b)) ∙ taken_own a b h marked_all in
        let posted_is : (a b : ℕ) → posted_on K a b (turns a) ≡ posted_on K a b h = λ a b. ap (posted_on K a b) (sym (woven.each a)) ∙ posted_own a b h marked_all in
        let lies : Lies h w = record {
          nodes = λ n. subst (λ (k : List K.Turn). Alone K n k (w.nodes n)) (sym (woven.each n)) (did.nodes n);
          links = λ a b. ap (λ (k : List K.Letter). k ++ w.links a b) (sym (taken_is a b)) ∙ (did.links a b ∙ posted_is a b);
        } in
        let carried : Carried K h = stamped_carried h (subst Sorted (sym woven.same) sorted) marked_all (λ a b. (w.links a b, lies.links a b)) in
        record { all = h; events_are = woven.same; own_are = woven.each; reached = carried_reached h w carried lies; carried = carried; marked = marked_all }
