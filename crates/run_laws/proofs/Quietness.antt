-- Where every link is empty and every node rests, a process was never born, has ended, or is held at a call that blocks; so the run is done or stuck.
use Rattle.std.proofs.Common.{◌≡◌, ◌≢◌, ℕ, zero, suc, ◌+◌, ◌<◌, ◌≤◌, ◌==◌, ◌⊎◌, inl, inr, Bool, true, false, cond, Option, Some, None, List, [], ◌∷◌, ◌++◌, refl, sym, ap, ◌∙◌, subst, arith}
use Rattle.std.specs.Prelude.{slice_get, length}
use Rattle.std.proofs.lemmas.Bool.Decides.{leb_tells}
use Rattle.std.proofs.lemmas.Option.{slice_get_within}
use lib.Dec.{leb}
use Rattle.node_event.specs.declared.script.Order.{Order}
use Rattle.node_event.specs.declared.script.Order.TheVariants as order
use Rattle.node_event.specs.declared.script.ScriptLine.{ScriptLine}
use Rattle.protocol.specs.Ops.{Ops, Sound, IsMove}
use Rattle.protocol.specs.Deeds.{order_at, Noted}
use Rattle.protocol.specs.Notes.{Call, Pause, Reply, Ask, Allow, Deny, Move, Post, Turn, Body, Called, Kept, Slot, Running, context, Way, way}
use Rattle.protocol.specs.Spots.{Spot, Nowhere, Runs, Calls, Holds, Pauses, Answered, Asks, Granted, Denied, Travels, InReply, Ended, call_at, slot_by, way_by}
use Rattle.protocol.specs.Cluster.{World, Goes, at_front, events}
use Rattle.protocol.specs.Needs.{brings, Right, alive}
use Rattle.protocol.specs.Rests.{Kind, Retry, RunOn, NextLine, SendHalf, IsHalf, AllRest}
use Rattle.protocol.proofs.Talk.{same_numbers, numbers_same, talk, on_link}
use Rattle.protocol.proofs.Process.{cond_here}
use Rattle.protocol.proofs.Stand.{Stands, Path}
use Rattle.run_laws.specs.Machine.{MachineState}
use Rattle.run_laws.specs.Schedule.{machine_at, With}
use Rattle.run_laws.specs.Facts.{Facts, facts, is_held}
use Rattle.run_laws.specs.Outcomes.{outcomes}
use Rattle.run_laws.specs.ScriptLaw.{line_of, one_more, commands, CommandAt, IsNext, ScriptLaw}
use Rattle.run_laws.specs.Due.{LineEnabled, DueAs}
use Rattle.run_laws.specs.Ends.{Blocked, IsDone, IsCarried, IsOpen, AllSettled, SettledOrOpen, DoneOrStuck}
use Rattle.run_laws.proofs.Facts.{facts_of, kept_line, path_tells}
use Rattle.run_laws.proofs.Replay.{user_of}
use Rattle.run_laws.proofs.Played.{Agrees}
use Rattle.run_laws.proofs.Trails.{path_trails}
use Rattle.run_laws.proofs.Lawful.{path_lawful}
use Rattle.run_laws.proofs.Lines.{one_outcome}
use Rattle.run_laws.proofs.Sleeps.{Sleeps, Since, path_sleeps}
use Rattle.run_laws.proofs.OpenLines.{Bears, Somewhere, path_carried}
use Rattle.run_laws.proofs.Resting.{held_spot, kinds_due}
use Rattle.run_laws.proofs.Near.{all_links}
use Rattle.run_laws.proofs.Making.{below, kind_of}

none_of : {A : Type 0} (o : Option A) → (o ≢ None → ⊥) → o ≡ None
none_of None f = refl
none_of {A = A} (Some x) f = absurd (f (λ e. cc))

with_any : {A : Type 0} (o : Option A) (P : A → Type 0) (Q : Type 0) → With o P → ((a : A) → P a → Q) → Q
with_any None P Q w f = absurd w
with_any (Some a) P Q w f = f a w

zero_or_one : (k : ℕ) → k ≤ 1 → (k ≡ 0) ⊎ (k ≡ 1)
zero_or_one zero e = inl refl
zero_or_one (suc zero) e = inr refl
zero_or_one (suc (suc k)) e = absurd (omega (arith, e))

-- among the numbers below a bound one passes a test, or none does
find_one : (test : ℕ → Bool) (k : ℕ) → ((p : ℕ) × (test p ≡ true)) ⊎ ((p : ℕ) → p < k → test p ≡ false)
find_one test zero = inr (λ p e. absurd (omega (arith, e)))
find_one test (suc k) = go (test k) refl (find_one test k)
  where
    go : (b : Bool) → test k ≡ b → (((p : ℕ) × (test p ≡ true)) ⊎ ((p : ℕ) → p < k → test p ≡ false)) → ((p : ℕ) × (test p ≡ true)) ⊎ ((p : ℕ) → p < suc k → test p ≡ false)
    go true e x = inl (k, e)
    go false e (inl x) = inl x
    go false e (inr x) = inr (λ p less. at p less (leb_tells k p))
      where
        at : (p : ℕ) → p < suc k → ((leb k p ≡ true) × (k ≤ p)) ⊎ ((leb k p ≡ false) × (p < k)) → test p ≡ false
        at p less (inl y) = let same : p ≡ k = omega (arith, less, y.1) in ap test same ∙ e
        at p less (inr y) = x p y.1

-- the order of a line stands at a place in the script
index_of : (xs : List ScriptLine) (line : ℕ) (o : Order) → order_at line xs ≡ Some o → (k : ℕ) × (slice_get xs k ≡ Some (record { line = line; order = o }))
index_of [] line o e = absurd cc
index_of (s ∷ xs) line o e = go (s.line == line) refl e (λ x. index_of xs line o x)
  where
    here : (a : ScriptLine) (b : Order) → a.line ≡ line → a.order ≡ b → Some a ≡ Some (record { line = line; order = b })
    here a b e f = λ i. Some (record { line = e i; order = f i })

    go : (b : Bool) → (s.line == line) ≡ b → cond b (Some s.order) (order_at line xs) ≡ Some o → (order_at line xs ≡ Some o → (k : ℕ) × (slice_get xs k ≡ Some (record { line = line; order = o }))) → (k : ℕ) × (slice_get (s ∷ xs) k ≡ Some (record { line = line; order = o }))
    go true x y rest = (0, here s o (numbers_same s.line line x) cc)
    go false x y rest = let z = rest y in (suc z.0, z.1)

module _ (O : Ops) (S : Sound O) where
  -- commands do not outnumber the lines
  commands_within : (es : List Noted) → ScriptLaw O es → commands es ≤ length O.script
  commands_within [] l = omega arith
  commands_within (e ∷ before) l = go (line_of e.what) refl (commands_within before l.1)
    where
      go : (o : Option ℕ) → line_of e.what ≡ o → commands before ≤ length O.script → one_more o (commands before) ≤ length O.script
      go None x less = less
      go (Some line) x less = with_any (machine_at O before) _ _ l.0.command (λ m c. one m (subst (λ (k : Option ℕ). CommandAt O k e.what e.node before m) x c))
        where
          one : (m : MachineState O) → IsNext O line e.what e.node before m → commands before + 1 ≤ length O.script
          one m d = let within = slice_get_within O.script (commands before) _ d.next in omega (arith, within)

  -- a reply under way brings a child
  brings_way : (q c : ℕ) (s : Spot O) → brings O s ≡ Some c → (x : Way O) × (way_by O q s ≡ Some x)
  brings_way q c Nowhere e = absurd cc
  brings_way q c (Runs m b) e = absurd cc
  brings_way q c (Calls m b k r) e = absurd cc
  brings_way q c (Holds m b k r) e = absurd cc
  brings_way q c (Pauses m b k r) e = absurd cc
  brings_way q c (Answered m b k d x y) e = (way O 0 m (Reply q d), refl)
  brings_way q c (Asks m b to l need) e = absurd cc
  brings_way q c (Granted m b to l need) e = absurd cc
  brings_way q c (Denied m b to l need free) e = absurd cc
  brings_way q c (Travels a z b l need) e = absurd cc
  brings_way q c (InReply z u) e = absurd cc
  brings_way q c (Ended u) e = absurd cc

  abbrev pub Quiet : Spot O → Type 0
  Quiet s = (s ≡ Nowhere) ⊎ (((n : ℕ) × (b : Body O) × (k : Option Kept) × (r : O.Request) × (s ≡ Holds n b k r)) ⊎ ((u : O.User) × (s ≡ Ended u)))

  same_move : (p q to at : ℕ) (o : Option Order) → o ≡ Some (order.Move p to) → o ≡ Some (order.Move q at) → (p ≡ q) × (to ≡ at)
  same_move p q to at o e f = let z : order.Move p to ≡ order.Move q at = cc in (cc, cc)

  module _ (h : List (Turn O)) (sp : ℕ → Spot O) (w : World O) (path : Path O S h sp w) (st : Stands O S sp w) (m : MachineState O) (agrees : Agrees O S h sp (w.nodes 0) m) (some : 1 ≤ O.nodes) (rest : AllRest O w) where
    abbrev es : List Noted
    es = events O h

    empty : (a b : ℕ) → w.links a b ≡ []
    empty = all_links O S some h sp w path rest.links

    off_way : (p : ℕ) (x : Way O) → way_by O p (sp p) ≡ Some x → ⊥
    off_way p x e =
        let on : on_link O (Some x) x.from x.to ≡ x.note ∷ [] = rw (same_numbers x.from x.from refl, same_numbers x.to x.to refl) refl in
        let z : [] ≡ x.note ∷ [] = sym (ap (talk O p) (empty x.from x.to)) ∙ ((st.at p).letters x.from x.to ∙ (ap (λ (k : Option (Way O)). on_link O k x.from x.to) e ∙ on)) in cc

    off_run : (p n : ℕ) (b : Body O) → sp p ≡ Runs n b → ⊥
    off_run p n b e = rest.nodes n (below O S h sp w path st p n b e) (RunOn p) (b, ap (λ (k : Slot O). k.context) ((st.at p).slots n) ∙ (ap (λ (s : Spot O). (slot_by O s n).context) e ∙ cond_here n (Some (context O b Running)) None))

    quiet_at : (p : ℕ) (s : Spot O) → sp p ≡ s → Quiet s
    quiet_at p Nowhere e = inl refl
    quiet_at p (Runs n b) e = absurd (off_run p n b e)
    quiet_at p (Calls n b k r) e = absurd (off_way p (way O n 0 (Call p r)) (ap (way_by O p) e))
    quiet_at p (Holds n b k r) e = inr (inl (n, b, k, r, refl))
    quiet_at p (Pauses n b k r) e = absurd (off_way p (way O n 0 (Pause p r)) (ap (way_by O p) e))
    quiet_at p (Answered n b k d x y) e = absurd (off_way p (way O 0 n (Reply p d)) (ap (way_by O p) e))
    quiet_at p (Asks n b to l need) e = absurd (off_way p (way O n to (Ask p need)) (ap (way_by O p) e))
    quiet_at p (Granted n b to l need) e = absurd (off_way p (way O to n (Allow p)) (ap (way_by O p) e))
    quiet_at p (Denied n b to l need free) e = absurd (off_way p (way O to n (Deny p need free)) (ap (way_by O p) e))
    quiet_at p (Travels a c b l need) e = absurd (off_way p (way O a c (Move p b.user b.hops l)) (ap (way_by O p) e))
    quiet_at p (InReply q u) e = (let x = brings_way q p (sp q) ((path_trails O S h sp w path).inside.by p q u e) in absurd (off_way q x.0 x.1))
    quiet_at p (Ended u) e = inr (inr (u, refl))

    held_at : (p n : ℕ) (b : Body O) (k : Option Kept) (r : O.Request) → sp p ≡ Holds n b k r → ((w.nodes 0).slots p).call ≡ Some (record { from = n; request = r })
    held_at p n b k r e = ap (λ (s : Slot O). s.call) ((st.at p).slots 0) ∙ ap (call_at O) e

    -- a held call blocks, and no signal is deliverable
    blocked_at : (p n : ℕ) (b : Body O) (k : Option Kept) (r : O.Request) → sp p ≡ Holds n b k r → Blocked O m p (O.number r)
    blocked_at p n b k r e = record {
      live = agrees.alive p ∙ ap (alive O) e;
      requests = record { user = b.user; request = r; has = agrees.users p ∙ ap (user_of O S) e; asks = subst (Right O) e (agrees.right p); number_is = refl };
      forwarded = (subst (Sleeps O S p (Since O S es p)) e (path_sleeps O S h sp w path p)).2;
      blocks = none_of (O.serve m.kernel p r) (λ f. retry (inl f));
      quiet = none_of (O.lowest m.kernel p) (λ f. retry (inr f));
    }
      where
        retry : (O.serve m.kernel p r ≢ None) ⊎ (O.lowest m.kernel p ≢ None) → ⊥
        retry f = rest.nodes 0 some (Retry p) (refl, record { call = record { from = n; request = r }; held = held_at p n b k r e; ready = subst (λ (k : O.Kernel). (O.serve k p r ≢ None) ⊎ (O.lowest k p ≢ None)) (sym agrees.kernel) f })

    pub live_held : (p : ℕ) → O.live m.kernel p ≡ true → (c : Called O) × (((w.nodes 0).slots p).call ≡ Some c) × Blocked O m p (O.number c.request)
    live_held p live = go (quiet_at p (sp p) refl)
      where
        go : Quiet (sp p) → (c : Called O) × (((w.nodes 0).slots p).call ≡ Some c) × Blocked O m p (O.number c.request)
        go (inl e) = let z : true ≡ false = sym live ∙ (agrees.alive p ∙ ap (alive O) e) in absurd cc
        go (inr (inl (n, b, k, r, e))) = (record { from = n; request = r }, held_at p n b k r e, blocked_at p n b k r e)
        go (inr (inr (u, e))) = let z : true ≡ false = sym live ∙ (agrees.alive p ∙ ap (alive O) e) in absurd cc

    live_blocked : (p : ℕ) → O.live m.kernel p ≡ true → (number : ℕ) × Blocked O m p number
    live_blocked p live = let x = live_held p live in (O.number x.0.request, x.2)

    -- a process that moves for a line is held, with the line's move kept
    open_at : (l p to q : ℕ) → IsCarried O l p to es → (facts q es).line ≡ Some l → IsOpen O l p to es m
    open_at l p to q c x = go (quiet_at q (sp q) refl)
      where
        line_at : (s : Spot O) → sp q ≡ s → (facts_of O S s).line ≡ Some l
        line_at s e = sym (ap (λ (k : Spot O). (facts_of O S k).line) e) ∙ (sym (ap (λ (k : Facts). k.line) (path_tells O S h sp w path q)) ∙ x)

        held : (n : ℕ) (b : Body O) (k : Option Kept) (r : O.Request) → sp q ≡ Holds n b k r → kept_line k ≡ Some l → IsOpen O l p to es m
        held n b None r e y = absurd cc
        held n b (Some k) r e y =
            let line : k.line ≡ l = cc in
            let move : IsMove O k.line q k.to = (subst (Sleeps O S q (Since O S es q)) e (path_sleeps O S h sp w path q)).1 in
            let is = same_move p q to k.to (order_at l O.script) (S.lines c.index _ c.is) (subst (λ (i : ℕ). order_at i O.script ≡ Some (order.Move q k.to)) line move) in
            let told : facts p es ≡ facts_of O S (Holds n b (Some k) r) = ap (λ (i : ℕ). facts i es) is.0 ∙ (path_tells O S h sp w path q ∙ ap (facts_of O S) e) in
            record {
              waits = ap (λ (f : Facts). f.waits) told;
              kept = ap (λ (f : Facts). f.kept) told ∙ ap (λ (i : ℕ). Some i) (sym is.1);
              for_line = ap (λ (f : Facts). f.line) told ∙ ap (λ (i : ℕ). Some i) line;
              number = O.number r;
              blocked = blocked_at p n b (Some k) r (ap sp is.0 ∙ e);
            }

        go : Quiet (sp q) → IsOpen O l p to es m
        go (inl e) = let z : None ≡ Some l = line_at Nowhere e in absurd cc
        go (inr (inl (n, b, k, r, e))) = held n b k r e (line_at (Holds n b k r) e)
        go (inr (inr (u, e))) = let z : None ≡ Some l = line_at (Ended u) e in absurd cc

    settled_or_open : SettledOrOpen O es m
    settled_or_open l p to c = go (path_carried O S h sp w path l p to c)
      where
        most : outcomes l es ≤ 1
        most = one_outcome O S h sp w path l

        when_open : IsOpen O l p to es m → ((outcomes l es ≡ 0) ⊎ (outcomes l es ≡ 1)) → (outcomes l es ≡ 1) ⊎ ((outcomes l es ≡ 0) × IsOpen O l p to es m)
        when_open x (inl e) = inr (e, x)
        when_open x (inr e) = inl e

        go : Somewhere O S l es w → (outcomes l es ≡ 1) ⊎ ((outcomes l es ≡ 0) × IsOpen O l p to es m)
        go (inl e) = inl (omega (arith, e, most))
        go (inr (inl (a, b, x))) = absurd (subst (Bears O S l) (empty a b) x)
        go (inr (inr (q, x))) = when_open (open_at l p to q c x) (zero_or_one (outcomes l es) most)

    off_line : LineEnabled O es m → ⊥
    off_line d = rest.nodes 0 some NextLine ((kinds_due O S h sp w path st m agrees NextLine 0).1 (refl, d))

    stuck : (IsDone O es m → ⊥) → DoneOrStuck O es m
    stuck f = inr (record { not_done = f; blocked = live_blocked; script = off_line }, settled_or_open)

    done : commands es ≡ length O.script → ((p : ℕ) → p < O.count m.kernel + 1 → O.live m.kernel p ≡ false) → DoneOrStuck O es m
    done script dead = inl (record { script = script; ended = ended }, all)
      where
        ended : (p : ℕ) → O.live m.kernel p ≡ false
        ended p = go (leb_tells (O.count m.kernel + 1) p)
          where
            go : ((leb (O.count m.kernel + 1) p ≡ true) × (O.count m.kernel + 1 ≤ p)) ⊎ ((leb (O.count m.kernel + 1) p ≡ false) × (p < O.count m.kernel + 1)) → O.live m.kernel p ≡ false
            go (inl x) = agrees.alive p ∙ ap (alive O) (st.unborn p (omega (arith, x.1, ap O.count agrees.kernel)))
            go (inr x) = dead p x.1

        all : AllSettled O es
        all l p to is = let x = index_of O.script l (order.Move p to) is in let within = slice_get_within O.script x.0 _ x.1 in go (settled_or_open l p to (record { index = x.0; before = omega (arith, within, script); is = x.1 }))
          where
            go : (outcomes l es ≡ 1) ⊎ ((outcomes l es ≡ 0) × IsOpen O l p to es m) → outcomes l es ≡ 1
            go (inl e) = e
            go (inr (e, x)) = let z : true ≡ false = sym x.blocked.live ∙ ended p in absurd cc

    pub over : DoneOrStuck O es m
    over = by_script (leb_tells (length O.script) (commands es))
      where
        by_live : commands es ≡ length O.script → ((p : ℕ) × (O.live m.kernel p ≡ true)) ⊎ ((p : ℕ) → p < O.count m.kernel + 1 → O.live m.kernel p ≡ false) → DoneOrStuck O es m
        by_live e (inl (p, live)) = stuck (λ d. (let z : true ≡ false = sym live ∙ d.ended p in cc))
        by_live e (inr dead) = done e dead

        by_script : ((leb (length O.script) (commands es) ≡ true) × (length O.script ≤ commands es)) ⊎ ((leb (length O.script) (commands es) ≡ false) × (commands es < length O.script)) → DoneOrStuck O es m
        by_script (inl x) = let within = commands_within es (path_lawful O S h sp w path).script in by_live (omega (arith, x.1, within)) (find_one (O.live m.kernel) (O.count m.kernel + 1))
        by_script (inr x) = stuck (λ d. omega (arith, d.script, x.1))

  -- where a run is done no node has anything to do without a letter
  module _ (h : List (Turn O)) (sp : ℕ → Spot O) (w : World O) (path : Path O S h sp w) (m : MachineState O) (agrees : Agrees O S h sp (w.nodes 0) m) where
    pub done_rests : IsDone O (events O h) m → (k : Kind) (n : ℕ) → (IsHalf k → ⊥) → DueAs O k n (events O h) m → ⊥
    done_rests d (SendHalf other) n f x = f tt
    done_rests d (Retry p) n f x =
        let t = held_spot O S (sp p) (sym (ap is_held (path_tells O S h sp w path p)) ∙ x.1.held) in
        let z : false ≡ true = sym (d.ended p) ∙ (agrees.alive p ∙ ap (alive O) t.4) in cc
    done_rests d (RunOn p) n f x = let z : false ≡ true = sym (d.ended p) ∙ x.live in cc
    done_rests d NextLine n f x = let within = slice_get_within O.script (commands (events O h)) x.1.line x.1.next in omega (arith, within, d.script)

  -- where all rests no turn is made
  pub no_turn : (h : List (Turn O)) (sp : ℕ → Spot O) (w : World O) → Path O S h sp w → Stands O S sp w → 1 ≤ O.nodes → AllRest O w → (t : Turn O) (v : World O) → Goes O w t v → ⊥
  no_turn h sp w path st some rest t v goes = go t.taken refl
    where
      go : (o : Option (Post O)) → t.taken ≡ o → ⊥
      go None e = let k = kind_of O S t.event.node (w.nodes t.event.node) t (v.nodes t.event.node) e goes.makes in rest.nodes t.event.node goes.makes.below k.0 k.1
      go (Some l) e =
          let on : at_front O (Some l) l.from l.to ≡ l ∷ [] = rw (same_numbers l.from l.from refl, same_numbers l.to l.to refl) refl in
          let z : l ∷ goes.rest l.from l.to ≡ [] = ap (λ (k : List (Post O)). k ++ goes.rest l.from l.to) (sym (ap (λ (o : Option (Post O)). at_front O o l.from l.to) e ∙ on)) ∙ (sym (goes.takes l.from l.to) ∙ all_links O S some h sp w path rest.links l.from l.to) in cc
