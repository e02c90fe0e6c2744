-- Each landing is told at most once, so no process is told more often than the most hops told.
use Rattle.std.proofs.Common.{◌≡◌, ◌≢◌, ℕ, zero, suc, ◌+◌, ◌<◌, ◌≤◌, ◌==◌, ◌&&◌, ◌⊎◌, inl, inr, Bool, true, false, cond, Option, Some, None, List, [], ◌∷◌, refl, sym, ap, ◌∙◌, subst, arith}
use Rattle.protocol.specs.Ops.{Ops, Sound}
use Rattle.protocol.specs.Deeds.{ForLine, Chosen, Manner, Did, Broke, Fell, Paused, Deed, Run, Kill, Bid, Unsent, Other, Steps, Sent, Heed, Held, Served, Got, Poked, Begin, Keep, Missed, Again, Allows, Denies, Depart, Stay, Land, Told, Refused, Closed, Gossips, Strange, Noted, pid_of}
use Rattle.protocol.specs.Notes.{Done, Note, Call, Pause, Reply, Poke, Half, Go, NotHere, Ask, Allow, Deny, Move, Landed, NoMove, Post, Turn, letter, Body, Kept, Local, Believed, Way, way}
use Rattle.protocol.specs.Spots.{Spot, Nowhere, Travels}
use Rattle.protocol.specs.Cluster.{World, Goes}
use Rattle.protocol.specs.Does.{Does, ServedBy, got_posts}
use Rattle.protocol.specs.Home.{pokes, line_closed, after}
use Rattle.protocol.specs.Needs.{Needs}
use Rattle.protocol.specs.Cluster.{events}
use Rattle.run_laws.specs.UnderWay.{Moves, moves_own, moves}
use Rattle.run_laws.proofs.ToldAt.{told_by_hops, told_at}
use Rattle.protocol.proofs.Talk.{same_numbers, other_numbers, numbers_same, numbers_other}
use Rattle.run_laws.proofs.Family.{words, NoneOf, NotTaken, Under, stays, goes_out, was_under, comes_in}
use Rattle.protocol.proofs.Process.{way_tells, took_way}
use Rattle.protocol.proofs.Own.{takes_in}
use Rattle.protocol.proofs.Stand.{Stands, Step, Path}
use Rattle.run_laws.proofs.Moves.{Balanced, path_balanced}
use Rattle.run_laws.proofs.Trails.{Trails, path_trails, path_lives, hops_grow, told_hops}
use Rattle.std.specs.Prelude.{ℤ}
use Rattle.run_laws.specs.Facts.{Facts, facts}
use Rattle.run_laws.specs.LandingLaw.{Landing, landing_by, landing}
use Rattle.run_laws.proofs.Facts.{facts_of, path_tells}
use Rattle.call_table.specs.declared.process.End.{End}

-- a sum from 1 to n
pub sum_to : (ℕ → ℕ) → ℕ → ℕ
sum_to f zero = 0
sum_to f (suc n) = f (suc n) + sum_to f n

sum_least : (f : ℕ → ℕ) → ((k : ℕ) → f k ≤ 1) → (n : ℕ) → sum_to f n ≤ n
unfolding sum_to
sum_least f h zero = omega arith
sum_least f h (suc n) = omega (arith, h (suc n), sum_least f h n)

sum_same : (f g : ℕ → ℕ) → ((k : ℕ) → g k ≡ f k) → (n : ℕ) → sum_to g n ≡ sum_to f n
unfolding sum_to
sum_same f g h zero = refl
sum_same f g h (suc n) = omega (arith, h (suc n), sum_same f g h n)

sum_put : (f g : ℕ → ℕ) (k : ℕ) → 1 ≤ k → g k ≡ f k + 1 → ((j : ℕ) → j ≢ k → g j ≡ f j) → (n : ℕ) → (k ≤ n → sum_to g n ≡ sum_to f n + 1) × (n < k → sum_to g n ≡ sum_to f n)
unfolding sum_to
sum_put f g k one here off zero = (λ h. absurd (omega (arith, one, h)), λ h. refl)
sum_put f g k one here off (suc n) = go (k == suc n) refl (sum_put f g k one here off n)
  where
    go : (b : Bool) → (k == suc n) ≡ b → ((k ≤ n → sum_to g n ≡ sum_to f n + 1) × (n < k → sum_to g n ≡ sum_to f n)) → (k ≤ suc n → g (suc n) + sum_to g n ≡ f (suc n) + sum_to f n + 1) × (suc n < k → g (suc n) + sum_to g n ≡ f (suc n) + sum_to f n)
    go true e ih =
        let same : k ≡ suc n = numbers_same k (suc n) e in
        let put : g (suc n) ≡ f (suc n) + 1 = subst (λ (x : ℕ). g x ≡ f x + 1) same here in
        (λ h. omega (arith, put, ih.1 (omega (arith, same))), λ h. absurd (omega (arith, same, h)))
    go false e ih =
        let ne = numbers_other k (suc n) e in
        let put : g (suc n) ≡ f (suc n) = off (suc n) (λ z. ne (sym z)) in
        (λ h. omega (arith, put, ih.0 (less h ne)), λ h. omega (arith, put, ih.1 (omega (arith, h))))
      where
        less : k ≤ suc n → k ≢ suc n → k ≤ n
        less h ne = grind (arith, h, ne)

-- a landing that is not told yet, whose letter is under way, and that was told
pub data Report : Type 0 where
  NotYet : Report
  OnWay : (at source : ℕ) (line : Option ℕ) → Report
  Heard : Report

abbrev told_landing : ℕ → ℕ → Option ℕ → Option Landing
told_landing a s l = Some (record { node = a; source = s; line = l })

-- the landing that a letter tells
abbrev landing_of : Report → Landing
landing_of NotYet = record { node = 0; source = 0; line = None }
landing_of (OnWay at source line) = record { node = at; source = source; line = line }
landing_of Heard = record { node = 0; source = 0; line = None }

abbrev pub heard : Report → ℕ
heard NotYet = 0
heard (OnWay a s l) = 0
heard Heard = 1

heard_least : (r : Report) → heard r ≤ 1
heard_least NotYet = omega arith
heard_least (OnWay a s l) = omega arith
heard_least Heard = omega arith

module _ (O : Ops) (S : Sound O) where
  abbrev pub report_way : ℕ → ℕ → Report → Option (Way O)
  report_way p i NotYet = None
  report_way p i (OnWay a s l) = Some (way O a 0 (Landed p s i l))
  report_way p i Heard = None

  abbrev pub landed_of : ℕ → ℕ → Note O → Bool
  landed_of p i (Call q r) = false
  landed_of p i (Pause q r) = false
  landed_of p i (Reply q d) = false
  landed_of p i (Poke q) = false
  landed_of p i (Half places) = false
  landed_of p i (Go q to h line) = false
  landed_of p i (NotHere q to h line) = false
  landed_of p i (Ask q need) = false
  landed_of p i (Allow q) = false
  landed_of p i (Deny q need free) = false
  landed_of p i (Move q u h line) = false
  landed_of p i (Landed q source h line) = (q == p) && (h == i)
  landed_of p i (NoMove line) = false

  abbrev pub Unlanded : Note O → Type 0
  Unlanded (Call q r) = Unit {0}
  Unlanded (Pause q r) = Unit {0}
  Unlanded (Reply q d) = Unit {0}
  Unlanded (Poke q) = Unit {0}
  Unlanded (Half places) = Unit {0}
  Unlanded (Go q to h line) = Unit {0}
  Unlanded (NotHere q to h line) = Unit {0}
  Unlanded (Ask q need) = Unit {0}
  Unlanded (Allow q) = Unit {0}
  Unlanded (Deny q need free) = Unit {0}
  Unlanded (Move q u h line) = Unit {0}
  Unlanded (Landed q source h line) = ⊥
  Unlanded (NoMove line) = Unit {0}

  unlanded : (p i : ℕ) (m : Note O) → Unlanded m → landed_of p i m ≡ false
  unlanded p i (Call q r) k = refl
  unlanded p i (Pause q r) k = refl
  unlanded p i (Reply q d) k = refl
  unlanded p i (Poke q) k = refl
  unlanded p i (Half places) k = refl
  unlanded p i (Go q to h line) k = refl
  unlanded p i (NotHere q to h line) k = refl
  unlanded p i (Ask q need) k = refl
  unlanded p i (Allow q) k = refl
  unlanded p i (Deny q need free) k = refl
  unlanded p i (Move q u h line) k = refl
  unlanded p i (Landed q source h line) k = absurd k
  unlanded p i (NoMove line) k = refl

  abbrev pub AllUnlanded : List (Post O) → Type 0
  AllUnlanded [] = Unit {0}
  AllUnlanded (l ∷ ls) = Unlanded l.note × AllUnlanded ls

  abbrev pub InUnlanded : Option (Post O) → Type 0
  InUnlanded None = Unit {0}
  InUnlanded (Some l) = Unlanded l.note

  none_landed : (p i : ℕ) (ls : List (Post O)) → AllUnlanded ls → NoneOf O (landed_of p i) ls
  none_landed p i [] k = tt
  none_landed p i (l ∷ ls) k = (unlanded p i l.note k.0, none_landed p i ls k.1)

  in_landed : (p i : ℕ) (o : Option (Post O)) → InUnlanded o → NotTaken O (landed_of p i) o
  in_landed p i None k = tt
  in_landed p i (Some l) k = unlanded p i l.note k

  pokes_un : (s : ℕ) (believed : ℕ → Believed) (qs : List ℕ) → AllUnlanded (pokes O s believed qs)
  pokes_un s believed [] = tt
  pokes_un s believed (q ∷ qs) = (tt, pokes_un s believed qs)

  closed_un : (n s : ℕ) (line : Option ℕ) → AllUnlanded (line_closed O n s line)
  closed_un n s None = tt
  closed_un n s (Some line) = (tt, tt)

  some_way : (v w : Way O) → Some v ≡ Some w → v ≡ w
  some_way v w e = cc

  -- a Landed that is taken was under way
  report_tells : (p i : ℕ) (r : Report) (w : Way O) → report_way p i r ≡ Some w → heard r ≡ 0
  report_tells p i NotYet w e = absurd cc
  report_tells p i (OnWay a s l) w e = refl
  report_tells p i Heard w e = absurd cc

  report_some : (p i : ℕ) (r : Report) (w : Way O) → report_way p i r ≡ Some w → r ≡ NotYet → ⊥
  report_some p i r w e f = let z : None ≡ Some w = ap (report_way p i) (sym f) ∙ e in cc

  pub both_here : (p i : ℕ) → ((p == p) && (i == i)) ≡ true
  both_here p i = rw (same_numbers p p refl, same_numbers i i refl) refl

  both_off : (a b p i : ℕ) → ((a ≡ p) × (b ≡ i) → ⊥) → ((a == p) && (b == i)) ≡ false
  both_off a b p i h = go (a == p) (b == i) refl refl
    where
      go : (x y : Bool) → (a == p) ≡ x → (b == i) ≡ y → (x && y) ≡ false
      go true true e f = absurd (h (numbers_same a p e, numbers_same b i f))
      go true false e f = refl
      go false y e f = refl

  pub record Reports (h : List (Turn O)) (sp : ℕ → Spot O) (w : World O) : Type 0 where
    pub report : ℕ → ℕ → Report
    pub under : (p i : ℕ) → Under O (landed_of p i) (report_way p i (report p i)) w
    pub later : (p i : ℕ) → (moves p (events O h)).lands < i → report p i ≡ NotYet
    pub zero_not : (p : ℕ) → report p 0 ≡ NotYet
    pub counts : (p i : ℕ) → told_at p i (events O h) ≡ heard (report p i)
    pub total : (p m : ℕ) → ((i : ℕ) → m < i → heard (report p i) ≡ 0) → (moves p (events O h)).tolds ≡ sum_to (λ i. heard (report p i)) m
    pub known : (p i : ℕ) → ((w.nodes 0).believed p).hops < i → heard (report p i) ≡ 0
    pub landed : (p i a s : ℕ) (l : Option ℕ) → report p i ≡ OnWay a s l → landing p i (events O h) ≡ Some (record { node = a; source = s; line = l })

  module _ (h : List (Turn O)) (w : World O) (t : Turn O) (v : World O) (sp next : ℕ → Spot O) (stands : Stands O S sp w) (st : Step O S sp w t next v) (bal : (q : ℕ) → Balanced O S (sp q) (moves q (events O h))) (tr : Trails O S h sp w) (lives : (q : ℕ) → O.live (w.nodes 0).kernel q ≡ true → sp q ≡ Nowhere → ⊥) (tells : (q : ℕ) → facts q (events O h) ≡ facts_of O S (sp q)) (rs : Reports h sp w) where
    abbrev n : ℕ
    n = t.event.node

    abbrev old : Local O
    old = w.nodes t.event.node

    abbrev new : Local O
    new = v.nodes t.event.node

    abbrev goes : Goes O w t v
    goes = st.goes

    abbrev es : List Noted
    es = events O h

    not_yet : (q i : ℕ) → sp q ≡ Nowhere → heard (rs.report q i) ≡ 0
    not_yet q i e =
        let b : Balanced O S Nowhere (moves q es) = subst (λ (k : Spot O). Balanced O S k (moves q es)) e (bal q) in
        go b.hops (i == 0) refl
      where
        go : (moves q es).lands ≡ 0 → (b : Bool) → (i == 0) ≡ b → heard (rs.report q i) ≡ 0
        go l true f = ap heard (ap (rs.report q) (numbers_same i 0 f) ∙ rs.zero_not q)
        go l false f = let ne = numbers_other i 0 f in ap heard (rs.later q i (grind (arith, l, ne)))

    known_next : (q i : ℕ) → ((v.nodes 0).believed q).hops < i → heard (rs.report q i) ≡ 0
    known_next q i less = go (hops_grow O S h w t v sp next stands st bal tr lives t.event.what goes.makes.does st.needs q)
      where
        go : (sp q ≡ Nowhere) ⊎ (((w.nodes 0).believed q).hops ≤ ((v.nodes 0).believed q).hops) → heard (rs.report q i) ≡ 0
        go (inl e) = not_yet q i e
        go (inr e) = rs.known q i (omega (arith, e, less))

    -- what the event makes of the counts of one process
    moves_at : (q : ℕ) (b : Bool) → (q == pid_of t.event.what) ≡ b → moves q (t.event ∷ es) ≡ cond b (moves_own t.event.what (moves q es)) (moves q es)
    moves_at q b e = ap (λ (x : Bool). cond x (moves_own t.event.what (moves q es)) (moves q es)) e

    abbrev Silent : Deed → Type 0
    Silent what = ((i x : ℕ) → told_by_hops what i x ≡ x) × ((m : Moves) → (moves_own what m).lands ≡ m.lands) × ((m : Moves) → (moves_own what m).tolds ≡ m.tolds) × ((n p i others : ℕ) (line : Option ℕ) (old : Option Landing) → landing_by what n p i others line old ≡ old)

    quiet_next : Silent t.event.what → (taken : Option (Post O)) (posted : List (Post O)) → t.taken ≡ taken → t.posted ≡ posted → InUnlanded taken → AllUnlanded posted → Reports (t ∷ h) next v
    quiet_next q taken posted e f k j = record {
      report = rs.report;
      under = λ p i. stays O (landed_of p i) w t v goes (report_way p i (rs.report p i)) (rs.under p i) taken posted e f (in_landed p i taken k) (none_landed p i posted j);
      later = λ p i less. rs.later p i (omega (arith, less, same_lands p (p == pid_of t.event.what) refl));
      zero_not = rs.zero_not;
      counts = λ p i. same_told p i (p == pid_of t.event.what) ∙ rs.counts p i;
      total = λ p m z. same_tolds p (p == pid_of t.event.what) refl ∙ rs.total p m z;
      known = known_next;
      landed = λ p i a s l z. q.3 _ p i _ _ _ ∙ rs.landed p i a s l z;
    }
      where
        same_lands : (p : ℕ) (b : Bool) → (p == pid_of t.event.what) ≡ b → (moves p (t.event ∷ es)).lands ≡ (moves p es).lands
        same_lands p true x = ap (λ (m : Moves). m.lands) (moves_at p true x) ∙ q.1 (moves p es)
        same_lands p false x = ap (λ (m : Moves). m.lands) (moves_at p false x)

        same_tolds : (p : ℕ) (b : Bool) → (p == pid_of t.event.what) ≡ b → (moves p (t.event ∷ es)).tolds ≡ (moves p es).tolds
        same_tolds p true x = ap (λ (m : Moves). m.tolds) (moves_at p true x) ∙ q.2 (moves p es)
        same_tolds p false x = ap (λ (m : Moves). m.tolds) (moves_at p false x)

        same_told : (p i : ℕ) (b : Bool) → cond b (told_by_hops t.event.what i (told_at p i es)) (told_at p i es) ≡ told_at p i es
        same_told p i true = q.0 i (told_at p i es)
        same_told p i false = refl

    abbrev set : ℕ → ℕ → Report → ℕ → ℕ → Report
    set x k r p i = cond ((p == x) && (i == k)) r (rs.report p i)

    set_here : (x k : ℕ) (r : Report) → set x k r x k ≡ r
    set_here x k r = ap (λ (b : Bool). cond b r (rs.report x k)) (both_here x k)

    set_off : (x k : ℕ) (r : Report) (p i : ℕ) → ((p ≡ x) × (i ≡ k) → ⊥) → set x k r p i ≡ rs.report p i
    set_off x k r p i ne = ap (λ (b : Bool). cond b r (rs.report p i)) (both_off p i x k ne)

    -- either it is this landing or another one
    abbrev Case : ℕ → ℕ → ℕ → ℕ → Type 0
    Case x k p i = ((p ≡ x) × (i ≡ k)) ⊎ ((p ≡ x) × (i ≡ k) → ⊥)

    case_of : (x k p i : ℕ) → Case x k p i
    case_of x k p i = go (p == x) (i == k) refl refl
      where
        go : (a b : Bool) → (p == x) ≡ a → (i == k) ≡ b → Case x k p i
        go true true e f = inl (numbers_same p x e, numbers_same i k f)
        go true false e f = inr (λ z. numbers_other i k f z.1)
        go false b e f = inr (λ z. numbers_other p x e z.0)

    land_next : (x source : ℕ) → t.event.what ≡ Land x source → Does O (Land x source) n old t new → Reports (t ∷ h) next v
    land_next x source is d = record {
      report = set x k r;
      under = λ p i. under_at p i (case_of x k p i);
      later = λ p i less. later_at p i less (case_of x k p i);
      zero_not = λ p. set_off x k r p 0 (λ z. (let y : 0 ≡ d.hops + 1 = z.1 in omega (arith, y))) ∙ rs.zero_not p;
      counts = λ p i. same_told p i (p == pid_of t.event.what) ∙ (rs.counts p i ∙ sym (same_heard p i (case_of x k p i)));
      total = λ p m z. same_tolds p (p == pid_of t.event.what) refl ∙ (rs.total p m (λ i less. sym (same_heard p i (case_of x k p i)) ∙ z i less) ∙ sym (sum_same (λ i. heard (rs.report p i)) (λ i. heard (set x k r p i)) (λ i. same_heard p i (case_of x k p i)) m));
      known = λ q i less. same_heard q i (case_of x k q i) ∙ known_next q i less;
      landed = λ p i a s l z. ap (λ (y : Deed). landing_by y n p i (moves p es).lands (facts p es).line (landing p i es)) is ∙ landed_at p i a s l (case_of x k p i) z;
    }
      where
        k : ℕ
        k = d.hops + 1

        r : Report
        r = OnWay n source d.line

        told : (body : Body O) × (weight : ℕ) × (sp x ≡ Travels source n body d.line weight) × (body.user ≡ d.user) × (body.hops ≡ d.hops)
        told = way_tells O x (sp x) (way O source n (Move x d.user d.hops d.line)) (took_way O x (sp x) w v (stands.at x) _ _ (takes_in O w t v goes x _ _ d.base.took d.base.posts (same_numbers x x refl) (refl, tt)))

        b : Balanced O S (Travels source n told.0 d.line told.1) (moves x es)
        b = subst (λ (y : Spot O). Balanced O S y (moves x es)) told.2 (bal x)

        lands_is : (moves x es).lands ≡ d.hops
        lands_is = sym b.hops ∙ told.4

        line_is : (facts x es).line ≡ d.line
        line_is = ap (λ (y : Facts). y.line) (tells x ∙ ap (facts_of O S) told.2)

        on_way : (a s : ℕ) (l : Option ℕ) → r ≡ OnWay a s l → told_landing n source d.line ≡ told_landing a s l
        on_way a s l z = ap (λ (y : Report). Some (landing_of y)) z

        numbered : ((x == x) && ((moves x es).lands + 1 == k)) ≡ true
        numbered = rw (same_numbers x x refl, same_numbers ((moves x es).lands + 1) k (ap (λ (y : ℕ). y + 1) lands_is)) refl

        landed_at : (p i a s : ℕ) (l : Option ℕ) → Case x k p i → set x k r p i ≡ OnWay a s l → landing_by (Land x source) n p i (moves p es).lands (facts p es).line (landing p i es) ≡ Some (record { node = a; source = s; line = l })
        landed_at p i a s l (inl c) z =
            let here : set x k r x k ≡ OnWay a s l = subst (λ (y : ℕ). set x k r x y ≡ OnWay a s l) c.1 (subst (λ (y : ℕ). set x k r y i ≡ OnWay a s l) c.0 z) in
            let e : landing_by (Land x source) n x k (moves x es).lands (facts x es).line (landing x k es) ≡ Some (record { node = a; source = s; line = l }) =
            ap (λ (b : Bool). cond b (told_landing n source (facts x es).line) (landing x k es)) numbered ∙ (ap (λ (y : Option ℕ). told_landing n source y) line_is ∙ on_way a s l (sym (set_here x k r) ∙ here)) in
            subst (λ (y : ℕ). landing_by (Land x source) n y i (moves y es).lands (facts y es).line (landing y i es) ≡ Some (record { node = a; source = s; line = l })) (sym c.0) (subst (λ (y : ℕ). landing_by (Land x source) n x y (moves x es).lands (facts x es).line (landing x y es) ≡ Some (record { node = a; source = s; line = l })) (sym c.1) e)
        landed_at p i a s l (inr c) z = ap (λ (b : Bool). cond b (told_landing n source (facts p es).line) (landing p i es)) (go (x == p) refl) ∙ rs.landed p i a s l (sym (set_off x k r p i c) ∙ z)
          where
            go : (b : Bool) → (x == p) ≡ b → (b && ((moves p es).lands + 1 == i)) ≡ false
            go false e = refl
            go true e = other_numbers ((moves p es).lands + 1) i (λ y. c (sym (numbers_same x p e), sym y ∙ ap (λ (u : ℕ). u + 1) (ap (λ (u : ℕ). (moves u es).lands) (sym (numbers_same x p e)) ∙ lands_is)))

        was : rs.report x (d.hops + 1) ≡ NotYet
        was = rs.later x (d.hops + 1) (omega (arith, lands_is))

        mine_is : x ≡ pid_of t.event.what
        mine_is = sym (ap pid_of is)

        same_heard : (p i : ℕ) → Case x k p i → heard (set x k r p i) ≡ heard (rs.report p i)
        same_heard p i (inl z) = ap heard (ap (λ (y : ℕ). set x k r y i) z.0 ∙ (ap (set x k r x) z.1 ∙ set_here x k r)) ∙ sym (ap heard (ap (λ (y : ℕ). rs.report y i) z.0 ∙ (ap (rs.report x) z.1 ∙ was)))
        same_heard p i (inr z) = ap heard (set_off x k r p i z)

        under_at : (p i : ℕ) → Case x k p i → Under O (landed_of p i) (report_way p i (set x k r p i)) v
        under_at p i (inl z) =
            let here : Under O (landed_of x k) (report_way x k r) v = goes_out O (landed_of x k) w t v goes _ [] _ (subst (λ (y : Report). Under O (landed_of x k) (report_way x k y) w) was (rs.under x k)) d.base.took refl d.base.posts (both_here x k) tt in
            let here2 : Under O (landed_of x k) (report_way x k (set x k r x k)) v = subst (λ (y : Report). Under O (landed_of x k) (report_way x k y) v) (sym (set_here x k r)) here in
            subst (λ (y : ℕ). Under O (landed_of y i) (report_way y i (set x k r y i)) v) (sym z.0) (subst (λ (y : ℕ). Under O (landed_of x y) (report_way x y (set x k r x y)) v) (sym z.1) here2)
        under_at p i (inr z) =
            subst (λ (y : Report). Under O (landed_of p i) (report_way p i y) v) (sym (set_off x k r p i z)) (stays O (landed_of p i) w t v goes (report_way p i (rs.report p i)) (rs.under p i) _ _ d.base.took d.base.posts refl (both_off x (d.hops + 1) p i (λ y. z (sym y.0, sym y.1)), tt))

        lands_at : (p : ℕ) (c : Bool) → (p == pid_of t.event.what) ≡ c → (moves p es).lands ≤ (moves p (t.event ∷ es)).lands
        lands_at p true e = omega (arith, ap (λ (m : Moves). m.lands) (moves_at p true e), ap (λ (y : Deed). (moves_own y (moves p es)).lands) is)
        lands_at p false e = omega (arith, ap (λ (m : Moves). m.lands) (moves_at p false e))

        lands_own : (moves x (t.event ∷ es)).lands ≡ (moves x es).lands + 1
        lands_own = ap (λ (m : Moves). m.lands) (moves_at x true (same_numbers x (pid_of t.event.what) mine_is)) ∙ ap (λ (y : Deed). (moves_own y (moves x es)).lands) is

        later_at : (p i : ℕ) → (moves p (t.event ∷ es)).lands < i → Case x k p i → set x k r p i ≡ NotYet
        later_at p i less (inl z) =
            let less2 : (moves x (t.event ∷ es)).lands < i = subst (λ (y : ℕ). (moves y (t.event ∷ es)).lands < i) z.0 less in
            let i_is : i ≡ d.hops + 1 = z.1 in
            absurd (omega (arith, less2, lands_own, lands_is, i_is))
        later_at p i less (inr z) = set_off x k r p i z ∙ rs.later p i (omega (arith, less, lands_at p (p == pid_of t.event.what) refl))

        same_tolds : (p : ℕ) (c : Bool) → (p == pid_of t.event.what) ≡ c → (moves p (t.event ∷ es)).tolds ≡ (moves p es).tolds
        same_tolds p true e = ap (λ (m : Moves). m.tolds) (moves_at p true e) ∙ ap (λ (y : Deed). (moves_own y (moves p es)).tolds) is
        same_tolds p false e = ap (λ (m : Moves). m.tolds) (moves_at p false e)

        same_told : (p i : ℕ) (c : Bool) → cond c (told_by_hops t.event.what i (told_at p i es)) (told_at p i es) ≡ told_at p i es
        same_told p i true = ap (λ (y : Deed). told_by_hops y i (told_at p i es)) is
        same_told p i false = refl

    poke_un : (x to : ℕ) (b : Bool) → AllUnlanded (cond b (letter O n to t.event.stamp (Poke x) ∷ []) [])
    poke_un x to true = (tt, tt)
    poke_un x to false = tt

    told_next : (x at source hops : ℕ) (line : Option ℕ) (poked : Bool) → t.event.what ≡ Told x at source hops line poked → Does O (Told x at source hops line poked) n old t new → Reports (t ∷ h) next v
    told_next x at source hops line poked is d = record {
      report = set x hops Heard;
      under = λ p i. under_at p i (case_of x hops p i);
      later = λ p i less. later_at p i (rs.later p i (omega (arith, less, same_lands p (p == pid_of t.event.what) refl))) (case_of x hops p i);
      zero_not = λ p. set_off x hops Heard p 0 (λ z. some (subst (λ (y : ℕ). rs.report x y ≡ NotYet) z.1 (rs.zero_not x))) ∙ rs.zero_not p;
      counts = λ p i. counts_at p i (case_of x hops p i);
      total = λ p m z. total_at p m z (p == x) refl;
      known = λ q i less. known_at q i less (case_of x hops q i);
      landed = λ p i a s l z. ap (λ (y : Deed). landing_by y n p i (moves p es).lands (facts p es).line (landing p i es)) is ∙ landed_at p i a s l (case_of x hops p i) z;
    }
      where
        was : report_way x hops (rs.report x hops) ≡ Some (way O at n (Landed x source hops line))
        was = (was_under O (landed_of x hops) w t v goes (report_way x hops (rs.report x hops)) _ (rs.under x hops) d.base.took (both_here x hops)).0

        landed_at : (p i a s : ℕ) (l : Option ℕ) → Case x hops p i → set x hops Heard p i ≡ OnWay a s l → landing p i es ≡ Some (record { node = a; source = s; line = l })
        landed_at p i a s l (inl c) z =
            let here : set x hops Heard x hops ≡ OnWay a s l = subst (λ (y : ℕ). set x hops Heard x y ≡ OnWay a s l) c.1 (subst (λ (y : ℕ). set x hops Heard y i ≡ OnWay a s l) c.0 z) in
            let e : Heard ≡ OnWay a s l = sym (set_here x hops Heard) ∙ here in absurd cc
        landed_at p i a s l (inr c) z = rs.landed p i a s l (sym (set_off x hops Heard p i c) ∙ z)

        some : rs.report x hops ≡ NotYet → ⊥
        some = report_some x hops (rs.report x hops) _ was

        unheard : heard (rs.report x hops) ≡ 0
        unheard = report_tells x hops (rs.report x hops) _ was

        mine_is : x ≡ pid_of t.event.what
        mine_is = sym (ap pid_of is)

        one : 1 ≤ hops
        one = go (hops == 0) refl
          where
            go : (b : Bool) → (hops == 0) ≡ b → 1 ≤ hops
            go true e = absurd (some (ap (rs.report x) (numbers_same hops 0 e) ∙ rs.zero_not x))
            go false e = let ne = numbers_other hops 0 e in grind (arith, ne)

        here : heard (set x hops Heard x hops) ≡ heard (rs.report x hops) + 1
        here = ap heard (set_here x hops Heard) ∙ ap (λ (y : ℕ). y + 1) (sym unheard)

        off : (j : ℕ) → j ≢ hops → heard (set x hops Heard x j) ≡ heard (rs.report x j)
        off j ne = ap heard (set_off x hops Heard x j (λ z. ne z.1))

        under_at : (p i : ℕ) → Case x hops p i → Under O (landed_of p i) (report_way p i (set x hops Heard p i)) v
        under_at p i (inl z) =
            let gone : Under O (landed_of x hops) (report_way x hops Heard) v = comes_in O (landed_of x hops) w t v goes (report_way x hops (rs.report x hops)) _ _ (rs.under x hops) d.base.took (both_here x hops) d.base.posts (none_landed x hops _ (poke_un x _ poked)) in
            let gone2 : Under O (landed_of x hops) (report_way x hops (set x hops Heard x hops)) v = subst (λ (y : Report). Under O (landed_of x hops) (report_way x hops y) v) (sym (set_here x hops Heard)) gone in
            subst (λ (y : ℕ). Under O (landed_of y i) (report_way y i (set x hops Heard y i)) v) (sym z.0) (subst (λ (y : ℕ). Under O (landed_of x y) (report_way x y (set x hops Heard x y)) v) (sym z.1) gone2)
        under_at p i (inr z) =
            subst (λ (y : Report). Under O (landed_of p i) (report_way p i y) v) (sym (set_off x hops Heard p i z)) (stays O (landed_of p i) w t v goes (report_way p i (rs.report p i)) (rs.under p i) _ _ d.base.took d.base.posts (both_off x hops p i (λ y. z (sym y.0, sym y.1))) (none_landed p i _ (poke_un x _ poked)))

        later_at : (p i : ℕ) → rs.report p i ≡ NotYet → Case x hops p i → set x hops Heard p i ≡ NotYet
        later_at p i e (inl z) = absurd (some (sym (ap (λ (y : ℕ). rs.report y i) z.0 ∙ ap (rs.report x) z.1) ∙ e))
        later_at p i e (inr z) = set_off x hops Heard p i z ∙ e

        same_lands : (p : ℕ) (c : Bool) → (p == pid_of t.event.what) ≡ c → (moves p (t.event ∷ es)).lands ≡ (moves p es).lands
        same_lands p true e = ap (λ (m : Moves). m.lands) (moves_at p true e) ∙ ap (λ (y : Deed). (moves_own y (moves p es)).lands) is
        same_lands p false e = ap (λ (m : Moves). m.lands) (moves_at p false e)

        told_at_is : (p i : ℕ) (c : Bool) → (p == pid_of t.event.what) ≡ c → told_at p i (t.event ∷ es) ≡ cond c (cond (hops == i) (told_at p i es + 1) (told_at p i es)) (told_at p i es)
        told_at_is p i true e = ap (λ (b : Bool). cond b (told_by_hops t.event.what i (told_at p i es)) (told_at p i es)) e ∙ ap (λ (y : Deed). told_by_hops y i (told_at p i es)) is
        told_at_is p i false e = ap (λ (b : Bool). cond b (told_by_hops t.event.what i (told_at p i es)) (told_at p i es)) e

        counts_at : (p i : ℕ) → Case x hops p i → told_at p i (t.event ∷ es) ≡ heard (set x hops Heard p i)
        counts_at p i (inl z) =
            let now : told_at p i (t.event ∷ es) ≡ told_at p i es + 1 = told_at_is p i true (same_numbers p (pid_of t.event.what) (z.0 ∙ mine_is)) ∙ ap (λ (b : Bool). cond b (told_at p i es + 1) (told_at p i es)) (same_numbers hops i (sym z.1)) in
            now ∙ (ap (λ (y : ℕ). y + 1) (rs.counts p i ∙ ap heard (ap (λ (y : ℕ). rs.report y i) z.0 ∙ ap (rs.report x) z.1)) ∙ (sym here ∙ sym (ap heard (ap (λ (y : ℕ). set x hops Heard y i) z.0 ∙ ap (set x hops Heard x) z.1))))
        counts_at p i (inr z) = go (p == pid_of t.event.what) refl ∙ (rs.counts p i ∙ sym (ap heard (set_off x hops Heard p i z)))
          where
            go : (c : Bool) → (p == pid_of t.event.what) ≡ c → told_at p i (t.event ∷ es) ≡ told_at p i es
            go true e = told_at_is p i true e ∙ ap (λ (b : Bool). cond b (told_at p i es + 1) (told_at p i es)) (other_numbers hops i (λ y. z (numbers_same p (pid_of t.event.what) e ∙ sym mine_is, sym y)))
            go false e = told_at_is p i false e

        total_at : (p m : ℕ) → ((i : ℕ) → m < i → heard (set x hops Heard p i) ≡ 0) → (c : Bool) → (p == x) ≡ c → (moves p (t.event ∷ es)).tolds ≡ sum_to (λ i. heard (set x hops Heard p i)) m
        total_at p m z true e = subst (λ (y : ℕ). (moves y (t.event ∷ es)).tolds ≡ sum_to (λ i. heard (set x hops Heard y i)) m) (sym (numbers_same p x e)) (own (λ i less. ap heard (ap (λ (y : ℕ). set x hops Heard y i) (sym (numbers_same p x e))) ∙ z i less))
          where
            own : ((i : ℕ) → m < i → heard (set x hops Heard x i) ≡ 0) → (moves x (t.event ∷ es)).tolds ≡ sum_to (λ i. heard (set x hops Heard x i)) m
            own z =
                let least : hops ≤ m = at_most (m < hops) (λ less. (let y : heard (rs.report x hops) + 1 ≡ 0 = sym here ∙ z hops less in omega (arith, y))) in
                let before : (i : ℕ) → m < i → heard (rs.report x i) ≡ 0 = λ i less. sym (off i (λ y. (let y2 : i ≡ hops = y in omega (arith, less, least, y2)))) ∙ z i less in
                let more : (moves x (t.event ∷ es)).tolds ≡ (moves x es).tolds + 1 = ap (λ (k : Moves). k.tolds) (moves_at x true (same_numbers x (pid_of t.event.what) mine_is)) ∙ ap (λ (y : Deed). (moves_own y (moves x es)).tolds) is in
                more ∙ (ap (λ (y : ℕ). y + 1) (rs.total x m before) ∙ sym ((sum_put (λ i. heard (rs.report x i)) (λ i. heard (set x hops Heard x i)) hops one here off m).0 least))
              where
                at_most : (A : Type 0) → (m < hops → ⊥) → hops ≤ m
                at_most A bad = grind (arith, bad)
        total_at p m z false e =
            let ne = numbers_other p x e in
            let same : (i : ℕ) → heard (set x hops Heard p i) ≡ heard (rs.report p i) = λ i. ap heard (set_off x hops Heard p i (λ y. ne y.0)) in
            ap (λ (k : Moves). k.tolds) (moves_at p false (other_numbers p (pid_of t.event.what) (λ y. ne (y ∙ sym mine_is)))) ∙ (rs.total p m (λ i less. sym (same i) ∙ z i less) ∙ sym (sum_same (λ i. heard (rs.report p i)) (λ i. heard (set x hops Heard p i)) same m))

        known_at : (q i : ℕ) → ((v.nodes 0).believed q).hops < i → Case x hops q i → heard (set x hops Heard q i) ≡ 0
        known_at q i less (inl z) =
            let most : hops ≤ ((v.nodes 0).believed x).hops = told_hops O S h w t v sp next stands st bal tr lives x at source hops line poked d in
            let less2 : ((v.nodes 0).believed x).hops < i = subst (λ (y : ℕ). ((v.nodes 0).believed y).hops < i) z.0 less in
            let i_is : i ≡ hops = z.1 in absurd (omega (arith, most, less2, i_is))
        known_at q i less (inr z) = ap heard (set_off x hops Heard q i z) ∙ known_next q i less

    got_un : (x : ℕ) (b : Body O) (k : Option Kept) (d : Done O) → AllUnlanded (got_posts O n t.event.stamp x b k d)
    got_un x b None d = tt
    got_un x b (Some k) d = go d.ended
      where
        go : (e : Bool) → AllUnlanded (cond e (letter O n 0 t.event.stamp (NoMove k.line) ∷ []) (letter O n k.to t.event.stamp (Ask x (O.pages (after O b.user d))) ∷ []))
        go true = (tt, tt)
        go false = (tt, tt)

    silent_of : (what : Deed) → t.event.what ≡ what → Silent what → Silent t.event.what
    silent_of what is q = subst Silent (sym is) q

    served_next : (manner : Manner) (x : ℕ) (number : Option ℕ) (value : Option ℤ) (child signal : Option ℕ) (ends : Option End) (more : Bool) (poked : List ℕ) → Silent t.event.what → ServedBy O manner n x number value child signal ends more poked old t new → Reports (t ∷ h) next v
    served_next Did x number value child signal ends more poked q (inl d) = quiet_next q _ _ d.base.took d.base.posts tt (tt, pokes_un t.event.stamp old.believed poked)
    served_next Did x number value child signal ends more poked q (inr d) = quiet_next q _ _ d.base.took d.base.posts tt (tt, pokes_un t.event.stamp old.believed poked)
    served_next Broke x number value child signal ends more poked q (inl d) = quiet_next q _ _ d.base.took d.base.posts tt (tt, pokes_un t.event.stamp old.believed poked)
    served_next Broke x number value child signal ends more poked q (inr d) = quiet_next q _ _ d.base.took d.base.posts tt (tt, pokes_un t.event.stamp old.believed poked)
    served_next Fell x number value child signal ends more poked q d = quiet_next q _ _ d.base.took d.base.posts tt (tt, pokes_un t.event.stamp old.believed poked)
    served_next Paused x number value child signal ends more poked q d = quiet_next q _ _ d.base.took d.base.posts tt (tt, pokes_un t.event.stamp old.believed poked)

    pub reports_next : (what : Deed) → t.event.what ≡ what → Does O what n old t new → Needs O what n old new (sp (pid_of what)) st.own → Reports (t ∷ h) next v
    reports_next (Run line i p) is d need = quiet_next (silent_of (Run line i p) is (λ i x. refl, λ m. refl, λ m. refl, λ n p i k l o. refl)) _ _ d.base.took d.base.posts tt tt
    reports_next (Kill line p g poked) is d need = quiet_next (silent_of (Kill line p g poked) is (λ i x. refl, λ m. refl, λ m. refl, λ n p i k l o. refl)) _ _ d.base.took d.base.posts tt (pokes_un t.event.stamp old.believed poked)
    reports_next (Bid line p to) is d need = quiet_next (silent_of (Bid line p to) is (λ i x. refl, λ m. refl, λ m. refl, λ n p i k l o. refl)) _ _ d.base.took d.base.posts tt (tt, tt)
    reports_next (Unsent line p never) is d need = quiet_next (silent_of (Unsent line p never) is (λ i x. refl, λ m. refl, λ m. refl, λ n p i k l o. refl)) _ _ d.base.took d.base.posts tt tt
    reports_next (Other line input) is d need = quiet_next (silent_of (Other line input) is (λ i x. refl, λ m. refl, λ m. refl, λ n p i k l o. refl)) _ _ d.base.took d.base.posts tt tt
    reports_next (Steps p k) is d need = quiet_next (silent_of (Steps p k) is (λ i x. refl, λ m. refl, λ m. refl, λ n p i k l o. refl)) _ _ d.base.took d.base.posts tt tt
    reports_next (Sent p k) is d need = quiet_next (silent_of (Sent p k) is (λ i x. refl, λ m. refl, λ m. refl, λ n p i k l o. refl)) _ _ d.base.took d.base.posts tt (tt, tt)
    reports_next (Heed p) is d need = quiet_next (silent_of (Heed p) is (λ i x. refl, λ m. refl, λ m. refl, λ n p i k l o. refl)) _ _ d.base.took d.base.posts tt (tt, tt)
    reports_next (Held p k) is d need = quiet_next (silent_of (Held p k) is (λ i x. refl, λ m. refl, λ m. refl, λ n p i k l o. refl)) _ _ d.base.took d.base.posts tt tt
    reports_next (Served p manner number value child signal ends more poked) is d need = served_next manner p number value child signal ends more poked (silent_of (Served p manner number value child signal ends more poked) is (λ i x. refl, λ m. refl, λ m. refl, λ n p i k l o. refl)) d
    reports_next (Got p child ended kept) is d need = quiet_next (silent_of (Got p child ended kept) is (λ i x. refl, λ m. refl, λ m. refl, λ n p i k l o. refl)) _ _ d.base.took d.base.posts tt (got_un p d.body d.keeps d.done)
    reports_next (Poked p true) is d need = quiet_next (silent_of (Poked p true) is (λ i x. refl, λ m. refl, λ m. refl, λ n p i k l o. refl)) _ _ d.base.took d.base.posts tt tt
    reports_next (Poked p false) is d need = quiet_next (silent_of (Poked p false) is (λ i x. refl, λ m. refl, λ m. refl, λ n p i k l o. refl)) _ _ d.base.took d.base.posts tt tt
    reports_next (Begin p to (ForLine line)) is d need = quiet_next (silent_of (Begin p to (ForLine line)) is (λ i x. refl, λ m. refl, λ m. refl, λ n p i k l o. refl)) _ _ d.base.took d.base.posts tt (tt, tt)
    reports_next (Begin p to (Chosen false other)) is d need = quiet_next (silent_of (Begin p to (Chosen false other)) is (λ i x. refl, λ m. refl, λ m. refl, λ n p i k l o. refl)) _ _ d.base.took d.base.posts tt (tt, (tt, tt))
    reports_next (Begin p to (Chosen true other)) is d need = quiet_next (silent_of (Begin p to (Chosen true other)) is (λ i x. refl, λ m. refl, λ m. refl, λ n p i k l o. refl)) _ _ d.base.took d.base.posts tt (tt, tt)
    reports_next (Keep p to line) is d need = quiet_next (silent_of (Keep p to line) is (λ i x. refl, λ m. refl, λ m. refl, λ n p i k l o. refl)) _ _ d.base.took d.base.posts tt tt
    reports_next (Missed p to line) is d need = quiet_next (silent_of (Missed p to line) is (λ i x. refl, λ m. refl, λ m. refl, λ n p i k l o. refl)) _ _ d.base.took d.base.posts tt (tt, tt)
    reports_next (Again p to place line) is d need = quiet_next (silent_of (Again p to place line) is (λ i x. refl, λ m. refl, λ m. refl, λ n p i k l o. refl)) _ _ d.base.took d.base.posts tt (tt, tt)
    reports_next (Allows p from load) is d need = quiet_next (silent_of (Allows p from load) is (λ i x. refl, λ m. refl, λ m. refl, λ n p i k l o. refl)) _ _ d.base.took d.base.posts tt (tt, tt)
    reports_next (Denies p from load free) is d need = quiet_next (silent_of (Denies p from load free) is (λ i x. refl, λ m. refl, λ m. refl, λ n p i k l o. refl)) _ _ d.base.took d.base.posts tt (tt, tt)
    reports_next (Depart p to) is d need = quiet_next (silent_of (Depart p to) is (λ i x. refl, λ m. refl, λ m. refl, λ n p i k l o. refl)) _ _ d.base.took d.base.posts tt (tt, tt)
    reports_next (Stay p to load free) is d need = quiet_next (silent_of (Stay p to load free) is (λ i x. refl, λ m. refl, λ m. refl, λ n p i k l o. refl)) _ _ d.base.took d.base.posts tt (closed_un n t.event.stamp d.line)
    reports_next (Land p source) is d need = land_next p source is d
    reports_next (Told p at source hops line poked) is d need = told_next p at source hops line poked is d
    reports_next (Refused p to why line) is (inl d) need = quiet_next (silent_of (Refused p to why line) is (λ i x. refl, λ m. refl, λ m. refl, λ n p i k l o. refl)) _ _ d.base.took d.base.posts tt (tt, tt)
    reports_next (Refused p to why line) is (inr d) need = quiet_next (silent_of (Refused p to why line) is (λ i x. refl, λ m. refl, λ m. refl, λ n p i k l o. refl)) _ _ d.base.took d.base.posts tt tt
    reports_next (Closed line) is d need = quiet_next (silent_of (Closed line) is (λ i x. refl, λ m. refl, λ m. refl, λ n p i k l o. refl)) _ _ d.base.took d.base.posts tt tt
    reports_next (Gossips false other) is d need = quiet_next (silent_of (Gossips false other) is (λ i x. refl, λ m. refl, λ m. refl, λ n p i k l o. refl)) _ _ d.base.took d.base.posts tt (tt, tt)
    reports_next (Gossips true other) is d need = quiet_next (silent_of (Gossips true other) is (λ i x. refl, λ m. refl, λ m. refl, λ n p i k l o. refl)) _ _ d.base.took d.base.posts tt tt
    reports_next (Strange p) is d need = absurd need

  sum_zero : (f : ℕ → ℕ) → ((k : ℕ) → f k ≡ 0) → (m : ℕ) → sum_to f m ≡ 0
  unfolding sum_to
  sum_zero f e zero = refl
  sum_zero f e (suc m) = omega (arith, e (suc m), sum_zero f e m)

  pub path_reports : (h : List (Turn O)) (sp : ℕ → Spot O) (w : World O) → Path O S h sp w → Reports h sp w
  path_reports [] sp w r = record {
    report = λ p i. NotYet;
    under = λ p i a b. ap (words O (landed_of p i)) (r.0.links a b);
    later = λ p i less. refl;
    zero_not = λ p. refl;
    counts = λ p i. refl;
    total = λ p m z. sym (sum_zero (λ i. 0) (λ k. refl) m);
    known = λ p i less. refl;
    landed = λ p i a s l z. absurd cc;
  }
  path_reports (t ∷ h) sp v r = reports_next h r.0 t v r.1 sp r.3 r.4 (path_balanced O S h r.1 r.0 r.2) (path_trails O S h r.1 r.0 r.2) (path_lives O S h r.1 r.0 r.2) (path_tells O S h r.1 r.0 r.2) (path_reports h r.1 r.0 r.2) t.event.what refl r.4.goes.makes.does r.4.needs

  -- no process was told more often than its most hops
  pub tolds_least : (h : List (Turn O)) (sp : ℕ → Spot O) (w : World O) → Path O S h sp w → (p m : ℕ) → ((w.nodes 0).believed p).hops ≤ m → (moves p (events O h)).tolds ≤ m
  tolds_least h sp w r p m least =
      let b = path_reports h sp w r in
      let total = b.total p m (λ i less. b.known p i (omega (arith, least, less))) in
      omega (arith, total, sum_least (λ i. heard (b.report p i)) (λ k. heard_least (b.report p k)) m)
