-- A Go is sent again only with news, and to the believed place.
use Rattle.std.proofs.Common.{◌≡◌, ◌≢◌, ℕ, ◌<◌, ◌≤◌, ◌==◌, ◌&&◌, ◌⊎◌, inl, inr, Bool, true, false, cond, Option, Some, None, List, [], ◌∷◌, ◌++◌, refl, sym, ap, ◌∙◌, subst}
use Rattle.protocol.specs.Ops.{Ops, Sound}
use Rattle.protocol.specs.Deeds.{ForLine, Chosen, Manner, Did, Broke, Fell, Paused, Deed, Run, Kill, Bid, Unsent, Other, Steps, Sent, Heed, Held, Served, Got, Poked, Begin, Keep, Missed, Again, Allows, Denies, Depart, Stay, Land, Told, Refused, Closed, Gossips, Strange, Noted, pid_of}
use Rattle.protocol.specs.Notes.{Done, Note, Call, Pause, Reply, Poke, Half, Go, NotHere, Ask, Allow, Deny, Move, Landed, NoMove, Post, Turn, letter, Body, Kept, Local, Believed}
use Rattle.protocol.specs.Spots.{Spot, site}
use Rattle.protocol.specs.Cluster.{World, for_link, at_front, Goes}
use Rattle.protocol.specs.Does.{Does, ServedBy, got_posts, place_told}
use Rattle.protocol.specs.Home.{pokes, line_closed, after, born_at}
use Rattle.protocol.specs.Needs.{Needs, ServedSo, ServedCall, asked}
use Rattle.protocol.specs.Cluster.{events}
use Rattle.run_laws.specs.Facts.{Node, Facts, facts}
use Rattle.run_laws.proofs.Errands.{settled, Errand, Untried, errand_way, of_line}
use Rattle.run_laws.proofs.Belief.{Pick, no_belief, BelievesBy, Believes, AskedBy, Asked, NewsLaw, NewsEver}
use Rattle.protocol.proofs.Talk.{same_numbers, other_numbers, numbers_same, numbers_other}
use Rattle.run_laws.proofs.Family.{words, NoneOf, was_under}
use Rattle.protocol.proofs.Stand.{Stands, Step, Path}
use Rattle.run_laws.proofs.Lines.{errand_tells, Lines, path_lines}
use Rattle.protocol.proofs.Quiet.{home_so}
use Rattle.run_laws.proofs.Facts.{facts_of, path_tells}
use Rattle.run_laws.proofs.Moves.{path_balanced}
use Rattle.run_laws.proofs.Trails.{path_trails, path_lives, served_from}
use Rattle.std.specs.Prelude.{ℤ}
use Rattle.call_table.specs.declared.process.End.{End}

pick_true : (b : Bool) (A B : Type 0) → b ≡ true → A → Pick b A B
pick_true b A B e a = subst (λ (k : Bool). Pick k A B) (sym e) a

pick_false : (b : Bool) (A B : Type 0) → b ≡ false → B → Pick b A B
pick_false b A B e x = subst (λ (k : Bool). Pick k A B) (sym e) x

module _ (O : Ops) (S : Sound O) where
  -- what a Go or a NotHere tells of its line
  abbrev pub NoteAsked : List Noted → Note O → Type 0
  NoteAsked es (Call q r) = Unit {0}
  NoteAsked es (Pause q r) = Unit {0}
  NoteAsked es (Reply q d) = Unit {0}
  NoteAsked es (Poke q) = Unit {0}
  NoteAsked es (Half places) = Unit {0}
  NoteAsked es (Go q to i line) = Asked line es i
  NoteAsked es (NotHere q to i line) = Asked line es i
  NoteAsked es (Ask q need) = Unit {0}
  NoteAsked es (Allow q) = Unit {0}
  NoteAsked es (Deny q need free) = Unit {0}
  NoteAsked es (Move q u i line) = Unit {0}
  NoteAsked es (Landed q source i line) = Unit {0}
  NoteAsked es (NoMove line) = Unit {0}

  abbrev pub EachAsked : List Noted → List (Post O) → Type 0
  EachAsked es [] = Unit {0}
  EachAsked es (l ∷ ls) = NoteAsked es l.note × EachAsked es ls

  right : (es : List Noted) (xs ys : List (Post O)) → EachAsked es (xs ++ ys) → EachAsked es ys
  right es [] ys k = k
  right es (x ∷ xs) ys k = right es xs ys k.1

  append : (es : List Noted) (xs ys : List (Post O)) → EachAsked es xs → EachAsked es ys → EachAsked es (xs ++ ys)
  append es [] ys k j = j
  append es (x ∷ xs) ys k j = (k.0, append es xs ys k.1 j)

  link : (es : List Noted) (a b : ℕ) (ls : List (Post O)) → EachAsked es ls → EachAsked es (for_link O a b ls)
  link es a b [] k = tt
  link es a b (l ∷ ls) k = go ((a == l.from) && (b == l.to)) (link es a b ls k.1)
    where
      go : (x : Bool) → EachAsked es (for_link O a b ls) → EachAsked es (cond x (l ∷ for_link O a b ls) (for_link O a b ls))
      go true r = (k.0, r)
      go false r = r

  front : (l : Post O) → ((l.from == l.from) && (l.to == l.to)) ≡ true
  front l = rw (same_numbers l.from l.from refl, same_numbers l.to l.to refl) refl

  -- from these events to those, for the letters of some lines
  note_on : (es es2 : List Noted) (ok : ℕ → Type 0) → ((l i : ℕ) → ok l → Asked l es i → Asked l es2 i) → (m : Note O) → ((l : ℕ) → of_line O l m ≡ true → ok l) → NoteAsked es m → NoteAsked es2 m
  note_on es es2 ok f (Call q r) h k = tt
  note_on es es2 ok f (Pause q r) h k = tt
  note_on es es2 ok f (Reply q d) h k = tt
  note_on es es2 ok f (Poke q) h k = tt
  note_on es es2 ok f (Half places) h k = tt
  note_on es es2 ok f (Go q to i line) h k = f line i (h line (same_numbers line line refl)) k
  note_on es es2 ok f (NotHere q to i line) h k = f line i (h line (same_numbers line line refl)) k
  note_on es es2 ok f (Ask q need) h k = tt
  note_on es es2 ok f (Allow q) h k = tt
  note_on es es2 ok f (Deny q need free) h k = tt
  note_on es es2 ok f (Move q u i line) h k = tt
  note_on es es2 ok f (Landed q source i line) h k = tt
  note_on es es2 ok f (NoMove line) h k = tt

  each_on : (es es2 : List Noted) (ok : ℕ → Type 0) → ((l i : ℕ) → ok l → Asked l es i → Asked l es2 i) → (ls : List (Post O)) → ((l : ℕ) → (ok l → ⊥) → NoneOf O (of_line O l) ls) → ((l : ℕ) → (ok l) ⊎ (ok l → ⊥)) → EachAsked es ls → EachAsked es2 ls
  each_on es es2 ok f [] h dec k = tt
  each_on es es2 ok f (x ∷ ls) h dec k = (note_on es es2 ok f x.note (λ l e. by l e (dec l)) k.0, each_on es es2 ok f ls (λ l bad. (h l bad).1) dec k.1)
    where
      by : (l : ℕ) → of_line O l x.note ≡ true → (ok l) ⊎ (ok l → ⊥) → ok l
      by l e (inl y) = y
      by l e (inr y) = let z : true ≡ false = sym e ∙ (h l y).0 in absurd cc

  none_words : (test : Note O → Bool) (ls : List (Post O)) → words O test ls ≡ [] → NoneOf O test ls
  none_words test [] e = tt
  none_words test (l ∷ ls) e = go (test l.note) refl e (λ f. none_words test ls f)
    where
      go : (b : Bool) → test l.note ≡ b → cond b (l.note ∷ words O test ls) (words O test ls) ≡ [] → (words O test ls ≡ [] → NoneOf O test ls) → (test l.note ≡ false) × NoneOf O test ls
      go true x y again = absurd cc
      go false x y again = (x, again y)

  pub record News (h : List (Turn O)) (w : World O) : Type 0 where
    pub believes : (q : ℕ) → Believes q (events O h) ((w.nodes 0).believed q)
    pub asked : (a b : ℕ) → EachAsked (events O h) (w.links a b)

  module _ (h : List (Turn O)) (w : World O) (t : Turn O) (v : World O) (sp next : ℕ → Spot O) (path : Path O S h sp w) (stands : Stands O S sp w) (st : Step O S sp w t next v) (nw : News h w) where
    abbrev n : ℕ
    n = t.event.node

    abbrev old : Local O
    old = w.nodes t.event.node

    abbrev new : Local O
    new = v.nodes t.event.node

    abbrev goes : Goes O w t v
    goes = st.goes

    abbrev es : List Noted
    es = events O h

    abbrev es2 : List Noted
    es2 = t.event ∷ events O h

    abbrev TakenAsked : Option (Post O) → Type 0
    TakenAsked None = Unit {0}
    TakenAsked (Some l) = NoteAsked es l.note

    taken_front : (o : Option (Post O)) (rest : ℕ → ℕ → List (Post O)) → ((a b : ℕ) → EachAsked es (at_front O o a b ++ rest a b)) → TakenAsked o
    taken_front None rest k = tt
    taken_front (Some l) rest k = (subst (λ (b : Bool). EachAsked es (cond b (l ∷ []) [] ++ rest l.from l.to)) (front l) (k l.from l.to)).0

    taken_asked : TakenAsked t.taken
    taken_asked = taken_front t.taken goes.rest (λ a b. subst (EachAsked es) (goes.takes a b) (nw.asked a b))

    rest_asked : (a b : ℕ) → EachAsked es (goes.rest a b)
    rest_asked a b = right es (at_front O t.taken a b) (goes.rest a b) (subst (EachAsked es) (goes.takes a b) (nw.asked a b))

    abbrev All_asked : Type 0
    All_asked = (a b : ℕ) → EachAsked es2 (v.links a b)

    together : ((a b : ℕ) → EachAsked es2 (goes.rest a b)) → (ls : List (Post O)) → t.posted ≡ ls → EachAsked es2 ls → All_asked
    together rest ls e k a b = subst (EachAsked es2) (sym (goes.posts a b)) (append es2 (goes.rest a b) (for_link O a b t.posted) (rest a b) (link es2 a b t.posted (subst (EachAsked es2) (sym e) k)))

    -- an event that sends no Go leaves what was asked
    kept_asked : (what : Deed) → t.event.what ≡ what → ((l i : ℕ) → Asked l es i → AskedBy what l es (Asked l es) i) → (l i : ℕ) → Asked l es i → Asked l es2 i
    kept_asked what is f l i k = subst (λ (y : Deed). AskedBy y l es (Asked l es) i) (sym is) (f l i k)

    quiet : (what : Deed) → t.event.what ≡ what → ((l i : ℕ) → Asked l es i → AskedBy what l es (Asked l es) i) → (ls : List (Post O)) → t.posted ≡ ls → EachAsked es2 ls → All_asked
    quiet what is f ls e k = together (λ a b. each_on es es2 (λ l. Unit {0}) (λ l i y. kept_asked what is f l i) (goes.rest a b) (λ l bad. absurd (bad tt)) (λ l. inl tt) (rest_asked a b)) ls e k

    -- one that sends a line's Go
    sends : (what : Deed) (l0 : ℕ) → t.event.what ≡ what → ((l i : ℕ) → l ≢ l0 → Asked l es i → AskedBy what l es (Asked l es) i) → ((a b : ℕ) → words O (of_line O l0) (goes.rest a b) ≡ []) → (ls : List (Post O)) → t.posted ≡ ls → EachAsked es2 ls → All_asked
    sends what l0 is f none ls e k = together (λ a b. each_on es es2 (λ l. l ≢ l0) (λ l i ne y. subst (λ (z : Deed). AskedBy z l es (Asked l es) i) (sym is) (f l i ne y)) (goes.rest a b) (λ l bad. lone a b l bad (l == l0) refl) (λ l. dec l (l == l0) refl) (rest_asked a b)) ls e k
      where
        lone : (a b l : ℕ) → (l ≢ l0 → ⊥) → (x : Bool) → (l == l0) ≡ x → NoneOf O (of_line O l) (goes.rest a b)
        lone a b l bad true e = subst (λ (y : ℕ). NoneOf O (of_line O y) (goes.rest a b)) (sym (numbers_same l l0 e)) (none_words (of_line O l0) (goes.rest a b) (none a b))
        lone a b l bad false e = absurd (bad (numbers_other l l0 e))

        dec : (l : ℕ) (x : Bool) → (l == l0) ≡ x → (l ≢ l0) ⊎ (l ≢ l0 → ⊥)
        dec l true e = inr (λ ne. ne (numbers_same l l0 e))
        dec l false e = inl (numbers_other l l0 e)

    pokes_asked : (s : ℕ) (believed : ℕ → Believed) (qs : List ℕ) → EachAsked es2 (pokes O s believed qs)
    pokes_asked s believed [] = tt
    pokes_asked s believed (q ∷ qs) = (tt, pokes_asked s believed qs)

    closed_asked : (m s : ℕ) (line : Option ℕ) → EachAsked es2 (line_closed O m s line)
    closed_asked m s None = tt
    closed_asked m s (Some line) = (tt, tt)

    got_asked : (x : ℕ) (b : Body O) (k : Option Kept) (d : Done O) → EachAsked es2 (got_posts O n t.event.stamp x b k d)
    got_asked x b None d = tt
    got_asked x b (Some k) d = go d.ended
      where
        go : (e : Bool) → EachAsked es2 (cond e (letter O n 0 t.event.stamp (NoMove k.line) ∷ []) (letter O n k.to t.event.stamp (Ask x (O.pages (after O b.user d))) ∷ []))
        go true = (tt, tt)
        go false = (tt, tt)

    poke_asked : (x to : ℕ) (b : Bool) → EachAsked es2 (cond b (letter O n to t.event.stamp (Poke x) ∷ []) [])
    poke_asked x to true = (tt, tt)
    poke_asked x to false = tt

    home_believes : n ≡ 0 → (q : ℕ) → Believes q es (old.believed q)
    home_believes home q = subst (λ (k : ℕ). Believes q es ((w.nodes k).believed q)) (sym home) (nw.believes q)

    ln : Lines O S h sp w
    ln = path_lines O S h sp w path

    order_asked : (line x to : ℕ) → t.event.what ≡ Bid line x to → Does O (Bid line x to) n old t new → All_asked
    order_asked line x to is d = sends (Bid line x to) line is (λ l i ne y. pick_false (line == l) _ _ (other_numbers line l (λ z. ne (sym z))) y) none _ d.base.posts (here, tt)
      where
        fresh : ln.errands line ≡ Untried
        fresh = ln.untried line (subst (λ (k : ℕ). (w.nodes k).progress.line ≤ line) d.home d.order.rises)

        none : (a b : ℕ) → words O (of_line O line) (goes.rest a b) ≡ []
        none a b = sym (ap (words O (of_line O line)) (goes.takes a b ∙ ap (λ (o : Option (Post O)). at_front O o a b ++ goes.rest a b) d.base.took)) ∙ (ln.under line a b ∙ ap (λ (e : Errand). Rattle.protocol.proofs.Talk.on_link O (errand_way O line e) a b) fresh)

        here : Asked line es2 (old.believed x).hops
        here = subst (λ (y : Deed). AskedBy y line es (Asked line es) (old.believed x).hops) (sym is) (pick_true (line == line) _ _ (same_numbers line line refl) (old.believed x, home_believes d.home x, refl))

    again_asked : (x place line : ℕ) (to : ℕ) → t.event.what ≡ Again x to place line → Does O (Again x to place line) n old t new → All_asked
    again_asked x place line to is d = sends (Again x to place line) line is (λ l i ne y. pick_false (line == l) _ _ (other_numbers line l (λ z. ne (sym z))) y) none _ d.base.posts (here, tt)
      where
        none : (a b : ℕ) → words O (of_line O line) (goes.rest a b) ≡ []
        none = (was_under O (of_line O line) w t v goes (errand_way O line (ln.errands line)) _ (ln.under line) d.base.took (same_numbers line line refl)).1

        here : Asked line es2 (old.believed x).hops
        here = subst (λ (y : Deed). AskedBy y line es (Asked line es) (old.believed x).hops) (sym is) (pick_true (line == line) _ _ (same_numbers line line refl) (old.believed x, home_believes d.home x, refl))

    served_asked : (manner : Manner) (x : ℕ) (number : Option ℕ) (value : Option ℤ) (child signal : Option ℕ) (ends : Option End) (more : Bool) (poked : List ℕ) → t.event.what ≡ Served x manner number value child signal ends more poked → ServedBy O manner n x number value child signal ends more poked old t new → All_asked
    served_asked Did x number value child signal ends more poked is (inl d) = quiet (Served x Did number value child signal ends more poked) is (λ l i k. k) _ d.base.posts (tt, pokes_asked t.event.stamp old.believed poked)
    served_asked Did x number value child signal ends more poked is (inr d) = quiet (Served x Did number value child signal ends more poked) is (λ l i k. k) _ d.base.posts (tt, pokes_asked t.event.stamp old.believed poked)
    served_asked Broke x number value child signal ends more poked is (inl d) = quiet (Served x Broke number value child signal ends more poked) is (λ l i k. k) _ d.base.posts (tt, pokes_asked t.event.stamp old.believed poked)
    served_asked Broke x number value child signal ends more poked is (inr d) = quiet (Served x Broke number value child signal ends more poked) is (λ l i k. k) _ d.base.posts (tt, pokes_asked t.event.stamp old.believed poked)
    served_asked Fell x number value child signal ends more poked is d = quiet (Served x Fell number value child signal ends more poked) is (λ l i k. k) _ d.base.posts (tt, pokes_asked t.event.stamp old.believed poked)
    served_asked Paused x number value child signal ends more poked is d = quiet (Served x Paused number value child signal ends more poked) is (λ l i k. k) _ d.base.posts (tt, pokes_asked t.event.stamp old.believed poked)

    asked_next : (what : Deed) → t.event.what ≡ what → Does O what n old t new → All_asked
    asked_next (Run line i p) is d = quiet (Run line i p) is (λ l i y. y) _ d.base.posts tt
    asked_next (Kill line p g poked) is d = quiet (Kill line p g poked) is (λ l i y. y) _ d.base.posts (pokes_asked t.event.stamp old.believed poked)
    asked_next (Bid line p to) is d = order_asked line p to is d
    asked_next (Unsent line p never) is d = quiet (Unsent line p never) is (λ l i y. y) _ d.base.posts tt
    asked_next (Other line input) is d = quiet (Other line input) is (λ l i y. y) _ d.base.posts tt
    asked_next (Steps p k) is d = quiet (Steps p k) is (λ l i y. y) _ d.base.posts tt
    asked_next (Sent p k) is d = quiet (Sent p k) is (λ l i y. y) _ d.base.posts (tt, tt)
    asked_next (Heed p) is d = quiet (Heed p) is (λ l i y. y) _ d.base.posts (tt, tt)
    asked_next (Held p k) is d = quiet (Held p k) is (λ l i y. y) _ d.base.posts tt
    asked_next (Served p manner number value child signal ends more poked) is d = served_asked manner p number value child signal ends more poked is d
    asked_next (Got p child ended kept) is d = quiet (Got p child ended kept) is (λ l i y. y) _ d.base.posts (got_asked p d.body d.keeps d.done)
    asked_next (Poked p true) is d = quiet (Poked p true) is (λ l i y. y) _ d.base.posts tt
    asked_next (Poked p false) is d = quiet (Poked p false) is (λ l i y. y) _ d.base.posts tt
    asked_next (Begin p to (ForLine line)) is d = quiet (Begin p to (ForLine line)) is (λ l i y. y) _ d.base.posts (tt, tt)
    asked_next (Begin p to (Chosen false other)) is d = quiet (Begin p to (Chosen false other)) is (λ l i y. y) _ d.base.posts (tt, (tt, tt))
    asked_next (Begin p to (Chosen true other)) is d = quiet (Begin p to (Chosen true other)) is (λ l i y. y) _ d.base.posts (tt, tt)
    asked_next (Keep p to line) is d = quiet (Keep p to line) is (λ l i y. y) _ d.base.posts tt
    asked_next (Missed p to line) is d = quiet (Missed p to line) is (λ l i y. y) _ d.base.posts (kept_asked (Missed p to line) is (λ l i y. y) line d.hops (subst TakenAsked d.base.took taken_asked), tt)
    asked_next (Again p to place line) is d = again_asked p place line to is d
    asked_next (Allows p from need) is d = quiet (Allows p from need) is (λ l i y. y) _ d.base.posts (tt, tt)
    asked_next (Denies p from need free) is d = quiet (Denies p from need free) is (λ l i y. y) _ d.base.posts (tt, tt)
    asked_next (Depart p to) is d = quiet (Depart p to) is (λ l i y. y) _ d.base.posts (tt, tt)
    asked_next (Stay p to need free) is d = quiet (Stay p to need free) is (λ l i y. y) _ d.base.posts (closed_asked n t.event.stamp d.line)
    asked_next (Land p source) is d = quiet (Land p source) is (λ l i y. y) _ d.base.posts (tt, tt)
    asked_next (Told p at source hops line poked) is d = quiet (Told p at source hops line poked) is (λ l i y. y) _ d.base.posts (poke_asked p _ poked)
    asked_next (Refused p to why line) is (inl d) = quiet (Refused p to why line) is (λ l i y. y) _ d.base.posts (tt, tt)
    asked_next (Refused p to why line) is (inr d) = quiet (Refused p to why line) is (λ l i y. y) _ d.base.posts tt
    asked_next (Closed line) is d = quiet (Closed line) is (λ l i y. y) _ d.base.posts tt
    asked_next (Gossips false other) is d = quiet (Gossips false other) is (λ l i y. y) _ d.base.posts (tt, tt)
    asked_next (Gossips true other) is d = quiet (Gossips true other) is (λ l i y. y) _ d.base.posts tt
    asked_next (Strange p) is d = quiet (Strange p) is (λ l i y. y) _ d.base.posts tt

    -- the law, at the event
    news_at : (what : Deed) → Does O what n old t new → NewsLaw what es
    news_at (Run line i p) d = tt
    news_at (Kill line p g poked) d = tt
    news_at (Bid line p to) d = tt
    news_at (Unsent line p never) d = tt
    news_at (Other line input) d = tt
    news_at (Steps p k) d = tt
    news_at (Sent p k) d = tt
    news_at (Heed p) d = tt
    news_at (Held p k) d = tt
    news_at (Served p manner number value child signal ends more poked) d = tt
    news_at (Got p child ended kept) d = tt
    news_at (Poked p used) d = tt
    news_at (Begin p to reason) d = tt
    news_at (Keep p to line) d = tt
    news_at (Missed p to line) d = tt
    news_at (Again p to place line) d = record { belief = old.believed p; believes = home_believes d.home p; place_is = d.place_is; told_then = d.hops; asked = subst TakenAsked d.base.took taken_asked; more = d.news; open_line = ln.result line ∙ ap settled (errand_tells O S line (ln.errands line) _ (was_under O (of_line O line) w t v goes (errand_way O line (ln.errands line)) _ (ln.under line) d.base.took (same_numbers line line refl)).0) }
    news_at (Allows p from need) d = tt
    news_at (Denies p from need free) d = tt
    news_at (Depart p to) d = tt
    news_at (Stay p to need free) d = tt
    news_at (Land p source) d = tt
    news_at (Told p at source hops line poked) d = tt
    news_at (Refused p to why line) d = tt
    news_at (Closed line) d = tt
    news_at (Gossips heard other) d = tt
    news_at (Strange p) d = tt

    home_same : ((q : ℕ) → new.believed q ≡ old.believed q) → (q : ℕ) → (v.nodes 0).believed q ≡ (w.nodes 0).believed q
    home_same h q = go (n == 0) refl
      where
        go : (b : Bool) → (n == 0) ≡ b → (v.nodes 0).believed q ≡ (w.nodes 0).believed q
        go true e = subst (λ (k : ℕ). (v.nodes k).believed q ≡ (w.nodes k).believed q) (numbers_same n 0 e) (h q)
        go false e = ap (λ (k : Local O). k.believed q) (goes.elsewhere 0 (λ z. numbers_other n 0 e (sym z)))

    at_home : n ≡ 0 → (q : ℕ) → (v.nodes 0).believed q ≡ new.believed q
    at_home home q = ap (λ (k : ℕ). (v.nodes k).believed q) (sym home)

    abbrev Believed_now : Deed → ℕ → Type 0
    Believed_now what q = BelievesBy what q es (Believes q es) ((v.nodes 0).believed q)

    same_belief : (q : ℕ) → (v.nodes 0).believed q ≡ (w.nodes 0).believed q → Believes q es ((v.nodes 0).believed q)
    same_belief q e = subst (Believes q es) (sym e) (nw.believes q)

    told_belief : (x at source hops : ℕ) (line : Option ℕ) (poked : Bool) → Does O (Told x at source hops line poked) n old t new → (q : ℕ) → Believed_now (Told x at source hops line poked) q
    told_belief x at source hops line poked d q = go (q == x) refl
      where
        which : (b : Bool) → cond b ((old.believed x).hops < hops) (hops ≤ (old.believed x).hops) → (((old.believed x).hops < hops) × (place_told O at hops b (old.believed x) ≡ record { place = at; hops = hops })) ⊎ ((hops ≤ (old.believed x).hops) × (place_told O at hops b (old.believed x) ≡ old.believed x))
        which true k = inl (k, refl)
        which false k = inr (k, refl)

        go : (b : Bool) → (q == x) ≡ b → Believed_now (Told x at source hops line poked) q
        go true e =
            let same : q ≡ x = numbers_same q x e in
            let now : (v.nodes 0).believed q ≡ place_told O at hops d.later (old.believed x) = at_home d.home q ∙ (d.believed q ∙ ap (λ (b : Bool). cond b (place_told O at hops d.later (old.believed x)) (old.believed q)) e) in
            pick_true (q == x) _ _ e (
              old.believed x,
              subst (λ (k : ℕ). Believes k es (old.believed x)) (sym same) (home_believes d.home x),
              subst (λ (k : Believed). (((old.believed x).hops < hops) × (k ≡ record { place = at; hops = hops })) ⊎ ((hops ≤ (old.believed x).hops) × (k ≡ old.believed x))) (sym now) (which d.later d.later_is),
            )
        go false e = pick_false (q == x) _ _ e (same_belief q (at_home d.home q ∙ (d.believed q ∙ (ap (λ (b : Bool). cond b (place_told O at hops d.later (old.believed x)) (old.believed q)) e ∙ ap (λ (k : ℕ). (w.nodes k).believed q) d.home))))

    run_belief : (line j x : ℕ) → Does O (Run line j x) n old t new → (q : ℕ) → Believed_now (Run line j x) q
    run_belief line j x d q = go (q == x) refl
      where
        go : (b : Bool) → (q == x) ≡ b → Believed_now (Run line j x) q
        go true e = pick_true (q == x) _ _ e (at_home d.home q ∙ (d.believed q ∙ ap (λ (b : Bool). cond b no_belief (old.believed q)) e))
        go false e = pick_false (q == x) _ _ e (same_belief q (at_home d.home q ∙ (d.believed q ∙ (ap (λ (b : Bool). cond b no_belief (old.believed q)) e ∙ ap (λ (k : ℕ). (w.nodes k).believed q) d.home))))

    served_same : (manner : Manner) (x : ℕ) (number : Option ℕ) (value : Option ℤ) (signal : Option ℕ) (ends : Option End) (more : Bool) (poked : List ℕ) → ServedBy O manner n x number value None signal ends more poked old t new → (q : ℕ) → new.believed q ≡ old.believed q
    served_same Did x number value signal ends more poked (inl d) q = d.believed q
    served_same Did x number value signal ends more poked (inr d) q = d.believed q
    served_same Broke x number value signal ends more poked (inl d) q = d.believed q
    served_same Broke x number value signal ends more poked (inr d) q = d.believed q
    served_same Fell x number value signal ends more poked d q = d.believed q
    served_same Paused x number value signal ends more poked d q = d.believed q

    asked_node : (g : Bool) (m : ℕ) (b : Body O) (k : Option Kept) (r : O.Request) → (facts_of O S (asked O g m b k r)).places ≡ Node m ∷ []
    asked_node true m b k r = refl
    asked_node false m b k r = refl

    call_place : (manner : Manner) (x : ℕ) (number : Option ℕ) (value : Option ℤ) (child signal : Option ℕ) (ends : Option End) (more : Bool) (poked : List ℕ) → ServedCall O n x manner number value child signal ends more poked old new (sp x) st.own → (m : ℕ) → site O st.own ≡ m → (facts x es).places ≡ Node m ∷ []
    call_place manner x number value child signal ends more poked d m e =
        ap (λ (k : Facts). k.places) (path_tells O S h sp w path x ∙ ap (facts_of O S) d.was) ∙ (asked_node d.held d.from d.body d.kept d.request ∙ ap (λ (k : ℕ). Node k ∷ []) (sym (ap (site O) d.now) ∙ e))

    so_place : (manner : Manner) (x : ℕ) (number : Option ℕ) (value : Option ℤ) (c : ℕ) (signal : Option ℕ) (ends : Option End) (more : Bool) (poked : List ℕ) → ServedSo O manner n x number value (Some c) signal ends more poked old new (sp x) st.own → (m : ℕ) → site O st.own ≡ m → (facts x es).places ≡ Node m ∷ []
    so_place Did x number value c signal ends more poked d m e = call_place Did x number value (Some c) signal ends more poked d m e
    so_place Broke x number value c signal ends more poked d m e = call_place Broke x number value (Some c) signal ends more poked d m e
    so_place Fell x number value c signal ends more poked d m e = call_place Fell x number value (Some c) signal ends more poked d m e
    so_place Paused x number value c signal ends more poked d m e = let z : None ≡ Some c = sym d.answers.child_is in absurd cc

    fork_belief : (manner : Manner) (x : ℕ) (number : Option ℕ) (value : Option ℤ) (c : ℕ) (signal : Option ℕ) (ends : Option End) (more : Bool) (poked : List ℕ) → ServedBy O manner n x number value (Some c) signal ends more poked old t new → ServedSo O manner n x number value (Some c) signal ends more poked old new (sp x) st.own → (q : ℕ)
        → Believed_now (Served x manner number value (Some c) signal ends more poked) q
    fork_belief manner x number value c signal ends more poked d need q = go (c == q) refl
      where
        home : n ≡ 0
        home = home_so O S n old new (sp x) st.own manner x number value (Some c) signal ends more poked need

        from : (m : ℕ) × (site O st.own ≡ m) × ((q : ℕ) → new.believed q ≡ born_at O m (Some c) old.believed q)
        from = served_from O S h w t v sp next stands st (path_balanced O S h sp w path) (path_trails O S h sp w path) (path_lives O S h sp w path) manner x number value (Some c) signal ends more poked c refl d need

        now : (b : Bool) → (c == q) ≡ b → (v.nodes 0).believed q ≡ cond b (record { place = from.0; hops = 0 }) (old.believed q)
        now b e = at_home home q ∙ (from.2 q ∙ ap (λ (y : Bool). cond y (record { place = from.0; hops = 0 }) (old.believed q)) e)

        go : (b : Bool) → (c == q) ≡ b → Believed_now (Served x manner number value (Some c) signal ends more poked) q
        go true e = pick_true (c == q) _ _ e (from.0, so_place manner x number value c signal ends more poked need from.0 from.1, now true e)
        go false e = pick_false (c == q) _ _ e (same_belief q (now false e ∙ ap (λ (k : ℕ). (w.nodes k).believed q) home))

    believes_next : (what : Deed) → Does O what n old t new → Needs O what n old new (sp (pid_of what)) st.own → (q : ℕ) → Believed_now what q
    believes_next (Run line i p) d need q = run_belief line i p d q
    believes_next (Kill line p g poked) d need q = same_belief q (home_same d.believed q)
    believes_next (Bid line p to) d need q = same_belief q (home_same d.believed q)
    believes_next (Unsent line p never) d need q = same_belief q (home_same d.believed q)
    believes_next (Other line input) d need q = same_belief q (home_same d.believed q)
    believes_next (Steps p k) d need q = same_belief q (home_same d.still.believed q)
    believes_next (Sent p k) d need q = same_belief q (home_same d.still.believed q)
    believes_next (Heed p) d need q = same_belief q (home_same d.still.believed q)
    believes_next (Held p k) d need q = same_belief q (home_same d.still.believed q)
    believes_next (Served p manner number value None signal ends more poked) d need q = same_belief q (home_same (served_same manner p number value signal ends more poked d) q)
    believes_next (Served p manner number value (Some c) signal ends more poked) d need q = fork_belief manner p number value c signal ends more poked d need q
    believes_next (Got p child ended kept) d need q = same_belief q (home_same d.still.believed q)
    believes_next (Poked p true) d need q = same_belief q (home_same d.still.believed q)
    believes_next (Poked p false) d need q = same_belief q (home_same d.still.believed q)
    believes_next (Begin p to reason) d need q = same_belief q (home_same d.still.believed q)
    believes_next (Keep p to line) d need q = same_belief q (home_same d.still.believed q)
    believes_next (Missed p to line) d need q = same_belief q (home_same d.still.believed q)
    believes_next (Again p to place line) d need q = same_belief q (home_same d.still.believed q)
    believes_next (Allows p from load) d need q = same_belief q (home_same d.still.believed q)
    believes_next (Denies p from load free) d need q = same_belief q (home_same d.still.believed q)
    believes_next (Depart p to) d need q = same_belief q (home_same d.still.believed q)
    believes_next (Stay p to load free) d need q = same_belief q (home_same d.still.believed q)
    believes_next (Land p source) d need q = same_belief q (home_same d.still.believed q)
    believes_next (Told p at source hops line poked) d need q = told_belief p at source hops line poked d q
    believes_next (Refused p to why line) (inl d) need q = same_belief q (home_same d.still.believed q)
    believes_next (Refused p to why line) (inr d) need q = same_belief q (home_same d.still.believed q)
    believes_next (Closed line) d need q = same_belief q (home_same d.still.believed q)
    believes_next (Gossips heard other) d need q = same_belief q (home_same d.still.believed q)
    believes_next (Strange p) d need q = same_belief q (home_same d.still.believed q)

    news_next : News (t ∷ h) v
    news_next = record {
      believes = λ q. believes_next t.event.what goes.makes.does st.needs q;
      asked = asked_next t.event.what refl goes.makes.does;
    }

    news_law : NewsLaw t.event.what es
    news_law = news_at t.event.what goes.makes.does

  pub path_news : (h : List (Turn O)) (sp : ℕ → Spot O) (w : World O) → Path O S h sp w → News h w × NewsEver (events O h)
  path_news [] sp w r = (record { believes = ((r.0.nodes 0).home refl).believed; asked = λ a b. subst (EachAsked []) (sym (r.0.links a b)) tt }, tt)
  path_news (t ∷ h) sp v r =
      let before = path_news h r.1 r.0 r.2 in
      (news_next h r.0 t v r.1 sp r.2 r.3 r.4 before.0, (news_law h r.0 t v r.1 sp r.2 r.3 r.4 before.0, before.1))
