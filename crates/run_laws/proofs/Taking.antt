-- In every run each letter in front of its link can be taken: no node waits for ever with a letter.
use Rattle.std.proofs.Common.{◌≡◌, ◌≢◌, ℕ, ◌+◌, ◌<◌, ◌≤◌, ◌==◌, ◌&&◌, ◌⊎◌, inl, inr, Bool, true, false, cond, Option, Some, None, List, [], ◌∷◌, ◌++◌, refl, sym, ap, ◌∙◌, subst, arith}
use Rattle.std.specs.Prelude.{max, ◌-◌}
use Rattle.std.proofs.lemmas.Bool.Decides.{leb_tells}
use lib.Dec.{leb}
use Rattle.protocol.specs.Ops.{Ops, Sound, Acted, is_child}
use Rattle.protocol.specs.Deeds.{ForLine, Chosen, Gossips, Manner, Did, Broke, Fell, Paused, Gone, Moving, There, Deed, Sent, Held, Served, Got, Poked, Begin, Keep, Missed, Again, Allows, Denies, Depart, Stay, Land, Told, Refused, Closed, Gossips}
use Rattle.protocol.specs.Notes.{served_one, is_some, Note, Call, Pause, Reply, Poke, Half, Go, NotHere, Ask, Allow, Deny, Move, Landed, NoMove, Done, Post, letter, Turn, Body, Kept, Context, context, State, Running, Waiting, Asking, Slot, Local, Way, way}
use Rattle.protocol.specs.Spots.{Spot, Answered, Granted, Denied, slot_by, way_by, mine}
use Rattle.protocol.specs.Home.{First, Last, first_none, last, done_of, value_of, pokes, born_at, line_closed}
use Rattle.protocol.specs.Does.{Does, Makes, InUse, Loaded, CanMove, seen, Talks, hosts, holds, reserves, lands, same, pokes_of, kept_told, got_context, got_posts, child_context, place_told}
use Rattle.protocol.specs.Cluster.{World, for_link, at_front, Goes}
use Rattle.protocol.proofs.Talk.{same_numbers, numbers_same, numbers_other, talk, on_link}
use Rattle.protocol.proofs.Process.{cond_here, cond_off, cond_same, way_tells}
use Rattle.protocol.proofs.Run.{Bound}
use Rattle.protocol.proofs.Stand.{EachBound, Stands, Path}
use Rattle.protocol.specs.Gossip.{Entry, Gossip, Choice, Movable, gossip_after}
use Rattle.run_laws.specs.Going.{HasAnswers}
use Rattle.run_laws.proofs.Here.{can_run, loaded, in_use, can_move}
use Rattle.run_laws.proofs.Near.{far_to}
use Rattle.protocol.proofs.Progress.{itself}

module _ (O : Ops) (S : Sound O) where
  -- a letter lies on the link from its sender to its target
  abbrev pub AllOn : ℕ → ℕ → List (Post O) → Type 0
  AllOn a b [] = Unit {0}
  AllOn a b (l ∷ ls) = ((l.from ≡ a) × (l.to ≡ b)) × AllOn a b ls

  on_right : (a b : ℕ) (xs ys : List (Post O)) → AllOn a b (xs ++ ys) → AllOn a b ys
  on_right a b [] ys x = x
  on_right a b (l ∷ xs) ys x = on_right a b xs ys x.1

  on_append : (a b : ℕ) (xs ys : List (Post O)) → AllOn a b xs → AllOn a b ys → AllOn a b (xs ++ ys)
  on_append a b [] ys x y = y
  on_append a b (l ∷ xs) ys x y = (x.0, on_append a b xs ys x.1 y)

  on_link_all : (a b : ℕ) (ls : List (Post O)) → AllOn a b (for_link O a b ls)
  on_link_all a b [] = tt
  on_link_all a b (l ∷ ls) = go (a == l.from) (b == l.to) refl refl (on_link_all a b ls)
    where
      go : (x y : Bool) → (a == l.from) ≡ x → (b == l.to) ≡ y → AllOn a b (for_link O a b ls) → AllOn a b (cond (x && y) (l ∷ for_link O a b ls) (for_link O a b ls))
      go true true e f z = ((sym (numbers_same a l.from e), sym (numbers_same b l.to f)), z)
      go true false e f z = z
      go false y e f z = z

  path_on : (h : List (Turn O)) (sp : ℕ → Spot O) (w : World O) → Path O S h sp w → (a b : ℕ) → AllOn a b (w.links a b)
  path_on [] sp w r a b = subst (AllOn a b) (sym (r.0.links a b)) tt
  path_on (t ∷ h) sp v r a b = subst (AllOn a b) (sym (r.4.goes.posts a b)) (on_append a b (r.4.goes.rest a b) (for_link O a b t.posted) (on_right a b (at_front O t.taken a b) (r.4.goes.rest a b) (subst (AllOn a b) (r.4.goes.takes a b) (path_on h r.1 r.0 r.2 a b))) (on_link_all a b t.posted))

  module _ (n : ℕ) (old : Local O) (below : n < O.nodes) (from stamp : ℕ) where
    -- a turn that the node makes of this letter
    abbrev pub Made : Note O → Type 0
    Made m = (t : Turn O) × (new : Local O) × Makes O n old t new × (t.taken ≡ Some (letter O from n stamp m)) × (t.event.node ≡ n)

    abbrev now : ℕ
    now = max old.clock stamp + 1

    abbrev turn : Note O → Deed → List (Post O) → Turn O
    turn m what posted = record { event = record { stamp = max old.clock stamp + 1; node = n; what = what }; taken = Some (letter O from n stamp m); posted = posted }

    abbrev put : ℕ → (Slot O → Slot O) → ℕ → Slot O
    put p change q = cond (q == p) (change (old.slots q)) (old.slots q)

    makes : (m : Note O) (what : Deed) (posted : List (Post O)) (new : Local O) → new.clock ≡ max old.clock stamp + 1 → Does O what n old (turn m what posted) new → Made m
    makes m what posted new clock does = (turn m what posted, new, record { node = refl; below = below; stamp_is = omega arith; clock = clock; does = does }, refl, refl)

    -- the same but for the slots
    abbrev with_slots : (ℕ → Slot O) → Local O
    with_slots slots = record { clock = max old.clock stamp + 1; kernel = old.kernel; slots = slots; believed = old.believed; progress = old.progress; gossip = old.gossip }

    -- Call
    module _ (home : n ≡ 0) (p : ℕ) (r : O.Request) where
      abbrev then : First O → Last O
      then f = last O f.kernel p (O.room_of r)

      abbrev served : Manner → First O → Deed
      served manner f = Served p manner (Some (O.number r)) (value_of O f.answer) f.child (then f).signal (O.end_of (then f).kernel p) (is_some (O.lowest (then f).kernel p)) (pokes_of O p (then f).kernel old.slots f.raised (then f).raised)

      abbrev letters : First O → List (Post O)
      letters f = letter O n from (max old.clock stamp + 1) (Reply p (done_of O p f (then f))) ∷ pokes O (max old.clock stamp + 1) old.believed (pokes_of O p (then f).kernel old.slots f.raised (then f).raised)

      abbrev after : First O → Local O
      after f = record { clock = max old.clock stamp + 1; kernel = (then f).kernel; slots = old.slots; believed = born_at O from f.child old.believed; progress = served_one p old.progress; gossip = old.gossip }

      call_made : Made (Call p r)
      call_made = by_number (O.number r == 0) refl
        where
          quiet : O.number r ≢ 0 → O.serve old.kernel p r ≡ None → (o : Option ℕ) → O.lowest old.kernel p ≡ o → Made (Call p r)
          quiet some e None low = makes (Call p r) (Held p (O.number r)) [] (with_slots (put p (holds O (Some (record { from = from; request = r }))))) refl
              (record { home = home; from = from; stamp = stamp; request = r; number_is = refl; some = some; blocks = e; quiet = low; base = record { took = refl; posts = refl; slots = λ q. refl }; still = record { kernel = refl; believed = λ q. refl; progress = refl; gossip = refl } })
          quiet some e (Some s) low = let f : First O = record { kernel = old.kernel; answer = Some O.broken; child = None; raised = None } in
              makes (Call p r) (served Broke f) (letters f) (after f) refl
              (inl (record { home = home; from = from; stamp = stamp; request = r; first = f; acts = (s, low, e, some, refl); answers = record { kernel = refl; value_is = refl; child_is = refl; signal_is = refl; end_is = refl; more_is = refl }; number_is = refl; tells = refl; base = record { took = refl; posts = refl; slots = λ q. sym (cond_same (q == p) (old.slots q)) }; gossip = refl; believed = λ q. refl; progress = itself _ }))

          by_serve : O.number r ≢ 0 → (o : Option (Acted O.Kernel O.Answer)) → O.serve old.kernel p r ≡ o → Made (Call p r)
          by_serve some None e = quiet some e (O.lowest old.kernel p) refl
          by_serve some (Some d) e = let f : First O = record { kernel = d.kernel; answer = Some d.answer; child = d.child; raised = d.raised } in
              makes (Call p r) (served Did f) (letters f) (after f) refl
              (inl (record { home = home; from = from; stamp = stamp; request = r; first = f; acts = (d, e, some, refl); answers = record { kernel = refl; value_is = refl; child_is = refl; signal_is = refl; end_is = refl; more_is = refl }; number_is = refl; tells = refl; base = record { took = refl; posts = refl; slots = λ q. sym (cond_same (q == p) (old.slots q)) }; gossip = refl; believed = λ q. refl; progress = itself _ }))

          by_number : (b : Bool) → (O.number r == 0) ≡ b → Made (Call p r)
          by_number true e = let f : First O = record { kernel = (O.fall old.kernel p r).kernel; answer = None; child = None; raised = (O.fall old.kernel p r).raised } in
              makes (Call p r) (served Fell f) (letters f) (after f) refl
              (record { home = home; from = from; stamp = stamp; request = r; first = f; acts = (numbers_same (O.number r) 0 e, refl); answers = record { kernel = refl; value_is = refl; child_is = refl; signal_is = refl; end_is = refl; more_is = refl }; number_is = refl; tells = refl; base = record { took = refl; posts = refl; slots = λ q. sym (cond_same (q == p) (old.slots q)) }; gossip = refl; believed = λ q. refl; progress = itself _ })
          by_number false e = by_serve (numbers_other (O.number r) 0 e) (O.serve old.kernel p r) refl

    -- Pause
    pause_made : n ≡ 0 → (p : ℕ) (room : Bool) → Made (Pause p room)
    pause_made home p room =
        let f : First O = first_none O old.kernel in
        let l : Last O = last O old.kernel p room in
        makes (Pause p room) (Served p Paused None None None l.signal (O.end_of l.kernel p) (is_some (O.lowest l.kernel p)) (pokes_of O p l.kernel old.slots None l.raised))
        (letter O n from (max old.clock stamp + 1) (Reply p (done_of O p f l)) ∷ pokes O (max old.clock stamp + 1) old.believed (pokes_of O p l.kernel old.slots None l.raised))
        (record { clock = max old.clock stamp + 1; kernel = l.kernel; slots = old.slots; believed = old.believed; progress = old.progress; gossip = old.gossip }) refl
        (record { home = home; from = from; stamp = stamp; room = room; answers = record { kernel = refl; value_is = refl; child_is = refl; signal_is = refl; end_is = refl; more_is = refl }; number_is = refl; tells = refl; base = record { took = refl; posts = refl; slots = λ q. sym (cond_same (q == p) (old.slots q)) }; gossip = refl; believed = λ q. refl; progress = refl })

    -- Reply
    reply_made : (p : ℕ) (d : Done O) (b : Body O) (x : Bool) (k : Option Kept) → (old.slots p).context ≡ Some (context O b (Waiting x k)) → Made (Reply p d)
    reply_made p d b x k was =
        makes (Reply p d) (Got p d.child d.ended (kept_told O k d.ended)) (got_posts O n (max old.clock stamp + 1) p b k d)
        (with_slots (λ q. cond (q == p) (hosts O (got_context O b k d) (old.slots q)) (cond (is_child d.child q) (hosts O (child_context O b.user d.child) (old.slots q)) (old.slots q)))) refl
        (record { from = from; stamp = stamp; body = b; pause = x; keeps = k; done = d; was = was; child_is = refl; ended_is = refl; kept_is = refl; base = record { took = refl; posts = refl; slots = λ q. refl }; still = record { kernel = refl; believed = λ q. refl; progress = refl; gossip = refl } })

    -- Poke and Go, by the context that is here
    abbrev Here : ℕ → Option (Context O) → Type 0
    Here p o = (old.slots p).context ≡ o

    poke_none : (p : ℕ) → Rattle.protocol.specs.Does.Asleep O (old.slots p).context → Made (Poke p)
    poke_none p asleep = makes (Poke p) (Poked p false) [] (with_slots old.slots) refl
        (record { from = from; stamp = stamp; asleep = asleep; base = record { took = refl; posts = refl; slots = λ q. sym (cond_same (q == p) (old.slots q)) }; still = record { kernel = refl; believed = λ q. refl; progress = refl; gossip = refl } })

    poke_some : (p : ℕ) (b : Body O) (s : State) → Rattle.protocol.specs.Does.Awake O s → Here p (Some (context O b s)) → Made (Poke p)
    poke_some p b s awake was = makes (Poke p) (Poked p true) [] (with_slots (put p (hosts O (Some (context O (record b { poked = true }) s))))) refl
        (record { from = from; stamp = stamp; body = b; state = s; was = was; awake = awake; base = record { took = refl; posts = refl; slots = λ q. refl }; still = record { kernel = refl; believed = λ q. refl; progress = refl; gossip = refl } })

    poke_made : (p : ℕ) → Made (Poke p)
    poke_made p = go (old.slots p).context refl
      where
        at : (b : Body O) (s : State) → Here p (Some (context O b s)) → Made (Poke p)
        at b Running e = poke_some p b Running tt e
        at b (Waiting x k) e = poke_none p (subst (Rattle.protocol.specs.Does.Asleep O) (sym e) (x, k, refl))
        at b (Asking to line) e = poke_some p b (Asking to line) tt e

        go : (o : Option (Context O)) → Here p o → Made (Poke p)
        go None e = poke_none p (subst (Rattle.protocol.specs.Does.Asleep O) (sym e) tt)
        go (Some c) e = at c.body c.state e

    go_made : (p to hops line : ℕ) → Made (Go p to hops line)
    go_made p to hops line = go (old.slots p).context refl
      where
        refused : (why : Rattle.protocol.specs.Deeds.Why) → Rattle.protocol.specs.Does.RefusedFor O why n to (old.slots p).context → Made (Go p to hops line)
        refused why was = makes (Go p to hops line) (Refused p to why line) (letter O n 0 (max old.clock stamp + 1) (NoMove line) ∷ []) (with_slots old.slots) refl
            (inl (record { from = from; stamp = stamp; hops = hops; was = was; base = record { took = refl; posts = refl; slots = λ q. sym (cond_same (q == p) (old.slots q)) }; still = record { kernel = refl; believed = λ q. refl; progress = refl; gossip = refl } }))

        begun : (b : Body O) → to ≢ n → Here p (Some (context O b Running)) → Made (Go p to hops line)
        begun b away was = makes (Go p to hops line) (Begin p to (ForLine line)) (letter O n to (max old.clock stamp + 1) (Ask p (O.pages b.user)) ∷ []) (with_slots (put p (hosts O (Some (context O b (Asking to (Some line))))))) refl
            (record { body = b; was = was; away = away; why = record { from = from; stamp = stamp; hops = hops; gossip = refl }; base = record { took = refl; posts = refl; slots = λ q. refl }; still = record { kernel = refl; believed = λ q. refl; progress = refl } })

        kept : (b : Body O) (x : Bool) → to ≢ n → Here p (Some (context O b (Waiting x None))) → Made (Go p to hops line)
        kept b x away was = makes (Go p to hops line) (Keep p to line) [] (with_slots (put p (hosts O (Some (context O b (Waiting x (Some (record { to = to; line = line })))))))) refl
            (record { from = from; stamp = stamp; hops = hops; body = b; pause = x; was = was; away = away; base = record { took = refl; posts = refl; slots = λ q. refl }; still = record { kernel = refl; believed = λ q. refl; progress = refl; gossip = refl } })

        at : (b : Body O) (s : State) → Here p (Some (context O b s)) → (k : Bool) → (to == n) ≡ k → Made (Go p to hops line)
        at b Running e true x = refused There (inl (b, e), numbers_same to n x)
        at b Running e false x = begun b (numbers_other to n x) e
        at b (Waiting y None) e true x = refused There (inr (b, y, e), numbers_same to n x)
        at b (Waiting y None) e false x = kept b y (numbers_other to n x) e
        at b (Waiting z (Some k)) e y x = refused Moving (inr (b, z, k, e))
        at b (Asking to2 line2) e y x = refused Moving (inl (b, to2, line2, e))

        go : (o : Option (Context O)) → Here p o → Made (Go p to hops line)
        go None e = makes (Go p to hops line) (Missed p to line) (letter O n 0 (max old.clock stamp + 1) (NotHere p to hops line) ∷ []) (with_slots old.slots) refl
            (record { from = from; stamp = stamp; hops = hops; was = e; base = record { took = refl; posts = refl; slots = λ q. sym (cond_same (q == p) (old.slots q)) }; still = record { kernel = refl; believed = λ q. refl; progress = refl; gossip = refl } })
        go (Some c) e = at c.body c.state e (to == n) refl

    -- NotHere
    back_made : n ≡ 0 → (p to hops line : ℕ) → Made (NotHere p to hops line)
    back_made home p to hops line = by_live (O.live old.kernel p) refl (leb_tells (old.believed p).hops hops)
      where
        refused : (why : Rattle.protocol.specs.Deeds.Why) → Rattle.protocol.specs.Does.NoNews O why p hops old → Made (NotHere p to hops line)
        refused why was = makes (NotHere p to hops line) (Refused p to why line) [] (with_slots old.slots) refl
            (inr (record { home = home; from = from; stamp = stamp; hops = hops; was = was; base = record { took = refl; posts = refl; slots = λ q. sym (cond_same (q == p) (old.slots q)) }; still = record { kernel = refl; believed = λ q. refl; progress = refl; gossip = refl } }))

        by_live : (b : Bool) → O.live old.kernel p ≡ b → ((leb (old.believed p).hops hops ≡ true) × ((old.believed p).hops ≤ hops)) ⊎ ((leb (old.believed p).hops hops ≡ false) × (hops < (old.believed p).hops)) → Made (NotHere p to hops line)
        by_live false e x = refused Gone e
        by_live true e (inl x) = refused Moving (e, x.1)
        by_live true e (inr x) = makes (NotHere p to hops line) (Again p to (old.believed p).place line) (letter O n (old.believed p).place (max old.clock stamp + 1) (Go p to (old.believed p).hops line) ∷ []) (with_slots old.slots) refl
            (record { home = home; from = from; stamp = stamp; hops = hops; live = e; news = x.1; place_is = refl; base = record { took = refl; posts = refl; slots = λ q. sym (cond_same (q == p) (old.slots q)) }; still = record { kernel = refl; believed = λ q. refl; progress = refl; gossip = refl } })

    -- Ask
    ask_made : (p need used : ℕ) → InUse O old used → Made (Ask p need)
    ask_made p need used in_use = go (leb_tells need (O.cap - used))
      where
        go : ((leb need (O.cap - used) ≡ true) × (need ≤ O.cap - used)) ⊎ ((leb need (O.cap - used) ≡ false) × (O.cap - used < need)) → Made (Ask p need)
        go (inl x) = makes (Ask p need) (Allows p from need) (letter O n from (max old.clock stamp + 1) (Allow p) ∷ []) (with_slots (put p (reserves O (Some need)))) refl
            (record { stamp = stamp; used = used; in_use = in_use; room = x.1; base = record { took = refl; posts = refl; slots = λ q. refl }; still = record { kernel = refl; believed = λ q. refl; progress = refl; gossip = refl } })
        go (inr x) = makes (Ask p need) (Denies p from need (O.cap - used)) (letter O n from (max old.clock stamp + 1) (Deny p need (O.cap - used)) ∷ []) (with_slots old.slots) refl
            (record { stamp = stamp; used = used; in_use = in_use; free_is = refl; short = x.1; base = record { took = refl; posts = refl; slots = λ q. sym (cond_same (q == p) (old.slots q)) }; still = record { kernel = refl; believed = λ q. refl; progress = refl; gossip = refl } })

    -- Allow and Deny
    allow_made : (p : ℕ) (b : Body O) (line : Option ℕ) → Here p (Some (context O b (Asking from line))) → Made (Allow p)
    allow_made p b line was = makes (Allow p) (Depart p from) (letter O n from (max old.clock stamp + 1) (Move p b.user b.hops line) ∷ []) (with_slots (put p (hosts O None))) refl
        (record { stamp = stamp; body = b; line = line; was = was; base = record { took = refl; posts = refl; slots = λ q. refl }; still = record { kernel = refl; believed = λ q. refl; progress = refl; gossip = refl } })

    deny_made : (p need free : ℕ) (b : Body O) (line : Option ℕ) → Here p (Some (context O b (Asking from line))) → Made (Deny p need free)
    deny_made p need free b line was = makes (Deny p need free) (Stay p from need free) (line_closed O n (max old.clock stamp + 1) line) (with_slots (put p (hosts O (Some (context O b Running))))) refl
        (record { stamp = stamp; body = b; line = line; was = was; base = record { took = refl; posts = refl; slots = λ q. refl }; still = record { kernel = refl; believed = λ q. refl; progress = refl; gossip = refl } })

    -- Move
    move_made : (p : ℕ) (u : O.User) (hops : ℕ) (line : Option ℕ) → Made (Move p u hops line)
    move_made p u hops line = makes (Move p u hops line) (Land p from) (letter O n 0 (max old.clock stamp + 1) (Landed p from (hops + 1) line) ∷ []) (with_slots (put p (lands O (Some (context O (record { user = u; hops = hops + 1; poked = false }) Running))))) refl
        (record { stamp = stamp; user = u; hops = hops; line = line; base = record { took = refl; posts = refl; slots = λ q. refl }; still = record { kernel = refl; believed = λ q. refl; progress = refl; gossip = refl } })

    -- Landed
    landed_made : n ≡ 0 → (p source hops : ℕ) (line : Option ℕ) → Made (Landed p source hops line)
    landed_made home p source hops line = go (leb_tells hops (old.believed p).hops)
      where
        told : (later : Bool) → cond later ((old.believed p).hops < hops) (hops ≤ (old.believed p).hops) → Made (Landed p source hops line)
        told later is =
            let poked : Bool = is_some (O.lowest old.kernel p) in
            makes (Landed p source hops line) (Told p from source hops line poked) (cond poked (letter O n (place_told O from hops later (old.believed p)).place (max old.clock stamp + 1) (Poke p) ∷ []) [])
            (record { clock = max old.clock stamp + 1; kernel = old.kernel; slots = old.slots; believed = λ q. cond (q == p) (place_told O from hops later (old.believed p)) (old.believed q); progress = old.progress; gossip = old.gossip }) refl
            (record { home = home; stamp = stamp; later = later; later_is = is; tells = refl; base = record { took = refl; posts = refl; slots = λ q. sym (cond_same (q == p) (old.slots q)) }; kernel = refl; gossip = refl; believed = λ q. refl; progress = refl })

        go : ((leb hops (old.believed p).hops ≡ true) × (hops ≤ (old.believed p).hops)) ⊎ ((leb hops (old.believed p).hops ≡ false) × ((old.believed p).hops < hops)) → Made (Landed p source hops line)
        go (inl x) = told false x.1
        go (inr x) = told true x.1

    -- Half
    module _ (places : List (Option Entry)) (load used : ℕ) (loaded : Loaded O old load) (in_use : InUse O old used) (movable : List Movable) (can_move : CanMove O old movable) where
      abbrev own : Entry
      own = record { node = n; load = load; free = O.cap - used; stamp = max old.clock stamp + 1 }

      abbrev gossip : Gossip
      gossip = gossip_after true (record { node = n; load = load; free = O.cap - used; stamp = max old.clock stamp + 1 }) places old.gossip

      abbrev pub talks : (chosen : Option Choice) (t : Turn O) (new : Local O) → t.event.stamp ≡ max old.clock stamp + 1 → new.gossip ≡ gossip → O.Chooses (seen O n own gossip.vector movable) chosen → Talks O true n from chosen old t new
      talks chosen t new is g chooses = record {
        own = own;
        places = places;
        stamp = stamp;
        used = used;
        in_use = in_use;
        loaded = loaded;
        own_is = λ i. record { node = n; load = load; free = O.cap - used; stamp = (sym is) i };
        sends = tt;
        gossip = g;
        movable = movable;
        can_move = can_move;
        chooses = subst (λ (k : Gossip). O.Chooses (seen O n own k.vector movable) chosen) (sym g) chooses;
      }

      hear_made : (chosen : Option Choice) → O.Chooses (seen O n own gossip.vector movable) chosen → Made (Half places)
      hear_made None chooses =
          let t : Turn O = turn (Half places) (Gossips true from) [] in
          let new : Local O = record { clock = max old.clock stamp + 1; kernel = old.kernel; slots = old.slots; believed = old.believed; progress = old.progress; gossip = gossip } in
          makes (Half places) (Gossips true from) [] new refl (record { talks = talks None t new refl refl chooses; base = record { took = refl; posts = refl; slots = λ q. sym (cond_same (q == 0) (old.slots q)) }; still = record { kernel = refl; believed = λ q. refl; progress = refl } })
      hear_made (Some c) chooses =
          let x = S.chosen _ c chooses in
          let y = can_run O old movable can_move c.pid x.0 in
          let ls : List (Post O) = letter O n c.to (max old.clock stamp + 1) (Ask c.pid (O.pages y.0.user)) ∷ [] in
          let t : Turn O = turn (Half places) (Begin c.pid c.to (Chosen true from)) ls in
          let new : Local O = record { clock = max old.clock stamp + 1; kernel = old.kernel; slots = put c.pid (hosts O (Some (context O y.0 (Asking c.to None)))); believed = old.believed; progress = old.progress; gossip = gossip } in
          makes (Half places) (Begin c.pid c.to (Chosen true from)) ls new refl (record { body = y.0; was = y.1; away = x.2; why = talks (Some c) t new refl refl chooses; base = record { took = refl; posts = refl; slots = λ q. refl }; still = record { kernel = refl; believed = λ q. refl; progress = refl } })

      half_made : HasAnswers O → Made (Half places)
      half_made answers = let a = answers (seen O n own gossip.vector movable) in hear_made a.0 a.1

    -- NoMove
    close_made : n ≡ 0 → (line : ℕ) → Made (NoMove line)
    close_made home line = makes (NoMove line) (Closed line) [] (with_slots old.slots) refl
        (record { home = home; from = from; stamp = stamp; base = record { took = refl; posts = refl; slots = λ q. sym (cond_same (q == 0) (old.slots q)) }; still = record { kernel = refl; believed = λ q. refl; progress = refl; gossip = refl } })

  -- the one letter of a process that is in front of its link is the one under way
  front_way : (o : Option (Way O)) (a b : ℕ) (m : Note O) (ms : List (Note O)) → m ∷ ms ≡ on_link O o a b → o ≡ Some (way O a b m)
  front_way None a b m ms e = absurd cc
  front_way (Some x) a b m ms e = go (a == x.from) (b == x.to) refl refl e
    where
      is : m ∷ ms ≡ x.note ∷ [] → x.note ≡ m
      is f = cc

      go : (j k : Bool) → (a == x.from) ≡ j → (b == x.to) ≡ k → m ∷ ms ≡ cond (j && k) (x.note ∷ []) [] → Some x ≡ Some (way O a b m)
      go true true f g z = λ i. Some (record { from = (sym (numbers_same a x.from f)) i; to = (sym (numbers_same b x.to g)) i; note = (is z) i })
      go true false f g z = absurd cc
      go false k f g z = absurd cc

  module _ (h : List (Turn O)) (sp : ℕ → Spot O) (w : World O) (path : Path O S h sp w) (st : Stands O S sp w) (some : 1 ≤ O.nodes) (answers : HasAnswers O) (a b : ℕ) (l : Post O) (rest : List (Post O)) (lies : w.links a b ≡ l ∷ rest) where
    here : (l.from ≡ a) × (l.to ≡ b)
    here = (subst (AllOn a b) lies (path_on h sp w path a b)).0

    below : b < O.nodes
    below = go (leb_tells O.nodes b)
      where
        go : ((leb O.nodes b ≡ true) × (O.nodes ≤ b)) ⊎ ((leb O.nodes b ≡ false) × (b < O.nodes)) → b < O.nodes
        go (inl x) = let z : [] ≡ l ∷ rest = sym (far_to O S some h sp w path a b x.1) ∙ lies in absurd cc
        go (inr x) = x.1

    bound : Bound O (O.count (w.nodes 0).kernel) l.note l.from b
    bound = subst (λ (k : ℕ). Bound O (O.count (w.nodes 0).kernel) l.note l.from k) here.1 (subst (EachBound O S (O.count (w.nodes 0).kernel)) lies (st.bound a b)).0.0

    under : (p : ℕ) (m : Note O) → l.note ≡ m → mine O p m ≡ true → way_by O p (sp p) ≡ Some (way O a b m)
    under p m is own = front_way (way_by O p (sp p)) a b m (talk O p rest) (sym talks ∙ (st.at p).letters a b)
      where
        talks : talk O p (w.links a b) ≡ m ∷ talk O p rest
        talks = ap (talk O p) lies ∙ (ap (λ (x : Note O). cond (mine O p x) (x ∷ talk O p rest) (talk O p rest)) is ∙ ap (λ (k : Bool). cond k (m ∷ talk O p rest) (talk O p rest)) own)

    context_at : (p : ℕ) (s : Spot O) (c : Context O) → sp p ≡ s → (slot_by O s b).context ≡ Some c → ((w.nodes b).slots p).context ≡ Some c
    context_at p s c e f = ap (λ (k : Slot O). k.context) ((st.at p).slots b) ∙ (ap (λ (k : Spot O). (slot_by O k b).context) e ∙ f)

    abbrev Mine : Note O → Type 0
    Mine m = Made b (w.nodes b) below a l.stamp m

    made : (m : Note O) → l.note ≡ m → Mine m
    made (Call p r) e = let t = way_tells O p (sp p) _ (under p (Call p r) e (same_numbers p p refl)) in call_made b (w.nodes b) below a l.stamp t.3 p r
    made (Pause p r) e = let t = way_tells O p (sp p) _ (under p (Pause p r) e (same_numbers p p refl)) in pause_made b (w.nodes b) below a l.stamp t.3 p r
    made (Reply p d) e = let t = way_tells O p (sp p) _ (under p (Reply p d) e (same_numbers p p refl)) in reply_made b (w.nodes b) below a l.stamp p d t.0 t.2 t.1 (context_at p (Answered b t.0 t.1 d t.2 t.3) (context O t.0 (Waiting t.2 t.1)) t.4 (cond_here b _ None))
    made (Poke p) e = poke_made b (w.nodes b) below a l.stamp p
    made (Half places) e = half_made b (w.nodes b) below a l.stamp places _ _ (loaded O S sp w st b) (in_use O S sp w st b) _ (can_move O S sp w st b) answers
    made (Go p to hops line) e = go_made b (w.nodes b) below a l.stamp p to hops line
    made (NotHere p to hops line) e = back_made b (w.nodes b) below a l.stamp (subst (λ (m : Note O). Bound O (O.count (w.nodes 0).kernel) m l.from b) e bound).0 p to hops line
    made (Ask p need) e = ask_made b (w.nodes b) below a l.stamp p need _ (in_use O S sp w st b)
    made (Allow p) e = let t = way_tells O p (sp p) _ (under p (Allow p) e (same_numbers p p refl)) in allow_made b (w.nodes b) below a l.stamp p t.0 t.1 (context_at p (Granted b t.0 a t.1 t.2) (context O t.0 (Asking a t.1)) t.3 (cond_here b _ None))
    made (Deny p need free) e = let t = way_tells O p (sp p) _ (under p (Deny p need free) e (same_numbers p p refl)) in deny_made b (w.nodes b) below a l.stamp p need free t.0 t.1 (context_at p (Denied b t.0 a t.1 need free) (context O t.0 (Asking a t.1)) t.2 (cond_here b _ None))
    made (Move p u hops line) e = move_made b (w.nodes b) below a l.stamp p u hops line
    made (Landed p source hops line) e = landed_made b (w.nodes b) below a l.stamp (subst (λ (m : Note O). Bound O (O.count (w.nodes 0).kernel) m l.from b) e bound).0 p source hops line
    made (NoMove line) e = close_made b (w.nodes b) below a l.stamp (subst (λ (m : Note O). Bound O (O.count (w.nodes 0).kernel) m l.from b) e bound) line

    same_letter : letter O a b l.stamp l.note ≡ l
    same_letter = λ i. record { from = (sym here.0) i; to = (sym here.1) i; stamp = l.stamp; note = l.note }

    whole : (t : Turn O) (new : Local O) → Makes O b (w.nodes b) t new → t.taken ≡ Some (letter O a b l.stamp l.note) → t.event.node ≡ b → (v : World O) × Goes O w t v
    whole t new makes took is = (
      record { nodes = λ m. cond (m == b) new (w.nodes m); links = λ x y. cond ((x == a) && (y == b)) rest (w.links x y) ++ for_link O x y t.posted },
      record {
        makes = subst (λ (k : ℕ). Makes O k (w.nodes k) t (cond (k == b) new (w.nodes k))) (sym is) (subst (Makes O b (w.nodes b) t) (sym (cond_here b new (w.nodes b))) makes);
        elsewhere = λ m ne. cond_off m b new (w.nodes m) (λ z. ne (z ∙ sym is));
        rest = λ x y. cond ((x == a) && (y == b)) rest (w.links x y);
        takes = λ x y. subst (λ (o : Option (Post O)). w.links x y ≡ at_front O o x y ++ cond ((x == a) && (y == b)) rest (w.links x y)) (sym took) (takes x y (x == a) (y == b) refl refl);
        posts = λ x y. refl;
      },
    )
      where
        takes : (x y : ℕ) (j k : Bool) → (x == a) ≡ j → (y == b) ≡ k → w.links x y ≡ cond (j && k) (letter O a b l.stamp l.note ∷ []) [] ++ cond (j && k) rest (w.links x y)
        takes x y true true f g = (λ i. w.links ((numbers_same x a f) i) ((numbers_same y b g) i)) ∙ (lies ∙ ap (λ (m : Post O). m ∷ rest) (sym same_letter))
        takes x y true false f g = refl
        takes x y false k f g = refl

    pub can_take : (t : Turn O) × (v : World O) × Goes O w t v × (t.taken ≡ Some l) × (t.event.node ≡ b)
    can_take = go (made l.note refl)
      where
        go : Mine l.note → (t : Turn O) × (v : World O) × Goes O w t v × (t.taken ≡ Some l) × (t.event.node ≡ b)
        go (t, new, makes, took, is) = let v = whole t new makes took is in (t, v.0, v.1, took ∙ ap (λ (m : Post O). Some m) same_letter, is)
