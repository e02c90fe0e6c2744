-- Turns mark their letters as a weave asks; so what nodes did by themselves, woven by stamps, is a run of the whole cluster.
use Rattle.std.proofs.Common.{◌≡◌, ℕ, ◌<◌, inl, inr, Bool, true, false, cond, Option, Some, None, List, [], ◌∷◌, refl, sym, subst, IfSome}
use Rattle.protocol.specs.Cluster.{events}
use Rattle.protocol.specs.Notes.{Local}
use Rattle.protocol.specs.Does.{Makes, Does, Base, ServedBy, got_posts}
use Rattle.protocol.specs.Cluster.{World, Reached}
use Rattle.run_laws.specs.Carried.{steps, world_of, CarriedRun, Marked, Sorted, Did, Each, own_events}
use Rattle.run_laws.proofs.Weaving.{did_run as weave_all}
use Rattle.run_laws.specs.Weaving.{Keeps, Woven, World as AllWorld, Reached as AllReached}
use Rattle.run_laws.proofs.Stamps.{later_by, rises}
use Rattle.protocol.specs.Ops.{Ops}
use Rattle.protocol.specs.Deeds.{ForLine, Chosen, Manner, Did as DidCall, Broke, Fell, Paused, Deed, Run, Kill, Bid, Unsent, Other, Steps, Sent, Heed, Held, Served, Got, Poked, Begin, Keep, Missed, Again, Allows, Denies, Depart, Stay, Land, Told, Refused, Closed, Gossips, Strange, Noted}
use Rattle.protocol.specs.Home.{after, pokes, line_closed}
use Rattle.std.specs.Prelude.{ℤ}
use Rattle.call_table.specs.declared.process.End.{End}
use Rattle.protocol.specs.Notes.{Believed, Done, Poke, Ask, NoMove, letter, Body, Kept, Slot, Post, Turn}

-- the marks that a node sets
all_at : {A : Type 0} (P : A → Type 0) (xs ys : List A) → xs ≡ ys → Each P ys → Each P xs
all_at P xs ys e h = subst (λ k. Each P k) (sym e) h

module _ (O : Ops) where
  heard_by : (o : Option (Post O)) (s : ℕ) → IfSome o (λ l. l.stamp < s) → (n : ℕ) → IfSome o (λ l. l.to ≡ n) → IfSome o (λ l. (l.to ≡ n) × (l.stamp < s))
  heard_by None s h n k = tt
  heard_by (Some l) s h n k = (k, h)

  abbrev From : ℕ → ℕ → List (Post O) → Type 0
  From n s ls = Each (λ l. (l.from ≡ n) × (l.stamp ≡ s)) ls

  abbrev To : ℕ → Option (Post O) → Type 0
  To n o = IfSome o (λ l. l.to ≡ n)

  record Marks (n : ℕ) (t : Turn O) : Type 0 where
    posted : From n t.event.stamp t.posted
    taken : To n t.taken

  marks_by : (n : ℕ) (t : Turn O) (p : ℕ) (child : Option ℕ) (taken : Option (Post O)) (posted : List (Post O)) (change born : Slot O → Slot O) (old new : Local O) → Base O p child taken posted change born old t new → From n t.event.stamp posted → To n taken → Marks n t
  marks_by n t p child taken posted change born old new d f g = record { posted = subst (From n t.event.stamp) (sym d.posts) f; taken = subst (To n) (sym d.took) g }

  pokes_from : (n s : ℕ) (believed : ℕ → Believed) (qs : List ℕ) → n ≡ 0 → From n s (pokes O s believed qs)
  pokes_from n s believed [] e = tt
  pokes_from n s believed (q ∷ qs) e = ((sym e, refl), pokes_from n s believed qs e)

  closed_from : (n s : ℕ) (line : Option ℕ) → From n s (line_closed O n s line)
  closed_from n s None = tt
  closed_from n s (Some line) = ((refl, refl), tt)

  got_from : (n s p : ℕ) (b : Body O) (k : Option Kept) (d : Done O) → From n s (got_posts O n s p b k d)
  got_from n s p b None d = tt
  got_from n s p b (Some k) d = go d.ended
    where
      go : (e : Bool) → From n s (cond e (letter O n 0 s (NoMove k.line) ∷ []) (letter O n k.to s (Ask p (O.pages (after O b.user d))) ∷ []))
      go true = ((refl, refl), tt)
      go false = ((refl, refl), tt)

  told_from : (n to s p : ℕ) (b : Bool) → From n s (cond b (letter O n to s (Poke p) ∷ []) [])
  told_from n to s p true = ((refl, refl), tt)
  told_from n to s p false = tt

  served_marks : (manner : Manner) (n p : ℕ) (number : Option ℕ) (value : Option ℤ) (child signal : Option ℕ) (ends : Option End) (more : Bool) (poked : List ℕ) (old : Local O) (t : Turn O) (new : Local O) → ServedBy O manner n p number value child signal ends more poked old t new → Marks n t
  served_marks DidCall n p number value child signal ends more poked old t new (inl d) = marks_by n t p _ _ _ _ _ old new d.base ((refl, refl), pokes_from n t.event.stamp old.believed poked d.home) refl
  served_marks DidCall n p number value child signal ends more poked old t new (inr d) = marks_by n t p _ _ _ _ _ old new d.base ((refl, refl), pokes_from n t.event.stamp old.believed poked d.home) tt
  served_marks Broke n p number value child signal ends more poked old t new (inl d) = marks_by n t p _ _ _ _ _ old new d.base ((refl, refl), pokes_from n t.event.stamp old.believed poked d.home) refl
  served_marks Broke n p number value child signal ends more poked old t new (inr d) = marks_by n t p _ _ _ _ _ old new d.base ((refl, refl), pokes_from n t.event.stamp old.believed poked d.home) tt
  served_marks Fell n p number value child signal ends more poked old t new d = marks_by n t p _ _ _ _ _ old new d.base ((refl, refl), pokes_from n t.event.stamp old.believed poked d.home) refl
  served_marks Paused n p number value child signal ends more poked old t new d = marks_by n t p _ _ _ _ _ old new d.base ((refl, refl), pokes_from n t.event.stamp old.believed poked d.home) refl

  marks : (what : Deed) (n : ℕ) (old : Local O) (t : Turn O) (new : Local O) → Does O what n old t new → Marks n t
  marks (Run line i p) n old t new d = marks_by n t p _ _ _ _ _ old new d.base tt tt
  marks (Kill line p g poked) n old t new d = marks_by n t p _ _ _ _ _ old new d.base (pokes_from n t.event.stamp old.believed poked d.home) tt
  marks (Bid line p to) n old t new d = marks_by n t p _ _ _ _ _ old new d.base ((sym d.home, refl), tt) tt
  marks (Unsent line p never) n old t new d = marks_by n t p _ _ _ _ _ old new d.base tt tt
  marks (Other line input) n old t new d = marks_by n t 0 _ _ _ _ _ old new d.base tt tt
  marks (Steps p k) n old t new d = marks_by n t p _ _ _ _ _ old new d.base tt tt
  marks (Sent p k) n old t new d = marks_by n t p _ _ _ _ _ old new d.base ((refl, refl), tt) tt
  marks (Heed p) n old t new d = marks_by n t p _ _ _ _ _ old new d.base ((refl, refl), tt) tt
  marks (Held p k) n old t new d = marks_by n t p _ _ _ _ _ old new d.base tt refl
  marks (Got p child ended kept) n old t new d = marks_by n t p _ _ _ _ _ old new d.base (got_from n t.event.stamp p d.body d.keeps d.done) refl
  marks (Poked p true) n old t new d = marks_by n t p _ _ _ _ _ old new d.base tt refl
  marks (Poked p false) n old t new d = marks_by n t p _ _ _ _ _ old new d.base tt refl
  marks (Begin p to (ForLine line)) n old t new d = marks_by n t p _ _ _ _ _ old new d.base ((refl, refl), tt) refl
  marks (Begin p to (Chosen false other)) n old t new d = marks_by n t p _ _ _ _ _ old new d.base ((refl, refl), ((refl, refl), tt)) tt
  marks (Begin p to (Chosen true other)) n old t new d = marks_by n t p _ _ _ _ _ old new d.base ((refl, refl), tt) refl
  marks (Keep p to line) n old t new d = marks_by n t p _ _ _ _ _ old new d.base tt refl
  marks (Missed p to line) n old t new d = marks_by n t p _ _ _ _ _ old new d.base ((refl, refl), tt) refl
  marks (Again p to place line) n old t new d = marks_by n t p _ _ _ _ _ old new d.base ((refl, refl), tt) refl
  marks (Allows p from need) n old t new d = marks_by n t p _ _ _ _ _ old new d.base ((refl, refl), tt) refl
  marks (Denies p from need free) n old t new d = marks_by n t p _ _ _ _ _ old new d.base ((refl, refl), tt) refl
  marks (Depart p to) n old t new d = marks_by n t p _ _ _ _ _ old new d.base ((refl, refl), tt) refl
  marks (Stay p to need free) n old t new d = marks_by n t p _ _ _ _ _ old new d.base (closed_from n t.event.stamp d.line) refl
  marks (Land p source) n old t new d = marks_by n t p _ _ _ _ _ old new d.base ((refl, refl), tt) refl
  marks (Closed line) n old t new d = marks_by n t 0 _ _ _ _ _ old new d.base tt refl
  marks (Gossips false other) n old t new d = marks_by n t 0 _ _ _ _ _ old new d.base ((refl, refl), tt) tt
  marks (Gossips true other) n old t new d = marks_by n t 0 _ _ _ _ _ old new d.base tt refl
  marks (Strange p) n old t new d = marks_by n t p _ _ _ _ _ old new d.base tt refl
  marks (Told p at source hops line poked) n old t new d = marks_by n t p _ _ _ _ _ old new d.base (told_from n _ t.event.stamp p poked) refl
  marks (Served p manner number value child signal ends more poked) n old t new d = served_marks manner n p number value child signal ends more poked old t new d
  marks (Refused p to why line) n old t new (inl d) = marks_by n t p _ _ _ _ _ old new d.base ((refl, refl), tt) refl
  marks (Refused p to why line) n old t new (inr d) = marks_by n t p _ _ _ _ _ old new d.base tt refl

  pub marked : (n : ℕ) (old : Local O) (t : Turn O) (new : Local O) → Makes O n old t new → Marked O t
  marked n old t new m =
      let k : Marks n t = marks t.event.what n old t new m.does in
      record {
        posted = subst (λ (x : ℕ). Each (λ l. (l.from ≡ x) × (l.stamp ≡ t.event.stamp)) t.posted) (sym m.node) k.posted;
        taken = heard_by t.taken t.event.stamp (later_by O old.clock t.event.stamp t.taken m.stamp_is).1 t.event.node (subst (λ (x : ℕ). IfSome t.taken (λ l. l.to ≡ x)) (sym m.node) k.taken);
      }

  -- so its turns can be woven
  pub keeps : Keeps (steps O)
  keeps = record {
    node = λ n old t new m. m.node;
    rises = λ n old t new m. rises O n old t new m;
    clock = λ n old t new m. m.clock;
    marked = λ n old t new m. marked n old t new m;
  }

  pub reached_so : (h : List (Turn O)) (w : AllWorld (steps O)) → AllReached (steps O) h w → Reached O h (record { nodes = w.nodes; links = w.links })
  reached_so [] w r = record { nodes = r.nodes; links = r.links }
  reached_so (t ∷ h) w r = (
    record { nodes = r.0.nodes; links = r.0.links },
    reached_so h r.0 r.1,
    record { makes = r.2.makes; elsewhere = r.2.elsewhere; rest = r.2.rest; takes = r.2.takes; posts = r.2.posts },
  )

  -- the nodes did this by themselves; the events, sorted by stamps, are those of a run of the whole cluster
  pub did_woven : (turns : ℕ → List (Turn O)) (w : World O) (es : List Noted) → Did O turns w → Sorted es → ((n : ℕ) → events O (turns n) ≡ own_events n es) → Woven (steps O) turns es (world_of O w)
  did_woven turns w es did sorted same = weave_all (steps O) keeps turns (world_of O w) es did sorted same

  pub did_run : (turns : ℕ → List (Turn O)) (w : World O) (es : List Noted) → Did O turns w → Sorted es → ((n : ℕ) → events O (turns n) ≡ own_events n es) → CarriedRun O es w
  did_run turns w es did sorted same =
      let r = did_woven turns w es did sorted same in
      record { turns = r.all; events_are = r.events_are; reached = reached_so r.all (world_of O w) r.reached; carried = r.carried; marked = r.marked }
