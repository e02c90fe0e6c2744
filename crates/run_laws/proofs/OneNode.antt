-- A run of one node stays at home.
use Rattle.std.proofs.Common.{◌≡◌, ◌≢◌, ℕ, ◌<◌, ◌⊎◌, inl, inr, true, false, Option, Some, List, [], ◌∷◌, refl, sym, ap, ◌∙◌, arith}
use Rattle.protocol.specs.Ops.{Ops, Sound}
use Rattle.protocol.specs.Gossip.{Entry, Talk, Silent, Stepping, talk_of}
use Rattle.protocol.specs.Deeds.{ForLine, Chosen, Deed, Run, Kill, Bid, Unsent, Other, Steps, Sent, Heed, Held, Served, Got, Poked, Begin, Keep, Missed, Again, Allows, Denies, Depart, Stay, Land, Told, Refused, Closed, Gossips, Strange, Noted}
use Rattle.protocol.specs.Notes.{Half, letter, Turn, Local}
use Rattle.protocol.specs.Spots.{Spot}
use Rattle.protocol.specs.Does.{Does}
use Rattle.protocol.specs.Cluster.{World, Reached, events}
use Rattle.protocol.specs.Needs.{Names}
use Rattle.protocol.proofs.Stand.{Path, names_at, reached_stands}
use Rattle.run_laws.specs.Vectors.{Exchange, exchanged_by, exchanged}
use Rattle.run_laws.specs.OneNode.{StaysHome, AllHome}
use Rattle.run_laws.proofs.HalfTargets.{choice_near}
use Rattle.run_laws.proofs.Exchanged.{heard_there, path_exchanged}

-- without halves there is none to hear
home_talk : (what : Deed) → StaysHome what → (talk_of what ≡ Silent) ⊎ (talk_of what ≡ Stepping)
home_talk (Begin p to reason) s = absurd s
home_talk (Keep p to line) s = absurd s
home_talk (Gossips heard other) s = absurd s
home_talk (Steps p k) s = inr refl
home_talk what s = inl refl

same_unheard : (talk : Talk) (n : ℕ) (own : Entry) (k : Exchange) (a b : ℕ) → (talk ≡ Silent) ⊎ (talk ≡ Stepping) → (exchanged_by talk n own k).unheard a b ≡ k.unheard a b
same_unheard talk n own k a b (inl e) = ap (λ (t : Talk). (exchanged_by t n own k).unheard a b) e
same_unheard talk n own k a b (inr e) = ap (λ (t : Talk). (exchanged_by t n own k).unheard a b) e

none_unheard : (O : Ops) (es : List Noted) → AllHome es → (a b : ℕ) → (exchanged O es).unheard a b ≡ []
none_unheard O [] h a b = refl
none_unheard O (e ∷ es) h a b = same_unheard (talk_of e.what) e.node _ (exchanged O es) a b (home_talk e.what h.0.1) ∙ none_unheard O es h.1 a b

empty_not : {A : Type 0} {x : A} {xs : List A} → x ∷ xs ≡ [] → ⊥
empty_not e = cc

module _ (O : Ops) (S : Sound O) (one : O.nodes ≡ 1) where
  apart : (to n : ℕ) → to < O.nodes → n < O.nodes → (to ≢ n) → ⊥
  apart to n a b ne = ne (omega (arith, a, b, one))

  module _ (n : ℕ) (old : Local O) (t : Turn O) (new : Local O) (below : n < O.nodes) where
    home_at : (what : Deed) → Names O what → Does O what n old t new → ((other stamp : ℕ) (places : List (Option Entry)) → t.taken ≡ Some (letter O other n stamp (Half places)) → ⊥) → StaysHome what
    home_at (Begin p to (ForLine line)) is d none = apart to n (S.targets line p to is) below d.away
    home_at (Begin p to (Chosen heard other)) is d none = apart to n (choice_near O S n old t new heard other p to d.why) below d.away
    home_at (Keep p to line) is d none = apart to n (S.targets line p to is) below d.away
    home_at (Gossips false other) is d none = omega (arith, d.talks.sends.0, one)
    home_at (Gossips true other) is d none = none other d.talks.stamp d.talks.places d.base.took
    home_at (Run line i p) is d none = tt
    home_at (Kill line p s poked) is d none = tt
    home_at (Bid line p to) is d none = tt
    home_at (Unsent line p never) is d none = tt
    home_at (Other line input) is d none = tt
    home_at (Steps p k) is d none = tt
    home_at (Sent p k) is d none = tt
    home_at (Heed p) is d none = tt
    home_at (Held p k) is d none = tt
    home_at (Served p manner number value child signal ends more poked) is d none = tt
    home_at (Got p child ended kept) is d none = tt
    home_at (Poked p used) is d none = tt
    home_at (Missed p to line) is d none = tt
    home_at (Again p to place line) is d none = tt
    home_at (Allows p from need) is d none = tt
    home_at (Denies p from need free) is d none = tt
    home_at (Depart p to) is d none = tt
    home_at (Stay p to need free) is d none = tt
    home_at (Land p source) is d none = tt
    home_at (Told p at source hops line poked) is d none = tt
    home_at (Refused p to why line) is d none = tt
    home_at (Closed line) is d none = tt
    home_at (Strange p) is d none = tt

  path_home : (h : List (Turn O)) (sp : ℕ → Spot O) (w : World O) → Path O S h sp w → AllHome (events O h)
  path_home [] sp w r = tt
  path_home (t ∷ h) sp v r =
      let before = path_home h r.1 r.0 r.2 in
      ((home t.event.node r.4.goes.makes.below, home_at t.event.node (r.0.nodes t.event.node) t (v.nodes t.event.node) r.4.goes.makes.below t.event.what (names_at O S r.0 t v r.4.goes r.1 r.3) r.4.goes.makes.does (no_half before)), before)
    where
      home : (n : ℕ) → n < O.nodes → n ≡ 0
      home n less = omega (arith, less, one)

      no_half : AllHome (events O h) → (other stamp : ℕ) (places : List (Option Entry)) → t.taken ≡ Some (letter O other t.event.node stamp (Half places)) → ⊥
      no_half before other stamp places e = empty_not (sym (heard_there O S h r.0 t v r.1 r.2 r.3 r.4.goes (path_exchanged O S h r.1 r.0 r.2) other stamp places e) ∙ none_unheard O (events O h) before other t.event.node)

  pub stays_home : (h : List (Turn O)) (w : World O) → Reached O h w → AllHome (events O h)
  stays_home h w r = let s = reached_stands O S h w r in path_home h s.spots w s.path
