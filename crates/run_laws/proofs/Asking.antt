-- A node decides on a process that asks it, in every run.
use Rattle.std.proofs.Common.{◌≡◌, ℕ, List, [], ◌∷◌, refl, ap, ◌∙◌}
use Rattle.protocol.specs.Ops.{Ops, Sound}
use Rattle.protocol.specs.Deeds.{Deed, Run, Kill, Bid, Unsent, Other, Steps, Sent, Heed, Held, Served, Got, Poked, Begin, Keep, Missed, Again, Allows, Denies, Depart, Stay, Land, Told, Refused, Closed, Gossips, Strange, pid_of}
use Rattle.protocol.specs.Notes.{Turn, Local}
use Rattle.protocol.specs.Spots.{Spot, Asks}
use Rattle.protocol.specs.Needs.{Needs}
use Rattle.protocol.specs.Cluster.{World, events}
use Rattle.protocol.proofs.Stand.{Path}
use Rattle.run_laws.specs.Facts.{Facts, facts}
use Rattle.run_laws.specs.AskLaw.{AsksNode, AskAt, AskLaw}
use Rattle.run_laws.proofs.Facts.{facts_of, path_tells}

module _ (O : Ops) (S : Sound O) where
  asks_node : (n from : ℕ) (s : Spot O) (f : Facts) → f ≡ facts_of O S s → AsksNode n from (facts_of O S s) → AsksNode n from f
  asks_node n from s f e a = record {
    holder = ap (λ (k : Facts). k.places) e ∙ a.holder;
    asks = ap (λ (k : Facts). k.asks) e ∙ a.asks;
    target = ap (λ (k : Facts). k.target) e ∙ a.target;
    unallowed = ap (λ (k : Facts). k.allowed) e ∙ a.unallowed;
    undenied = ap (λ (k : Facts). k.denial) e ∙ a.undenied;
  }

  ask_law : (n : ℕ) (old new : Local O) (s r : Spot O) (what : Deed) (f : Facts) → f ≡ facts_of O S s → Needs O what n old new s r → AskAt what n f
  ask_law n old new s r (Run line i p) f e d = tt
  ask_law n old new s r (Kill line p g poked) f e d = tt
  ask_law n old new s r (Bid line p to) f e d = tt
  ask_law n old new s r (Unsent line p never) f e d = tt
  ask_law n old new s r (Other line input) f e d = tt
  ask_law n old new s r (Steps p k) f e d = tt
  ask_law n old new s r (Sent p k) f e d = tt
  ask_law n old new s r (Heed p) f e d = tt
  ask_law n old new s r (Held p k) f e d = tt
  ask_law n old new s r (Served p manner number value child signal ends more poked) f e d = tt
  ask_law n old new s r (Got p child ended kept) f e d = tt
  ask_law n old new s r (Poked p used) f e d = tt
  ask_law n old new s r (Begin p to reason) f e d = tt
  ask_law n old new s r (Keep p to line) f e d = tt
  ask_law n old new s r (Missed p to line) f e d = tt
  ask_law n old new s r (Again p to place line) f e d = tt
  ask_law n old new s r (Allows p from need) f e d = asks_node n from (Asks from d.is.body n d.is.line need) f (e ∙ ap (facts_of O S) d.is.was) (record { holder = refl; asks = refl; target = refl; unallowed = refl; undenied = refl })
  ask_law n old new s r (Denies p from need free) f e d = asks_node n from (Asks from d.is.body n d.is.line need) f (e ∙ ap (facts_of O S) d.is.was) (record { holder = refl; asks = refl; target = refl; unallowed = refl; undenied = refl })
  ask_law n old new s r (Depart p to) f e d = (ap (λ (k : Facts). k.target) (e ∙ ap (facts_of O S) d.is.was), ap (λ (k : Facts). k.allowed) (e ∙ ap (facts_of O S) d.is.was))
  ask_law n old new s r (Stay p to need free) f e d = ap (λ (k : Facts). k.target) (e ∙ ap (facts_of O S) d.is.was)
  ask_law n old new s r (Land p source) f e d = tt
  ask_law n old new s r (Told p at source hops line poked) f e d = tt
  ask_law n old new s r (Refused p to why line) f e d = tt
  ask_law n old new s r (Closed line) f e d = tt
  ask_law n old new s r (Gossips heard other) f e d = tt
  ask_law n old new s r (Strange p) f e d = tt

  pub path_asking : (h : List (Turn O)) (sp : ℕ → Spot O) (w : World O) → Path O S h sp w → AskLaw (events O h)
  path_asking [] sp w r = tt
  path_asking (t ∷ h) sp v r = (
    ask_law t.event.node (r.0.nodes t.event.node) (v.nodes t.event.node) (r.1 (pid_of t.event.what)) r.4.own t.event.what (facts (pid_of t.event.what) (events O h)) (path_tells O S h r.1 r.0 r.2 (pid_of t.event.what)) r.4.needs,
    path_asking h r.1 r.0 r.2,
  )
