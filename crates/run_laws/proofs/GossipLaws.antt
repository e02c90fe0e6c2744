-- Each half is due and goes to another node, each that is heard was sent, and each choice is one that the policy gives.
use Rattle.std.proofs.Common.{◌≡◌, ℕ, ◌<◌, true, false, Option, List, [], ◌∷◌, sym, ap, ◌∙◌, subst}
use Rattle.protocol.specs.Ops.{Ops, Sound}
use Rattle.protocol.specs.Gossip.{Entry, Gossip, Sight, Talk, Silent, Stepping, Talking, talk_of}
use Rattle.protocol.specs.Deeds.{Noted}
use Rattle.protocol.specs.Notes.{Turn}
use Rattle.protocol.specs.Spots.{Spot}
use Rattle.protocol.specs.Does.{NoneRuns, seen}
use Rattle.protocol.specs.Cluster.{World, Goes, events}
use Rattle.protocol.proofs.Stand.{Stands, Path}
use Rattle.protocol.proofs.Talking.{GossipBy, gossip_by}
use Rattle.run_laws.specs.Machine.{MachineState}
use Rattle.run_laws.specs.Schedule.{the_machine}
use Rattle.run_laws.specs.Vectors.{exchanged}
use Rattle.run_laws.specs.GossipLaw.{GossipAt, GossipLaw}
use Rattle.run_laws.specs.ChoiceLaw.{sight_of, ChoiceAt, ChoiceLaw}
use Rattle.run_laws.proofs.HalfTargets.{target_near}
use Rattle.run_laws.proofs.Here.{movable_told}
use Rattle.run_laws.proofs.Resting.{none_free}
use Rattle.run_laws.proofs.Exchanged.{due_same, the_agrees, own_told, heard_there, path_exchanged}

module _ (O : Ops) (S : Sound O) where
  module _ (h : List (Turn O)) (w : World O) (t : Turn O) (v : World O) (sp : ℕ → Spot O) (path : Path O S h sp w) (st : Stands O S sp w) (goes : Goes O w t v) where
    abbrev n : ℕ
    n = t.event.node

    abbrev es : List Noted
    es = events O h

    abbrev m : MachineState O
    m = the_machine O (events O h)

    told : (exchanged O es).nodes n ≡ (w.nodes n).gossip
    told = (path_exchanged O S h sp w path).nodes n

    gossip_at : (talk : Talk) → GossipBy O talk n (w.nodes n) t (v.nodes n) → GossipAt O talk n es
    gossip_at Silent g = tt
    gossip_at Stepping g = λ many. subst (λ (k : Gossip). k.steps < 16) (sym told) (g.1 many)
    gossip_at (Talking false other chosen) g =
        let d = g.talks in
        let own = own_told O S h sp w path st n false other chosen t (v.nodes n) d in
        let far = target_near O n other d.own.load d.own.free (NoneRuns O (w.nodes n)) (w.nodes n).gossip d.sends.0 d.sends.1 in record {
          here = goes.makes.below;
          many = d.sends.0;
          below = far.0;
          apart = far.1;
          due = due_same O n other _ _ _ _ _ _ _ _ (ap (λ (e : Entry). e.load) own) (ap (λ (e : Entry). e.free) own) (none_free O S h sp w path st m (the_agrees O S h sp w path) n) (sym told) d.sends.1;
        }
    gossip_at (Talking true other chosen) g = λ none. empty_not (sym (heard_there O S h w t v sp path st goes (path_exchanged O S h sp w path) other g.talks.stamp g.talks.places g.took) ∙ none)
      where
        empty_not : {x : List (Option Entry)} {xs : List (List (Option Entry))} → x ∷ xs ≡ [] → ⊥
        empty_not e = cc

    module _ (now : (exchanged O (t.event ∷ es)).nodes n ≡ (v.nodes n).gossip) where
      choice_at : (talk : Talk) → GossipBy O talk n (w.nodes n) t (v.nodes n) → ChoiceAt O talk t.event es
      choice_at Silent g = tt
      choice_at Stepping g = tt
      choice_at (Talking heard other chosen) g =
          let d = g.talks in
          let own = own_told O S h sp w path st n heard other chosen t (v.nodes n) d in
          let moves = movable_told O S h sp w path st m (the_agrees O S h sp w path) n d.movable d.can_move in
          let sight : seen O n d.own (v.nodes n).gossip.vector d.movable ≡ sight_of O t.event es = λ i. seen O n (own i) ((sym now) i).vector (moves i) in
          subst (λ (s : Sight). O.Chooses s chosen) sight d.chooses

  pub path_gossip : (h : List (Turn O)) (sp : ℕ → Spot O) (w : World O) → Path O S h sp w → GossipLaw O (events O h)
  path_gossip [] sp w r = tt
  path_gossip (t ∷ h) sp v r = (
    gossip_at h r.0 t v r.1 r.2 r.3 r.4.goes (talk_of t.event.what) (gossip_by O t.event.node (r.0.nodes t.event.node) t (v.nodes t.event.node) t.event.what r.4.goes.makes.does),
    path_gossip h r.1 r.0 r.2,
  )

  pub path_choice : (h : List (Turn O)) (sp : ℕ → Spot O) (w : World O) → Path O S h sp w → ChoiceLaw O (events O h)
  path_choice [] sp w r = tt
  path_choice (t ∷ h) sp v r = (
    choice_at h r.0 t v r.1 r.2 r.3 r.4.goes ((path_exchanged O S (t ∷ h) sp v r).nodes t.event.node) (talk_of t.event.what) (gossip_by O t.event.node (r.0.nodes t.event.node) t (v.nodes t.event.node) t.event.what r.4.goes.makes.does),
    path_choice h r.1 r.0 r.2,
  )
