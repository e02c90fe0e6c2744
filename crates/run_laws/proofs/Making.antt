-- A turn without a letter is of a kind that applies, and a process runs at a node of the cluster.
use Rattle.std.proofs.Common.{◌≡◌, ◌≢◌, ℕ, ◌<◌, ◌≤◌, ◌⊎◌, inl, inr, Bool, true, false, Option, Some, None, List, [], ◌∷◌, sym, ap, ◌∙◌, subst, arith}
use Rattle.std.specs.Prelude.{ℤ}
use Rattle.call_table.specs.declared.process.End.{End}
use Rattle.node_event.specs.declared.script.Order.{Order}
use Rattle.protocol.specs.Ops.{Ops, Sound}
use Rattle.protocol.specs.Deeds.{ForLine, Chosen, Manner, Did, Broke, Fell, Paused, Deed, Run, Kill, Bid, Unsent, Other, Steps, Sent, Heed, Held, Served, Got, Poked, Begin, Keep, Missed, Again, Allows, Denies, Depart, Stay, Land, Told, Refused, Closed, Gossips, Strange}
use Rattle.protocol.specs.Notes.{Post, Turn, Body, Local, Slot, Running, context}
use Rattle.protocol.specs.Spots.{Spot, Runs, slot_by}
use Rattle.protocol.specs.Does.{Does, Makes, ServedBy, Retries, Ordered, Talks, HalfDueTo, NoneRuns}
use Rattle.protocol.specs.Gossip.{Entry, Choice}
use Rattle.protocol.specs.Cluster.{World, Fresh}
use Rattle.protocol.specs.Rests.{Kind, Retry, RunOn, NextLine, SendHalf, LineReady, HalfReady, Applies}
use Rattle.protocol.proofs.Process.{cond_here}
use Rattle.protocol.proofs.Stand.{Stands, Path}

module _ (O : Ops) (S : Sound O) where
  -- a letter is none
  off : {A : Type 0} (l : Post O) (o : Option (Post O)) → o ≡ Some l → o ≡ None → A
  off l o e f = absurd cc

  some_not : {A : Type 0} (a : A) (o : Option A) → o ≡ Some a → o ≢ None
  some_not a o e f = cc

  ready_line : (line : ℕ) (o : Order) (ps : List ℕ) (old new : Local O) → Ordered O line o ps old new → LineReady O old
  ready_line line o ps old new d = record { line = record { line = line; order = o }; next = d.next; enabled = d.enabled }

  module _ (n : ℕ) (old : Local O) (t : Turn O) (new : Local O) (free : t.taken ≡ None) where
    abbrev Result : Type 0
    Result = (k : Kind) × Applies O k n old

    again : (manner : Manner) (p : ℕ) (number : Option ℕ) (value : Option ℤ) (child signal : Option ℕ) (ends : Option End) (more : Bool) (poked : List ℕ) → (d : Retries O n p manner number value child signal ends more poked old t new) → ((O.serve old.kernel p d.request ≢ None) ⊎ (O.lowest old.kernel p ≢ None)) → Result
    again manner p number value child signal ends more poked d ready = (Retry p, (d.home, record { call = record { from = d.from; request = d.request }; held = d.was; ready = ready }))

    served_kind : (manner : Manner) (p : ℕ) (number : Option ℕ) (value : Option ℤ) (child signal : Option ℕ) (ends : Option End) (more : Bool) (poked : List ℕ) → ServedBy O manner n p number value child signal ends more poked old t new → Result
    served_kind Did p number value child signal ends more poked (inl d) = off _ _ d.base.took free
    served_kind Did p number value child signal ends more poked (inr d) = again Did p number value child signal ends more poked d (inl (some_not d.acts.0 (O.serve old.kernel p d.request) d.acts.1))
    served_kind Broke p number value child signal ends more poked (inl d) = off _ _ d.base.took free
    served_kind Broke p number value child signal ends more poked (inr d) = again Broke p number value child signal ends more poked d (inr (some_not d.acts.0 (O.lowest old.kernel p) d.acts.1))
    served_kind Fell p number value child signal ends more poked d = off _ _ d.base.took free
    served_kind Paused p number value child signal ends more poked d = off _ _ d.base.took free

    ready_half : (other : ℕ) (chosen : Option Choice) → n < O.nodes → Talks O false n other chosen old t new → HalfReady O n other old
    ready_half other chosen below d = record {
      below = below;
      many = d.sends.0;
      load = d.own.load;
      loaded = d.loaded;
      used = d.used;
      in_use = d.in_use;
      due = subst (λ (k : ℕ). HalfDueTo O n other d.own.load k (NoneRuns O old) old.gossip) (ap (λ (e : Entry). e.free) d.own_is) d.sends.1;
    }

    kind_at : (what : Deed) → n < O.nodes → Does O what n old t new → Result
    kind_at (Run line i p) below d = (NextLine, (d.home, ready_line line _ _ old new d.order))
    kind_at (Kill line p g poked) below d = (NextLine, (d.home, ready_line line _ _ old new d.order))
    kind_at (Bid line p to) below d = (NextLine, (d.home, ready_line line _ _ old new d.order))
    kind_at (Unsent line p never) below d = (NextLine, (d.home, ready_line line _ _ old new d.order))
    kind_at (Other line input) below d = (NextLine, (d.home, ready_line line _ _ old new d.order))
    kind_at (Steps p k) below d = (RunOn p, (d.body, d.was))
    kind_at (Sent p k) below d = (RunOn p, (d.body, d.was))
    kind_at (Heed p) below d = (RunOn p, (d.body, d.was))
    kind_at (Held p k) below d = off _ _ d.base.took free
    kind_at (Served p manner number value child signal ends more poked) below d = served_kind manner p number value child signal ends more poked d
    kind_at (Got p child ended kept) below d = off _ _ d.base.took free
    kind_at (Poked p true) below d = off _ _ d.base.took free
    kind_at (Poked p false) below d = off _ _ d.base.took free
    kind_at (Begin p to (ForLine line)) below d = off _ _ d.base.took free
    kind_at (Begin p to (Chosen false other)) below d = (SendHalf other, ready_half other _ below d.why)
    kind_at (Begin p to (Chosen true other)) below d = off _ _ d.base.took free
    kind_at (Keep p to line) below d = off _ _ d.base.took free
    kind_at (Missed p to line) below d = off _ _ d.base.took free
    kind_at (Again p to place line) below d = off _ _ d.base.took free
    kind_at (Allows p from need) below d = off _ _ d.base.took free
    kind_at (Denies p from need x) below d = off _ _ d.base.took free
    kind_at (Depart p to) below d = off _ _ d.base.took free
    kind_at (Stay p to need x) below d = off _ _ d.base.took free
    kind_at (Land p source) below d = off _ _ d.base.took free
    kind_at (Told p at source hops line poked) below d = off _ _ d.base.took free
    kind_at (Refused p to why line) below (inl d) = off _ _ d.base.took free
    kind_at (Refused p to why line) below (inr d) = off _ _ d.base.took free
    kind_at (Closed line) below d = off _ _ d.base.took free
    kind_at (Gossips false other) below d = (SendHalf other, ready_half other _ below d.talks)
    kind_at (Gossips true other) below d = off _ _ d.base.took free
    kind_at (Strange p) below d = off _ _ d.base.took free

    pub kind_of : Makes O n old t new → Result
    kind_of makes = kind_at t.event.what makes.below makes.does

  -- a node that the cluster does not have does nothing
  pub beyond : (h : List (Turn O)) (sp : ℕ → Spot O) (w : World O) → Path O S h sp w → (n : ℕ) → O.nodes ≤ n → Fresh O n (w.nodes n)
  beyond [] sp w r n most = r.0.nodes n
  beyond (t ∷ h) sp v r n most = subst (Fresh O n) (sym (r.4.goes.elsewhere n (λ e. (let z = r.4.goes.makes.below in omega (arith, z, e, most))))) (beyond h r.1 r.0 r.2 n most)

  pub below : (h : List (Turn O)) (sp : ℕ → Spot O) (w : World O) → Path O S h sp w → Stands O S sp w → (p n : ℕ) (b : Body O) → sp p ≡ Runs n b → n < O.nodes
  below h sp w path st p n b e = go (Rattle.std.proofs.lemmas.Bool.Decides.leb_tells O.nodes n)
    where
      here : ((w.nodes n).slots p).context ≡ Some (context O b Running)
      here = ap (λ (k : Slot O). k.context) ((st.at p).slots n) ∙ (ap (λ (s : Spot O). (slot_by O s n).context) e ∙ cond_here n (Some (context O b Running)) None)

      go : ((lib.Dec.leb O.nodes n ≡ true) × (O.nodes ≤ n)) ⊎ ((lib.Dec.leb O.nodes n ≡ false) × (n < O.nodes)) → n < O.nodes
      go (inl x) = let z : None ≡ Some (context O b Running) = sym (ap (λ (k : Slot O). k.context) ((beyond h sp w path n x.1).slots p)) ∙ here in absurd cc
      go (inr x) = x.1
