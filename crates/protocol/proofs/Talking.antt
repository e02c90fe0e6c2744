-- What each event is to gossip: it leaves what its node keeps of it, counts a quantum of steps, or is a half that is sent or heard.
use Rattle.std.proofs.Common.{◌≡◌, ◌≢◌, ℕ, ◌+◌, ◌<◌, ◌≤◌, inl, inr, Bool, true, false, cond, Option, List, [], ◌∷◌, ◌++◌, refl, sym, ap, ◌∙◌, subst, arith}
use Rattle.std.specs.Prelude.{ℤ, nat_lt}
use Rattle.std.proofs.lemmas.Bool.Decides.{nat_tests}
use Rattle.call_table.specs.declared.process.End.{End}
use Rattle.protocol.specs.Ops.{Ops}
use Rattle.protocol.specs.Gossip.{Entry, Gossip, one_step, other_at, Choice, Talk, Silent, Stepping, Talking, talk_of}
use Rattle.protocol.specs.Deeds.{Manner, Did, Broke, Fell, Paused, ForLine, Chosen, Deed, Run, Kill, Bid, Unsent, Other, Steps, Sent, Heed, Held, Served, Got, Poked, Begin, Keep, Missed, Again, Allows, Denies, Depart, Stay, Land, Told, Refused, Closed, Gossips, Strange}
use Rattle.protocol.specs.Notes.{Note, Half, Post, Turn, Local}
use Rattle.protocol.specs.Does.{Does, ServedBy, NoneRuns, HalfDueTo, Talks, half_taken, half_posts}

pub other_apart : (n k : ℕ) → other_at n k ≢ n
other_apart n k = go (nat_lt k n) refl
  where
    go : (b : Bool) → nat_lt k n ≡ b → cond b k (k + 1) ≢ n
    go true e x = grind (arith, nat_tests, e, x)
    go false e x = grind (arith, nat_tests, e, x)

module _ (O : Ops) where
  -- no half is among these letters
  abbrev pub NotHalf : Note O → Type 0
  NotHalf (Half places) = ⊥
  NotHalf _ = Unit {0}

  abbrev pub NoHalves : List (Post O) → Type 0
  NoHalves [] = Unit {0}
  NoHalves (l ∷ ls) = NotHalf l.note × NoHalves ls

  -- a half that is heard is the letter that is taken, and one that is sent is the first that is posted
  pub record Talked (heard : Bool) (n other : ℕ) (chosen : Option Choice) (old : Local O) (t : Turn O) (new : Local O) : Type 0 where
    pub talks : Talks O heard n other chosen old t new
    pub took : t.taken ≡ half_taken O heard n other talks.stamp talks.places
    pub rest : List (Post O)
    pub none : NoHalves rest
    pub posts : t.posted ≡ half_posts O heard n other t.event.stamp talks.places ++ rest

  abbrev pub GossipBy : Talk → ℕ → Local O → Turn O → Local O → Type 0
  GossipBy Silent n old t new = new.gossip ≡ old.gossip
  GossipBy Stepping n old t new = (new.gossip ≡ one_step old.gossip) × (2 ≤ O.nodes → old.gossip.steps < 16)
  GossipBy (Talking heard other chosen) n old t new = Talked heard n other chosen old t new

  module _ (n : ℕ) (old : Local O) (t : Turn O) (new : Local O) where
    served_gossip : (manner : Manner) (p : ℕ) (number : Option ℕ) (value : Option ℤ) (child signal : Option ℕ) (ends : Option End) (more : Bool) (poked : List ℕ) → ServedBy O manner n p number value child signal ends more poked old t new → new.gossip ≡ old.gossip
    served_gossip Did p number value child signal ends more poked (inl d) = d.gossip
    served_gossip Did p number value child signal ends more poked (inr d) = d.gossip
    served_gossip Broke p number value child signal ends more poked (inl d) = d.gossip
    served_gossip Broke p number value child signal ends more poked (inr d) = d.gossip
    served_gossip Fell p number value child signal ends more poked d = d.gossip
    served_gossip Paused p number value child signal ends more poked d = d.gossip

    pub gossip_by : (what : Deed) → Does O what n old t new → GossipBy (talk_of what) n old t new
    gossip_by (Run line i p) d = d.gossip
    gossip_by (Kill line p s poked) d = d.gossip
    gossip_by (Bid line p to) d = d.gossip
    gossip_by (Unsent line p never) d = d.gossip
    gossip_by (Other line input) d = d.gossip
    gossip_by (Steps p k) d = (d.still.gossip, d.no_half)
    gossip_by (Sent p k) d = d.still.gossip
    gossip_by (Heed p) d = d.still.gossip
    gossip_by (Held p k) d = d.still.gossip
    gossip_by (Got p child ended kept) d = d.still.gossip
    gossip_by (Poked p true) d = d.still.gossip
    gossip_by (Poked p false) d = d.still.gossip
    gossip_by (Keep p to line) d = d.still.gossip
    gossip_by (Missed p to line) d = d.still.gossip
    gossip_by (Again p to place line) d = d.still.gossip
    gossip_by (Allows p from need) d = d.still.gossip
    gossip_by (Denies p from need free) d = d.still.gossip
    gossip_by (Depart p to) d = d.still.gossip
    gossip_by (Stay p to need free) d = d.still.gossip
    gossip_by (Land p source) d = d.still.gossip
    gossip_by (Told p at source hops line poked) d = d.gossip
    gossip_by (Closed line) d = d.still.gossip
    gossip_by (Strange p) d = d.still.gossip
    gossip_by (Served p manner number value child signal ends more poked) d = served_gossip manner p number value child signal ends more poked d
    gossip_by (Begin p to (ForLine line)) d = d.why.gossip
    gossip_by (Begin p to (Chosen false other)) d = record { talks = d.why; took = d.base.took; rest = _; none = (tt, tt); posts = d.base.posts }
    gossip_by (Begin p to (Chosen true other)) d = record { talks = d.why; took = d.base.took; rest = _; none = (tt, tt); posts = d.base.posts }
    gossip_by (Refused p to why line) (inl d) = d.still.gossip
    gossip_by (Refused p to why line) (inr d) = d.still.gossip
    gossip_by (Gossips false other) d = record { talks = d.talks; took = d.base.took; rest = []; none = tt; posts = d.base.posts }
    gossip_by (Gossips true other) d = record { talks = d.talks; took = d.base.took; rest = []; none = tt; posts = d.base.posts }

    -- its own entry is of its node
    pub own_below : (heard : Bool) (other : ℕ) (chosen : Option Choice) → n < O.nodes → (d : Talks O heard n other chosen old t new) → d.own.node < O.nodes
    own_below heard other chosen below d = subst (λ (k : ℕ). k < O.nodes) (sym (ap (λ (e : Entry). e.node) d.own_is)) below

    -- a half that is sent goes to another node
    due_apart : (other load free : ℕ) (P : Type 0) (g : Gossip) → HalfDueTo O n other load free P g → n ≢ other
    due_apart other load free P g (inl due) e = other_apart n g.sent (sym due.1 ∙ sym e)
    due_apart other load free P g (inr due) e = other_apart n _ (sym due.1 ∙ sym e)

    pub half_apart : (other : ℕ) (chosen : Option Choice) → Talks O false n other chosen old t new → n ≢ other
    half_apart other chosen d = due_apart other d.own.load d.own.free (NoneRuns O old) old.gossip d.sends.1
