-- All that the events of a run tell of one process. The events stand the newest first.
use Rattle.std.specs.Prelude.{ℕ, ◌+◌, ◌==◌, ◌&&◌, ◌||◌, Bool, true, false, not, cond, Option, Some, None, List, [], ◌∷◌}
use Rattle.protocol.specs.Ops.{is_child}
use Rattle.protocol.specs.Deeds.{Manner, Paused, KeptTold, line_for, Deed, Run, Sent, Heed, Held, Served, Got, Poked, Begin, Keep, Allows, Denies, Depart, Stay, Land, Noted, pid_of, child_of}

-- at a node, between two nodes, or in the answer of the fork that makes it
pub data Place : Type 0 where
  Node : (node : ℕ) → Place
  Link : (source target : ℕ) → Place
  Unborn : Place

abbrev pub same_place : Place → Place → Bool
same_place (Node n) (Node m) = n == m
same_place (Link a b) (Link c d) = (a == c) && (b == d)
same_place Unborn Unborn = true
same_place _ _ = false

-- what is absent is not removed
abbrev pub without : Place → List Place → List Place
without x [] = []
without x (y ∷ ys) = cond (same_place x y) ys (y ∷ without x ys)

-- a `deny`: its node, and the pages that were wanted and free
pub record Denial : Type 0 where
  pub node : ℕ
  pub need : ℕ
  pub free : ℕ

pub record Facts : Type 0 where
  pub places : List Place
  -- since its `sent` or `heed`, until its `got`: whether it pauses, how often it was served and held, the child that its answer brings, the target of its kept move, and whether a signal is still deliverable
  pub waits : Bool
  pub paused : Bool
  pub served : ℕ
  pub held : ℕ
  pub child : Option ℕ
  pub kept : Option ℕ
  pub more : Bool
  -- since it began to move, until its `stay` or `depart`: the target, whether that has allowed it, and its denial
  pub asks : Bool
  pub target : Option ℕ
  pub allowed : Bool
  pub denial : Option Denial
  -- a `heed` is owed
  pub owes : Bool
  -- the script's line that its move is for, until the move is over
  pub line : Option ℕ

abbrev pub no_facts : Facts
no_facts = record { places = []; waits = false; paused = false; served = 0; held = 0; child = None; kept = None; more = false; asks = false; target = None; allowed = false; denial = None; owes = false; line = None }

abbrev pub is_paused : Manner → Bool
is_paused Paused = true
is_paused _ = false

-- a kept move that begins makes its process ask
abbrev pub asks_by : Option KeptTold → Bool → Bool
asks_by None b = b
asks_by (Some k) b = cond k.ends b true

abbrev pub target_by : Option KeptTold → Option ℕ → Option ℕ
target_by None t = t
target_by (Some k) t = cond k.ends t (Some k.to)

-- what an event at a node tells of its own process
abbrev pub fact_own : Deed → ℕ → Facts → Facts
fact_own (Run line i p) n f = record f { places = Node n ∷ f.places }
fact_own (Sent p k) n f = record f { waits = true; paused = false; served = 0; held = 0; child = None; kept = None; more = false; line = None }
fact_own (Heed p) n f = record f { waits = true; paused = true; served = 0; held = 0; child = None; kept = None; more = false; owes = false; line = None }
fact_own (Held p k) n f = record f { held = f.held + 1 }
fact_own (Served p manner number value child signal ends more poked) n f = record f { served = f.served + 1; child = child; more = more }
fact_own (Got p child ended kept) n f = record f { places = cond ended (without (Node n) f.places) f.places; waits = false; paused = false; served = 0; held = 0; child = None; kept = None; more = false; asks = asks_by kept f.asks; target = target_by kept f.target; owes = cond ended false (f.more || f.owes); line = cond ended None f.line }
fact_own (Poked p used) n f = record f { owes = used || f.owes }
fact_own (Begin p to reason) n f = record f { asks = true; target = Some to; line = line_for reason }
fact_own (Keep p to line) n f = record f { kept = Some to; line = Some line }
fact_own (Allows p from need) n f = record f { allowed = true }
fact_own (Denies p from need free) n f = record f { denial = Some (record { node = n; need = need; free = free }) }
fact_own (Depart p to) n f = record f { places = Link n to ∷ without (Node n) f.places; asks = false; target = None; allowed = false }
fact_own (Stay p to need free) n f = record f { asks = false; target = None; denial = None; line = None }
fact_own (Land p source) n f = record f { places = Node n ∷ without (Link source n) f.places; owes = false; line = None }
fact_own _ n f = f

-- and of the child that it names
abbrev pub fact_child : Deed → ℕ → Facts → Facts
fact_child (Served p manner number value child signal ends more poked) n f = record f { places = Unborn ∷ f.places }
fact_child (Got p child ended kept) n f = record f { places = Node n ∷ without Unborn f.places }
fact_child _ n f = f

abbrev pub facts : ℕ → List Noted → Facts
facts p [] = no_facts
facts p (e ∷ before) = cond (p == pid_of e.what) (fact_own e.what e.node (facts p before)) (cond (is_child (child_of e.what) p) (fact_child e.what e.node (facts p before)) (facts p before))

-- a call of it is held
abbrev pub is_held : Facts → Bool
is_held f = cond (f.served == 0) (not (f.held == 0)) false
