-- Script: the commands are the lines of the script that do something, in their order, each where it is enabled; and every event is at a node of the cluster.
use Rattle.std.specs.Prelude.{◌≡◌, ◌≢◌, ℕ, ◌+◌, ◌<◌, ◌≤◌, ◌==◌, ◌⊎◌, slice_get, true, cond, Option, Some, None, List, [], ◌∷◌}
use Rattle.node_event.specs.declared.script.Order.{Order}
use Rattle.node_event.specs.declared.script.Order.TheVariants as order
use Rattle.protocol.specs.Ops.{Ops}
use Rattle.protocol.specs.Deeds.{Text, Finish, Nothing, Deed, Run, Kill, Bid, Unsent, Other, Held, Served, Told, Again, Closed, Strange, Noted}
use Rattle.protocol.specs.Home.{live_of, HasEnded}
use Rattle.run_laws.specs.Machine.{MachineState}
use Rattle.run_laws.specs.Schedule.{machine_at, With}
use Rattle.run_laws.specs.Facts.{is_paused, facts, is_held}

abbrev pub line_of : Deed → Option ℕ
line_of (Run line i p) = Some line
line_of (Kill line p signal poked) = Some line
line_of (Bid line p to) = Some line
line_of (Unsent line p never) = Some line
line_of (Other line input) = Some line
line_of _ = None

abbrev pub one_more : Option ℕ → ℕ → ℕ
one_more None k = k
one_more (Some line) k = k + 1

-- how many commands the events have
abbrev pub commands : List Noted → ℕ
commands [] = 0
commands (e ∷ before) = one_more (line_of e.what) (commands before)

-- the pids that commands launched
abbrev pub launched_by : Deed → List ℕ → List ℕ
launched_by (Run line i p) ps = p ∷ ps
launched_by _ ps = ps

abbrev pub launched_in : List Noted → List ℕ
launched_in [] = []
launched_in (e ∷ before) = launched_by e.what (launched_in before)

-- how many calls of a process were served, pauses left out
abbrev pub calls_by : Deed → ℕ → ℕ → ℕ
calls_by (Served p manner number value child signal ends more poked) q k = cond (is_paused manner) k (cond (q == p) (k + 1) k)
calls_by _ q k = k

abbrev pub calls_served : ℕ → List Noted → ℕ
calls_served q [] = 0
calls_served q (e ∷ before) = calls_by e.what q (calls_served q before)

-- the event is what such a line does
abbrev pub Suits : Deed → Order → Type 0
Suits (Run line i p) (order.Run words) = Unit {0}
Suits (Kill line p signal poked) (order.Kill q s) = (p ≡ q) × (signal ≡ s)
Suits (Bid line p to) (order.Move q t) = (p ≡ q) × (to ≡ t)
Suits (Unsent line p never) (order.Move q t) = p ≡ q
Suits (Other line (Text i)) (order.Feed text) = Unit {0}
Suits (Other line Finish) order.Eof = Unit {0}
Suits (Other line Nothing) (order.Wait p) = Unit {0}
Suits (Other line Nothing) (order.After p k) = Unit {0}
Suits (Other line Nothing) (order.Held p) = Unit {0}
Suits (Other line Nothing) (order.Slots c) = Unit {0}
Suits _ _ = ⊥

-- the events that home alone makes
abbrev pub AtHome : Deed → ℕ → Type 0
AtHome (Held p number) n = n ≡ 0
AtHome (Served p manner number value child signal ends more poked) n = n ≡ 0
AtHome (Told p at source hops line poked) n = n ≡ 0
AtHome (Again p to place line) n = n ≡ 0
AtHome (Closed line) n = n ≡ 0
AtHome (Strange p) n = ⊥
AtHome _ n = Unit {0}

module _ (O : Ops) where
  -- a line of the script is enabled
  abbrev pub Enabled : Order → List Noted → MachineState O → Type 0
  Enabled (order.Run words) before m = O.launch m.kernel ≢ None
  Enabled (order.Wait p) before m = HasEnded O m.kernel p
  Enabled (order.After p k) before m = (k ≤ calls_served p before) ⊎ HasEnded O m.kernel p
  Enabled (order.Held p) before m = (is_held (facts p before) ≡ true) ⊎ HasEnded O m.kernel p
  Enabled (order.Slots c) before m = live_of (O.live m.kernel) (launched_in before) < c
  Enabled _ before m = Unit {0}

  -- the pid of a launch is the one that the machine gives
  abbrev pub LaunchedPid : Deed → MachineState O → Type 0
  LaunchedPid (Run line i p) m = p ≡ O.count m.kernel + 1
  LaunchedPid _ m = Unit {0}

  pub record IsNext (line : ℕ) (what : Deed) (n : ℕ) (before : List Noted) (m : MachineState O) : Type 0 where
    pub home : n ≡ 0
    pub asked : Order
    pub next : slice_get O.script (commands before) ≡ Some (record { line = line; order = asked })
    pub suits : Suits what asked
    pub enabled : Enabled asked before m
    pub pid : LaunchedPid what m

  abbrev pub CommandAt : Option ℕ → Deed → ℕ → List Noted → MachineState O → Type 0
  CommandAt None what n before m = Unit {0}
  CommandAt (Some line) what n before m = IsNext line what n before m

  pub record ScriptAt (e : Noted) (before : List Noted) : Type 0 where
    pub below : e.node < O.nodes
    pub at_home : AtHome e.what e.node
    pub command : With (machine_at O before) (λ m. CommandAt (line_of e.what) e.what e.node before m)

  abbrev pub ScriptLaw : List Noted → Type 0
  ScriptLaw [] = Unit {0}
  ScriptLaw (e ∷ before) = ScriptAt e before × ScriptLaw before
