-- Where home believes a process to be: where it was told of with the most hops, else where it was born.
use Rattle.std.specs.Prelude.{ℕ, ◌==◌, nat_lt, cond, Option, Some, None, List, [], ◌∷◌}
use Rattle.protocol.specs.Ops.{is_child}
use Rattle.protocol.specs.Deeds.{Deed, Run, Served, Told, Noted}
use Rattle.protocol.specs.Notes.{Believed}
use Rattle.run_laws.specs.Facts.{Place, Node, facts}

-- of equal hops the first one told
abbrev pub better : Believed → Option Believed → Option Believed
better new None = Some new
better new (Some old) = cond (nat_lt old.hops new.hops) (Some new) (Some old)

abbrev pub best_by : Deed → ℕ → Option Believed → Option Believed
best_by (Told p at source hops line poked) q old = cond (q == p) (better (record { place = at; hops = hops }) old) old
best_by _ q old = old

-- the `told` of a process with the most hops
abbrev pub best_told : ℕ → List Noted → Option Believed
best_told q [] = None
best_told q (e ∷ before) = best_by e.what q (best_told q before)

abbrev pub hops_of : Option Believed → ℕ
hops_of None = 0
hops_of (Some b) = b.hops

abbrev pub most_hops : ℕ → List Noted → ℕ
most_hops q es = hops_of (best_told q es)

-- the node of the holder
abbrev pub node_of : List Place → ℕ
node_of (Node n ∷ []) = n
node_of _ = 0

-- a launch is at home, and a fork at the node of the parent's holder
abbrev pub birth_by : Deed → ℕ → ℕ → ℕ → ℕ
birth_by (Run line i p) q parent old = cond (q == p) 0 old
birth_by (Served p manner number value child signal ends more poked) q parent old = cond (is_child child q) parent old
birth_by _ q parent old = old

abbrev pub parent_of : Deed → ℕ
parent_of (Served p manner number value child signal ends more poked) = p
parent_of _ = 0

abbrev pub birth : ℕ → List Noted → ℕ
birth q [] = 0
birth q (e ∷ before) = birth_by e.what q (node_of (facts (parent_of e.what) before).places) (birth q before)

abbrev pub place_or : Option Believed → ℕ → ℕ
place_or None born = born
place_or (Some b) born = b.place

abbrev pub believed_place : ℕ → List Noted → ℕ
believed_place q es = place_or (best_told q es) (birth q es)
