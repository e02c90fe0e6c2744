-- What a run of one node is: it tells nothing of itself, and no process begins to move.
use Rattle.std.specs.Prelude.{◌≡◌, List}
use Rattle.protocol.specs.Deeds.{Deed, Begin, Keep, Gossips, Noted}
use Rattle.run_laws.specs.Carried.{Each}

abbrev pub StaysHome : Deed → Type 0
StaysHome (Begin p to reason) = ⊥
StaysHome (Keep p to line) = ⊥
StaysHome (Gossips heard other) = ⊥
StaysHome _ = Unit {0}

-- every event is at home, and none begins a move, keeps one, or is a half
abbrev pub AllHome : List Noted → Type 0
AllHome es = Each (λ (e : Noted). (e.node ≡ 0) × StaysHome e.what) es
