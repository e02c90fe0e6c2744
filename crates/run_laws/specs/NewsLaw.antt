-- News: home asks again for a move only of a live process, at its believed place, and only where a landing with more hops was told since it last asked for that line.
use Rattle.std.specs.Prelude.{◌≡◌, ℕ, ◌==◌, ◌&&◌, ◌||◌, nat_lt, Bool, true, false, not, Option, Some, None, List, [], ◌∷◌}
use Rattle.protocol.specs.Ops.{Ops}
use Rattle.protocol.specs.Deeds.{Deed, Run, Kill, Bid, Unsent, Other, Again, Told, Noted}
use Rattle.protocol.specs.Notes.{Believed}
use Rattle.run_laws.specs.Machine.{MachineState}
use Rattle.run_laws.specs.Schedule.{machine_at, With}
use Rattle.run_laws.specs.Believed.{best_told, believed_place}

-- more hops than were told before
abbrev pub more_than : ℕ → Option Believed → Bool
more_than hops None = true
more_than hops (Some b) = nat_lt b.hops hops

abbrev pub tells_more : Deed → ℕ → List Noted → Bool
tells_more (Told p at source hops line poked) q before = (q == p) && more_than hops (best_told q before)
tells_more _ q before = false

-- a `command` or an `again` of this line
abbrev pub asks_for : Deed → ℕ → Bool
asks_for (Run line i p) l = line == l
asks_for (Kill line p signal poked) l = line == l
asks_for (Bid line p to) l = line == l
asks_for (Unsent line p never) l = line == l
asks_for (Other line input) l = line == l
asks_for (Again p to place line) l = line == l
asks_for _ l = false

-- more of process q was told since the line was last asked for
abbrev pub has_news : ℕ → ℕ → List Noted → Bool
has_news q line [] = false
has_news q line (e ∷ before) = tells_more e.what q before || (not (asks_for e.what line) && has_news q line before)

module _ (O : Ops) where
  pub record AsksAgain (p place line : ℕ) (before : List Noted) (m : MachineState O) : Type 0 where
    pub live : O.live m.kernel p ≡ true
    pub news : has_news p line before ≡ true
    pub place_is : place ≡ believed_place p before

  abbrev pub NewsAt : Deed → List Noted → MachineState O → Type 0
  NewsAt (Again p to place line) before m = AsksAgain p place line before m
  NewsAt _ before m = Unit {0}

  abbrev pub NewsLaw : List Noted → Type 0
  NewsLaw [] = Unit {0}
  NewsLaw (e ∷ before) = With (machine_at O before) (λ m. NewsAt e.what before m) × NewsLaw before
