-- The lines of moves: an event that names a line of the script as that of a move has the process and the target that the line has.
use Rattle.std.specs.Prelude.{List, [], ◌∷◌}
use Rattle.protocol.specs.Ops.{Ops, IsMove}
use Rattle.protocol.specs.Deeds.{ForLine, Deed, Begin, Keep, Missed, Again, Refused, Noted}

module _ (O : Ops) where
  abbrev pub MoveLineAt : Deed → Type 0
  MoveLineAt (Begin p to (ForLine line)) = IsMove O line p to
  MoveLineAt (Keep p to line) = IsMove O line p to
  MoveLineAt (Missed p to line) = IsMove O line p to
  MoveLineAt (Again p to place line) = IsMove O line p to
  MoveLineAt (Refused p to why line) = IsMove O line p to
  MoveLineAt _ = Unit {0}

  abbrev pub MoveLines : List Noted → Type 0
  MoveLines [] = Unit {0}
  MoveLines (e ∷ before) = MoveLineAt e.what × MoveLines before
