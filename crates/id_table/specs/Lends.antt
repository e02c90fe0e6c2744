-- What a table ends as, where a `&mut` to one of its values is returned.
use Rattle.std.specs.Prelude.{ℕ, List, Option}
use Rattle.std.specs.Borrow.{Lends, Fml, RattleType, MutBor}
use Rattle.id_table.specs.Places.{with_value}
use Rattle.id_table.specs.contracts.IdTable.{the_row}

-- once the borrow r ends, the number has the last value written through r
abbrev pub lends_value : (T : RattleType) → MutBor (List (Option T.Denot)) → ℕ → MutBor T.Denot → Fml
lends_value T table id r = Lends (the_row T) T table r (with_value table.now id)
