-- What a side ends as, where a `&mut` to one of its carriers is returned.
use Rattle.std.specs.Prelude.{ℕ, List, Option, slice_set}
use Rattle.std.specs.Borrow.{LendsIf, Fml, RattleType, MutBor}
use Rattle.node_links.specs.declared.side.Towards.{Towards}
use Rattle.node_links.specs.contracts.side.Towards as towards_row
use Rattle.node_links.specs.contracts.side.Side as side_row

-- once the borrow r ends, the place has the last value written through r
abbrev pub lends_towards : (C : RattleType) → MutBor (List (Towards C.Denot)) → ℕ → Option (MutBor (Towards C.Denot)) → Fml
lends_towards C side at r = LendsIf (side_row.the_row C) (towards_row.the_row C) side r (slice_set side.now at) side.now
