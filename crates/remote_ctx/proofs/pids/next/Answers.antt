use Rattle.std.proofs.Common.{refl}
use Rattle.remote_ctx.proofs.Rising.{next_cut, next_first, some_of}
use Rattle.remote_ctx.proofs.pids.next.Goals as goal

pub returns-then-place-pids : goal.returns-then-place-pids
returns-then-place-pids c = next_cut _ _ _ _ c.requires c.cut-place.ensures c.if-place-pids.true refl

pub returns-else-is_empty : goal.returns-else-is_empty
returns-else-is_empty c = next_first _ _ _ _ c.requires c.cut-place.ensures c.if-place-pids.false (some_of _ _ c.is_empty.ensures c.if-is_empty.false) refl
