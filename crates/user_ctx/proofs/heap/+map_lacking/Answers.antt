use Rattle.std.proofs.Common.{sym}
use Rattle.user_ctx.proofs.Heaps.{undone}
use Rattle.user_ctx.proofs.heap.+map_lacking.Goals as goal

pub returns-in-Err-map_lacking-clause-err : goal.returns-in-Err-map_lacking-clause-err
returns-in-Err-map_lacking-clause-err t c = undone _ _ _ _ _ _ (sym c.if-is_mapped.ensures.is) c.in-Ok.ensures.ok c.in-Err-map_lacking.ensures.err c.unmap.ensures.new
