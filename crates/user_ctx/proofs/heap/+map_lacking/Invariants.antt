use Rattle.std.proofs.Common.{◌-◌}
use Rattle.user_ctx.proofs.heap.+map_lacking.Given as goal

abbrev pub decreases-map_lacking : goal.decreases-map_lacking
decreases-map_lacking l = l.to - l.from
