use Rattle.remote_ctx.proofs.Rising.{sought}
use Rattle.remote_ctx.proofs.pids.search.Goals as goal

pub returns : goal.returns
returns c = sought _ _ _ c.requires c.binary_search.ensures.position
