use Rattle.std.proofs.Common.{ap}
use Rattle.page_set.specs.Tree.{page_of}
use Rattle.page_set.proofs.tree.zero_frame.Goals as goal

pub returns : goal.returns
returns c = ap page_of c.in_ok-new.ensures.ok
