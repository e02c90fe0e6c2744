use Rattle.std.proofs.Common.{refl}
use Rattle.mosix_shell.proofs.Telling.{home_is}
use Rattle.mosix_shell.proofs.left.home_of.Goals as goal

pub returns : goal.returns
returns c = home_is c.args.nodes.now c.index-nodes-0.result c.in-Some.home.now _ c.requires c.index-nodes-0.is c.in-Some.ensures refl
