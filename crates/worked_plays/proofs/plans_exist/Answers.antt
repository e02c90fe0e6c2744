use Rattle.worked_plays.proofs.Plans.{hello_is}
use Rattle.worked_plays.proofs.plans_exist.Goals as goal

pub returns : goal.returns
returns c = hello_is
