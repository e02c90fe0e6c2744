use Rattle.std.proofs.Common.{refl}
use Rattle.run_laws.specs.Histories.{hello}
use Rattle.run_laws.proofs.EndRuns.{hello_sound}
use Rattle.run_laws.proofs.OneNode.{stays_home}
use Rattle.run_laws.proofs.runs_of_one_node.Goals as goal

pub returns : goal.returns
returns c = λ h w r. stays_home hello hello_sound refl h w r
