use Rattle.kernel_spec.proofs.KernelFacts.{live_launch, live_launched, quiet_launch, few_launch}
use Rattle.kernel_spec.proofs.laws.launches_add_one.Goals as goal

pub returns-clause-live : goal.returns-clause-live
returns-clause-live c = live_launch

pub returns-clause-new : goal.returns-clause-new
returns-clause-new c = live_launched

pub returns-clause-quiet : goal.returns-clause-quiet
returns-clause-quiet c = quiet_launch

pub returns-clause-few : goal.returns-clause-few
returns-clause-few c = few_launch
