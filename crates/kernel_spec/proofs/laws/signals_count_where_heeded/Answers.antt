use Rattle.kernel_spec.proofs.KernelFacts.{live_raise, quiet_raise, deliverable_lives, take_of_none}
use Rattle.kernel_spec.proofs.laws.signals_count_where_heeded.Goals as goal

pub returns-clause-live : goal.returns-clause-live
returns-clause-live c = live_raise

pub returns-clause-quiet : goal.returns-clause-quiet
returns-clause-quiet c = quiet_raise

pub returns-clause-lives : goal.returns-clause-lives
returns-clause-lives c = deliverable_lives

pub returns-clause-none : goal.returns-clause-none
returns-clause-none c = take_of_none
