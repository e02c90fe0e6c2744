use Rattle.run_laws.proofs.EndStories.{hello_over, reader_over, keeper_over, reached_over, full_over, before_over}
use Rattle.run_laws.proofs.worked_ends.Goals as goal

pub returns-clause-done : goal.returns-clause-done
returns-clause-done c = hello_over

pub returns-clause-stuck : goal.returns-clause-stuck
returns-clause-stuck c = reader_over

pub returns-clause-open : goal.returns-clause-open
returns-clause-open c = keeper_over

pub returns-clause-more : goal.returns-clause-more
returns-clause-more c = reached_over

pub returns-clause-full : goal.returns-clause-full
returns-clause-full c = full_over

pub returns-clause-before : goal.returns-clause-before
returns-clause-before c = before_over
