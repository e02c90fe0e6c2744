use Rattle.std.proofs.Common.{refl}
use Rattle.run_laws.proofs.EndRuns.{hello_turns, hello_reached, hello_rest, reader_turns, reader_reached, reader_rest, keeper_turns, keeper_reached, keeper_rest}
use Rattle.run_laws.proofs.ends_exist.Goals as goal

pub returns-clause-done : goal.returns-clause-done
returns-clause-done c = (hello_turns, _, hello_reached, hello_rest, refl)

pub returns-clause-stuck : goal.returns-clause-stuck
returns-clause-stuck c = (reader_turns, _, reader_reached, reader_rest, refl)

pub returns-clause-open : goal.returns-clause-open
returns-clause-open c = (keeper_turns, _, keeper_reached, keeper_rest, refl)
