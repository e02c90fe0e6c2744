use Rattle.std.proofs.Common.{[], ◌∷◌, refl}
use Rattle.run_laws.proofs.FirstTurn.{first, later, one_turn, one_timed}
use Rattle.run_laws.proofs.WholeStory.{travel_turns, travel_reached, travel_over}
use Rattle.run_laws.proofs.runs_exist.Goals as goal

pub returns-clause-whole : goal.returns-clause-whole
returns-clause-whole c = (travel_turns, _, travel_reached, refl)

pub returns-clause-done : goal.returns-clause-done
returns-clause-done c = travel_over

pub returns-clause-first : goal.returns-clause-first
returns-clause-first c = (first ∷ [], later, one_turn, one_timed, refl)
