use Rattle.mem_usher.proofs.Only.{choices_same}
use Rattle.mem_usher.proofs.choice.one_best_choice.Goals as goal

pub returns : goal.returns
returns c = choices_same
