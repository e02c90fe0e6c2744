-- The policy that the program runs under.
use Rattle.mem_usher.specs.Choices.{Answers, IsBestChoice}
use Rattle.node_machine.specs.Machine.{Policy}
use Rattle.node_machine.specs.Policy.{given_by}

-- each choice is the best one on what its node sees
abbrev pub ushered : Policy
ushered = given_by (λ sight answer. Answers (IsBestChoice sight) answer)
