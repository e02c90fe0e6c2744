use Rattle.policy_box.proofs.Ushers.{best_fits, one_answer}
use Rattle.policy_box.proofs.usher.usher_policy.Goals as goal

pub new-requires-clause-fits : goal.new-requires-clause-fits
new-requires-clause-fits c = best_fits

pub new-requires-clause-one : goal.new-requires-clause-one
new-requires-clause-one c = λ sight a b r p q. one_answer sight a b p q
