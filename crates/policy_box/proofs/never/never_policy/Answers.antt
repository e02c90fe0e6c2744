use Rattle.std.proofs.Common.{◌∙◌, sym}
use Rattle.policy_box.proofs.never.never_policy.Goals as goal

pub new-requires-clause-fits : goal.new-requires-clause-fits
new-requires-clause-fits c = λ sight choice r e. cc

pub new-requires-clause-one : goal.new-requires-clause-one
new-requires-clause-one c = λ sight a b r p q. p ∙ sym q
