use Rattle.kernel_spec.proofs.AnswerFacts.{answer_fits, broken_fits}
use Rattle.kernel_spec.proofs.laws.answers_fit.Goals as goal

pub returns-clause-answered : goal.returns-clause-answered
returns-clause-answered c = answer_fits

pub returns-clause-broken : goal.returns-clause-broken
returns-clause-broken c = broken_fits
