use Rattle.std.proofs.Common.{subst, sym}
use Rattle.policy_box.proofs.Kept.{some_fits}
use Rattle.policy_box.proofs.policy.Policy.ask.Goals as goal

pub returns-clause-fits : goal.returns-clause-fits
returns-clause-fits g c = λ r. some_fits g.C.Chooser.callable g.C.Chooser.answers c.self.inside.chooser c.args.sight.now c.choose.result c.self.invariant r c.choose.ensures

pub returns-clause-one : goal.returns-clause-one
returns-clause-one g c = λ r other a. c.self.invariant.one c.args.sight.now other c.choose.result r (subst (λ f. g.C.Chooser.answers f c.args.sight.now other) (sym c.self.view_is) a) c.choose.ensures
