use Rattle.std.proofs.Common.{◌∙◌, subst, arith, List, Option}
use Rattle.outside.specs.Outside.{NamedFile}
use Rattle.mosix_shell.specs.Images.{runs_of, AddsImage}
use Rattle.mosix_shell.proofs.Loading.{line_more, lines_end, fit_at}
use Rattle.mosix_shell.proofs.images.load_users.Goals as goal

pub loop-ordered-preserved : goal.loop-ordered-preserved
loop-ordered-preserved g c = record {
  files = c.in-Ok.ensures.files ∙ c.loop-ordered.invariant.files;
  later = omega (arith, c.loop-ordered.invariant.later, c.in-Ok.ensures.later);
  loads = line_more _ (runs_of c.args.orders.now) c.args.orders.now c.loop-ordered.ordered-index c.ordered-item.result c.loop-ordered.users c.load_line.new.users c.loop-ordered-test.true c.ordered-item.is
      (subst (λ (f : Option (List NamedFile)). AddsImage f c.ordered-item.result.order c.loop-ordered.users c.load_line.new.users) c.loop-ordered.invariant.files c.in-Ok.ensures.ok)
      c.loop-ordered.invariant.loads;
  fit = (fit_at c.args.orders.now c.loop-ordered.ordered-index c.ordered-item.result c.loop-ordered-test.true c.ordered-item.is c.loop-ordered.invariant.fit).1;
}

pub returns-clause-users : goal.returns-clause-users
returns-clause-users g c = lines_end _ (runs_of c.args.orders.now) c.args.orders.now c.loop-ordered.ordered-index c.loop-ordered.users (omega (arith, c.loop-ordered-test.false)) c.loop-ordered.invariant.loads
