use Rattle.std.proofs.Common.{List, subst}
use Rattle.node_event.specs.declared.script.ScriptLine.{ScriptLine}
use Rattle.mosix_shell.specs.Images.{runs_of, AreSomeImages}
use Rattle.mosix_shell.proofs.Plans.{plan_is}
use Rattle.mosix_shell.proofs.threads.run_of.Goals as goal

pub run_users-requires-clause-plan : goal.run_users-requires-clause-plan
run_users-requires-clause-plan g c = λ w v.
    plan_is (g.R.Rng.stream c.args.rng.now) c.args.settings.now c.requires.script.text c.args.orders.now c.in-Ok.users c.requires.range c.requires.script.reads
    (subst (λ (os : List ScriptLine). AreSomeImages (runs_of os) c.in-Ok.users) c.as_slice.ensures c.in-Ok.ensures.users.each)
