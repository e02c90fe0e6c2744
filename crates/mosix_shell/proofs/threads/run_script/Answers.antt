use Rattle.node_machine.specs.Policy.{given_by}
use Rattle.mosix_shell.specs.Told.{seen}
use Rattle.mosix_shell.proofs.Answering.{script_told}
use Rattle.mosix_shell.proofs.threads.run_script.Goals as goal

pub returns-in-Ok-clause-answers : goal.returns-in-Ok-clause-answers
returns-in-Ok-clause-answers g c =
    script_told (given_by (g.P.Chooser.answers c.args.policy.now)) (g.R.Rng.stream c.args.rng.now) c.args.settings.now (seen g.S.Source.left g.S.Source.faults c.args.script.now c.read_orders.new.source) (seen g.I.Images.files g.I.Images.faults c.args.images.now c.run_orders.new.images) (seen g.O.Sink.written g.O.Sink.faults c.args.out.now c.run_orders.new.out)
    c.in-Ok.orders c.run_orders.result c.in-Ok.ensures.ok c.in-Ok.ensures.reads c.run_orders.ensures.tells
