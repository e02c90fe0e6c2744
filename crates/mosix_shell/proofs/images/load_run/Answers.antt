use Rattle.mosix_shell.proofs.images.load_run.Goals as goal

pub returns-in-Ok-push-clause-ok : goal.returns-in-Ok-push-clause-ok
returns-in-Ok-push-clause-ok g c = (c.in-Ok.user, c.in-Ok.ensures.user, c.in-Ok-push.ensures.ok)
