use Rattle.std.proofs.Common.{sym, ◌∙◌}
use Rattle.remote_ctx.proofs.Turning.{sends_as}
use Rattle.remote_ctx.proofs.hosted.Hosted.send.Goals as goal

pub returns-in_ok-mail-in-Some-clause-ok : goal.returns-in_ok-mail-in-Some-clause-ok
returns-in_ok-mail-in-Some-clause-ok c = sends_as _ _ _ _ _ (sym c.in-Some.is ∙ c.in_ok-request.ensures) c.turn_to.ensures c.in_ok-mail-in-Some.ensures
