use Rattle.std.proofs.Common.{sym, ◌∙◌}
use Rattle.remote_ctx.proofs.Turning.{marks_as}
use Rattle.remote_ctx.proofs.hosted.Hosted.mark.Goals as goal

pub returns : goal.returns
returns c = marks_as _ _ _ (sym c.is_awake.ensures ∙ c.if-not-is_awake.false) c.note_poke.ensures
