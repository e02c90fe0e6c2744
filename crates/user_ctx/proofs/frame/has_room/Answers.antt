use Rattle.std.proofs.Common.{ap, ◌∙◌}
use Rattle.std.specs.Prelude.{is_ok}
use Rattle.page_set.specs.Pages.{flat_at}
use Rattle.user_spec.specs.Request.{has_frame_room}
use Rattle.user_ctx.proofs.frame.has_room.Goals as goal

pub returns : goal.returns
unfolding has_frame_room
returns c = c.covers.ensures ∙ ap (λ at. is_ok (flat_at c.args.pages.now 2 at 132)) c.frame_at.ensures
