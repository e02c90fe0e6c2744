use Rattle.std.proofs.Common.{sym, ap, ◌∙◌, unwrap_or}
use Rattle.remote_ctx.proofs.Turning.{got_as, fits_still}
use Rattle.remote_ctx.proofs.hosted.Hosted.got.Goals as goal

pub finish-requires : goal.finish-requires
finish-requires c = fits_still _ _ _ _ _ (sym c.fits_reply.ensures ∙ c.if-not-fits_reply.false) c.child_in-child.ensures c.in_ok-bear.ensures.ok

pub returns-clause-ok : goal.returns-clause-ok
returns-clause-ok c =
    got_as _ _ _ _ _ _ _ _ _ _ (sym c.fits_reply.ensures ∙ c.if-not-fits_reply.false) c.kept_move-kept.ensures c.child_in-child.ensures c.in_ok-bear.ensures.ok c.finish.ensures
    (c.unwrap_or-need.ensures ∙ ap (λ o. unwrap_or o 0) c.need.ensures) c.got_what.ensures c.kept_mail.ensures
