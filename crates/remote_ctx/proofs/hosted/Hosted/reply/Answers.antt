use Rattle.std.proofs.Common.{◌<◌, ◌≤◌, ◌^◌, sym, subst, length, List, arith}
use Rattle.remote_ctx.specs.declared.context.Context.{Context}
use Rattle.remote_ctx.specs.Hosted.{IsRising}
use Rattle.remote_ctx.specs.Kept.{pids_of}
use Rattle.remote_ctx.proofs.Kept.{at_within, total_small}
use Rattle.remote_ctx.proofs.Placing.{absent_value, replied_changes, replied_kept, replied_within, fits_there}
use Rattle.remote_ctx.proofs.Turning.{fits_not_none}
use Rattle.remote_ctx.proofs.hosted.Hosted.reply.Goals as goal

pub place_of-requires : goal.place_of-requires
place_of-requires c = subst (λ (xs : List Context). IsRising (pids_of xs)) (sym c.deref.ensures.value) c.self.invariant.rising

pub returns-in-Err : goal.returns-in-Err
returns-in-Err c = absurd (fits_not_none _ _ c.requires (absent_value _ _ _ _ c.self.view_is (rw c.deref.ensures.value at c.in-Err.ensures.absent)))

pub reply_at-change-requires-clause-within : goal.reply_at-change-requires-clause-within
reply_at-change-requires-clause-within c = let less = at_within _ _ _ (rw c.deref.ensures.value at c.in-Ok.ensures.found) in omega (arith, less)

pub reply_at-change-requires-clause-fits : goal.reply_at-change-requires-clause-fits
reply_at-change-requires-clause-fits c = fits_there _ _ _ _ c.self.invariant _ _ (rw c.deref.ensures.value at c.in-Ok.ensures.found) _ _ c.self.view_is c.requires

pub counted-self-inside-requires-clause-within : goal.counted-self-inside-requires-clause-within
counted-self-inside-requires-clause-within c = replied_within _ _ _ _ c.self.invariant _ _ (rw c.deref.ensures.value at c.in-Ok.ensures.found) _ _ _ c.reply_at-change.ensures

pub counted-self-inside-requires-clause-fits : goal.counted-self-inside-requires-clause-fits
counted-self-inside-requires-clause-fits c =
    let short : length c.self.inside.contexts.items < 2 ^ 64 = subst (λ (xs : List Context). length xs < 2 ^ 64) c.deref.ensures.value c.deref.type_inv.0 in
    let small : c.self.inside.total ≤ 2 ^ 96 = total_small _ _ _ _ c.self.invariant short in
    let few = c.reply_at-change.ensures.few in
    omega (arith, small, few)

pub invariant_of-self : goal.invariant_of-self
invariant_of-self c = replied_kept _ _ _ _ c.self.invariant _ _ (rw c.deref.ensures.value at c.in-Ok.ensures.found) _ _ _ _ c.reply_at-change.ensures c.counted-self-inside.ensures

pub returns-in-Ok : goal.returns-in-Ok
returns-in-Ok c = replied_changes _ _ _ _ _ _ _ c.self.view_is c.self.invariant.rising (rw c.deref.ensures.value at c.in-Ok.ensures.found) c.reply_at-change.ensures
