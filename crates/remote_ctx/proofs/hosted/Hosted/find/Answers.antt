use Rattle.std.proofs.Common.{sym, subst, List}
use Rattle.remote_ctx.specs.declared.context.Context.{Context}
use Rattle.remote_ctx.specs.Hosted.{IsRising}
use Rattle.remote_ctx.specs.Kept.{pids_of}
use Rattle.remote_ctx.proofs.Placing.{found_value, absent_value}
use Rattle.remote_ctx.proofs.hosted.Hosted.find.Goals as goal

pub place_of-requires : goal.place_of-requires
place_of-requires c = subst (λ (xs : List Context). IsRising (pids_of xs)) (sym c.deref.ensures.value) c.self.invariant.rising

pub returns-in-Ok : goal.returns-in-Ok
returns-in-Ok c = found_value _ _ _ _ _ c.self.view_is c.self.invariant.rising (rw c.deref.ensures.value at c.in-Ok.ensures.found) c.index.ensures

pub returns-in-Err : goal.returns-in-Err
returns-in-Err c = sym (absent_value _ _ _ _ c.self.view_is (rw c.deref.ensures.value at c.in-Err.ensures.absent))
