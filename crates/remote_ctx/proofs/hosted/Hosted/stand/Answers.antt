use Rattle.std.proofs.Common.{sym, subst, List, arith}
use Rattle.remote_ctx.specs.declared.context.Context.{Context}
use Rattle.remote_ctx.specs.Hosted.{IsRising}
use Rattle.remote_ctx.specs.Kept.{pids_of}
use Rattle.remote_ctx.proofs.Kept.{at_within}
use Rattle.remote_ctx.proofs.Placing.{here_in_gap, stood_changes, ran_here, room_here, stood_kept}
use Rattle.remote_ctx.proofs.hosted.Hosted.stand.Goals as goal

pub place_of-requires : goal.place_of-requires
place_of-requires c = subst (λ (xs : List Context). IsRising (pids_of xs)) (sym c.deref.ensures.value) c.self.invariant.rising

pub returns-in-Err : goal.returns-in-Err
returns-in-Err c = absurd (here_in_gap _ _ _ _ c.self.view_is (rw c.deref.ensures.value at c.in-Err.ensures.absent) c.requires)

pub stand_at-ran-requires : goal.stand_at-ran-requires
stand_at-ran-requires c = let less = at_within _ _ _ (rw c.deref.ensures.value at c.in-Ok.ensures.found) in omega (arith, less)

pub note-requires-clause-ran : goal.note-requires-clause-ran
note-requires-clause-ran c = ran_here _ _ _ _ c.self.invariant _ _ (rw c.deref.ensures.value at c.in-Ok.ensures.found) _ _ _ _ c.stand_at-ran.ensures

pub note-requires-clause-room : goal.note-requires-clause-room
note-requires-clause-room c still runs = let less = room_here _ _ _ _ c.self.invariant _ _ (rw c.deref.ensures.value at c.in-Ok.ensures.found) _ _ _ _ c.stand_at-ran.ensures still in omega (arith, less, c.self.inside.running.ok.0)

pub invariant_of-self : goal.invariant_of-self
invariant_of-self c = stood_kept _ _ _ _ c.self.invariant _ _ (rw c.deref.ensures.value at c.in-Ok.ensures.found) _ _ _ _ _ _ _ c.is_running-runs.ensures c.stand_at-ran.ensures c.note.ensures.rising c.note.ensures.notes c.note.ensures.count c.note.ensures.capacity

pub returns-in-Ok : goal.returns-in-Ok
returns-in-Ok c = stood_changes _ _ _ _ _ _ _ _ c.self.view_is c.self.invariant.rising (rw c.deref.ensures.value at c.in-Ok.ensures.found) c.stand_at-ran.ensures
