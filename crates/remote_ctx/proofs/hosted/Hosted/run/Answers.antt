use Rattle.std.proofs.Common.{◌<◌, ◌≤◌, ◌^◌, sym, subst, length, vec_capacity, List, arith}
use Rattle.remote_ctx.specs.declared.context.Context.{Context}
use Rattle.remote_ctx.specs.Hosted.{IsRising}
use Rattle.remote_ctx.specs.Kept.{pids_of, IsKept}
use Rattle.remote_ctx.proofs.Kept.{at_within, total_small}
use Rattle.remote_ctx.proofs.Placing.{went_runs, went_kept, went_within, asks_after}
use Rattle.remote_ctx.proofs.hosted.Hosted.run.Goals as goal

pub place_of-requires : goal.place_of-requires
place_of-requires c = subst (λ (xs : List Context). IsRising (pids_of xs)) (sym c.deref.ensures.value) c.self.invariant.rising

pub go_at-requires-clause-within : goal.go_at-requires-clause-within
go_at-requires-clause-within c = let less = at_within _ _ _ (rw c.deref.ensures.value at c.in-Ok.ensures.found) in omega (arith, less)

pub counted-self-inside-requires-clause-within : goal.counted-self-inside-requires-clause-within
counted-self-inside-requires-clause-within c = went_within _ _ _ _ c.self.invariant _ _ (rw c.deref.ensures.value at c.in-Ok.ensures.found) _ _ _ _ c.in_ok-ran-in-Ok.ensures.ok

pub counted-self-inside-requires-clause-fits : goal.counted-self-inside-requires-clause-fits
counted-self-inside-requires-clause-fits c =
    let short : length c.self.inside.contexts.items < 2 ^ 64 = subst (λ (xs : List Context). length xs < 2 ^ 64) c.deref.ensures.value c.deref.type_inv.0 in
    let small : c.self.inside.total ≤ 2 ^ 96 = total_small _ _ _ _ c.self.invariant short in
    let few = c.in_ok-ran-in-Ok.ensures.ok.goes.few in
    omega (arith, small, few)

pub invariant_of-self : goal.invariant_of-self
invariant_of-self c = subst (λ (xs : List Context). IsKept xs c.self.inside.running.items (vec_capacity c.self.inside.running) c.self.inside.total) (sym c.in_err-ran-in-Ok.ensures.err) c.self.invariant

pub invariant_of-self-in-Ok : goal.invariant_of-self-in-Ok
invariant_of-self-in-Ok c = went_kept _ _ _ _ c.self.invariant _ _ (rw c.deref.ensures.value at c.in-Ok.ensures.found) _ _ _ _ _ c.in_ok-ran-in-Ok.ensures.ok c.counted-self-inside.ensures

pub returns-in_ok-ran-in-Ok-clause-ok : goal.returns-in_ok-ran-in-Ok-clause-ok
returns-in_ok-ran-in-Ok-clause-ok c = went_runs _ _ _ _ _ _ _ _ c.self.view_is c.self.invariant.rising (rw c.deref.ensures.value at c.in-Ok.ensures.found) c.in_ok-ran-in-Ok.ensures.ok

pub returns-in_ok-ran-in-Ok-clause-asks : goal.returns-in_ok-ran-in-Ok-clause-asks
returns-in_ok-ran-in-Ok-clause-asks c = asks_after _ _ _ _ _ (went_runs _ _ _ _ _ _ _ _ c.self.view_is c.self.invariant.rising (rw c.deref.ensures.value at c.in-Ok.ensures.found) c.in_ok-ran-in-Ok.ensures.ok)
