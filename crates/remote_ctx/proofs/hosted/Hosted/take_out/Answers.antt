use Rattle.std.proofs.Common.{◌≡◌, ◌≤◌, ◌+◌, ◌-◌, sym, ◌∙◌, subst, true, false, List, arith, refl}
use Rattle.remote_ctx.specs.declared.context.Context.{Context}
use Rattle.remote_ctx.specs.Hosted.{IsRising, pages_of}
use Rattle.remote_ctx.specs.Kept.{pids_of}
use Rattle.remote_ctx.proofs.Kept.{at_within}
use Rattle.remote_ctx.proofs.Placing.{absent_value, value_there, gone_pid, gone_within, gone_kept, gone_taken}
use Rattle.remote_ctx.proofs.hosted.Hosted.take_out.Goals as goal

pub place_of-requires : goal.place_of-requires
place_of-requires c = subst (λ (xs : List Context). IsRising (pids_of xs)) (sym c.deref.ensures.value) c.self.invariant.rising

pub returns-in-Err : goal.returns-in-Err
returns-in-Err c = (absent_value _ _ _ _ c.self.view_is (rw c.deref.ensures.value at c.in-Err.ensures.absent), refl)

pub remove-context-requires : goal.remove-context-requires
remove-context-requires c = let less = at_within _ _ _ (rw c.deref.ensures.value at c.in-Ok.ensures.found) in omega (arith, less)

pub note-requires : goal.note-requires
note-requires c = record {
  rising = c.self.invariant.runs_rising;
  ran = gone_pid _ _ _ _ c.self.invariant _ _ (rw c.deref.ensures.value at c.in-Ok.ensures.found) _ (value_there _ _ _ (at_within _ _ _ (rw c.deref.ensures.value at c.in-Ok.ensures.found)) c.remove-context.ensures.value) ∙ sym c.is_running-ran.ensures;
  room = λ s r. absurd (let z : false ≡ true = r in cc);
}

pub overflow_sub-self : goal.overflow_sub-self
overflow_sub-self c =
    let within : pages_of c.remove-context.result ≤ c.self.inside.total = gone_within _ _ _ _ c.self.invariant _ _ (rw c.deref.ensures.value at c.in-Ok.ensures.found) _ (value_there _ _ _ (at_within _ _ _ (rw c.deref.ensures.value at c.in-Ok.ensures.found)) c.remove-context.ensures.value) in
    omega (arith, within, c.need.ensures)

pub invariant_of-self : goal.invariant_of-self
invariant_of-self c =
    let within : pages_of c.remove-context.result ≤ c.self.inside.total = gone_within _ _ _ _ c.self.invariant _ _ (rw c.deref.ensures.value at c.in-Ok.ensures.found) _ (value_there _ _ _ (at_within _ _ _ (rw c.deref.ensures.value at c.in-Ok.ensures.found)) c.remove-context.ensures.value) in
    let need : c.need.result ≡ pages_of c.remove-context.result = c.need.ensures in
    let pages : c.self.inside.total - c.need.result + pages_of c.remove-context.result ≡ c.self.inside.total = omega (arith, within, need) in
    gone_kept _ _ _ _ c.self.invariant _ _ (rw c.deref.ensures.value at c.in-Ok.ensures.found) _ _ _ _ _ _ c.is_running-ran.ensures (value_there _ _ _ (at_within _ _ _ (rw c.deref.ensures.value at c.in-Ok.ensures.found)) c.remove-context.ensures.value) c.remove-context.ensures.items pages c.note.ensures.rising c.note.ensures.notes c.note.ensures.count c.note.ensures.capacity

pub returns-in-Ok : goal.returns-in-Ok
returns-in-Ok c = gone_taken _ _ _ _ _ _ c.self.view_is c.self.invariant.rising (rw c.deref.ensures.value at c.in-Ok.ensures.found) (value_there _ _ _ (at_within _ _ _ (rw c.deref.ensures.value at c.in-Ok.ensures.found)) c.remove-context.ensures.value) c.remove-context.ensures.items
