use Rattle.std.proofs.Common.{◌≡◌, ◌<◌, ◌≤◌, ◌+◌, ◌^◌, sym, ap, ◌∙◌, subst, true, false, length, List, ℕ, arith, refl}
use Rattle.remote_ctx.specs.declared.context.Context.{Context}
use Rattle.remote_ctx.specs.Hosted.{lookup, IsRising, has, pages_of}
use Rattle.remote_ctx.specs.Kept.{pids_of, IsGap, Notes}
use Rattle.remote_ctx.specs.Acting.{fresh}
use Rattle.std.specs.List.{insert}
use Rattle.remote_ctx.proofs.Kept.{length_pids, running_most, total_small}
use Rattle.remote_ctx.proofs.Placing.{new_at_place, came_puts, came_absent, came_kept, kept_room}
use Rattle.remote_ctx.proofs.hosted.Hosted.put.Goals as goal

pub place_of-requires : goal.place_of-requires
place_of-requires c = subst (λ (xs : List Context). IsRising (pids_of xs)) (sym c.deref.ensures.value) c.self.invariant.rising

pub returns-in-Ok : goal.returns-in-Ok
returns-in-Ok c = absurd (new_at_place _ _ _ _ c.self.view_is c.self.invariant.rising (rw c.deref.ensures.value at c.in-Ok.ensures.found) (ap (λ (p : ℕ). lookup p c.args.self.now) c.pid-pid.ensures ∙ c.requires))

pub reserve-requires : goal.reserve-requires
reserve-requires c = let most = running_most _ _ _ _ c.self.invariant in omega (arith, most, c.self.inside.running.ok.0, c.self.inside.contexts.ok.0)

pub note-requires : goal.note-requires
note-requires c = record {
  rising = subst IsRising (sym c.reserve.ensures.running) c.self.invariant.runs_rising;
  ran = subst (λ (ps : List ℕ). has c.pid-pid.result ps ≡ false) (sym c.reserve.ensures.running) (came_absent _ _ _ _ _ _ c.self.invariant (rw c.deref.ensures.value at c.in-Err.ensures.absent));
  room = λ s r. c.in_ok-reserve-in-Err.ensures.pid;
}

pub insert-requires : goal.insert-requires
insert-requires c = record {
  within =
      let gap = (rw c.deref.ensures.value at c.in-Err.ensures.absent) in
      let pids = length_pids c.self.inside.contexts.items in
      let same = ap length c.reserve.ensures.contexts in
      let here = gap.in_range in
      omega (arith, here, pids, same, c.reserve.new.contexts.ok.0);
  room = c.in_ok-reserve-in-Err.ensures.place;
}

pub overflow_add-self : goal.overflow_add-self
overflow_add-self c =
    let short : length c.self.inside.contexts.items < 2 ^ 64 = subst (λ (xs : List Context). length xs < 2 ^ 64) c.deref.ensures.value c.deref.type_inv.0 in
    let small : c.self.inside.total ≤ 2 ^ 96 = total_small _ _ _ _ c.self.invariant short in
    let few = c.need-pages.type_inv in
    omega (arith, small, few)

pub invariant_of-self : goal.invariant_of-self
invariant_of-self c = kept_room _ _ _ _ _ _ _ c.self.invariant c.reserve.ensures.contexts c.reserve.ensures.running c.reserve.ensures.capacity

pub invariant_of-self-in-Err : goal.invariant_of-self-in-Err
invariant_of-self-in-Err c =
    let context : Context = fresh c.args.user c.args.hops in
    let gap : IsGap (pids_of c.self.inside.contexts.items) context.pid c.in-Err.place = subst (λ (p : ℕ). IsGap (pids_of c.self.inside.contexts.items) p c.in-Err.place) c.pid-pid.ensures (rw c.deref.ensures.value at c.in-Err.ensures.absent) in
    let is : c.insert.new.contexts.items ≡ insert c.self.inside.contexts.items c.in-Err.place context =
    c.insert.ensures ∙ ap (λ (xs : List Context). insert xs c.in-Err.place c.fresh.result) c.reserve.ensures.contexts ∙ ap (λ (x : Context). insert c.self.inside.contexts.items c.in-Err.place x) c.fresh.ensures in
    let need : c.need-pages.result ≡ pages_of context = c.need-pages.ensures in
    let small = c.need-pages.type_inv in
    let notes : Notes context.pid true c.self.inside.running.items c.note.new.pids.items =
    subst (λ (p : ℕ). Notes p true c.self.inside.running.items c.note.new.pids.items) c.pid-pid.ensures (subst (λ (ps : List ℕ). Notes c.pid-pid.result true ps c.note.new.pids.items) c.reserve.ensures.running c.note.ensures.notes) in
    let count : length c.note.new.pids.items + 0 ≡ length c.self.inside.running.items + 1 = subst (λ (ps : List ℕ). length c.note.new.pids.items + 0 ≡ length ps + 1) c.reserve.ensures.running c.note.ensures.count in
    let same : length c.reserve.new.contexts.items ≡ length c.self.inside.contexts.items = ap length c.reserve.ensures.contexts in
    let room = c.in_ok-reserve-in-Err.ensures.room in
    let more = c.note.ensures.capacity in
    came_kept _ _ _ _ _ _ _ _ _ context c.self.invariant gap is refl (omega (arith, need, small)) (ap (λ (n : ℕ). c.self.inside.total + n) need) c.note.ensures.rising notes count (omega (arith, same, room, more, c.reserve.new.contexts.ok.0))

pub returns-in_ok-reserve-in-Err-clause-ok : goal.returns-in_ok-reserve-in-Err-clause-ok
returns-in_ok-reserve-in-Err-clause-ok c =
    let context : Context = fresh c.args.user c.args.hops in
    let gap : IsGap (pids_of c.self.inside.contexts.items) context.pid c.in-Err.place = subst (λ (p : ℕ). IsGap (pids_of c.self.inside.contexts.items) p c.in-Err.place) c.pid-pid.ensures (rw c.deref.ensures.value at c.in-Err.ensures.absent) in
    let is : c.insert.new.contexts.items ≡ insert c.self.inside.contexts.items c.in-Err.place context =
    c.insert.ensures ∙ ap (λ (xs : List Context). insert xs c.in-Err.place c.fresh.result) c.reserve.ensures.contexts ∙ ap (λ (x : Context). insert c.self.inside.contexts.items c.in-Err.place x) c.fresh.ensures in
    came_puts _ _ _ _ context c.self.view_is gap is
