use Rattle.std.proofs.Common.{sym, ap, ◌∙◌, subst, true, length}
use Rattle.std.proofs.lemmas.List.Edits.{length-insert}
use Rattle.remote_ctx.specs.Hosted.{IsRising}
use Rattle.remote_ctx.specs.Kept.{Notes}
use Rattle.remote_ctx.proofs.Rising.{at_has, not_both, inserted, rising_insert, notes_insert}
use Rattle.remote_ctx.proofs.pids.add.Goals as goal

pub returns-in-Ok : goal.returns-in-Ok
returns-in-Ok c = absurd (not_both _ (at_has _ _ _ (rw c.deref.ensures.value at c.in-Ok.ensures.found)) c.requires.new)

pub returns-in-Err : goal.returns-in-Err
returns-in-Err c =
    let gap = rw c.deref.ensures.value at c.in-Err.ensures.absent in
    let is = inserted _ _ _ _ (c.insert-inserted.ensures.succeeds c.requires.room) c.insert-inserted.ensures.items in
    record {
      rising = subst IsRising (sym is) (rising_insert _ _ _ gap c.requires.rising);
      notes = subst (Notes c.args.pid true c.args.pids.now.items) (sym is) (notes_insert _ _ _);
      count = ap length is ∙ length-insert _ _ _ gap.in_range;
      capacity = c.insert-inserted.ensures.capacity;
    }
