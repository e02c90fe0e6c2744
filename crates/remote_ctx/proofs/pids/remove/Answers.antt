use Rattle.std.proofs.Common.{◌+◌, sym, ap, ◌∙◌, subst, false, length, arith}
use Rattle.std.proofs.lemmas.List.Edits.{length-remove}
use Rattle.remote_ctx.specs.Hosted.{IsRising}
use Rattle.remote_ctx.specs.Kept.{Notes}
use Rattle.remote_ctx.proofs.Rising.{gap_lacks, not_both, rising_remove, notes_remove}
use Rattle.remote_ctx.proofs.pids.remove.Goals as goal

pub returns-in-Err : goal.returns-in-Err
returns-in-Err c = absurd (not_both _ c.requires.here (gap_lacks _ _ _ (rw c.deref.ensures.value at c.in-Err.ensures.absent)))

pub returns-in-Ok : goal.returns-in-Ok
returns-in-Ok c =
    let at = rw c.deref.ensures.value at c.in-Ok.ensures.found in
    let is = c.remove-pid.ensures.items in
    record {
      rising = subst IsRising (sym is) (rising_remove _ _ at.in_range c.requires.rising);
      notes = subst (Notes c.args.pid false c.args.pids.now.items) (sym is) (notes_remove _ _ _ at c.requires.rising);
      count = ap (λ xs. length xs + 1) is ∙ length-remove _ _ at.in_range;
      capacity = omega arith;
    }
