use Rattle.std.proofs.Common.{◌+◌, ◌-◌, ◌%◌, ◌≤◌, ◌∙◌, refl, sym, arith}
use Rattle.page_set.proofs.Covers.{page_covered}
use Rattle.page_set.proofs.access.covers.Goals as goal

pub loop-left-preserved : goal.loop-left-preserved
loop-left-preserved c =
    let at = c.loop-left.at in
    let count = c.min-count.result in
    let fits : at % 4096 + count ≤ 4096 = omega (arith, c.min-count.ensures) in
    c.loop-left.invariant ∙ page_covered c.args.leaves.now.items c.args.right at (at + count) c.loop-left.left (c.loop-left.left - count) count (omega (arith, c.min-count.ensures)) refl c.if-at-ge4294967296.false fits (sym c.if-not-page_has.ensures)
