use Rattle.std.proofs.Common.{arith}
use Rattle.page_set.proofs.Ranges.{counted_next, none_counted}
use Rattle.page_set.proofs.pages.Pages.count_range.Goals as goal

pub loop-page-preserved : goal.loop-page-preserved
loop-page-preserved c = record {
  few = omega (arith, c.loop-page.invariant.few, c.in-Some.ensures.above);
  same = omega (arith, counted_next c.args.self.now c.loop-page.from c.in-Some.page c.args.end c.in-Some.ensures c.if-page-end.false, c.loop-page.invariant.same);
}

pub returns-then-page-end : goal.returns-then-page-end
returns-then-page-end c = omega (arith, none_counted c.args.self.now c.loop-page.from c.args.end (λ q ge lt. c.in-Some.ensures.between q ge (omega (arith, lt, c.if-page-end.true))), c.loop-page.invariant.same)

pub returns : goal.returns
returns c = omega (arith, none_counted c.args.self.now c.loop-page.from c.args.end (λ q ge lt. c.in_default.ensures.none q ge), c.loop-page.invariant.same)
