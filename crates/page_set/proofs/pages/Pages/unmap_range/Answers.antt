use Rattle.std.proofs.Common.{◌∙◌, sym, arith}
use Rattle.page_set.proofs.Ranges.{unmapped_next, none_unmapped}
use Rattle.page_set.proofs.pages.Pages.unmap_range.Goals as goal

pub loop-page-preserved : goal.loop-page-preserved
loop-page-preserved c = unmapped_next c.loop-page.self c.unmap.new.self c.loop-page.from c.in-Some.page c.args.end c.in-Some.ensures c.if-page-end.false c.unmap.ensures.new ∙ c.loop-page.invariant

pub returns-then-page-end : goal.returns-then-page-end
returns-then-page-end c = sym (none_unmapped c.loop-page.self c.loop-page.from c.args.end (λ q ge lt. c.in-Some.ensures.between q ge (omega (arith, lt, c.if-page-end.true)))) ∙ c.loop-page.invariant

pub returns : goal.returns
returns c = sym (none_unmapped c.loop-page.self c.loop-page.from c.args.end (λ q ge lt. c.in_default.ensures.none q ge)) ∙ c.loop-page.invariant
