use Rattle.std.proofs.Common.{◌+◌, ◌-◌, ap, ◌∙◌, sym, arith, IsSome}
use Rattle.std.specs.FinMap as map
use Rattle.page_set.specs.Pages.{with_mapped, with_mapped_pages}
use Rattle.page_set.proofs.Ranges.{on_more, on_none, righted, righted_others}
use Rattle.page_set.proofs.pages.Pages.add_rights_range.Goals as goal

pub loop-page-preserved : goal.loop-page-preserved
loop-page-preserved c =
    let m = c.loop-page.self in
    let page = c.loop-page.page in
    let there : IsSome (map.get m page) = c.loop-page.invariant.there page (omega arith) c.loop-page-test.true in
    record {
      there = λ q le lt. rw (ap (λ m. map.get m q) c.add_rights.ensures ∙ righted_others c.args.rights m page q there (omega arith)) (c.loop-page.invariant.there q (omega arith) lt);
      same = ap (λ m. with_mapped_pages c.args.rights m (page + 1) (c.args.end - (page + 1))) (c.add_rights.ensures ∙ righted c.args.rights m page there)
          ∙ sym (on_more (with_mapped c.args.rights) m page (c.args.end - page) (c.args.end - (page + 1)) (omega (arith, c.loop-page-test.true)))
          ∙ c.loop-page.invariant.same;
    }

pub returns : goal.returns
returns c = sym (on_none (with_mapped c.args.rights) c.loop-page.self c.loop-page.page (c.args.end - c.loop-page.page) (omega (arith, c.loop-page-test.false))) ∙ c.loop-page.invariant.same
