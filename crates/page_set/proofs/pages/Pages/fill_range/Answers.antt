use Rattle.std.proofs.Common.{◌+◌, ◌-◌, ap, ◌∙◌, sym, arith}
use Rattle.page_set.specs.Pages.{on_pages}
use Rattle.page_set.specs.Tree.{with_filled}
use Rattle.page_set.proofs.Ranges.{on_more, on_none}
use Rattle.page_set.proofs.pages.Pages.fill_range.Goals as goal

pub loop-page-preserved : goal.loop-page-preserved
loop-page-preserved c =
    let step = with_filled c.args.rights in
    let page = c.loop-page.page in
    record {
      same = ap (λ m. on_pages step m (page + 1) (c.args.end - (page + 1))) c.in_ok-fill_page.ensures.ok
          ∙ sym (on_more step c.loop-page.self page (c.args.end - page) (c.args.end - (page + 1)) (omega (arith, c.loop-page-test.true)))
          ∙ c.loop-page.invariant.same;
      undone = c.fill_page.ensures.undone ∙ c.loop-page.invariant.undone;
    }

pub returns-clause-ok : goal.returns-clause-ok
returns-clause-ok c = sym (on_none (with_filled c.args.rights) c.loop-page.self c.loop-page.page (c.args.end - c.loop-page.page) (omega (arith, c.loop-page-test.false))) ∙ c.loop-page.invariant.same
