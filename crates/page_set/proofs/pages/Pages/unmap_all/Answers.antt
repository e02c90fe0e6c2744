use Rattle.std.proofs.Common.{ap, ◌∙◌, sym}
use Rattle.page_set.specs.Tree.{without_all}
use Rattle.page_set.proofs.Ranges.{without_last}
use Rattle.page_set.proofs.pages.Pages.unmap_all.Goals as goal

pub loop-page-preserved : goal.loop-page-preserved
loop-page-preserved c =
    ap (λ m. without_all m c.pop.new.self.items) c.unmap.ensures.new
    ∙ sym (without_last c.pop.new.self.items c.loop-page.self c.in-Some.page)
    ∙ ap (without_all c.loop-page.self) (sym c.in-Some.ensures.items)
    ∙ c.loop-page.invariant
