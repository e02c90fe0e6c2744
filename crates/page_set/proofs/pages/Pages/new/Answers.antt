use Rattle.page_set.proofs.Kept.{none_kept}
use Rattle.page_set.proofs.pages.Pages.new.Goals as goal

pub invariant_of-result : goal.invariant_of-result
invariant_of-result c = none_kept c.new.result.items c.new.ensures.items
