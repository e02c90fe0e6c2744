use Rattle.std.proofs.Common.{sym}
use Rattle.page_set.proofs.Kept.{less_kept, no_less_kept}
use Rattle.page_set.proofs.pages.Pages.unmap.Goals as goal

pub invariant_of-self : goal.invariant_of-self
invariant_of-self c = less_kept _ _ c.args.page _ c.if-unmap.ensures.new (sym c.if-unmap.ensures.is) c.self.invariant

pub invariant_of-self-else-unmap : goal.invariant_of-self-else-unmap
invariant_of-self-else-unmap c = no_less_kept _ _ c.args.page _ c.if-unmap.ensures.new (sym c.if-unmap.ensures.is) c.self.invariant
