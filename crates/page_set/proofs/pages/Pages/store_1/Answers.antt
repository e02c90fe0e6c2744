use Rattle.page_set.specs.Pages.{bytes_1}
use Rattle.page_set.specs.Tree.{pages_of}
use Rattle.page_set.proofs.Kept.{store_kept}
use Rattle.page_set.proofs.pages.Pages.store_1.Goals as goal

pub invariant_of-self : goal.invariant_of-self
invariant_of-self c = store_kept _ c.store_1.result (pages_of c.self.inside.leaves.items) (pages_of c.store_1.new.leaves.items) c.args.addr c.self.inside.count (bytes_1 c.args.value) c.store_1.ensures.is c.store_1.ensures.err c.self.invariant
