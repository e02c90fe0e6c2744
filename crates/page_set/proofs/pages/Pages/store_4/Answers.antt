use Rattle.page_set.specs.Pages.{bytes_4}
use Rattle.page_set.specs.Tree.{pages_of}
use Rattle.page_set.proofs.Kept.{store_kept}
use Rattle.page_set.proofs.pages.Pages.store_4.Goals as goal

pub invariant_of-self : goal.invariant_of-self
invariant_of-self c = store_kept _ c.store_4.result (pages_of c.self.inside.leaves.items) (pages_of c.store_4.new.leaves.items) c.args.addr c.self.inside.count (bytes_4 c.args.value) c.store_4.ensures.is c.store_4.ensures.err c.self.invariant
