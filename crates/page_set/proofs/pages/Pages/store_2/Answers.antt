use Rattle.page_set.specs.Pages.{bytes_2}
use Rattle.page_set.specs.Tree.{pages_of}
use Rattle.page_set.proofs.Kept.{store_kept}
use Rattle.page_set.proofs.pages.Pages.store_2.Goals as goal

pub invariant_of-self : goal.invariant_of-self
invariant_of-self c = store_kept _ c.store_2.result (pages_of c.self.inside.leaves.items) (pages_of c.store_2.new.leaves.items) c.args.addr c.self.inside.count (bytes_2 c.args.value) c.store_2.ensures.is c.store_2.ensures.err c.self.invariant
