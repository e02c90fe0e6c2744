use Rattle.page_set.specs.Tree.{pages_of}
use Rattle.page_set.proofs.Kept.{copy_kept}
use Rattle.page_set.proofs.pages.Pages.copy_in.Goals as goal

pub invariant_of-self : goal.invariant_of-self
invariant_of-self c = copy_kept _ c.copy_in.result (pages_of c.self.inside.leaves.items) (pages_of c.copy_in.new.leaves.items) c.args.addr c.self.inside.count c.args.bytes.now c.copy_in.ensures.is c.copy_in.ensures.err c.self.invariant
