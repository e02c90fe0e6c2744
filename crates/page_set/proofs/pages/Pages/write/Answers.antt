use Rattle.page_set.proofs.Kept.{bytes_kept}
use Rattle.page_set.proofs.pages.Pages.write.Goals as goal

pub invariant_of-self : goal.invariant_of-self
invariant_of-self c = bytes_kept _ _ c.args.addr _ c.args.bytes.now c.write.ensures c.self.invariant
