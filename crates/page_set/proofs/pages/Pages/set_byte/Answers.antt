use Rattle.page_set.proofs.Kept.{byte_kept}
use Rattle.page_set.proofs.pages.Pages.set_byte.Goals as goal

pub invariant_of-self : goal.invariant_of-self
invariant_of-self c = byte_kept _ _ c.args.addr c.args.value _ c.set_byte.ensures.new c.self.invariant
