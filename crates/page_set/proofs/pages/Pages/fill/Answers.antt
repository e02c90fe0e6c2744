use Rattle.page_set.proofs.Kept.{part_kept}
use Rattle.page_set.proofs.pages.Pages.fill.Goals as goal

pub invariant_of-self : goal.invariant_of-self
invariant_of-self c = part_kept _ _ c.args.page c.args.offset _ c.args.bytes.now c.fill.ensures c.requires.fits c.self.invariant
