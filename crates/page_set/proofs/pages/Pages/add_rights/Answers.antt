use Rattle.page_set.proofs.Kept.{rights_kept}
use Rattle.page_set.proofs.pages.Pages.add_rights.Goals as goal

pub invariant_of-self : goal.invariant_of-self
invariant_of-self c = rights_kept _ _ c.args.page c.args.rights _ c.add_rights.ensures c.requires.rights c.self.invariant
