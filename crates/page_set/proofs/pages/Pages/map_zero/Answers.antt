use Rattle.std.proofs.Common.{ap, ◌∙◌}
use Rattle.std.specs.FinMap as map
use Rattle.page_set.proofs.Kept.{zero_kept}
use Rattle.page_set.proofs.pages.Pages.map_zero.Goals as goal

pub invariant_of-self-2 : goal.invariant_of-self-2
invariant_of-self-2 c = zero_kept _ _ c.args.page c.args.rights _ c.in_ok-map_zero.ensures.ok (ap (λ m. map.get m c.args.page) c.self.view_is ∙ c.requires.free) c.requires.page c.requires.rights c.self.invariant
