use Rattle.std.proofs.Common.{◌≡◌}
use Rattle.page_set.specs.Tree.{without_all}
use Rattle.page_set.proofs.pages.Pages.unmap_all.Given as goal

abbrev pub invariant-loop-page : goal.invariant-loop-page
invariant-loop-page l = without_all l.self l.added.items ≡ without_all l.fn.self l.fn.added.items

abbrev pub decreases-loop-page : goal.decreases-loop-page
decreases-loop-page l = goal.left-loop-page l
