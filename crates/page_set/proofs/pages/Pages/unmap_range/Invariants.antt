use Rattle.std.proofs.Common.{◌≡◌, ◌-◌}
use Rattle.page_set.specs.Pages.{without_pages}
use Rattle.page_set.proofs.pages.Pages.unmap_range.Given as goal

abbrev pub invariant-loop-page : goal.invariant-loop-page
invariant-loop-page l = without_pages l.self l.from (l.end - l.from) ≡ without_pages l.fn.self l.first (l.end - l.first)

abbrev pub decreases-loop-page : goal.decreases-loop-page
decreases-loop-page l = l.end - l.from
