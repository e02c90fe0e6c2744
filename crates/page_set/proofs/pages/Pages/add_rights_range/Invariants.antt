use Rattle.std.proofs.Common.{ℕ, ◌≡◌, ◌<◌, ◌≤◌, ◌-◌, IsSome}
use Rattle.std.specs.FinMap as map
use Rattle.page_set.specs.Pages.{with_mapped_pages}
use Rattle.page_set.proofs.pages.Pages.add_rights_range.Given as goal

-- what the rest makes of the pages is what all make of those at the start
abbrev pub invariant-loop-page : goal.invariant-loop-page
invariant-loop-page l = record {
  there : (q : ℕ) → l.page ≤ q → q < l.end → IsSome (map.get l.self q);
  same : with_mapped_pages l.rights l.self l.page (l.end - l.page) ≡ with_mapped_pages l.rights l.fn.self l.first (l.end - l.first);
}
