use Rattle.std.proofs.Common.{◌≡◌, ◌+◌, ◌-◌, ◌≤◌}
use Rattle.page_set.specs.Pages.{mapped_count}
use Rattle.page_set.proofs.pages.Pages.count_range.Given as goal

abbrev pub invariant-loop-page : goal.invariant-loop-page
invariant-loop-page l = record {
  few : l.count + l.first ≤ l.from;
  same : l.count + mapped_count l.self l.from (l.end - l.from) ≡ mapped_count l.self l.first (l.end - l.first);
}

abbrev pub decreases-loop-page : goal.decreases-loop-page
decreases-loop-page l = l.end - l.from
