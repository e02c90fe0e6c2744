use Rattle.std.proofs.Common.{◌≡◌, ◌-◌}
use Rattle.page_set.specs.Pages.{on_pages}
use Rattle.page_set.specs.Tree.{without_all, with_filled}
use Rattle.page_set.proofs.pages.Pages.fill_range.Given as goal

abbrev pub invariant-loop-page : goal.invariant-loop-page
invariant-loop-page l = record {
  same : on_pages (with_filled l.rights) l.self l.page (l.end - l.page) ≡ on_pages (with_filled l.rights) l.fn.self l.first (l.end - l.first);
  undone : without_all l.self l.added.items ≡ without_all l.fn.self l.fn.added.items;
}
