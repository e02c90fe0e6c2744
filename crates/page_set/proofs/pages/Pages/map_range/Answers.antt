use Rattle.std.proofs.Common.{◌-◌, ap, ◌∙◌, arith}
use Rattle.std.specs.FinMap as map
use Rattle.page_set.specs.Pages.{with_mapped_pages}
use Rattle.page_set.proofs.Ranges.{filled_there, mapped_filled}
use Rattle.page_set.proofs.pages.Pages.map_range.Goals as goal

pub add_rights_range-requires-clause-mapped : goal.add_rights_range-requires-clause-mapped
add_rights_range-requires-clause-mapped c = λ q le lt. rw (ap (λ m. map.get m q) c.in-Ok.ensures.ok) (filled_there c.args.rights c.args.self.now c.args.first (c.args.end - c.args.first) q le (omega (arith, lt, le)))

pub returns-clause-ok : goal.returns-clause-ok
returns-clause-ok c =
    c.add_rights_range.ensures
    ∙ ap (λ m. with_mapped_pages c.args.rights m c.args.first (c.args.end - c.args.first)) c.in-Ok.ensures.ok
    ∙ mapped_filled c.args.rights c.args.self.now c.args.first (c.args.end - c.args.first)
