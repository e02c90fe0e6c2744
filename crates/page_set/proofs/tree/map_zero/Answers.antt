use Rattle.page_set.specs.Pages.{zero_page}
use Rattle.page_set.proofs.Edits.{mapped}
use Rattle.page_set.proofs.tree.map_zero.Goals as goal

pub returns-clause-ok : goal.returns-clause-ok
returns-clause-ok c = mapped c.args.leaves.now.items c.reserve.new.leaves.items c.place.new.leaves.items c.args.page c.in_ok-frame.frame.value (zero_page c.args.rights) c.requires c.in_ok-reserve.ensures.same (record { here = c.place.ensures.new.here; others = c.place.ensures.new.others }) c.in_ok-frame.ensures
