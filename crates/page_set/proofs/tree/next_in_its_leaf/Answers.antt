use Rattle.page_set.proofs.Ranges.{next_frame}
use Rattle.page_set.proofs.tree.next_in_its_leaf.Goals as goal

pub returns-in-Some-next_in_leaf : goal.returns-in-Some-next_in_leaf
returns-in-Some-next_in_leaf c = next_frame c.args.leaves.now.items c.args.at c.in-Some-next_in_leaf.place c.in-Some.leaf.now c.requires c.in-Some.ensures c.in-Some-next_in_leaf.ensures
