use Rattle.page_set.specs.Entries.{ArePutBack}
use Rattle.page_set.proofs.entry.put_all_back.Given as goal

abbrev pub invariant-loop-at : goal.invariant-loop-at
invariant-loop-at l = ArePutBack l.at l.fn.entries l.fn.leaves.items l.entries l.leaves.items
