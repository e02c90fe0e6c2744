use Rattle.weave.specs.Merges.{IsFirstOf}
use Rattle.weave.proofs.merging.first_journal.Given as goal

abbrev pub invariant-loop-k : goal.invariant-loop-k
invariant-loop-k l = IsFirstOf l.journals l.next l.k l.first
