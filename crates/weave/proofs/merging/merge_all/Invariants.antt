use Rattle.std.proofs.Common.{◌≡◌, ◌++◌, [], length}
use Rattle.weave.specs.Merges.{woven_from, remaining}
use Rattle.weave.proofs.Choosing.{unread}
use Rattle.weave.proofs.merging.merge_all.Given as goal

abbrev pub invariant-loop-event : goal.invariant-loop-event
invariant-loop-event l = record { parts : l.all.items ++ woven_from [] (remaining l.journals l.next.items) ≡ woven_from [] l.journals; same : length l.next.items ≡ length l.journals }

abbrev pub decreases-loop-event : goal.decreases-loop-event
decreases-loop-event l = unread l.journals l.next.items
