use Rattle.std.proofs.Common.{◌≡◌, ◌++◌, map}
use Rattle.node_core.specs.Letters.{posted_by}
use Rattle.node_core.proofs.outbox.Outbox.push_all.Given as goal

abbrev pub invariant-loop-to : goal.invariant-loop-to
invariant-loop-to l = l.self ≡ l.fn.self ++ map (posted_by l.from l.stamp) l.yielded
