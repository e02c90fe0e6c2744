use Rattle.std.proofs.Common.{◌≡◌, drop}
use Rattle.node_core.specs.Letters.{any_to}
use Rattle.node_core.proofs.outbox.Outbox.has_to.Given as goal

abbrev pub invariant-loop-at : goal.invariant-loop-at
invariant-loop-at l = any_to l.node (drop l.at l.self) ≡ any_to l.node l.self
