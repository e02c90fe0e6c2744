use Rattle.std.proofs.Common.{◌≡◌, ◌+◌, drop}
use Rattle.node_event.specs.Reading.{blank_at}
use Rattle.node_event.proofs.word.blank_at.Given as goal

abbrev pub invariant-loop-at : goal.invariant-loop-at
invariant-loop-at l = blank_at l.bytes ≡ l.at + blank_at (drop l.at l.bytes)
