use Rattle.std.proofs.Common.{take}
use Rattle.fd_table.specs.Held.{IsHeldBy}
use Rattle.fd_table.proofs.held.hold_all.Given as goal

abbrev pub invariant-loop-slot : goal.invariant-loop-slot
invariant-loop-slot l = IsHeldBy l.initial.descriptions l.descriptions (take l.slot-index l.slots)
