use Rattle.std.proofs.Common.{arith}
use Rattle.fd_table.proofs.HeldLemmas.{next_there, next_held}
use Rattle.fd_table.proofs.held.hold_all.Goals as goal

pub hold_slot-requires-clause-there : goal.hold_slot-requires-clause-there
hold_slot-requires-clause-there c = next_there c.args.descriptions.now c.loop-slot.descriptions c.args.slots.now _ c.loop-slot.slot-index c.requires.there c.loop-slot.invariant

pub loop-slot-preserved : goal.loop-slot-preserved
loop-slot-preserved c = next_held c.args.descriptions.now c.loop-slot.descriptions c.args.slots.now c.loop-slot.slot-index c.hold_slot.new.descriptions c.loop-slot.invariant c.requires.there (omega (arith, c.requires.size)) c.hold_slot.ensures
