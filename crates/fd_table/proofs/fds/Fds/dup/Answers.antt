use Rattle.std.proofs.Common.{arith}
use Rattle.fd_table.proofs.HeldLemmas.{slot_here, held_there, few_holders, lowest_read, none_free, process_there, dup_done}
use Rattle.fd_table.proofs.fds.Fds.dup.Goals as goal

pub returns-then-new-ge-DESCRIPTORS-clause-fd : goal.returns-then-new-ge-DESCRIPTORS-clause-fd
returns-then-new-ge-DESCRIPTORS-clause-fd c =
    let here = slot_here c.deref.result.now c.self.inside.processes.items c.args.pid c.args.fd c.unwrap-id.result c.slot.result c.slot.ensures c.deref.ensures.value c.unwrap-id.ensures in
    let lowest = lowest_read c.deref-2.result.now c.self.inside.processes.items c.args.pid c.lowest_free_of-new.result c.lowest_free_of-new.ensures c.deref-2.ensures.value in
    rw (← c.self.view_is) (none_free c.self.inside.descriptions c.self.inside.processes.items c.args.pid c.lowest_free_of-new.result c.self.invariant (process_there c.self.inside.processes.items c.args.pid c.args.fd c.unwrap-id.result here) lowest (omega arith))

pub hold-requires-clause-there : goal.hold-requires-clause-there
hold-requires-clause-there c =
    let here = slot_here c.deref.result.now c.self.inside.processes.items c.args.pid c.args.fd c.unwrap-id.result c.slot.result c.slot.ensures c.deref.ensures.value c.unwrap-id.ensures in
    held_there c.self.inside.descriptions c.self.inside.processes.items c.args.pid c.args.fd c.unwrap-id.result c.self.invariant here

pub hold-requires-clause-few : goal.hold-requires-clause-few
hold-requires-clause-few c = omega (arith, few_holders c.self.inside.descriptions c.self.inside.processes.items c.self.invariant c.unwrap-id.result)

pub invariant_of-self : goal.invariant_of-self
invariant_of-self c =
    let here = slot_here c.deref.result.now c.self.inside.processes.items c.args.pid c.args.fd c.unwrap-id.result c.slot.result c.slot.ensures c.deref.ensures.value c.unwrap-id.ensures in
    let lowest = lowest_read c.deref-2.result.now c.self.inside.processes.items c.args.pid c.lowest_free_of-new.result c.lowest_free_of-new.ensures c.deref-2.ensures.value in
    let done = dup_done c.self.inside.descriptions c.hold.new.self c.self.inside.processes.items c.set_slot.new.processes.items c.args.pid c.args.fd c.lowest_free_of-new.result c.unwrap-id.result c.self.invariant here lowest (omega arith) c.hold.ensures c.set_slot.ensures in
    done.0

pub returns-clause-fd : goal.returns-clause-fd
returns-clause-fd c =
    let here = slot_here c.deref.result.now c.self.inside.processes.items c.args.pid c.args.fd c.unwrap-id.result c.slot.result c.slot.ensures c.deref.ensures.value c.unwrap-id.ensures in
    let lowest = lowest_read c.deref-2.result.now c.self.inside.processes.items c.args.pid c.lowest_free_of-new.result c.lowest_free_of-new.ensures c.deref-2.ensures.value in
    let done = dup_done c.self.inside.descriptions c.hold.new.self c.self.inside.processes.items c.set_slot.new.processes.items c.args.pid c.args.fd c.lowest_free_of-new.result c.unwrap-id.result c.self.invariant here lowest (omega arith) c.hold.ensures c.set_slot.ensures in
    rw (← c.self.view_is) (done.2, lowest)

pub returns-clause-new : goal.returns-clause-new
returns-clause-new c =
    let here = slot_here c.deref.result.now c.self.inside.processes.items c.args.pid c.args.fd c.unwrap-id.result c.slot.result c.slot.ensures c.deref.ensures.value c.unwrap-id.ensures in
    let lowest = lowest_read c.deref-2.result.now c.self.inside.processes.items c.args.pid c.lowest_free_of-new.result c.lowest_free_of-new.ensures c.deref-2.ensures.value in
    let done = dup_done c.self.inside.descriptions c.hold.new.self c.self.inside.processes.items c.set_slot.new.processes.items c.args.pid c.args.fd c.lowest_free_of-new.result c.unwrap-id.result c.self.invariant here lowest (omega arith) c.hold.ensures c.set_slot.ensures in
    rw (← c.self.view_is) done.1
