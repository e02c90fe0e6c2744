use Rattle.fd_table.proofs.HeldLemmas.{few_holders, all_there, held_put, slots_read}
use Rattle.fd_table.proofs.fds.Fds.fork.Goals as goal

pub hold_all-requires-clause-there : goal.hold_all-requires-clause-there
hold_all-requires-clause-there c = all_there c.self.inside.descriptions c.self.inside.processes.items c.args.parent c.slots-slots.result c.self.invariant (slots_read c.deref.result.now c.self.inside.processes.items c.args.parent c.slots-slots.result c.slots-slots.ensures c.deref.ensures.value)

pub hold_all-requires-clause-few : goal.hold_all-requires-clause-few
hold_all-requires-clause-few c = few_holders c.self.inside.descriptions c.self.inside.processes.items c.self.invariant

pub invariant_of-self-2 : goal.invariant_of-self-2
invariant_of-self-2 c =
    let parent = slots_read c.deref.result.now c.self.inside.processes.items c.args.parent c.slots-slots.result c.slots-slots.ensures c.deref.ensures.value in
    rw c.in_ok-make_room.ensures.ok
    (held_put c.self.inside.descriptions c.hold_all.new.descriptions c.self.inside.processes.items c.args.child c.slots-slots.result c.self.invariant (rw (← c.self.view_is) at c.requires.child)
    (c.self.invariant.table.whole c.args.parent c.slots-slots.result parent) (all_there c.self.inside.descriptions c.self.inside.processes.items c.args.parent c.slots-slots.result c.self.invariant parent) c.hold_all.ensures c.ranges.child.fits)
