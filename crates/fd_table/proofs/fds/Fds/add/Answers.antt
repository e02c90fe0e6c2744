use Rattle.std.proofs.Common.{arith}
use Rattle.fd_table.proofs.HeldLemmas.{lowest_in, lowest_read, add_done}
use Rattle.fd_table.proofs.fds.Fds.add.Goals as goal

pub set_slot-requires-clause-within : goal.set_slot-requires-clause-within
set_slot-requires-clause-within c =
    let lowest = lowest_read c.deref.result.now c.self.inside.processes.items c.args.pid c.lowest_free_of-fd.result c.lowest_free_of-fd.ensures c.deref.ensures.value in
    omega (arith, lowest_in c.self.inside.descriptions c.self.inside.processes.items c.args.pid c.self.invariant (rw (← c.self.view_is) at c.requires.process) (rw (← c.self.view_is) at c.requires.free))

pub invariant_of-self-2 : goal.invariant_of-self-2
invariant_of-self-2 c =
    let lowest = lowest_read c.deref.result.now c.self.inside.processes.items c.args.pid c.lowest_free_of-fd.result c.lowest_free_of-fd.ensures c.deref.ensures.value in
    let done = add_done c.self.inside.descriptions c.add.new.self c.self.inside.processes.items c.set_slot.new.processes.items c.args.pid c.lowest_free_of-fd.result c.in_ok-id.id c.args.rights c.args.target c.self.invariant (rw (← c.self.view_is) at c.requires.process) (rw (← c.self.view_is) at c.requires.free) (rw (← c.self.view_is) at c.requires.few) lowest c.in_ok-id.ensures.id c.in_ok-id.ensures.ok c.set_slot.ensures in
    done.0

pub returns-clause-ok : goal.returns-clause-ok
returns-clause-ok c =
    let lowest = lowest_read c.deref.result.now c.self.inside.processes.items c.args.pid c.lowest_free_of-fd.result c.lowest_free_of-fd.ensures c.deref.ensures.value in
    let done = add_done c.self.inside.descriptions c.add.new.self c.self.inside.processes.items c.set_slot.new.processes.items c.args.pid c.lowest_free_of-fd.result c.in_ok-id.id c.args.rights c.args.target c.self.invariant (rw (← c.self.view_is) at c.requires.process) (rw (← c.self.view_is) at c.requires.free) (rw (← c.self.view_is) at c.requires.few) lowest c.in_ok-id.ensures.id c.in_ok-id.ensures.ok c.set_slot.ensures in
    rw (← c.self.view_is) done.1

pub returns-clause-low : goal.returns-clause-low
returns-clause-low c =
    let lowest = lowest_read c.deref.result.now c.self.inside.processes.items c.args.pid c.lowest_free_of-fd.result c.lowest_free_of-fd.ensures c.deref.ensures.value in
    omega (arith, lowest_in c.self.inside.descriptions c.self.inside.processes.items c.args.pid c.self.invariant (rw (← c.self.view_is) at c.requires.process) (rw (← c.self.view_is) at c.requires.free))
