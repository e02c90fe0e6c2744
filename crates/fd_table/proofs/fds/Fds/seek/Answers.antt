use Rattle.fd_table.proofs.HeldLemmas.{slot_here, held_there, held_moved, table_moved}
use Rattle.fd_table.proofs.fds.Fds.seek.Goals as goal

pub seek-requires : goal.seek-requires
seek-requires c =
    let here = slot_here c.deref.result.now c.self.inside.processes.items c.args.pid c.args.fd c.unwrap-id.result c.slot.result c.slot.ensures c.deref.ensures.value c.unwrap-id.ensures in
    held_there c.self.inside.descriptions c.self.inside.processes.items c.args.pid c.args.fd c.unwrap-id.result c.self.invariant here

pub invariant_of-self : goal.invariant_of-self
invariant_of-self c =
    let here = slot_here c.deref.result.now c.self.inside.processes.items c.args.pid c.args.fd c.unwrap-id.result c.slot.result c.slot.ensures c.deref.ensures.value c.unwrap-id.ensures in
    rw c.seek.ensures (held_moved c.self.inside.descriptions c.self.inside.processes.items c.unwrap-id.result c.args.offset c.self.invariant (held_there c.self.inside.descriptions c.self.inside.processes.items c.args.pid c.args.fd c.unwrap-id.result c.self.invariant here))

pub returns : goal.returns
returns c =
    let here = slot_here c.deref.result.now c.self.inside.processes.items c.args.pid c.args.fd c.unwrap-id.result c.slot.result c.slot.ensures c.deref.ensures.value c.unwrap-id.ensures in
    rw (c.seek.ensures, ← c.self.view_is) (table_moved c.self.inside.descriptions c.self.inside.processes.items c.args.pid c.args.fd c.unwrap-id.result c.args.offset here)
