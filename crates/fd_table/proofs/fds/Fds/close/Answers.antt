use Rattle.std.proofs.Common.{◌∙◌}
use Rattle.fd_table.proofs.HeldLemmas.{slot_here, held_there, held_once, held_closed, table_closed, target_closed}
use Rattle.fd_table.proofs.fds.Fds.close.Goals as goal

pub let_one_go-requires-clause-there : goal.let_one_go-requires-clause-there
let_one_go-requires-clause-there c =
    let here = slot_here c.deref.result.now c.self.inside.processes.items c.args.pid c.args.fd c.unwrap-id.result c.slot.result c.slot.ensures c.deref.ensures.value c.unwrap-id.ensures in
    held_there c.self.inside.descriptions c.self.inside.processes.items c.args.pid c.args.fd c.unwrap-id.result c.self.invariant here

pub let_one_go-requires-clause-held : goal.let_one_go-requires-clause-held
let_one_go-requires-clause-held c =
    let here = slot_here c.deref.result.now c.self.inside.processes.items c.args.pid c.args.fd c.unwrap-id.result c.slot.result c.slot.ensures c.deref.ensures.value c.unwrap-id.ensures in
    held_once c.self.inside.descriptions c.self.inside.processes.items c.args.pid c.args.fd c.unwrap-id.result c.self.invariant here

pub invariant_of-self : goal.invariant_of-self
invariant_of-self c =
    let here = slot_here c.deref.result.now c.self.inside.processes.items c.args.pid c.args.fd c.unwrap-id.result c.slot.result c.slot.ensures c.deref.ensures.value c.unwrap-id.ensures in
    rw (c.let_one_go.ensures.new, c.set_slot.ensures) (held_closed c.self.inside.descriptions c.self.inside.processes.items c.args.pid c.args.fd c.unwrap-id.result c.self.invariant here)

pub returns-clause-target : goal.returns-clause-target
returns-clause-target c =
    let here = slot_here c.deref.result.now c.self.inside.processes.items c.args.pid c.args.fd c.unwrap-id.result c.slot.result c.slot.ensures c.deref.ensures.value c.unwrap-id.ensures in
    rw (← c.self.view_is) (c.let_one_go.ensures.target ∙ target_closed c.self.inside.descriptions c.self.inside.processes.items c.args.pid c.args.fd c.unwrap-id.result c.self.invariant here)

pub returns-clause-new : goal.returns-clause-new
returns-clause-new c =
    let here = slot_here c.deref.result.now c.self.inside.processes.items c.args.pid c.args.fd c.unwrap-id.result c.slot.result c.slot.ensures c.deref.ensures.value c.unwrap-id.ensures in
    rw (c.let_one_go.ensures.new, c.set_slot.ensures, ← c.self.view_is) (table_closed c.self.inside.descriptions c.self.inside.processes.items c.args.pid c.args.fd c.unwrap-id.result c.self.invariant here)
