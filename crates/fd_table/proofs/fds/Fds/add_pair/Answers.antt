use Rattle.std.proofs.Common.{◌≡◌, ◌+◌, ◌<◌, ◌≤◌, IsSome, arith}
use Rattle.id_table.specs.Places.{at_id}
use Rattle.fd_table.specs.Descriptors.{slots_at, free_count, counted}
use Rattle.fd_table.specs.Held.{looks}
use Rattle.fd_table.proofs.HeldLemmas.{lowest_in}
use Rattle.fd_table.proofs.PairLemmas.{first_done, pair_done}
use Rattle.fd_table.proofs.fds.Fds.add_pair.Goals as goal

pub set_lowest-fd-requires-clause-within : goal.set_lowest-fd-requires-clause-within
set_lowest-fd-requires-clause-within c =
    let free : 2 ≤ free_count (slots_at c.self.inside.processes.items c.args.pid) = rw (← c.self.view_is) at c.requires.free in
    omega (arith, lowest_in c.self.inside.descriptions c.self.inside.processes.items c.args.pid c.self.invariant (rw (← c.self.view_is) at c.requires.process) (omega (arith, free)))

pub set_lowest-other-requires-clause-within : goal.set_lowest-other-requires-clause-within
set_lowest-other-requires-clause-within c =
    let ready = (first_done c.self.inside.descriptions c.self.inside.processes.items c.set_lowest-fd.new.processes.items c.args.pid c.set_lowest-fd.result c.in_ok-id.id 1 c.args.first c.self.invariant (rw (← c.self.view_is) at c.requires.process) (rw (← c.self.view_is) at c.requires.free) (rw (← c.self.view_is) at c.requires.few) c.set_lowest-fd.ensures.fd c.in_ok-id.ensures.first c.set_lowest-fd.ensures.new).0 in
    omega (arith, lowest_in _ c.set_lowest-fd.new.processes.items c.args.pid ready.table ready.process ready.free)

pub invariant_of-self-2 : goal.invariant_of-self-2
invariant_of-self-2 c =
    (pair_done c.self.inside.descriptions c.add_pair.new.self c.self.inside.processes.items c.set_lowest-fd.new.processes.items c.set_lowest-other.new.processes.items c.args.pid c.set_lowest-fd.result c.set_lowest-other.result c.in_ok-id.id c.in_ok-id.other_id c.args.first c.args.second c.self.invariant (rw (← c.self.view_is) at c.requires.process) (rw (← c.self.view_is) at c.requires.free) (rw (← c.self.view_is) at c.requires.few) c.set_lowest-fd.ensures.fd c.in_ok-id.ensures.first c.set_lowest-fd.ensures.new c.set_lowest-other.ensures.fd c.in_ok-id.ensures.second c.in_ok-id.ensures.ok c.set_lowest-other.ensures.new).0

pub returns-clause-second : goal.returns-clause-second
returns-clause-second c =
    rw (← c.self.view_is)
    ((pair_done c.self.inside.descriptions c.add_pair.new.self c.self.inside.processes.items c.set_lowest-fd.new.processes.items c.set_lowest-other.new.processes.items c.args.pid c.set_lowest-fd.result c.set_lowest-other.result c.in_ok-id.id c.in_ok-id.other_id c.args.first c.args.second c.self.invariant (rw (← c.self.view_is) at c.requires.process) (rw (← c.self.view_is) at c.requires.free) (rw (← c.self.view_is) at c.requires.few) c.set_lowest-fd.ensures.fd c.in_ok-id.ensures.first c.set_lowest-fd.ensures.new c.set_lowest-other.ensures.fd c.in_ok-id.ensures.second c.in_ok-id.ensures.ok c.set_lowest-other.ensures.new).2)

pub returns-clause-ok : goal.returns-clause-ok
returns-clause-ok c =
    rw (← c.self.view_is)
    ((pair_done c.self.inside.descriptions c.add_pair.new.self c.self.inside.processes.items c.set_lowest-fd.new.processes.items c.set_lowest-other.new.processes.items c.args.pid c.set_lowest-fd.result c.set_lowest-other.result c.in_ok-id.id c.in_ok-id.other_id c.args.first c.args.second c.self.invariant (rw (← c.self.view_is) at c.requires.process) (rw (← c.self.view_is) at c.requires.free) (rw (← c.self.view_is) at c.requires.few) c.set_lowest-fd.ensures.fd c.in_ok-id.ensures.first c.set_lowest-fd.ensures.new c.set_lowest-other.ensures.fd c.in_ok-id.ensures.second c.in_ok-id.ensures.ok c.set_lowest-other.ensures.new).1)
