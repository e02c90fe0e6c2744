use Rattle.std.proofs.Common.{refl}
use Rattle.fd_table.proofs.HeldLemmas.{few_holders, first_there, held_put}
use Rattle.fd_table.proofs.fds.Fds.launch.Goals as goal

pub hold_all-requires-clause-few : goal.hold_all-requires-clause-few
hold_all-requires-clause-few c = few_holders c.self.inside.descriptions c.self.inside.processes.items c.self.invariant

pub invariant_of-self-2 : goal.invariant_of-self-2
invariant_of-self-2 c =
    rw c.in_ok-make_room.ensures.ok
    (held_put c.self.inside.descriptions c.hold_all.new.descriptions c.self.inside.processes.items c.args.pid _ c.self.invariant (rw (← c.self.view_is) at c.requires) refl (first_there c.self.inside.descriptions c.self.inside.processes.items c.self.invariant) c.hold_all.ensures c.ranges.pid.fits)
