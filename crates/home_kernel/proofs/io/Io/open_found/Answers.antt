use Rattle.std.proofs.Common.{arith}
use Rattle.home_kernel.proofs.Holding.{few_holders, files_changed, opened_io}
use Rattle.home_kernel.proofs.io.Io.open_found.Goals as goal

pub hold-requires-clause-few : goal.hold-requires-clause-few
hold-requires-clause-few c =
    omega (arith, c.truncate.ensures.held c.args.id, few_holders c.self.inside.files c.self.inside.fds c.args.pid c.args.id c.self.invariant (rw (← c.self.view_is) at c.requires.room))

pub invariant_of-self-2 : goal.invariant_of-self-2
invariant_of-self-2 c =
    rw c.hold.ensures (rw c.in_ok-fd.ensures.ok
    (opened_io c.truncate.new.files c.self.inside.fds c.args.pid c.args.id _ c.truncate.ensures.there (files_changed c.self.inside.files c.truncate.new.files c.self.inside.fds c.truncate.ensures.held c.self.invariant)))
