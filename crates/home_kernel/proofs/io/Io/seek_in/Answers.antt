use Rattle.home_kernel.proofs.Holding.{sought_io_is}
use Rattle.home_kernel.proofs.io.Io.seek_in.Goals as goal

pub invariant_of-self : goal.invariant_of-self
invariant_of-self c = rw c.seek.ensures (sought_io_is c.self.inside.files c.self.inside.fds c.args.pid c.args.fd _ c.self.invariant)
