use Rattle.home_kernel.proofs.Holding.{sought_io_is, written_io}
use Rattle.home_kernel.proofs.io.Io.write.Goals as goal

pub invariant_of-self-2 : goal.invariant_of-self-2
invariant_of-self-2 c =
    rw c.seek.ensures (rw c.in_ok-count.ensures.ok
    (sought_io_is _ c.self.inside.fds c.args.pid c.args.fd _ (written_io c.self.inside.files c.self.inside.fds c.args.id c.args.look.offset c.args.bytes.now c.self.invariant)))
