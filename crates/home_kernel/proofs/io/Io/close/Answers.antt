use Rattle.std.proofs.Common.{◌∙◌, sym}
use Rattle.home_kernel.proofs.Holding.{held_once, closed_io}
use Rattle.home_kernel.proofs.io.Io.close.Goals as goal

pub release-requires : goal.release-requires
release-requires c = λ id e. held_once c.self.inside.files c.self.inside.fds c.args.pid c.args.fd c.self.invariant id (sym c.close-gone.ensures.target ∙ e)

pub invariant_of-self : goal.invariant_of-self
invariant_of-self c = rw c.release.ensures (rw c.close-gone.ensures.new (rw c.close-gone.ensures.target (closed_io c.self.inside.files c.self.inside.fds c.args.pid c.args.fd c.self.invariant)))
