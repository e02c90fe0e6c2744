use Rattle.std.proofs.Common.{◌≡◌, ◌+◌, length}
use Rattle.kernel_spec.specs.Pids.{at_pid}
use Rattle.kernel_spec.specs.Calls.{inherited}
use Rattle.home_kernel.proofs.Growing.{forked_kernel, next_is}
use Rattle.home_kernel.specs.Serving.{kernel_of}
use Rattle.home_kernel.proofs.kernel.Kernel.fork.Goals as goal

pub invariant_of-self-in-Ok : goal.invariant_of-self-in-Ok
invariant_of-self-in-Ok c =
    let k = kernel_of c.self.inside.io c.self.inside.terminal c.self.inside.typed c.self.inside.processes in
    let joins = rw c.in-Some.is at c.in_ok-child.ensures.ok in
    let child : length c.self.inside.processes.tree + 1 ≡ c.in-Some.child = next_is c.self.inside.processes.tree c.args.pid c.in-Some.child joins.0 in
    rw c.in-Ok.ensures.ok (rw joins.1 (rw (← child) (forked_kernel k c.args.pid (inherited (at_pid c.self.inside.processes.signals c.args.pid)) c.self.invariant)))
