use Rattle.std.proofs.Common.{◌≡◌, ◌+◌, length}
use Rattle.signal_set.specs.Signals.{no_signals}
use Rattle.home_kernel.proofs.Growing.{launched_kernel, next_is}
use Rattle.home_kernel.specs.Serving.{kernel_of}
use Rattle.home_kernel.proofs.kernel.Kernel.launch.Goals as goal

pub invariant_of-self-in-Ok : goal.invariant_of-self-in-Ok
invariant_of-self-in-Ok c =
    let k = kernel_of c.self.inside.io c.self.inside.terminal c.self.inside.typed c.self.inside.processes in
    let joins = rw c.in-Some.is at c.in_ok-pid.ensures.ok in
    let pid : length c.self.inside.processes.tree + 1 ≡ c.in-Some.pid = next_is c.self.inside.processes.tree 0 c.in-Some.pid joins.0 in
    rw c.in-Ok.ensures.ok (rw joins.1 (rw (← pid) (launched_kernel k 0 no_signals c.self.invariant)))
