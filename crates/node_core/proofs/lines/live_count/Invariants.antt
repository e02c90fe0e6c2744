use Rattle.std.proofs.Common.{◌≡◌, ◌+◌, drop}
use Rattle.kernel_spec.specs.Kernel.{is_live}
use Rattle.protocol.specs.Home.{live_of}
use Rattle.node_core.proofs.lines.live_count.Given as goal

abbrev pub invariant-loop-pid : goal.invariant-loop-pid
invariant-loop-pid l = l.count + live_of (is_live l.deputies.kernel) (drop l.pid-index l.pids) ≡ live_of (is_live l.deputies.kernel) l.pids
