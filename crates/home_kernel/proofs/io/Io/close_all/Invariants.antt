use Rattle.std.proofs.Common.{◌≡◌, ◌-◌, ◌≤◌}
use Rattle.kernel_spec.specs.Io.{all_closed, closed_from, descriptor_count}
use Rattle.home_kernel.specs.Rules.{AreKept}
use Rattle.home_kernel.proofs.io.Io.close_all.Given as goal

abbrev pub invariant-loop-fd : goal.invariant-loop-fd
invariant-loop-fd l = record {
  left : closed_from (descriptor_count - l.fd) l.pid l.fd l.self ≡ all_closed l.fn.self l.fn.pid;
  kept : AreKept l.fn.self.fds.processes l.self.fds.processes;
  within : l.fd ≤ descriptor_count;
  same : l.pid ≡ l.fn.pid;
}
