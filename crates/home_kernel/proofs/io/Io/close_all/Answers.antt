use Rattle.std.proofs.Common.{◌≡◌, ◌+◌, ◌-◌, ◌∙◌, sym, ap, refl, arith}
use Rattle.kernel_spec.specs.Io.{IoDone, closed_from, descriptor_count}
use Rattle.home_kernel.proofs.Closing.{descriptors, closed_step, closed_last, kept_on}
use Rattle.home_kernel.proofs.io.Io.close_all.Goals as goal

pub loop-fd-preserved : goal.loop-fd-preserved
loop-fd-preserved c = record {
  left =
      ap (λ (d : IoDone). closed_from (descriptor_count - (c.loop-fd.fd + 1)) c.args.pid (c.loop-fd.fd + 1) d.io) (sym c.close.ensures.is)
      ∙ sym (closed_step c.args.pid c.loop-fd.fd c.loop-fd.self (omega (arith, descriptors, c.loop-fd-test.true)))
      ∙ c.loop-fd.invariant.left;
  kept = kept_on c.args.self.now.fds.processes c.loop-fd.self.fds.processes c.close.new.self.fds.processes c.loop-fd.invariant.kept c.close.ensures.kept;
  within = omega (arith, descriptors, c.loop-fd-test.true);
  same = refl;
}

pub returns-clause-is : goal.returns-clause-is
returns-clause-is c =
    sym (closed_last c.args.pid c.loop-fd.fd c.loop-fd.self (omega (arith, descriptors, c.loop-fd-test.false))) ∙ c.loop-fd.invariant.left
