use Rattle.std.proofs.Common.{arith, ap, ◌∙◌}
use Rattle.fd_table.specs.Descriptors.{FdTable, end_count}
use Rattle.fd_table.proofs.HeldLemmas.{ends_fit, end_looks}
use Rattle.fd_table.proofs.fds.Fds.ends.Goals as goal

pub overflow_cast-result : goal.overflow_cast-result
overflow_cast-result c = omega (arith, c.count_ends.ensures, ends_fit c.args.target c.self.inside.descriptions c.self.inside.processes.items c.self.invariant)

pub returns : goal.returns
returns c = c.count_ends.ensures ∙ end_looks c.args.target c.self.inside.descriptions ∙ ap (λ (t : FdTable). end_count c.args.target t.descriptions) c.self.view_is
