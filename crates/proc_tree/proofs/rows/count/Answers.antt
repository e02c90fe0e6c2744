use Rattle.std.proofs.Common.{ap, ◌∙◌, length}
use Rattle.proc_tree.proofs.Present.{length-present_from}
use Rattle.proc_tree.proofs.rows.count.Goals as goal

pub returns : goal.returns
returns c = ap length c.requires ∙ length-present_from 1 c.args.processes.now
