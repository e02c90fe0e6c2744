use Rattle.std.proofs.Common.{rules}
use Rattle.std.proofs.lemmas.Fn.{filter_same}
use Rattle.proc_tree.specs.Processes.{is_present}
use Rattle.proc_tree.specs.Tree.{passes_at}
use Rattle.proc_tree.proofs.rows.keep_present.Goals as goal

pub returns : goal.returns
returns c = filter_same _ (passes_at is_present c.args.processes.now) _ (λ x b f' k. search rules) _ _ c.retain.ensures.filtered
