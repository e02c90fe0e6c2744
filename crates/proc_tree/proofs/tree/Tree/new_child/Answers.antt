use Rattle.std.proofs.Common.{◌≡◌, ◌∙◌, ap, sym, Some}
use Rattle.proc_tree.specs.Tree.{next_pid_of}
use Rattle.proc_tree.proofs.Ends.{kept_added}
use Rattle.proc_tree.proofs.tree.Tree.new_child.Goals as goal

pub invariant_of-self-2 : goal.invariant_of-self-2
invariant_of-self-2 c =
    let next : next_pid_of c.self.inside.processes.items c.args.parent ≡ Some c.in-Some.pid
    = ap (λ tree. next_pid_of tree c.args.parent) c.self.view_is ∙ sym c.in-Some.ensures in
    kept_added _ _ _ _ c.args.parent c.in-Some.pid c.self.invariant next c.in_ok-append.ensures.ok.0 c.in_ok-append.ensures.ok.1
