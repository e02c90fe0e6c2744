use Rattle.std.proofs.Common.{◌∙◌, ap}
use Rattle.proc_tree.specs.Tree.{has_child_of}
use Rattle.proc_tree.proofs.Present.{any_child_of}
use Rattle.proc_tree.proofs.tree.Tree.has_child.Goals as goal

pub returns : goal.returns
returns c =
    c.any_child_of.ensures
    ∙ any_child_of _ _ _ _ c.args.pid c.deref.ensures.value c.deref-2.ensures.value c.self.invariant.0
    ∙ ap (λ tree. has_child_of tree c.args.pid) c.self.view_is
