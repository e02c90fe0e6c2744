use Rattle.std.proofs.Common.{◌≡◌, ◌∙◌, ap}
use Rattle.proc_tree.specs.Tree.{lowest_zombie}
use Rattle.proc_tree.proofs.Present.{first_zombie_of, lowest_is_zombie}
use Rattle.proc_tree.proofs.tree.Tree.zombie_of.Goals as goal

pub found : (c : goal.After-first_zombie_of) → c.first_zombie_of.result ≡ lowest_zombie c.args.self.now c.args.pid
found c =
    c.first_zombie_of.ensures
    ∙ first_zombie_of _ _ _ _ c.args.pid c.deref.ensures.value c.deref-2.ensures.value c.self.invariant.0
    ∙ ap (λ tree. lowest_zombie tree c.args.pid) c.self.view_is

pub returns-clause-lowest : goal.returns-clause-lowest
returns-clause-lowest c = found c

pub returns-clause-zombie : goal.returns-clause-zombie
returns-clause-zombie c = rw (found c) (lowest_is_zombie c.args.self.now c.args.pid)
