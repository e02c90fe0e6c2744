use Rattle.std.proofs.Common.{◌≡◌, ◌-◌, ◌∙◌, ap, length, take, List, ℕ, vec_len, arith}
use Rattle.proc_tree.specs.Tree.{present_from, IsWithinLimits}
use Rattle.proc_tree.proofs.Ends.{taken_back}
use Rattle.proc_tree.proofs.tree.Tree.take_back.Goals as goal

short : (c : goal.After-pop-2) → (c.pop-2.new.self.items ≡ present_from 1 c.pop.new.self.items) × IsWithinLimits c.pop.new.self.items
short c =
    let tree = c.self.inside.processes in
    let present = c.self.inside.present in
    let len : vec_len tree ≡ length tree.items = omega (arith, tree.ok.0) in
    let count : vec_len present ≡ length present.items = omega (arith, present.ok.0) in
    taken_back tree.items c.pop.new.self.items present.items c.pop-2.new.self.items c.args.parent c.self.invariant (rw (← c.self.view_is) at c.requires)
    (c.pop.ensures.rest ∙ ap (λ n. take (n - 1) tree.items) len) (c.pop-2.ensures.rest ∙ ap (λ n. take (n - 1) present.items) count)

pub invariant_of-self : goal.invariant_of-self
invariant_of-self c = short c

pub returns-clause-limits : goal.returns-clause-limits
returns-clause-limits c = (short c).1
