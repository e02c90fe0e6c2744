use Rattle.std.proofs.Common.{◌≡◌, ◌∙◌, ap, sym, subst, true}
use Rattle.std.specs.List.{filter}
use Rattle.proc_tree.specs.Processes.{is_present}
use Rattle.proc_tree.specs.Tree.{passes_at, zombie_at, present_from, IsWithinLimits}
use Rattle.proc_tree.proofs.Present.{StayGone, kept_present}
use Rattle.proc_tree.proofs.Ends.{stay_reaped}
use Rattle.proc_tree.proofs.tree.Tree.reap.Goals as goal

kept : (c : goal.After-keep_present) → (c.keep_present.new.present.items ≡ present_from 1 c.set_state.new.processes.items) × IsWithinLimits c.set_state.new.processes.items
kept c =
    let zombie : zombie_at c.self.inside.processes.items c.args.child ≡ true = ap (λ tree. zombie_at tree c.args.child) c.self.view_is ∙ c.requires in
    let stay : StayGone c.self.inside.processes.items c.set_state.new.processes.items
    = subst (StayGone c.self.inside.processes.items) (sym c.set_state.ensures) (stay_reaped c.self.inside.processes.items c.args.child _ zombie) in
    kept_present _ _ _ _ c.self.invariant stay
    (c.keep_present.ensures ∙ ap (λ tree. filter (passes_at is_present tree) c.self.inside.present.items) c.deref.ensures.value)

pub invariant_of-self : goal.invariant_of-self
invariant_of-self c = kept c

pub returns-clause-limits : goal.returns-clause-limits
returns-clause-limits c = (kept c).1
