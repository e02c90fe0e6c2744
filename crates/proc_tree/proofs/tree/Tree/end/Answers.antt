use Rattle.std.proofs.Common.{◌≡◌, ◌∙◌, ap, sym, subst, map, true}
use Rattle.std.specs.List.{filter}
use Rattle.proc_tree.specs.Processes.{is_present, parted_from, in_state, end_state}
use Rattle.proc_tree.specs.Tree.{passes_at, parent_of, live_at, changed_pid, present_from, IsWithinLimits}
use Rattle.proc_tree.specs.Steps.{parted_each}
use Rattle.proc_tree.proofs.Present.{StayGone, kept_present}
use Rattle.proc_tree.proofs.Ends.{all_parted, stay_ended}
use Rattle.proc_tree.proofs.tree.Tree.end.Goals as goal

-- the processes after both steps, from those that were inside
ended_inside : (c : goal.After-keep_present) → c.set_state.new.processes.items ≡ changed_pid (in_state c.end_state-state.result) (map (parted_from c.args.pid) c.self.inside.processes.items) c.args.pid
ended_inside c =
    let parted : c.part_each.new.processes.items ≡ map (parted_from c.args.pid) c.self.inside.processes.items
    = c.part_each.ensures
    ∙ ap (parted_each c.args.pid c.self.inside.processes.items) (c.deref.ensures.value ∙ c.self.invariant.0)
    ∙ all_parted c.args.pid c.self.inside.processes.items in
    c.set_state.ensures ∙ ap (λ tree. changed_pid (in_state c.end_state-state.result) tree c.args.pid) parted

kept : (c : goal.After-keep_present) → (c.keep_present.new.present.items ≡ present_from 1 c.set_state.new.processes.items) × IsWithinLimits c.set_state.new.processes.items
kept c =
    let live : live_at c.self.inside.processes.items c.args.pid ≡ true = ap (λ tree. live_at tree c.args.pid) c.self.view_is ∙ c.requires in
    let stay : StayGone c.self.inside.processes.items c.set_state.new.processes.items
    = subst (StayGone c.self.inside.processes.items) (sym (ended_inside c)) (stay_ended c.self.inside.processes.items c.args.pid c.end_state-state.result live) in
    kept_present _ _ _ _ c.self.invariant stay
    (c.keep_present.ensures ∙ ap (λ tree. filter (passes_at is_present tree) c.self.inside.present.items) c.deref-2.ensures.value)

pub invariant_of-self : goal.invariant_of-self
invariant_of-self c = kept c

pub returns-clause-new : goal.returns-clause-new
returns-clause-new c =
    let state : c.end_state-state.result ≡ end_state (live_at c.args.self.now (parent_of c.args.self.now c.args.pid)) c.args.status
    = c.end_state-state.ensures
    ∙ ap (λ lives. end_state lives c.args.status) (c.live.ensures ∙ ap (live_at c.args.self.now) c.parent.ensures) in
    ended_inside c
    ∙ ap (λ s. changed_pid (in_state s) (map (parted_from c.args.pid) c.self.inside.processes.items) c.args.pid) state
    ∙ ap (λ tree. changed_pid (in_state (end_state (live_at c.args.self.now (parent_of c.args.self.now c.args.pid)) c.args.status)) (map (parted_from c.args.pid) tree) c.args.pid) c.self.view_is

pub returns-clause-limits : goal.returns-clause-limits
returns-clause-limits c = (kept c).1
