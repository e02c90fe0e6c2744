-- Who lives, after each step on the tree of processes.
use Rattle.std.proofs.Common.{◌≡◌, ◌≢◌, ℕ, zero, suc, ◌+◌, ◌<◌, ◌≤◌, ◌==◌, Bool, true, false, cond, List, [], ◌∷◌, length, map, Option, Some, None, slice_get, refl, ap, sym, subst, inl, inr, ◌∙◌, arith}
use Rattle.std.specs.Option.{option_map, option_map_or, option_and_then}
use Rattle.std.specs.List.{count_by}
use Rattle.std.proofs.lemmas.List.Sums.{sum_by-cons}
use Rattle.std.proofs.lemmas.Bool.{and_parts, ltb-true, cases_Bool, cases_eq}
use Rattle.std.proofs.lemmas.Option.{cond_some}
use Rattle.call_table.specs.declared.process.End.{End}
use Rattle.proc_tree.specs.declared.process.State.{State}
use Rattle.proc_tree.specs.declared.process.State.TheVariants.{Live, Zombie, Gone}
use Rattle.proc_tree.specs.declared.process.Process.{Process}
use Rattle.proc_tree.specs.Processes.{is_live, is_live_state, is_present, is_present_state, orphaned, parted_from, in_state, end_state, end_of, end_of_state, reaped_state, reaped_process}
use Rattle.proc_tree.specs.Tree.{live_at, ended_at, parent_of, with_end, with_child, reaped, present_count, next_pid_of}
use Rattle.kernel_spec.specs.Pids.{at_pid}
use Rattle.kernel_spec.proofs.PlaceLemmas.{changed_other, changed_here, at_map, at_push, at_last}

-- whether the process in a place lives
abbrev pub live_in : Option Process → Bool
live_in o = option_map_or is_live o false

live_state_orphaned : (state : State) (parent : ℕ) → is_live (orphaned state parent) ≡ is_live_state state
live_state_orphaned Live parent = refl
live_state_orphaned (Zombie status) parent = refl
live_state_orphaned (Gone status) parent = refl

live_parted : (pid : ℕ) (x : Process) → is_live (parted_from pid x) ≡ is_live x
live_parted pid x = by_parent (x.parent == pid)
  where
    by_parent : (b : Bool) → is_live (cond b (orphaned x.state x.parent) x) ≡ is_live x
    by_parent true = live_state_orphaned x.state x.parent
    by_parent false = refl

live_in_parted : (pid : ℕ) (o : Option Process) → live_in (option_map (parted_from pid) o) ≡ live_in o
live_in_parted pid None = refl
live_in_parted pid (Some x) = live_parted pid x

-- an end of p leaves each other process alive that was
pub live_ended : (tree : List Process) (p : ℕ) (e : End) (q : ℕ) → q ≢ p → live_at (with_end tree p e) q ≡ live_at tree q
live_ended tree p e q other =
    ap live_in (changed_other (in_state (end_state (live_at tree (parent_of tree p)) e)) (map (parted_from p) tree) p q other ∙ at_map (parted_from p) tree q)
    ∙ live_in_parted p (at_pid tree q)

dead_state : (b : Bool) (e : End) (o : Option Process) → live_in (option_map (in_state (end_state b e)) o) ≡ false
dead_state b e None = refl
dead_state true e (Some x) = refl
dead_state false e (Some x) = refl

-- and p is not alive after it
pub dead_ended : (tree : List Process) (p : ℕ) (e : End) → live_at (with_end tree p e) p ≡ false
dead_ended tree p e =
    let parent_lives = live_at tree (parent_of tree p) in
    ap live_in (changed_here (in_state (end_state parent_lives e)) (map (parted_from p) tree) p)
    ∙ dead_state parent_lives e (at_pid (map (parted_from p) tree) p)

live_reaped_state : (state : State) → is_live_state (reaped_state state) ≡ is_live_state state
live_reaped_state Live = refl
live_reaped_state (Zombie status) = refl
live_reaped_state (Gone status) = refl

live_in_reaped : (o : Option Process) → live_in (option_map reaped_process o) ≡ live_in o
live_in_reaped None = refl
live_in_reaped (Some x) = live_reaped_state x.state

-- a zombie that is reaped changes nobody's life
pub live_reaped : (tree : List Process) (child q : ℕ) → live_at (reaped tree child) q ≡ live_at tree q
live_reaped tree child q =
    elim (cases_eq q child) [
      | inl same ↦ subst (λ (p : ℕ). live_at (reaped tree child) p ≡ live_at tree p) (sym same) (ap live_in (changed_here reaped_process tree child) ∙ live_in_reaped (at_pid tree child))
      | inr other ↦ ap live_in (changed_other reaped_process tree child q other)
    ]

-- one more process: all others live as they did, and it lives
pub live_joined : (tree : List Process) (parent q : ℕ) → q ≢ length tree + 1 → live_at (with_child tree parent (Some (length tree + 1))) q ≡ live_at tree q
live_joined tree parent q other = ap live_in (at_push tree (record { parent = parent; state = Live }) q other)

pub live_new : (tree : List Process) (parent : ℕ) → live_at (with_child tree parent (Some (length tree + 1))) (length tree + 1) ≡ true
live_new tree parent = ap live_in (at_last tree (record { parent = parent; state = Live }))

-- one that does not live has its end
has_end : (state : State) → is_live_state state ≡ false → end_of_state state ≢ None
has_end Live dead = absurd (cc)
has_end (Zombie status) dead = λ h. absurd (cc)
has_end (Gone status) dead = λ h. absurd (cc)

end_at_place : (tree : List Process) (i : ℕ) → i < length tree → live_in (slice_get tree i) ≡ false → option_and_then end_of (slice_get tree i) ≢ None
end_at_place [] i within dead = absurd (omega (arith, within))
end_at_place (x ∷ tree) zero within dead = has_end x.state dead
end_at_place (x ∷ tree) (suc i) within dead = end_at_place tree i (omega (arith, within)) dead

pub ended_one : (tree : List Process) (p : ℕ) → 1 ≤ p → p ≤ length tree → live_at tree p ≡ false → ended_at tree p ≢ None
ended_one tree zero from to dead = absurd (omega (arith, from))
ended_one tree (suc i) from to dead = end_at_place tree i (omega (arith, to)) dead

-- ---- how many live

live_present : (state : State) → is_live_state state ≡ true → is_present_state state ≡ true
live_present Live h = refl
live_present (Zombie status) h = absurd (cc)
live_present (Gone status) h = absurd (cc)

fewer_live : (tree : List Process) → count_by is_live tree ≤ present_count tree
fewer_live [] = omega arith
fewer_live (x ∷ tree) =
    let rest = fewer_live tree in
    let lives = sum_by-cons (λ y. cond (is_live y) 1 0) x tree in
    let is_there = sum_by-cons (λ y. cond (is_present y) 1 0) x tree in
    elim (cases_Bool (is_live x)) [
      | inl live ↦ let present = live_present x.state live in rw (lives, is_there, live, present) (omega (arith, rest))
      | inr dead ↦ elim (cases_Bool (is_present x)) [
        | inl here ↦ rw (lives, is_there, dead, here) (omega (arith, rest))
        | inr gone ↦ rw (lives, is_there, dead, gone) (omega (arith, rest))
      ]
    ]

-- a pid is given only while fewer than 64 live or are zombies
pub room_below : (tree : List Process) (parent child : ℕ) → next_pid_of tree parent ≡ Some child → (count_by is_live tree < 64) × (child ≡ length tree + 1)
room_below tree parent child h =
    let given = cond_some _ (length tree + 1) child h in
    let few = ltb-true (present_count tree) 64 (and_parts _ _ given.0).0 in
    (omega (arith, few, fewer_live tree), sym given.1)
