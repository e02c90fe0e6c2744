-- What an end, a raised signal, a taken one, a launch and input leave of the processes, and who has an end.
use Rattle.std.proofs.Common.{◌≡◌, ◌≢◌, ℕ, ◌+◌, ◌<◌, ◌≤◌, Bool, true, false, cond, List, length, Option, Some, None, is_some, refl, ap, subst, inl, inr, ◌∙◌}
use Rattle.std.specs.Option.{option_map, option_and_then}
use Rattle.std.proofs.lemmas.Bool.{cases_Bool}
use Rattle.call_table.specs.declared.process.End.{End}
use Rattle.call_table.specs.declared.process.End.TheVariants.{Signal}
use Rattle.call_table.specs.declared.request.Taken.{Taken}
use Rattle.call_table.specs.declared.request.Taken.TheVariants.{Dies, Enters}
use Rattle.proc_tree.specs.Tree.{next_pid_of}
use Rattle.signal_set.specs.declared.act.Act.{Act}
use Rattle.signal_set.specs.declared.act.Act.TheVariants.{Default, Ignore, Handler}
use Rattle.signal_set.specs.Acts.{taken_by}
use Rattle.signal_set.specs.Signals.{SignalState, Took, no_signals, lowest_deliverable, act_of}
use Rattle.kernel_spec.specs.Io.{all_closed}
use Rattle.kernel_spec.specs.Processes.{ended_in, live_signals, heeding, heeds, with_left, taken_of, take_of, take_at, is_handled}
use Rattle.kernel_spec.specs.Kernel.{KernelState, Input, AfterTake, given, is_live, end_at, has_room, with_process, with_raised, with_end, deliverable, take_result, after_took, after_taken}
use Rattle.kernel_spec.specs.Others.{LeavesOthers, is_at, live_count}
use Rattle.kernel_spec.proofs.GivenLemmas.{given_joined, tree_raised}
use Rattle.kernel_spec.proofs.TreeFacts.{dead_ended, live_joined, live_new as live_newest, room_below, ended_one}
use Rattle.kernel_spec.proofs.SignalFacts.{quiet_left, quiet_joined, quiet_raised, live_raised, lowest_lives}
use Rattle.kernel_spec.proofs.CallFacts.{untouched, end_leaves}

-- ---- pid 0, and the ends

pub none_at_zero : (k : KernelState) → is_live k 0 ≡ false
none_at_zero k = refl

pub deliverable_lives : (k : KernelState) (q s : ℕ) → deliverable k q ≡ Some s → is_live k q ≡ true
deliverable_lives k q s h = lowest_lives k.processes q s h

-- a process that was given and does not live has its end
pub given_has_end : (k : KernelState) (p : ℕ) → 1 ≤ p → p ≤ given k → is_live k p ≡ false → end_at k p ≢ None
given_has_end k p from to dead = ended_one k.processes.tree p from to dead

-- after its end a process does not live
pub dead_after_end : (k : KernelState) (p : ℕ) (e : End) → is_live (with_end k p e) p ≡ false
dead_after_end k p e = by_live (is_live k p) refl
  where
    by_live : (b : Bool) → is_live k p ≡ b → is_live (cond b (record k { io = all_closed k.io p; processes = ended_in k.processes p e }) k) p ≡ false
    by_live true h = dead_ended k.processes.tree p e
    by_live false h = h

-- the end of one that does not live changes nothing, nor does a signal that is raised at it
pub end_of_none : (k : KernelState) (p : ℕ) (e : End) → is_live k p ≡ false → with_end k p e ≡ k
end_of_none k p e dead = rw dead refl

pub raise_at_none : (k : KernelState) (p signal : ℕ) → is_live k p ≡ false → with_raised k p signal ≡ k
raise_at_none k p signal dead = rw dead refl

-- ---- a raised signal

pub given_raise : (k : KernelState) (p signal : ℕ) → given (with_raised k p signal) ≡ given k
given_raise k p signal = ap (λ (t : List _). length t) (tree_raised k.processes p signal)

pub live_raise : (k : KernelState) (p signal q : ℕ) → is_live (with_raised k p signal) q ≡ is_live k q
live_raise k p signal q = live_raised k.processes p signal q

-- it can be taken at most where it counts: at a live process that does not ignore it
pub quiet_raise : (k : KernelState) (p signal q : ℕ) → is_at (heeding k.processes p signal) q ≡ false → deliverable (with_raised k p signal) q ≡ deliverable k q
quiet_raise k p signal q elsewhere = quiet_raised k.processes p signal q elsewhere

-- the same, said of whether it counts
pub quiet_hit : (k : KernelState) (p signal q : ℕ) → is_at (cond (is_some (heeding k.processes p signal)) (Some p) None) q ≡ false → deliverable (with_raised k p signal) q ≡ deliverable k q
quiet_hit k p signal q elsewhere = quiet_raise k p signal q (by_heed (heeds (live_signals k.processes p) signal) elsewhere)
  where
    by_heed : (b : Bool) → is_at (cond (is_some (cond b (Some p) None)) (Some p) None) q ≡ false → is_at (cond b (Some p) None) q ≡ false
    by_heed true h = h
    by_heed false h = h

-- ---- a launch

pub given_launch : (k : KernelState) → given (with_process k) ≡ given k + 1
given_launch k = given_joined k.processes 0 no_signals

pub live_launch : (k : KernelState) (q : ℕ) → q ≢ given k + 1 → is_live (with_process k) q ≡ is_live k q
live_launch k q other = live_joined k.processes.tree 0 q other

pub live_launched : (k : KernelState) → is_live (with_process k) (given k + 1) ≡ true
live_launched k = live_newest k.processes.tree 0

pub quiet_launch : (k : KernelState) (q : ℕ) → q ≢ given k + 1 → deliverable (with_process k) q ≡ deliverable k q
quiet_launch k q other = quiet_joined k.processes 0 no_signals q refl other

room_is : (o : Option ℕ) → is_some o ≡ true → (c : ℕ) × (o ≡ Some c)
room_is None h = absurd (cc)
room_is (Some c) h = (c, refl)

-- one is launched only while fewer than 64 live
pub few_launch : (k : KernelState) → has_room k ≡ true → live_count k < 64
few_launch k room = let next = room_is (next_pid_of k.processes.tree 0) room in (room_below k.processes.tree 0 next.0 next.1).0

-- ---- input

-- what is typed, and its end, change nothing of the processes
pub input_leaves : (k : KernelState) (input : Input) (p : ℕ) → LeavesOthers k (record k { input = input }) p None None
input_leaves k input p = untouched k (record k { input = input }) p refl

-- ---- a taken signal

left_leaves : (k : KernelState) (p : ℕ) (left : SignalState) → LeavesOthers k (record k { processes = with_left k.processes p left }) p None None
left_leaves k p left = record {
  count = refl;
  live = λ q other child. refl;
  quiet = λ q other child elsewhere. quiet_left k.processes p left q other;
}

-- one step after another, of which the first raises nothing
then_leaves : (k mid new : KernelState) (p : ℕ) (raised : Option ℕ) → LeavesOthers k mid p None None → LeavesOthers mid new p None raised → LeavesOthers k new p None raised
then_leaves k mid new p raised first next = record {
  count = next.count ∙ first.count;
  live = λ q other child. next.live q other refl ∙ first.live q other refl;
  quiet = λ q other child elsewhere. next.quiet q other refl elsewhere ∙ first.quiet q other refl refl;
}

taken_leaves : (k : KernelState) (p : ℕ) (t : Taken) → LeavesOthers k (after_taken k p t).kernel p None (after_taken k p t).raised
taken_leaves k p (Dies signal) = end_leaves k p (Signal signal)
taken_leaves k p (Enters signal handler restorer mask) = untouched k k p refl

took_leaves : (k : KernelState) (p : ℕ) (t : Took) → LeavesOthers k (after_took k p t).kernel p None (after_took k p t).raised
took_leaves k p t =
    let mid : KernelState = record k { processes = with_left k.processes p t.left } in
    then_leaves k mid (after_taken mid p t.taken).kernel p (after_taken mid p t.taken).raised (left_leaves k p t.left) (taken_leaves mid p t.taken)

abbrev TakenLeaves : KernelState → ℕ → Option AfterTake → Type 0
TakenLeaves k p None = Unit {0}
TakenLeaves k p (Some after) = LeavesOthers k after.kernel p None after.raised

-- whatever is taken, of the others as many live, and each can take what it could, unless its child's death raised 17 at it
pub take_leaves : (k : KernelState) (p : ℕ) (room : Bool) (after : AfterTake) → take_result k p room ≡ Some after → LeavesOthers k after.kernel p None after.raised
take_leaves k p room after e = subst (TakenLeaves k p) e (by_took (take_at k.processes p room))
  where
    by_took : (o : Option Took) → TakenLeaves k p (option_map (after_took k p) o)
    by_took None = tt
    by_took (Some t) = took_leaves k p t

-- a taken signal is the lowest one that can be taken, by what is set for it; none is taken exactly where there is none
pub take_of_none : (k : KernelState) (p : ℕ) (room : Bool) → deliverable k p ≡ None → take_result k p room ≡ None
take_of_none k p room none = by_signals (live_signals k.processes p) none
  where
    by_lowest : (state : SignalState) (o : Option ℕ) → o ≡ None → option_map (after_took k p) (option_map (taken_of room state) o) ≡ None
    by_lowest state None h = refl
    by_lowest state (Some s) h = absurd (cc)

    by_signals : (o : Option SignalState) → option_and_then lowest_deliverable o ≡ None → option_map (after_took k p) (option_and_then (take_of room) o) ≡ None
    by_signals None h = refl
    by_signals (Some state) h = by_lowest state (lowest_deliverable state) h

pub take_of_some : (k : KernelState) (p s : ℕ) (room : Bool) → deliverable k p ≡ Some s → (state : SignalState) × (live_signals k.processes p ≡ Some state) × (take_result k p room ≡ Some (after_took k p (taken_of room state s)))
take_of_some k p s room some = by_signals (live_signals k.processes p) refl some
  where
    by_signals : (o : Option SignalState) → live_signals k.processes p ≡ o → option_and_then lowest_deliverable o ≡ Some s → (state : SignalState) × (live_signals k.processes p ≡ Some state) × (take_result k p room ≡ Some (after_took k p (taken_of room state s)))
    by_signals None is h = absurd (cc)
    by_signals (Some state) is h = (state, is, ap (λ o. option_map (after_took k p) (option_and_then (take_of room) o)) is ∙ ap (λ o. option_map (after_took k p) (option_map (taken_of room state) o)) h)

-- without room for a frame no handler is entered
abbrev pub is_death : Taken → Bool
is_death (Dies signal) = true
is_death (Enters signal handler restorer mask) = false

dies_by : (act : Act) (s mask : ℕ) → is_handled act ≡ false → is_death (taken_by act s mask) ≡ true
dies_by Default s mask h = refl
dies_by Ignore s mask h = refl
dies_by (Handler entry restorer) s mask h = absurd (cc)

no_room : (state : SignalState) (s : ℕ) → is_death (taken_of false state s).taken ≡ true
no_room state s = elim (cases_Bool (is_handled (act_of state s))) [
  | inl handled ↦ rw handled refl
  | inr default ↦ rw default (dies_by (act_of state s) s state.mask default)
]

taken_stays : (k : KernelState) (p : ℕ) (t : Taken) → (after_taken k p t).taken ≡ t
taken_stays k p (Dies signal) = refl
taken_stays k p (Enters signal handler restorer mask) = refl

abbrev Death : Option AfterTake → Type 0
Death None = Unit {0}
Death (Some after) = is_death after.taken ≡ true

pub death_without_room : (k : KernelState) (p : ℕ) (after : AfterTake) → take_result k p false ≡ Some after → is_death after.taken ≡ true
death_without_room k p after e = subst Death e (by_signals (live_signals k.processes p))
  where
    by_lowest : (state : SignalState) (o : Option ℕ) → Death (option_map (after_took k p) (option_map (taken_of false state) o))
    by_lowest state None = tt
    by_lowest state (Some s) = ap is_death (taken_stays _ p (taken_of false state s).taken) ∙ no_room state s

    by_signals : (o : Option SignalState) → Death (option_map (after_took k p) (option_and_then (take_of false) o))
    by_signals None = tt
    by_signals (Some state) = by_lowest state (lowest_deliverable state)
