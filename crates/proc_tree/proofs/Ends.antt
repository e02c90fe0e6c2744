-- What an end and a wait change.
use Rattle.std.proofs.Math.Seq.{take-append_seam}
use Rattle.std.proofs.Common.{◌-◌, take}
use Rattle.std.proofs.Common.{◌≡◌, inl, inr, ℕ, ◌+◌, ◌<◌, ◌≤◌, zero, suc, true, false, ◌==◌, ◌&&◌, nat_lt, nat_le, cond, List, [], ◌∷◌, ◌++◌, map, length, set, Some, None, slice_get, refl, sym, ◌∙◌, ap, arith}
use Rattle.std.specs.Option.{option_map, option_map_or}
use Rattle.std.proofs.lemmas.Bool.{cases_Bool, and_parts, false≢true, cond_both, ltb-true, leb-true}
use Rattle.std.proofs.lemmas.List.{append_assoc, length_push, set_at}
use Rattle.std.proofs.lemmas.List.Sums.{sum_by_push}
use Rattle.std.proofs.lemmas.Option.{cond_some}
use Rattle.proc_tree.specs.declared.process.State.{State}
use Rattle.proc_tree.specs.declared.process.State.TheVariants.{Live, Zombie, Gone}
use Rattle.proc_tree.specs.declared.process.Process.{Process}
use Rattle.proc_tree.specs.Processes.{is_live, is_live_state, is_zombie, is_zombie_state, is_present, is_present_state, orphaned, parted_from, in_state}
use Rattle.proc_tree.specs.Tree.{at_pid, passes_at, live_at, zombie_at, replaced, changed_pid, present_from, present_count, next_after, next_pid_of, last_pid, IsWithinLimits}
use Rattle.proc_tree.specs.Steps.{parted_each}
use Rattle.proc_tree.proofs.Present.{StayGone, present_from-append}

-- a process that is gone stays as it is where another ends
orphaned_gone : (state : State) (parent : ℕ) → is_present_state state ≡ false → orphaned state parent ≡ record { parent = parent; state = state }
orphaned_gone Live parent gone = absurd (false≢true (sym gone))
orphaned_gone (Zombie status) parent gone = absurd (false≢true (sym gone))
orphaned_gone (Gone status) parent gone = refl

parted_gone : (pid : ℕ) (x : Process) → is_present x ≡ false → parted_from pid x ≡ x
parted_gone pid x gone =
    cond_both (x.parent == pid) (orphaned x.state x.parent) x (λ y. y ≡ x) (λ _. orphaned_gone x.state x.parent gone) (λ _. refl)

at_end : (front : List Process) (x : Process) (xs : List Process) → slice_get (front ++ x ∷ xs) (length front) ≡ Some x
at_end [] x xs = refl
at_end (y ∷ front) x xs = at_end front x xs

-- a change of the process past a front
changed_past : (change : Process → Process) (front : List Process) (x : Process) (xs : List Process) → changed_pid change (front ++ x ∷ xs) (length front + 1) ≡ (front ++ change x ∷ []) ++ xs
changed_past change front x xs =
    let e : length front + 1 ≡ suc (length front) = omega arith in
    rw (e, at_end front x xs, set_at front x xs (change x) (length front) refl) (sym (append_assoc front (change x ∷ []) xs))

-- each that is live or a zombie was parted: all were
parted_from_there : (pid : ℕ) (front xs : List Process) → parted_each pid (front ++ xs) (present_from (length front + 1) xs) ≡ front ++ map (parted_from pid) xs
parted_from_there pid front [] = refl
parted_from_there pid front (x ∷ xs) =
    let more : (y : Process) → parted_each pid ((front ++ y ∷ []) ++ xs) (present_from (length front + 1 + 1) xs) ≡ front ++ y ∷ map (parted_from pid) xs
    = λ y. rw (← length_push front y) (parted_from_there pid (front ++ y ∷ []) xs ∙ append_assoc front (y ∷ []) (map (parted_from pid) xs)) in
    let rest = present_from (length front + 1 + 1) xs in
    let step : parted_each pid (front ++ x ∷ xs) ((length front + 1) ∷ rest) ≡ parted_each pid ((front ++ parted_from pid x ∷ []) ++ xs) rest
    = ap (λ tree. parted_each pid tree rest) (changed_past (parted_from pid) front x xs) in
    let same : parted_each pid (front ++ x ∷ xs) rest ≡ parted_each pid ((front ++ x ∷ []) ++ xs) rest
    = ap (λ tree. parted_each pid tree rest) (sym (append_assoc front (x ∷ []) xs)) in
    elim (cases_Bool (is_present x)) [
      | inl here ↦ rw here (step ∙ more (parted_from pid x))
      | inr gone ↦ rw (gone, parted_gone pid x gone) (same ∙ more x)
    ]

pub all_parted : (pid : ℕ) (tree : List Process) → parted_each pid tree (present_from 1 tree) ≡ map (parted_from pid) tree
all_parted pid tree = parted_from_there pid [] tree

stay_same : (xs : List Process) → StayGone xs xs
stay_same [] = tt
stay_same (x ∷ xs) = (λ gone. gone, stay_same xs)

stay_parted : (pid : ℕ) (xs : List Process) → StayGone xs (map (parted_from pid) xs)
stay_parted pid [] = tt
stay_parted pid (x ∷ xs) = (λ gone. ap is_present (parted_gone pid x gone) ∙ gone, stay_parted pid xs)

-- a process that was live or a zombie is replaced
stay_replaced : (xs ys : List Process) (i : ℕ) (y : Process) → StayGone xs ys → option_map_or is_present (slice_get xs i) false ≡ true → StayGone xs (set ys i y)
stay_replaced [] [] i y stay here = tt
stay_replaced [] (z ∷ ys) i y stay here = absurd stay
stay_replaced (x ∷ xs) [] i y stay here = absurd stay
stay_replaced (x ∷ xs) (z ∷ ys) zero y stay here = (λ gone. absurd (false≢true (sym gone ∙ here)), stay.1)
stay_replaced (x ∷ xs) (z ∷ ys) (suc i) y stay here = (stay.0, stay_replaced xs ys i y stay.1 here)

stay_changed : (change : Process → Process) (xs ys : List Process) (pid : ℕ) → StayGone xs ys → passes_at is_present xs pid ≡ true → StayGone xs (changed_pid change ys pid)
stay_changed change xs ys zero stay here = absurd (false≢true here)
stay_changed change xs ys (suc i) stay here =
    elim (slice_get ys i) as (λ o. StayGone xs (replaced ys (suc i) (option_map change o)))
    [ None ↦ stay | Some z ↦ stay_replaced xs ys i (change z) stay here ]

live_present : (state : State) → is_live_state state ≡ true → is_present_state state ≡ true
live_present Live h = refl
live_present (Zombie status) h = refl
live_present (Gone status) h = h

live_is_present : (tree : List Process) (pid : ℕ) → live_at tree pid ≡ true → passes_at is_present tree pid ≡ true
live_is_present tree pid h =
    (elim (at_pid tree pid) as (λ o. option_map_or is_live o false ≡ true → option_map_or is_present o false ≡ true)
    [ None ↦ λ no. no | Some x ↦ λ live. live_present x.state live ]) h

zombie_present : (state : State) → is_zombie_state state ≡ true → is_present_state state ≡ true
zombie_present Live h = refl
zombie_present (Zombie status) h = refl
zombie_present (Gone status) h = h

zombie_is_present : (tree : List Process) (pid : ℕ) → zombie_at tree pid ≡ true → passes_at is_present tree pid ≡ true
zombie_is_present tree pid h =
    (elim (at_pid tree pid) as (λ o. option_map_or is_zombie o false ≡ true → option_map_or is_present o false ≡ true)
    [ None ↦ λ no. no | Some x ↦ λ zombie. zombie_present x.state zombie ]) h

pub stay_ended : (tree : List Process) (pid : ℕ) (state : State) → live_at tree pid ≡ true → StayGone tree (changed_pid (in_state state) (map (parted_from pid) tree) pid)
stay_ended tree pid state live =
    stay_changed (in_state state) tree (map (parted_from pid) tree) pid (stay_parted pid tree) (live_is_present tree pid live)

pub stay_reaped : (tree : List Process) (pid : ℕ) (state : State) → zombie_at tree pid ≡ true → StayGone tree (changed_pid (in_state state) tree pid)
stay_reaped tree pid state zombie =
    stay_changed (in_state state) tree tree pid (stay_same tree) (zombie_is_present tree pid zombie)

-- one more is live or a zombie
count_push : (xs : List Process) (x : Process) → is_present x ≡ true → present_count (xs ++ x ∷ []) ≡ present_count xs + 1
count_push xs x here = sum_by_push (λ y. cond (is_present y) 1 0) xs x ∙ ap (λ b. present_count xs + cond b 1 0) here

-- a pid is given only within the limits
room_for : (present next last pid : ℕ) → next_after present next last ≡ Some pid → (present < 64) × (next ≤ last) × (next ≡ pid)
room_for present next last pid h =
    let given = cond_some (nat_lt present 64 && nat_le next last) next pid h in
    let both = and_parts (nat_lt present 64) (nat_le next last) given.0 in
    (ltb-true present 64 both.0, leb-true next last both.1, given.1)

last_of_all : (parent : ℕ) → last_pid parent ≤ 32767
last_of_all zero = omega arith
last_of_all (suc parent) = omega arith

-- the limits, and the pids of those that are live or zombies, after a new child
pub kept_added : (xs ys : List Process) (present kept : List ℕ) (parent pid : ℕ) → (present ≡ present_from 1 xs) × IsWithinLimits xs → next_pid_of xs parent ≡ Some pid → ys ≡ xs ++ record { parent = parent; state = Live } ∷ [] → kept ≡ present ++ pid ∷ [] → (kept ≡ present_from 1 ys) × IsWithinLimits ys
kept_added xs ys present kept parent pid before next grown listed =
    let child : Process = record { parent = parent; state = Live } in
    let room = room_for (present_count xs) (length xs + 1) (last_pid parent) pid next in
    let all : present_from 1 (xs ++ child ∷ []) ≡ present_from 1 xs ++ (1 + length xs) ∷ [] = present_from-append 1 xs child refl in
    let pid_is : 1 + length xs ≡ pid = omega (arith, room.2) in
    let last = last_of_all parent in
    let len : length (xs ++ child ∷ []) ≡ length xs + 1 = length_push xs child in
    let count : present_count (xs ++ child ∷ []) ≡ present_count xs + 1 = count_push xs child refl in
    rw grown (
      listed ∙ ap (λ p. p ++ pid ∷ []) before.0 ∙ ap (λ n. present_from 1 xs ++ n ∷ []) (sym pid_is) ∙ sym all,
      record { present = omega (arith, count, room.0); pids = omega (arith, len, room.1, last) },
    )

-- the same after the newest, a live child, was taken back
pub taken_back : (xs ys : List Process) (present kept : List ℕ) (parent : ℕ) → (present ≡ present_from 1 xs) × IsWithinLimits xs → xs ≡ take (length xs - 1) xs ++ record { parent = parent; state = Live } ∷ [] → ys ≡ take (length xs - 1) xs → kept ≡ take (length present - 1) present → (kept ≡ present_from 1 ys) × IsWithinLimits ys
taken_back xs ys present kept parent before last short fewer =
    let child : Process = record { parent = parent; state = Live } in
    let grown : xs ≡ ys ++ child ∷ [] = last ∙ ap (λ t. t ++ child ∷ []) (sym short) in
    let all : present ≡ present_from 1 ys ++ (1 + length ys) ∷ [] = before.0 ∙ ap (present_from 1) grown ∙ present_from-append 1 ys child refl in
    let len : length (present_from 1 ys ++ (1 + length ys) ∷ []) ≡ length (present_from 1 ys) + 1 = length_push (present_from 1 ys) (1 + length ys) in
    let n : length present - 1 ≡ length (present_from 1 ys) = omega (arith, len, ap length all) in
    let listed : kept ≡ present_from 1 ys = fewer ∙ ap (λ m. take m present) n ∙ ap (take (length (present_from 1 ys))) all ∙ take-append_seam (present_from 1 ys) ((1 + length ys) ∷ []) in
    let len_ys : length (ys ++ child ∷ []) ≡ length ys + 1 = length_push ys child in
    let count : present_count (ys ++ child ∷ []) ≡ present_count ys + 1 = count_push ys child refl in
    let count_xs : present_count xs ≡ present_count ys + 1 = ap present_count grown ∙ count in
    let len_xs : length xs ≡ length ys + 1 = ap length grown ∙ len_ys in
    (listed, record { present = omega (arith, count_xs, before.1.present); pids = omega (arith, len_xs, before.1.pids) })
