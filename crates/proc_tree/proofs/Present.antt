-- The pids of those that are live or zombies, beside the list of all processes.
use Rattle.std.proofs.Common.{◌≡◌, inl, inr, ℕ, ◌+◌, ◌≤◌, suc, Bool, true, false, ◌==◌, cond, List, [], ◌∷◌, ◌++◌, length, IfSome, slice_get, refl, sym, ◌∙◌, ap, arith, add-zero}
use Rattle.std.specs.List.{filter, find, list_any, position_from}
use Rattle.std.specs.Option.{option_map_or}
use Rattle.std.proofs.lemmas.Bool.{cases_Bool, and_parts, and_right}
use Rattle.std.proofs.lemmas.List.Sums.{sum_by-cons}
use Rattle.proc_tree.specs.declared.process.State.{State}
use Rattle.proc_tree.specs.declared.process.State.TheVariants.{Live, Zombie, Gone}
use Rattle.proc_tree.specs.declared.process.Process.{Process}
use Rattle.proc_tree.specs.Processes.{is_zombie, is_zombie_state, is_present, is_present_state, is_child_of, is_zombie_of}
use Rattle.proc_tree.specs.Tree.{passes_at, zombie_at, has_child_of, lowest_zombie, present_from, present_count, IsWithinLimits}

-- whether the process at an index passes a test
abbrev holds : (Process → Bool) → List Process → ℕ → Bool
holds test tree i = option_map_or test (slice_get tree i) false

-- a test of pids that agrees with one of the processes from a pid on
abbrev Agrees : (ℕ → Bool) → (Process → Bool) → ℕ → List Process → Type 0
Agrees by_pid test pid tree = (i : ℕ) → by_pid (pid + i) ≡ holds test tree i

agrees_first : (by_pid : ℕ → Bool) (test : Process → Bool) (pid : ℕ) (x : Process) (xs : List Process) → Agrees by_pid test pid (x ∷ xs) → by_pid pid ≡ test x
agrees_first by_pid test pid x xs h = ap by_pid (sym (add-zero pid)) ∙ h 0

agrees_rest : (by_pid : ℕ → Bool) (test : Process → Bool) (pid : ℕ) (x : Process) (xs : List Process) → Agrees by_pid test pid (x ∷ xs) → Agrees by_pid test (pid + 1) xs
agrees_rest by_pid test pid x xs h i =
    let e : pid + 1 + i ≡ pid + suc i = omega arith in ap by_pid e ∙ h (suc i)

agrees_all : (test : Process → Bool) (tree : List Process) → Agrees (passes_at test tree) test 1 tree
agrees_all test tree i = let e : 1 + i ≡ suc i = omega arith in ap (passes_at test tree) e

-- a test that only those pass that are live or zombies
abbrev OnlyPresent : (Process → Bool) → Type 0
OnlyPresent test = (x : Process) → is_present x ≡ false → test x ≡ false

no_zombie : (state : State) → is_present_state state ≡ false → is_zombie_state state ≡ false
no_zombie Live gone = refl
no_zombie (Zombie status) gone = gone
no_zombie (Gone status) gone = refl

only_children : (pid : ℕ) → OnlyPresent (is_child_of pid)
only_children pid x gone = and_right (x.parent == pid) (is_present x) gone

only_zombies : (pid : ℕ) → OnlyPresent (is_zombie_of pid)
only_zombies pid x gone = and_right (x.parent == pid) (is_zombie x) (no_zombie x.state gone)

-- the first that passes
found_from : (by_pid : ℕ → Bool) (test : Process → Bool) (pid : ℕ) (xs : List Process) → OnlyPresent test → Agrees by_pid test pid xs → find by_pid (present_from pid xs) ≡ position_from test pid xs
found_from by_pid test pid [] only h = refl
found_from by_pid test pid (x ∷ xs) only h =
    let rest = found_from by_pid test (pid + 1) xs only (agrees_rest by_pid test pid x xs h) in
    let first = agrees_first by_pid test pid x xs h in
    elim (cases_Bool (is_present x)) [
      | inl here ↦ rw (here, first, rest) refl
      | inr gone ↦ let fails = only x gone in rw (gone, fails, rest) refl
    ]

-- whether one passes
any_from : (by_pid : ℕ → Bool) (test : Process → Bool) (pid : ℕ) (xs : List Process) → OnlyPresent test → Agrees by_pid test pid xs → list_any by_pid (present_from pid xs) ≡ list_any test xs
any_from by_pid test pid [] only h = refl
any_from by_pid test pid (x ∷ xs) only h =
    let rest = any_from by_pid test (pid + 1) xs only (agrees_rest by_pid test pid x xs h) in
    let first = agrees_first by_pid test pid x xs h in
    elim (cases_Bool (is_present x)) [
      | inl here ↦ rw (here, first, rest) refl
      | inr gone ↦ let fails = only x gone in rw (gone, fails, rest) refl
    ]

pub found_zombie : (tree : List Process) (pid : ℕ) → find (passes_at (is_zombie_of pid) tree) (present_from 1 tree) ≡ lowest_zombie tree pid
found_zombie tree pid = found_from (passes_at (is_zombie_of pid) tree) (is_zombie_of pid) 1 tree (only_zombies pid) (agrees_all (is_zombie_of pid) tree)

pub any_child : (tree : List Process) (pid : ℕ) → list_any (passes_at (is_child_of pid) tree) (present_from 1 tree) ≡ has_child_of tree pid
any_child tree pid = any_from (passes_at (is_child_of pid) tree) (is_child_of pid) 1 tree (only_children pid) (agrees_all (is_child_of pid) tree)

pub any_child_of : (tree shown : List Process) (present listed : List ℕ) (pid : ℕ) → shown ≡ tree → listed ≡ present → present ≡ present_from 1 tree → list_any (passes_at (is_child_of pid) shown) listed ≡ has_child_of tree pid
any_child_of tree shown present listed pid e f g = rw (e, f, g) (any_child tree pid)

pub first_zombie_of : (tree shown : List Process) (present listed : List ℕ) (pid : ℕ) → shown ≡ tree → listed ≡ present → present ≡ present_from 1 tree → find (passes_at (is_zombie_of pid) shown) listed ≡ lowest_zombie tree pid
first_zombie_of tree shown present listed pid e f g = rw (e, f, g) (found_zombie tree pid)

-- as many pids as there are live ones and zombies
pub length-present_from : (pid : ℕ) (xs : List Process) → length (present_from pid xs) ≡ present_count xs
length-present_from pid [] = refl
length-present_from pid (x ∷ xs) =
    let rest = length-present_from (pid + 1) xs in
    let more = sum_by-cons (λ x. cond (is_present x) 1 0) x xs in
    elim (cases_Bool (is_present x)) [
      | inl here ↦ rw (more, here, ← rest) (omega arith)
      | inr gone ↦ rw (more, gone, ← rest) (omega arith)
    ]

-- what is found is a zombie
found_passes : (by_pid : ℕ → Bool) (test wider : Process → Bool) (pid : ℕ) (xs : List Process) → ((x : Process) → test x ≡ true → wider x ≡ true) → Agrees by_pid wider pid xs → IfSome (position_from test pid xs) (λ child. by_pid child ≡ true)
found_passes by_pid test wider pid [] implies h = tt
found_passes by_pid test wider pid (x ∷ xs) implies h =
    elim (cases_Bool (test x)) [
      | inl passes ↦ rw passes (agrees_first by_pid wider pid x xs h ∙ implies x passes)
      | inr fails ↦ rw fails (found_passes by_pid test wider (pid + 1) xs implies (agrees_rest by_pid wider pid x xs h))
    ]

pub lowest_is_zombie : (tree : List Process) (pid : ℕ) → IfSome (lowest_zombie tree pid) (λ child. zombie_at tree child ≡ true)
lowest_is_zombie tree pid =
    found_passes (zombie_at tree) (is_zombie_of pid) is_zombie 1 tree (λ x h. (and_parts (x.parent == pid) (is_zombie x) h).1) (agrees_all is_zombie tree)

-- one more process at the end
pub present_from-append : (pid : ℕ) (xs : List Process) (x : Process) → is_present x ≡ true → present_from pid (xs ++ x ∷ []) ≡ present_from pid xs ++ (pid + length xs) ∷ []
present_from-append pid [] x here = rw (here, add-zero) refl
present_from-append pid (y ∷ ys) x here =
    let rest = present_from-append (pid + 1) ys x here in
    let e : pid + 1 + length ys ≡ pid + suc (length ys) = omega arith in
    elim (cases_Bool (is_present y)) [ inl here_too ↦ rw (here_too, rest, e) refl | inr gone ↦ rw (gone, rest, e) refl ]

-- the second list has as many, and what is gone in the first is gone in it
abbrev pub StayGone : List Process → List Process → Type 0
StayGone [] [] = Unit {0}
StayGone [] (y ∷ ys) = ⊥
StayGone (x ∷ xs) [] = ⊥
StayGone (x ∷ xs) (y ∷ ys) = (is_present x ≡ false → is_present y ≡ false) × StayGone xs ys

kept_from : (by_pid : ℕ → Bool) (pid : ℕ) (xs ys : List Process) → StayGone xs ys → Agrees by_pid is_present pid ys → filter by_pid (present_from pid xs) ≡ present_from pid ys
kept_from by_pid pid [] [] stay h = refl
kept_from by_pid pid [] (y ∷ ys) stay h = absurd stay
kept_from by_pid pid (x ∷ xs) [] stay h = absurd stay
kept_from by_pid pid (x ∷ xs) (y ∷ ys) stay h =
    let rest = kept_from by_pid (pid + 1) xs ys stay.1 (agrees_rest by_pid is_present pid y ys h) in
    let first = agrees_first by_pid is_present pid y ys h in
    elim (cases_Bool (is_present x)) [
      | inl here ↦ rw (here, first, rest) refl
      | inr gone ↦ let gone_too = stay.0 gone in rw (gone, gone_too, rest) refl
    ]

-- no more are live or zombies
fewer : (xs ys : List Process) → StayGone xs ys → present_count ys ≤ present_count xs
fewer [] [] stay = omega arith
fewer [] (y ∷ ys) stay = absurd stay
fewer (x ∷ xs) [] stay = absurd stay
fewer (x ∷ xs) (y ∷ ys) stay =
    let rest = fewer xs ys stay.1 in
    let more_x = sum_by-cons (λ x. cond (is_present x) 1 0) x xs in
    let more_y = sum_by-cons (λ x. cond (is_present x) 1 0) y ys in
    elim (cases_Bool (is_present x)) [
      | inl here ↦
          elim (cases_Bool (is_present y)) [
            | inl here_too ↦ rw (more_x, more_y, here, here_too) (omega arith)
            | inr gone ↦ rw (more_x, more_y, here, gone) (omega arith)
          ]
      | inr gone ↦ let gone_too = stay.0 gone in rw (more_x, more_y, gone, gone_too) (omega arith)
    ]

as_many : (xs ys : List Process) → StayGone xs ys → length ys ≡ length xs
as_many [] [] stay = refl
as_many [] (y ∷ ys) stay = absurd stay
as_many (x ∷ xs) [] stay = absurd stay
as_many (x ∷ xs) (y ∷ ys) stay = ap suc (as_many xs ys stay.1)

-- the limits, and the pids of those that are live or zombies, after a step that makes none live or a zombie that was gone
pub kept_present : (xs ys : List Process) (present kept : List ℕ) → (present ≡ present_from 1 xs) × IsWithinLimits xs → StayGone xs ys → kept ≡ filter (passes_at is_present ys) present → (kept ≡ present_from 1 ys) × IsWithinLimits ys
kept_present xs ys present kept before stay by_test =
    let listed : kept ≡ present_from 1 ys =
    by_test ∙ ap (filter (passes_at is_present ys)) before.0 ∙ kept_from (passes_at is_present ys) 1 xs ys stay (agrees_all is_present ys) in
    let count = fewer xs ys stay in
    let len = as_many xs ys stay in
    let limits = before.1 in
    (listed, record { present = omega (arith, count, limits.present); pids = omega (arith, len, limits.pids) })
