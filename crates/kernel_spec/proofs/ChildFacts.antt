-- The children and the zombies of one process, after the steps of another.
use Rattle.std.proofs.Common.{◌≡◌, ◌≢◌, ◌⊎◌, ℕ, zero, suc, ◌+◌, ◌≤◌, ◌==◌, Bool, true, false, cond, List, [], ◌∷◌, ◌++◌, length, map, slice_get, Option, Some, None, refl, ap, sym, inl, inr, ◌∙◌, arith}
use Rattle.std.specs.Option.{option_map, option_map_or}
use Rattle.std.specs.List.{list_any, position_from}
use Rattle.std.proofs.lemmas.Bool.{cases_Bool, cases_eq, or_cases, or_left, or_right, and_parts, and_from, and_left, and_right, eqb-true, ne_eqb, false≢true}
use Rattle.std.proofs.lemmas.List.Folds.{list_any-append}
use Rattle.std.proofs.lemmas.Option.{same_Some, none-some}
use Rattle.call_table.specs.declared.process.End.{End}
use Rattle.proc_tree.specs.declared.process.State.{State}
use Rattle.proc_tree.specs.declared.process.State.TheVariants.{Live, Zombie, Gone}
use Rattle.proc_tree.specs.declared.process.Process.{Process}
use Rattle.proc_tree.specs.Processes.{is_present, is_zombie, is_zombie_state, is_child_of, is_zombie_of, orphaned, parted_from, in_state, end_state, reaped_process, reaped_state}
use Rattle.proc_tree.specs.Tree.{live_at, parent_of, parent_field, with_end, with_child, reaped, has_child_of, lowest_zombie}
use Rattle.kernel_spec.specs.Pids.{at_pid}
use Rattle.kernel_spec.proofs.PlaceLemmas.{changed_other, changed_here, at_map, at_push, at_last}

-- ---- tests over a list

any_at : {A : Type 0} (test : A → Bool) (xs : List A) → list_any test xs ≡ true → (i : ℕ) × (x : A) × (slice_get xs i ≡ Some x) × (test x ≡ true)
any_at test [] h = absurd (false≢true h)
any_at test (x ∷ xs) h = elim (or_cases (test x) (list_any test xs) h) [
  | inl here ↦ (0, x, refl, here)
  | inr later ↦ let found = any_at test xs later in (suc found.0, found.1, found.2, found.3)
]

any_from : {A : Type 0} (test : A → Bool) (xs : List A) (i : ℕ) (x : A) → slice_get xs i ≡ Some x → test x ≡ true → list_any test xs ≡ true
any_from test [] i x e h = absurd (none-some x e)
any_from test (y ∷ xs) zero x e h = or_left (test y) (list_any test xs) (ap test (same_Some y x e) ∙ h)
any_from test (y ∷ xs) (suc i) x e h = or_right (test y) (list_any test xs) (any_from test xs i x e h)

first_at : {A : Type 0} (test : A → Bool) (n : ℕ) (xs : List A) (c : ℕ) → position_from test n xs ≡ Some c → (i : ℕ) × (x : A) × (c ≡ n + i) × (slice_get xs i ≡ Some x) × (test x ≡ true)
first_at test n [] c h = absurd (none-some c h)
first_at test n (x ∷ xs) c h = elim (cases_Bool (test x)) [
  | inl here ↦
      let is : Some n ≡ Some c = ap (λ b. cond b (Some n) (position_from test (n + 1) xs)) (sym here) ∙ h in
      let at : n ≡ c = same_Some n c is in (0, x, omega (arith, at), refl, here)
  | inr not_here ↦
      let is : position_from test (n + 1) xs ≡ Some c = ap (λ b. cond b (Some n) (position_from test (n + 1) xs)) (sym not_here) ∙ h in
      let found = first_at test (n + 1) xs c is in
      let at : c ≡ n + suc found.0 = omega (arith, found.2) in (suc found.0, found.1, at, found.3, found.4)
]

none_at : {A : Type 0} (test : A → Bool) (n : ℕ) (xs : List A) → position_from test n xs ≡ None → (i : ℕ) (x : A) → slice_get xs i ≡ Some x → test x ≡ false
none_at test n [] h i x e = absurd (none-some x e)
none_at {A = A} test n (y ∷ xs) h i x e = elim (cases_Bool (test y)) [
  | inl here ↦
      let none : Some n ≡ None = ap (λ b. cond b (Some n) (position_from test (n + 1) xs)) (sym here) ∙ h in absurd (none-some n (sym none))
  | inr not_here ↦
      let rest : position_from test (n + 1) xs ≡ None = ap (λ b. cond b (Some n) (position_from test (n + 1) xs)) (sym not_here) ∙ h in
      by_place i not_here (λ j at. none_at test (n + 1) xs rest j x at) e
]
  where
    by_place : (j : ℕ) → test y ≡ false → ((m : ℕ) → slice_get xs m ≡ Some x → test x ≡ false) → slice_get (y ∷ xs) j ≡ Some x → test x ≡ false
    by_place zero fails later at = ap test (sym (same_Some y x at)) ∙ fails
    by_place (suc j) fails later at = later j at

none_from : {A : Type 0} (test : A → Bool) (n : ℕ) (xs : List A) → ((i : ℕ) (x : A) → slice_get xs i ≡ Some x → test x ≡ false) → position_from test n xs ≡ None
none_from test n [] h = refl
none_from test n (y ∷ xs) h =
    let here : test y ≡ false = h 0 y refl in rw here (none_from test (n + 1) xs (λ i x e. h (suc i) x e))

-- ---- what a step of another process leaves

pub record ChildrenStay (tree new : List Process) (p : ℕ) : Type 0 where
  pub children : has_child_of tree p ≡ true → has_child_of new p ≡ true

pub record NoZombie (tree new : List Process) (p : ℕ) : Type 0 where
  pub none : lowest_zombie tree p ≡ None → lowest_zombie new p ≡ None

-- each child by its pid
kept_children : (tree new : List Process) (p : ℕ) → ((i : ℕ) (x : Process) → slice_get tree i ≡ Some x → is_child_of p x ≡ true → (y : Process) × (slice_get new i ≡ Some y) × (is_child_of p y ≡ true)) → ChildrenStay tree new p
kept_children tree new p kept = record {
  children = λ h.
      let found = any_at (is_child_of p) tree h in
      let after = kept found.0 found.1 found.2 found.3 in any_from (is_child_of p) new found.0 after.0 after.1 after.2;
}

kept_zombies : (tree new : List Process) (p : ℕ) → ((i : ℕ) (y : Process) → slice_get new i ≡ Some y → ((x : Process) × (slice_get tree i ≡ Some x) × (is_zombie_of p y ≡ is_zombie_of p x)) ⊎ (is_zombie_of p y ≡ false)) → NoZombie tree new p
kept_zombies tree new p kept = record { none = λ h. none_from (is_zombie_of p) 1 new (λ i y e. by_case i y (kept i y e) (none_at (is_zombie_of p) 1 tree h i)) }
  where
    by_case : (i : ℕ) (y : Process) → ((x : Process) × (slice_get tree i ≡ Some x) × (is_zombie_of p y ≡ is_zombie_of p x)) ⊎ (is_zombie_of p y ≡ false) → ((x : Process) → slice_get tree i ≡ Some x → is_zombie_of p x ≡ false) → is_zombie_of p y ≡ false
    by_case i y (inl same) none = same.2 ∙ none same.0 same.1
    by_case i y (inr fails) none = fails

pub children_same : (tree : List Process) (p : ℕ) → ChildrenStay tree tree p
children_same tree p = record { children = λ h. h }

pub zombies_same : (tree : List Process) (p : ℕ) → NoZombie tree tree p
zombies_same tree p = record { none = λ h. h }

-- ---- one more process, a live one

pub joined_children : (tree : List Process) (parent p : ℕ) → ChildrenStay tree (with_child tree parent (Some (length tree + 1))) p
joined_children tree parent p = record { children = λ h. list_any-append (is_child_of p) tree (record { parent = parent; state = Live } ∷ []) ∙ or_left (list_any (is_child_of p) tree) _ h }

pub joined_zombies : (tree : List Process) (parent p : ℕ) → NoZombie tree (with_child tree parent (Some (length tree + 1))) p
joined_zombies tree parent p = kept_zombies tree (tree ++ new ∷ []) p kept
  where
    new : Process
    new = record { parent = parent; state = Live }

    kept : (i : ℕ) (y : Process) → slice_get (tree ++ record { parent = parent; state = Live } ∷ []) i ≡ Some y → ((x : Process) × (slice_get tree i ≡ Some x) × (is_zombie_of p y ≡ is_zombie_of p x)) ⊎ (is_zombie_of p y ≡ false)
    kept i y e = elim (cases_eq (suc i) (length tree + 1)) [
      | inl last ↦
          let at : slice_get (tree ++ record { parent = parent; state = Live } ∷ []) i ≡ Some (record { parent = parent; state = Live })
          = ap (at_pid (tree ++ record { parent = parent; state = Live } ∷ [])) last ∙ at_last tree (record { parent = parent; state = Live }) in
          let is : record { parent = parent; state = Live } ≡ y = same_Some (record { parent = parent; state = Live }) y (sym at ∙ e) in
          inr (ap (is_zombie_of p) (sym is) ∙ and_right (parent == p) false refl)
      | inr before ↦ inl (y, sym (at_push tree (record { parent = parent; state = Live }) (suc i) before) ∙ e, refl)
    ]

-- ---- a zombie of another process is reaped

reaped_is_other : (tree : List Process) (q c : ℕ) → lowest_zombie tree q ≡ Some c → (i : ℕ) (x : Process) → suc i ≡ c → slice_get tree i ≡ Some x → x.parent ≡ q
reaped_is_other tree q c lowest i x at e =
    let found = first_at (is_zombie_of q) 1 tree c lowest in
    let same : i ≡ found.0 = omega (arith, at, found.2) in
    let is : found.1 ≡ x = same_Some found.1 x (sym found.3 ∙ ap (slice_get tree) (sym same) ∙ e) in
    ap parent_field (sym is) ∙ eqb-true found.1.parent q (and_parts (found.1.parent == q) (is_zombie found.1) found.4).0

pub reaped_children : (tree : List Process) (p q c : ℕ) → p ≢ q → lowest_zombie tree q ≡ Some c → ChildrenStay tree (reaped tree c) p
reaped_children tree p q c other lowest = kept_children tree (reaped tree c) p (λ i x e child. elim (cases_eq (suc i) c) [
  | inl here ↦
      let parent : x.parent ≡ p = eqb-true x.parent p (and_parts (x.parent == p) (is_present x) child).0 in
      absurd (other (sym parent ∙ reaped_is_other tree q c lowest i x here e))
  | inr elsewhere ↦ (x, changed_other reaped_process tree c (suc i) elsewhere ∙ e, child)
])

no_zombie : (state : State) → is_zombie_state (reaped_state state) ≡ false
no_zombie Live = refl
no_zombie (Zombie status) = refl
no_zombie (Gone status) = refl

pub reaped_zombies : (tree : List Process) (p c : ℕ) → NoZombie tree (reaped tree c) p
reaped_zombies tree p c = kept_zombies tree (reaped tree c) p (λ i y e. elim (cases_eq (suc i) c) [
  | inl here ↦ inr (by_place (at_pid tree c) y (sym (changed_here reaped_process tree c) ∙ ap (at_pid (reaped tree c)) (sym here) ∙ e))
  | inr elsewhere ↦ inl (y, sym (changed_other reaped_process tree c (suc i) elsewhere) ∙ e, refl)
])
  where
    by_place : (o : Option Process) (y : Process) → option_map reaped_process o ≡ Some y → is_zombie_of p y ≡ false
    by_place None y e = absurd (none-some y e)
    by_place (Some x) y e = ap (is_zombie_of p) (sym (same_Some (reaped_process x) y e)) ∙ and_right (x.parent == p) _ (no_zombie x.state)

-- ---- the end of another process

abbrev ending : List Process → ℕ → End → Process → Process
ending tree q e = in_state (end_state (live_at tree (parent_of tree q)) e)

at_ended : (tree : List Process) (q : ℕ) (e : End) (x : Process) → at_pid tree q ≡ Some x → at_pid (with_end tree q e) q ≡ Some (ending tree q e (parted_from q x))
at_ended tree q e x at = changed_here (ending tree q e) (map (parted_from q) tree) q ∙ ap (option_map (ending tree q e)) (at_map (parted_from q) tree q ∙ ap (option_map (parted_from q)) at)

at_parted : (tree : List Process) (q : ℕ) (e : End) (r : ℕ) → r ≢ q → at_pid (with_end tree q e) r ≡ option_map (parted_from q) (at_pid tree r)
at_parted tree q e r other = changed_other (ending tree q e) (map (parted_from q) tree) q r other ∙ at_map (parted_from q) tree r

not_parted : (q : ℕ) (x : Process) → x.parent ≢ q → parted_from q x ≡ x
not_parted q x other = ap (λ b. cond b (orphaned x.state x.parent) x) (ne_eqb x.parent q other)

-- where p lives, its child that ends is a zombie
pub ended_children : (tree : List Process) (p q : ℕ) (e : End) → p ≢ q → live_at tree p ≡ true → ChildrenStay tree (with_end tree q e) p
ended_children tree p q e other live = kept_children tree (with_end tree q e) p kept
  where
    kept : (i : ℕ) (x : Process) → slice_get tree i ≡ Some x → is_child_of p x ≡ true → (y : Process) × (slice_get (with_end tree q e) i ≡ Some y) × (is_child_of p y ≡ true)
    kept i x at child =
        let parent : x.parent ≡ p = eqb-true x.parent p (and_parts (x.parent == p) (is_present x) child).0 in
        let stays : parted_from q x ≡ x = not_parted q x (λ own. other (sym parent ∙ own)) in
        elim (cases_eq (suc i) q) [
          | inl here ↦
              let at_q : at_pid tree q ≡ Some x = ap (at_pid tree) (sym here) ∙ at in
              let of_q : parent_of tree q ≡ p = ap (λ o. option_map_or parent_field o 0) at_q ∙ parent in
              let lives : live_at tree (parent_of tree q) ≡ true = ap (live_at tree) of_q ∙ live in
              let new : at_pid (with_end tree q e) q ≡ Some (in_state (Zombie e) x)
              = at_ended tree q e x at_q ∙ ap (λ b. Some (in_state (end_state b e) (parted_from q x))) lives ∙ ap (λ z. Some (in_state (Zombie e) z)) stays in
              (in_state (Zombie e) x, ap (at_pid (with_end tree q e)) here ∙ new, and_from (x.parent == p) true (and_parts (x.parent == p) (is_present x) child).0 refl)
          | inr elsewhere ↦
              (x, at_parted tree q e (suc i) elsewhere ∙ ap (option_map (parted_from q)) at ∙ ap Some stays, child)
        ]

orphan_no_zombie : (state : State) (parent : ℕ) → is_zombie (orphaned state parent) ≡ false
orphan_no_zombie Live parent = refl
orphan_no_zombie (Zombie status) parent = refl
orphan_no_zombie (Gone status) parent = refl

-- a process gains a zombie only by the end of a child of its own
pub ended_zombies : (tree : List Process) (p q : ℕ) (e : End) → 1 ≤ p → parent_of tree q ≢ p → NoZombie tree (with_end tree q e) p
ended_zombies tree p q e from foreign = kept_zombies tree (with_end tree q e) p kept
  where
    orphan_parent : (state : State) (parent : ℕ) → parent ≢ p → (orphaned state parent).parent ≢ p
    orphan_parent Live parent ne = λ h. absurd (omega (arith, from, h))
    orphan_parent (Zombie status) parent ne = ne
    orphan_parent (Gone status) parent ne = ne

    parted_parent : (x : Process) → x.parent ≢ p → (parted_from q x).parent ≢ p
    parted_parent x ne = by_parent (x.parent == q)
      where
        by_parent : (b : Bool) → (cond b (orphaned x.state x.parent) x).parent ≢ p
        by_parent true = orphan_parent x.state x.parent ne
        by_parent false = ne

    own : (o : Option Process) (y : Process) → at_pid tree q ≡ o → option_map (ending tree q e) (option_map (parted_from q) o) ≡ Some y → is_zombie_of p y ≡ false
    own None y at is = absurd (none-some y is)
    own (Some x) y at is =
        let not_p : x.parent ≢ p = λ h. foreign (ap (λ o. option_map_or parent_field o 0) at ∙ h) in
        let foreign_one : ((parted_from q x).parent == p) ≡ false = ne_eqb (parted_from q x).parent p (parted_parent x not_p) in
        ap (is_zombie_of p) (sym (same_Some (ending tree q e (parted_from q x)) y is)) ∙ and_left ((parted_from q x).parent == p) _ foreign_one

    parted : (x : Process) (i : ℕ) (y : Process) → slice_get tree i ≡ Some x → parted_from q x ≡ y → ((x : Process) × (slice_get tree i ≡ Some x) × (is_zombie_of p y ≡ is_zombie_of p x)) ⊎ (is_zombie_of p y ≡ false)
    parted x i y at is = elim (cases_Bool (x.parent == q)) [
      | inl child ↦
          let orphan : y ≡ orphaned x.state x.parent = sym is ∙ ap (λ b. cond b (orphaned x.state x.parent) x) child in
          inr (ap (is_zombie_of p) orphan ∙ and_right _ _ (orphan_no_zombie x.state x.parent))
      | inr no_child ↦
          let same : y ≡ x = sym is ∙ ap (λ b. cond b (orphaned x.state x.parent) x) no_child in
          inl (x, at, ap (is_zombie_of p) same)
    ]

    elsewhere : (i : ℕ) (o : Option Process) (y : Process) → slice_get tree i ≡ o → option_map (parted_from q) o ≡ Some y → ((x : Process) × (slice_get tree i ≡ Some x) × (is_zombie_of p y ≡ is_zombie_of p x)) ⊎ (is_zombie_of p y ≡ false)
    elsewhere i None y at is = absurd (none-some y is)
    elsewhere i (Some x) y at is = parted x i y at (same_Some (parted_from q x) y is)

    kept : (i : ℕ) (y : Process) → slice_get (with_end tree q e) i ≡ Some y → ((x : Process) × (slice_get tree i ≡ Some x) × (is_zombie_of p y ≡ is_zombie_of p x)) ⊎ (is_zombie_of p y ≡ false)
    kept i y at = elim (cases_eq (suc i) q) [
      | inl here ↦
          inr (own (at_pid tree q) y refl (ap (option_map (ending tree q e)) (sym (at_map (parted_from q) tree q)) ∙ sym (changed_here (ending tree q e) (map (parted_from q) tree) q) ∙ ap (at_pid (with_end tree q e)) (sym here) ∙ at))
      | inr other ↦ elsewhere i (slice_get tree i) y refl (sym (at_parted tree q e (suc i) other) ∙ at)
    ]
