-- Rows of home, by pid.
use Rattle.std.proofs.Common.{◌≡◌, ◌≢◌, ℕ, zero, suc, ◌+◌, ◌<◌, ◌≤◌, ◌==◌, ◌&&◌, cond, Bool, true, false, Option, Some, None, List, [], ◌∷◌, ◌++◌, length, slice_get, refl, sym, ap, ◌∙◌, subst, arith}
use Rattle.std.specs.Prelude.{◌-◌, ◌^◌, min, is_none}
use Rattle.std.specs.Option.{option_map}
use Rattle.kernel_spec.specs.Pids.{at_pid, changed_pid}
use Rattle.kernel_spec.proofs.PlaceLemmas.{changed_other, changed_here, at_push, at_last}
use Rattle.deputy.specs.declared.row.Row.{Row}
use Rattle.deputy.specs.declared.row.HeldCall.{HeldCall}
use Rattle.deputy.specs.Rows.{held_of, served_of, new_row, counted, with_born}
use Rattle.protocol.specs.Ops.{is_child}
use Rattle.node_core.specs.Locals.{believed_of}
use Rattle.protocol.proofs.Talk.{numbers_same, numbers_other, same_numbers, other_numbers}

-- each branch of a test has its equation
pub by_same : (P : Bool → Type 0) (a b : ℕ) → (a ≡ b → P true) → (a ≢ b → P false) → P (a == b)
by_same P a b t f = go (a == b) refl
  where
    go : (k : Bool) → (a == b) ≡ k → P k
    go true e = t (numbers_same a b e)
    go false e = f (numbers_other a b e)

pub at_changed : (change : Row → Row) (rows : List Row) (p q : ℕ) → at_pid (changed_pid change rows p) q ≡ cond (q == p) (option_map change (at_pid rows p)) (at_pid rows q)
at_changed change rows p q = by_same (λ k. at_pid (changed_pid change rows p) q ≡ cond k (option_map change (at_pid rows p)) (at_pid rows q)) q p
    (λ e. ap (at_pid (changed_pid change rows p)) e ∙ changed_here change rows p)
    (λ ne. changed_other change rows p q ne)

-- the row of a new pid
pub at_pushed : (rows : List Row) (row : Row) (q : ℕ) → at_pid (rows ++ row ∷ []) q ≡ cond (q == length rows + 1) (Some row) (at_pid rows q)
at_pushed rows row q = by_same (λ k. at_pid (rows ++ row ∷ []) q ≡ cond k (Some row) (at_pid rows q)) q (length rows + 1)
    (λ e. ap (at_pid (rows ++ row ∷ [])) e ∙ at_last rows row)
    (λ ne. at_push rows row q ne)

none_past : (rows : List Row) (i : ℕ) → length rows ≤ i → slice_get rows i ≡ None
none_past [] i h = refl
none_past (r ∷ rows) zero h = absurd (omega (arith, h))
none_past (r ∷ rows) (suc i) h = none_past rows i (omega (arith, h))

pub none_after : (rows : List Row) (q : ℕ) → length rows < q → at_pid rows q ≡ None
none_after rows zero h = refl
none_after rows (suc i) h = none_past rows i (omega (arith, h))

some_before : (rows : List Row) (i : ℕ) → i < length rows → (row : Row) × (slice_get rows i ≡ Some row)
some_before [] i h = absurd (omega (arith, h))
some_before (r ∷ rows) zero h = (r, refl)
some_before (r ∷ rows) (suc i) h = some_before rows i (omega (arith, h))

-- a pid that was given has a row
pub row_of : (rows : List Row) (q : ℕ) → 1 ≤ q → q ≤ length rows → (row : Row) × (at_pid rows q ≡ Some row)
row_of rows zero low high = absurd (omega (arith, low))
row_of rows (suc i) low high = some_before rows i (omega (arith, high))

-- none is held
pub is_none_same : (o : Option HeldCall) → is_none o ≡ true → o ≡ None
is_none_same None e = refl
is_none_same (Some c) e = absurd cc

-- a fork's child is the next pid; no other answer brings one
abbrev pub Birth : Bool → Option ℕ → ℕ → Type 0
Birth true child count = child ≡ Some (count + 1)
Birth false child count = child ≡ None

-- ---- rows in which one changed

-- what does not read the change stays
pub kept_row : {B : Type 0} (f : Option Row → B) (change : Row → Row) (rows : List Row) (p : ℕ) (row : Row) → at_pid rows p ≡ Some row → f (Some (change row)) ≡ f (Some row) → (q : ℕ) → f (at_pid (changed_pid change rows p) q) ≡ f (at_pid rows q)
kept_row f change rows p row here e q = ap f (at_changed change rows p q) ∙ by_same (λ k. f (cond k (option_map change (at_pid rows p)) (at_pid rows q)) ≡ f (at_pid rows q)) q p
    (λ same. ap (λ (o : Option Row). f (option_map change o)) here ∙ (e ∙ (sym (ap f here) ∙ sym (ap (λ (x : ℕ). f (at_pid rows x)) same))))
    (λ ne. refl)

-- and what reads it is that of the changed one
pub new_row_at : {B : Type 0} (f : Option Row → B) (change : Row → Row) (rows : List Row) (p : ℕ) (row : Row) → at_pid rows p ≡ Some row → (q : ℕ) → f (at_pid (changed_pid change rows p) q) ≡ cond (q == p) (f (Some (change row))) (f (at_pid rows q))
new_row_at f change rows p row here q = ap f (at_changed change rows p q) ∙ (ap (λ (o : Option Row). f (cond (q == p) (option_map change o) (at_pid rows q))) here ∙ go (q == p))
  where
    go : (k : Bool) → f (cond k (Some (change row)) (at_pid rows q)) ≡ cond k (f (Some (change row))) (f (at_pid rows q))
    go true = refl
    go false = refl

same_back : (a b : ℕ) → (a == b) ≡ (b == a)
same_back a b = by_same (λ k. k ≡ (b == a)) a b (λ e. sym (same_numbers b a (sym e))) (λ ne. sym (other_numbers b a (λ e. ne (sym e))))

child_test : (fork : Bool) (child : Option ℕ) (n : ℕ) → Birth fork child n → (q : ℕ) → is_child child q ≡ (fork && (q == n + 1))
child_test true child n birth q = ap (λ o. is_child o q) birth ∙ same_back (n + 1) q
child_test false child n birth q = ap (λ o. is_child o q) birth

-- ---- rows after a call was served

born_row : (fork : Bool) (from : ℕ) (rows : List Row) (q : ℕ) → at_pid (with_born fork from rows) q ≡ cond (fork && (q == length rows + 1)) (Some (new_row from)) (at_pid rows q)
born_row true from rows q = at_pushed rows (new_row from) q
born_row false from rows q = refl

not_after : (a n : ℕ) → a ≤ n → (a == n + 1) ≡ false
not_after a n h = other_numbers a (n + 1) (λ e. omega (arith, e, h))

and_false : (b : Bool) → (b && false) ≡ false
and_false true = refl
and_false false = refl

born_other : (fork : Bool) (from : ℕ) (rows : List Row) (p : ℕ) → p ≤ length rows → at_pid (with_born fork from rows) p ≡ at_pid rows p
born_other fork from rows p high = born_row fork from rows p ∙ ap (λ b. cond b (Some (new_row from)) (at_pid rows p)) (ap (λ b. fork && b) (not_after p (length rows) high) ∙ and_false fork)

pub served_row : (fork : Bool) (from : ℕ) (rows : List Row) (p : ℕ) (row : Row) → at_pid rows p ≡ Some row → p ≤ length rows → (q : ℕ)
    → at_pid (changed_pid counted (with_born fork from rows) p) q ≡ cond (q == p) (Some (counted row)) (cond (fork && (q == length rows + 1)) (Some (new_row from)) (at_pid rows q))
served_row fork from rows p row here high q =
    at_changed counted (with_born fork from rows) p q ∙ (ap (λ o. cond (q == p) (option_map counted o) (at_pid (with_born fork from rows) q)) (born_other fork from rows p high ∙ here)
    ∙ ap (λ o. cond (q == p) (Some (counted row)) o) (born_row fork from rows q))

-- a pid after all rows has none
new_pid : (fork : Bool) (rows : List Row) (q : ℕ) → (fork && (q == length rows + 1)) ≡ true → at_pid rows q ≡ None
new_pid true rows q e = let n : q ≡ length rows + 1 = numbers_same q (length rows + 1) e in none_after rows q (omega (arith, n))
new_pid false rows q e = absurd cc

module _ (fork : Bool) (from : ℕ) (rows : List Row) (p : ℕ) (row : Row) (here : at_pid rows p ≡ Some row) (high : p ≤ length rows) where
  abbrev now : ℕ → Option Row
  now q = at_pid (changed_pid counted (with_born fork from rows) p) q

  by_place : (P : Option Row → ℕ → Type 0) → P (Some (counted row)) p → ((q : ℕ) → (fork && (q == length rows + 1)) ≡ true → at_pid rows q ≡ None → P (Some (new_row from)) q)
      → ((q : ℕ) → (fork && (q == length rows + 1)) ≡ false → q ≢ p → P (at_pid rows q) q) → (q : ℕ) → P (now q) q
  by_place P own born rest q = subst (λ o. P o q) (sym (served_row fork from rows p row here high q))
      (by_same (λ k. P (cond k (Some (counted row)) (cond (fork && (q == length rows + 1)) (Some (new_row from)) (at_pid rows q))) q) q p (λ e. subst (λ (x : ℕ). P (Some (counted row)) x) (sym e) own)
      (λ ne. go (fork && (q == length rows + 1)) refl ne))
    where
      go : (k : Bool) → (fork && (q == length rows + 1)) ≡ k → q ≢ p → P (cond k (Some (new_row from)) (at_pid rows q)) q
      go true e ne = born q e (new_pid fork rows q e)
      go false e ne = rest q e ne

  -- nothing of it is held
  pub served_held : (q : ℕ) → held_of (now q) ≡ cond (q == p) None (held_of (at_pid rows q))
  served_held = by_place (λ o q. held_of o ≡ cond (q == p) None (held_of (at_pid rows q)))
      (ap (λ k. cond k None (held_of (at_pid rows p))) (sym (same_numbers p p refl)))
      (λ q e none. none_either q (sym (ap held_of none)))
      (λ q e ne. ap (λ k. cond k None (held_of (at_pid rows q))) (sym (other_numbers q p ne)))
    where
      none_either : (q : ℕ) → None ≡ held_of (at_pid rows q) → None ≡ cond (q == p) None (held_of (at_pid rows q))
      none_either q e = go (q == p)
        where
          go : (k : Bool) → None ≡ cond k None (held_of (at_pid rows q))
          go true = refl
          go false = e

  -- one more call of it is counted
  pub served_count : row.served < 2 ^ 64 - 1 → (q : ℕ) → served_of (now q) ≡ cond (q == p) (served_of (at_pid rows q) + 1) (served_of (at_pid rows q))
  served_count room = by_place (λ o q. served_of o ≡ cond (q == p) (served_of (at_pid rows q) + 1) (served_of (at_pid rows q)))
      (own_count ∙ ap (λ k. cond k (served_of (at_pid rows p) + 1) (served_of (at_pid rows p))) (sym (same_numbers p p refl)))
      (λ q e none. born_count q e none)
      (λ q e ne. ap (λ k. cond k (served_of (at_pid rows q) + 1) (served_of (at_pid rows q))) (sym (other_numbers q p ne)))
    where
      own_count : min (row.served + 1) (2 ^ 64 - 1) ≡ served_of (at_pid rows p) + 1
      own_count = let e : served_of (at_pid rows p) ≡ row.served = ap served_of here in omega (arith, e, room)

      apart : (q : ℕ) → at_pid rows q ≡ None → q ≢ p
      apart q none e = let z : None ≡ Some row = sym none ∙ ap (at_pid rows) e ∙ here in cc

      born_count : (q : ℕ) → (fork && (q == length rows + 1)) ≡ true → at_pid rows q ≡ None → 0 ≡ cond (q == p) (served_of (at_pid rows q) + 1) (served_of (at_pid rows q))
      born_count q e none = sym (ap (λ k. cond k (served_of (at_pid rows q) + 1) (served_of (at_pid rows q))) (other_numbers q p (apart q none)) ∙ ap served_of none)

  -- the child is believed where its parent's call came from, and all others where they were
  pub served_believed : (child : Option ℕ) → Birth fork child (length rows) → (q : ℕ) → believed_of (now q) ≡ cond (is_child child q) (record { place = from; hops = 0 }) (believed_of (at_pid rows q))
  served_believed child birth = by_place (λ o q. believed_of o ≡ cond (is_child child q) (record { place = from; hops = 0 }) (believed_of (at_pid rows q)))
      (sym (ap believed_of here) ∙ ap (λ k. cond k (record { place = from; hops = 0 }) (believed_of (at_pid rows p))) (sym (child_test fork child (length rows) birth p ∙ (ap (λ b. fork && b) (not_after p (length rows) high) ∙ and_false fork))))
      (λ q e none. ap (λ k. cond k (record { place = from; hops = 0 }) (believed_of (at_pid rows q))) (sym (child_test fork child (length rows) birth q ∙ e)))
      (λ q e ne. ap (λ k. cond k (record { place = from; hops = 0 }) (believed_of (at_pid rows q))) (sym (child_test fork child (length rows) birth q ∙ e)))
