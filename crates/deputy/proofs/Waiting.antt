-- The pids whose calls wait, after a row was changed or added.
use Rattle.std.proofs.Common.{◌≡◌, ℕ, zero, suc, ◌+◌, ◌<◌, ◌≤◌, cond, nat_le, Bool, true, false, List, [], ◌∷◌, ◌++◌, length, set, take, drop, Option, Some, None, is_some, get_or, slice_get, refl, ap, sym, ◌∙◌, arith, add-one}
use Rattle.std.specs.List.{insert, remove}
use Rattle.std.specs.Option.{option_map}
use Rattle.std.proofs.lemmas.Option.{slice_get-get_or}
use Rattle.std.proofs.lemmas.Bool.{le-leb}
use Rattle.std.proofs.lemmas.Bool.Decides.{nat_tests}
use Rattle.deputy.specs.declared.row.Row.{Row}
use Rattle.deputy.specs.declared.row.HeldCall.{HeldCall}
use Rattle.kernel_spec.specs.Pids.{at_pid, replaced_pid, changed_pid}
use Rattle.deputy.specs.Rows.{held_of, held_at, new_row, holding, counted, moved, held_one, held_from, held_pids, before}

above : (m n : ℕ) → n < m → nat_le m n ≡ false
above m n h = grind (arith, nat_tests)

none_by : (o : Option HeldCall) (m n : ℕ) (ws : List ℕ) → m ≤ n → before m ws ≡ 0 → before m (held_one n o ws) ≡ 0
none_by None m n ws h rest = rest
none_by (Some call) m n ws h rest = ap (λ b. cond b 0 (before m ws + 1)) (le-leb m n h)

-- the pids from one on are not below it
none_before : (m n : ℕ) (rows : List Row) → m ≤ n → before m (held_from n rows) ≡ 0
none_before m n [] h = refl
none_before m n (row ∷ rows) h = none_by row.held m n (held_from (n + 1) rows) h (none_before m (n + 1) rows (omega (arith, h)))

insert_front : (w : ℕ) (ws : List ℕ) (k m : ℕ) → insert (w ∷ ws) (k + 1) m ≡ w ∷ insert ws k m
insert_front w ws k m = rw add-one refl

remove_front : (w : ℕ) (ws : List ℕ) (k : ℕ) → remove (w ∷ ws) (k + 1) ≡ w ∷ remove ws k
remove_front w ws k = rw add-one refl

before_front : (m n : ℕ) (ws : List ℕ) → n < m → before m (n ∷ ws) ≡ before m ws + 1
before_front m n ws h = ap (λ b. cond b 0 (before m ws + 1)) (above m n h)

before_here : (m n : ℕ) (ws : List ℕ) → m ≤ n → before m (n ∷ ws) ≡ 0
before_here m n ws h = ap (λ b. cond b 0 (before m ws + 1)) (le-leb m n h)

held_head : (n : ℕ) (row : Row) (o : Option HeldCall) (ws : List ℕ) → row.held ≡ o → held_one n row.held ws ≡ held_one n o ws
held_head n row o ws e = ap (λ x. held_one n x ws) e

same_some : {A : Type 0} (x y : A) → Some x ≡ Some y → x ≡ y
same_some x y h = cc

same_held : (x row : Row) (o : Option HeldCall) → Some x ≡ Some row → row.held ≡ o → x.held ≡ o
same_held x row o e h = ap (λ (r : Row). r.held) (same_some x row e) ∙ h

more_by : (o : Option HeldCall) (n m : ℕ) (ws us : List ℕ) → n < m → us ≡ insert ws (before m ws) m → held_one n o us ≡ insert (held_one n o ws) (before m (held_one n o ws)) m
more_by None n m ws us below rest = rest
more_by (Some held) n m ws us below rest = ap (λ vs. n ∷ vs) rest ∙ (sym (insert_front n ws (before m ws) m) ∙ ap (λ k. insert (n ∷ ws) k m) (sym (before_front m n ws below)))

-- a call more waits
pub held_more : (xs : List Row) (n i m : ℕ) (row new : Row) (call : HeldCall) → m ≡ n + i → slice_get xs i ≡ Some row → row.held ≡ None → new.held ≡ Some call
    → held_from n (set xs i new) ≡ insert (held_from n xs) (before m (held_from n xs)) m
held_more [] n i m row new call e here was is = absurd (cc)
held_more (x ∷ xs) n zero m row new call e here was is =
    let ws : List ℕ = held_from (n + 1) xs in
    let at : m ≡ n = omega (arith, e) in
    let none : held_from n (x ∷ xs) ≡ ws = held_head n x None ws (same_held x row None here was) in
    let zero_before : before m ws ≡ 0 = none_before m (n + 1) xs (omega (arith, at)) in
    held_head n new (Some call) ws is ∙ (ap (λ k. k ∷ ws) (sym at) ∙ (ap (λ k. insert ws k m) (sym zero_before) ∙ ap (λ us. insert us (before m us) m) (sym none)))
held_more (x ∷ xs) n (suc i) m row new call e here was is =
    more_by x.held n m (held_from (n + 1) xs) (held_from (n + 1) (set xs i new)) (omega (arith, e)) (held_more xs (n + 1) i m row new call (omega (arith, e)) here was is)

less_by : (o : Option HeldCall) (n m : ℕ) (ws us : List ℕ) → n < m → us ≡ remove ws (before m ws) → held_one n o us ≡ remove (held_one n o ws) (before m (held_one n o ws))
less_by None n m ws us below rest = rest
less_by (Some held) n m ws us below rest = ap (λ vs. n ∷ vs) rest ∙ (sym (remove_front n ws (before m ws)) ∙ ap (remove (n ∷ ws)) (sym (before_front m n ws below)))

-- a call waits no more
pub held_less : (xs : List Row) (n i m : ℕ) (row new : Row) (call : HeldCall) → m ≡ n + i → slice_get xs i ≡ Some row → row.held ≡ Some call → new.held ≡ None
    → held_from n (set xs i new) ≡ remove (held_from n xs) (before m (held_from n xs))
held_less [] n i m row new call e here was is = absurd (cc)
held_less (x ∷ xs) n zero m row new call e here was is =
    let ws : List ℕ = held_from (n + 1) xs in
    let one : held_from n (x ∷ xs) ≡ n ∷ ws = held_head n x (Some call) ws (same_held x row (Some call) here was) in
    let zero_before : before m (n ∷ ws) ≡ 0 = before_here m n ws (omega (arith, e)) in
    held_head n new None ws is ∙ (ap (remove (n ∷ ws)) (sym zero_before) ∙ ap (λ us. remove us (before m us)) (sym one))
held_less (x ∷ xs) n (suc i) m row new call e here was is =
    less_by x.held n m (held_from (n + 1) xs) (held_from (n + 1) (set xs i new)) (omega (arith, e)) (held_less xs (n + 1) i m row new call (omega (arith, e)) here was is)

within_by : (o : Option HeldCall) (n m : ℕ) (ws : List ℕ) → n < m → before m ws < length ws → before m (held_one n o ws) < length (held_one n o ws)
within_by None n m ws below rest = rest
within_by (Some held) n m ws below rest = let front = before_front m n ws below in omega (arith, front, rest)

-- and it stands in the list
pub held_within : (xs : List Row) (n i m : ℕ) (row : Row) (call : HeldCall) → m ≡ n + i → slice_get xs i ≡ Some row → row.held ≡ Some call
    → before m (held_from n xs) < length (held_from n xs)
held_within [] n i m row call e here was = absurd (cc)
held_within (x ∷ xs) n zero m row call e here was =
    let ws : List ℕ = held_from (n + 1) xs in
    let one : held_from n (x ∷ xs) ≡ n ∷ ws = held_head n x (Some call) ws (same_held x row (Some call) here was) in
    let zero_before : before m (n ∷ ws) ≡ 0 = before_here m n ws (omega (arith, e)) in
    let first : before m (held_from n (x ∷ xs)) ≡ 0 = ap (before m) one ∙ zero_before in
    let len : length (held_from n (x ∷ xs)) ≡ suc (length ws) = ap (λ (us : List ℕ). length us) one in
    omega (arith, first, len)
held_within (x ∷ xs) n (suc i) m row call e here was =
    within_by x.held n m (held_from (n + 1) xs) (omega (arith, e)) (held_within xs (n + 1) i m row call (omega (arith, e)) here was)

-- a row whose call is as it was
pub held_same : (xs : List Row) (n i : ℕ) (row new : Row) → slice_get xs i ≡ Some row → new.held ≡ row.held → held_from n (set xs i new) ≡ held_from n xs
held_same [] n i row new here is = refl
held_same (x ∷ xs) n zero row new here is =
    let same : new.held ≡ x.held = is ∙ sym (same_held x row row.held here refl) in
    ap (λ o. held_one n o (held_from (n + 1) xs)) same
held_same (x ∷ xs) n (suc i) row new here is = ap (held_one n x.held) (held_same xs (n + 1) i row new here is)

-- a row more
pub held_push : (xs : List Row) (n place : ℕ) → held_from n (xs ++ new_row place ∷ []) ≡ held_from n xs
held_push [] n place = refl
held_push (x ∷ xs) n place = ap (held_one n x.held) (held_push xs (n + 1) place)

-- ---- by pid

-- a call of a process that was given waits
pub hold_pids : (rows : List Row) (pid : ℕ) (call : HeldCall) → 1 ≤ pid → pid ≤ length rows → held_at rows pid ≡ None
    → held_pids (changed_pid (holding call) rows pid) ≡ insert (held_pids rows) (before pid (held_pids rows)) pid
hold_pids rows zero call low given free = absurd (omega (arith, low))
hold_pids rows (suc i) call low given free = by_row (slice_get rows i) refl free
  where
    by_row : (o : Option Row) → slice_get rows i ≡ o → held_of o ≡ None
        → held_pids (replaced_pid rows (suc i) (option_map (holding call) o)) ≡ insert (held_pids rows) (before (suc i) (held_pids rows)) (suc i)
    by_row None here free =
        let some : slice_get rows i ≡ Some (get_or rows i (new_row 0)) = slice_get-get_or rows i (new_row 0) (omega (arith, given)) in
        absurd (cc)
    by_row (Some row) here free = held_more rows 1 i (suc i) row (holding call row) call (omega arith) here free refl

-- the call of a process waits no more
pub count_pids : (rows : List Row) (pid : ℕ) → is_some (held_at rows pid) ≡ true
    → held_pids (changed_pid counted rows pid) ≡ remove (held_pids rows) (before pid (held_pids rows))
count_pids rows zero h = absurd (cc)
count_pids rows (suc i) h = by_row (slice_get rows i) refl h
  where
    by_held : (row : Row) (o : Option HeldCall) → slice_get rows i ≡ Some row → row.held ≡ o → is_some o ≡ true
        → held_pids (set rows i (counted row)) ≡ remove (held_pids rows) (before (suc i) (held_pids rows))
    by_held row None here was h = absurd (cc)
    by_held row (Some call) here was h = held_less rows 1 i (suc i) row (counted row) call (omega arith) here was refl

    by_row : (o : Option Row) → slice_get rows i ≡ o → is_some (held_of o) ≡ true
        → held_pids (replaced_pid rows (suc i) (option_map counted o)) ≡ remove (held_pids rows) (before (suc i) (held_pids rows))
    by_row None here h = absurd (cc)
    by_row (Some row) here h = by_held row row.held here refl h

pub waiting_within : (rows : List Row) (pid : ℕ) → is_some (held_at rows pid) ≡ true → before pid (held_pids rows) < length (held_pids rows)
waiting_within rows zero h = absurd (cc)
waiting_within rows (suc i) h = by_row (slice_get rows i) refl h
  where
    by_held : (row : Row) (o : Option HeldCall) → slice_get rows i ≡ Some row → row.held ≡ o → is_some o ≡ true → before (suc i) (held_pids rows) < length (held_pids rows)
    by_held row None here was h = absurd (cc)
    by_held row (Some call) here was h = held_within rows 1 i (suc i) row call (omega arith) here was

    by_row : (o : Option Row) → slice_get rows i ≡ o → is_some (held_of o) ≡ true → before (suc i) (held_pids rows) < length (held_pids rows)
    by_row None here h = absurd (cc)
    by_row (Some row) here h = by_held row row.held here refl h

-- none of its waited
pub count_free : (rows : List Row) (pid : ℕ) → is_some (held_at rows pid) ≡ false → held_pids (changed_pid counted rows pid) ≡ held_pids rows
count_free rows zero h = refl
count_free rows (suc i) h = by_row (slice_get rows i) refl h
  where
    none : (o : Option HeldCall) → is_some o ≡ false → None ≡ o
    none None h = refl
    none (Some call) h = absurd (cc)

    by_row : (o : Option Row) → slice_get rows i ≡ o → is_some (held_of o) ≡ false → held_pids (replaced_pid rows (suc i) (option_map counted o)) ≡ held_pids rows
    by_row None here h = refl
    by_row (Some row) here h = held_same rows 1 i row (counted row) here (none row.held h)

-- a landing leaves the calls as they are
pub land_pids : (rows : List Row) (pid place hops : ℕ) → held_pids (changed_pid (moved place hops) rows pid) ≡ held_pids rows
land_pids rows zero place hops = refl
land_pids rows (suc i) place hops = by_row (slice_get rows i) refl
  where
    by_row : (o : Option Row) → slice_get rows i ≡ o → held_pids (replaced_pid rows (suc i) (option_map (moved place hops) o)) ≡ held_pids rows
    by_row None here = refl
    by_row (Some row) here = held_same rows 1 i row (moved place hops row) here refl

pub push_pids : (rows : List Row) (place : ℕ) → held_pids (rows ++ new_row place ∷ []) ≡ held_pids rows
push_pids rows place = held_push rows 1 place
