-- How contexts are kept, through every edit.
use Rattle.std.proofs.Common.{◌≡◌, ℕ, zero, suc, ◌+◌, ◌*◌, ◌^◌, ◌<◌, ◌≤◌, ◌==◌, ◌||◌, cond, Bool, true, false, List, [], ◌∷◌, length, get_or, take, drop, Option, Some, None, Result, Ok, Err, IfOk, IfErr, refl, sym, ap, ◌∙◌, subst, arith, slice_get, slice_set, slice_index}
use Rattle.std.specs.List.{insert, remove, sum_by, All}
use Rattle.std.specs.List.Sorted.{IsSearchInRange, IsBinarySearchResult, IsNonDecreasingBy}
use Rattle.std.specs.Ordering.{nat_cmp, ordering_index}
use Rattle.std.specs.FinMap as finmap
use Rattle.std.proofs.lemmas.Cmp.{ranked}
use Rattle.std.proofs.lemmas.List.{get_or-map, length-set}
use Rattle.std.proofs.lemmas.List.Sorted.{IsNonDecreasingBy-from_default, IsPermutation-insert, IsPermutation-remove, All-permutation, sum_by-IsPermutation}
use Rattle.std.proofs.lemmas.List.Sums.{sum_by-set, sum_by-cons}
use Rattle.std.proofs.lemmas.List.Edits.{length-insert, length-remove}
use Rattle.std.proofs.lemmas.List.Elements.{All-set, All-cons, All-tail, All-head, All-append, All-take, All-drop}
use Rattle.std.proofs.lemmas.Bool.Decides.{nat_tests}
use Rattle.user_spec.specs.User.{UserState}
use Rattle.remote_ctx.specs.declared.context.Context.{Context}
use Rattle.remote_ctx.specs.declared.context.Stance.TheVariants.{Running}
use Rattle.remote_ctx.specs.Hosted.{lookup, AreApart, pages_of, pages_here, is_running, runs_as, IsRising, has}
use Rattle.remote_ctx.specs.Kept.{pids_of, IsAt, IsGap, Notes, one_if, one_if_runs, IsSmall, IsKept}
use Rattle.remote_ctx.proofs.Lookup.{found, lookup_set, removed}
use Rattle.remote_ctx.proofs.Rising.{rising_insert, rising_remove, first_apart, tail_rising, gap_lacks}

-- ---- places

nobody : UserState
nobody = record { pc = 0; registers = []; pages = finmap.empty; base = 0; brk = 0; pid = 0; count = 0 }

blank : Context
blank = record { pid = 0; user = nobody; hops = 0; poked = false; state = Running }

pub length_pids : (cs : List Context) → length (pids_of cs) ≡ length cs
length_pids [] = refl
length_pids (c ∷ cs) = ap (λ n. suc n) (length_pids cs)

pub get_is : (cs : List Context) (i : ℕ) (c d : Context) → slice_get cs i ≡ Some c → (i < length cs) × (get_or cs i d ≡ c)
get_is [] i c d h = absurd (let z : None ≡ Some c = h in cc)
get_is (x ∷ cs) zero c d h = (omega arith, let e : x ≡ c = cc in e)
get_is (x ∷ cs) (suc i) c d h = let r = get_is cs i c d h in (let lt = r.0 in omega (arith, lt), r.1)

there : (cs : List Context) (i : ℕ) → i < length cs → (c : Context) × (slice_get cs i ≡ Some c)
there [] i lt = absurd (omega arith)
there (x ∷ cs) zero lt = (x, refl)
there (x ∷ cs) (suc i) lt = there cs i (omega arith)

pid_there : (cs : List Context) (i : ℕ) (c : Context) → slice_get cs i ≡ Some c → slice_index (pids_of cs) i ≡ c.pid
pid_there [] i c h = absurd (let z : None ≡ Some c = h in cc)
pid_there (x ∷ cs) zero c h = let e : x ≡ c = cc in ap (λ (k : Context). k.pid) e
pid_there (x ∷ cs) (suc i) c h = pid_there cs i c h

-- ---- the context of a pid

pub lookup_lacks : (cs : List Context) (q : ℕ) → has q (pids_of cs) ≡ false → lookup q cs ≡ None
lookup_lacks [] q h = refl
lookup_lacks (c ∷ cs) q h = go (q == c.pid) h (lookup_lacks cs q)
  where
    go : (b : Bool) → (b || has q (pids_of cs)) ≡ false → (has q (pids_of cs) ≡ false → lookup q cs ≡ None) → cond b (Some c) (lookup q cs) ≡ None
    go true h ih = absurd (let z : true ≡ false = h in cc)
    go false h ih = ih h

pub rising_apart : (cs : List Context) → IsRising (pids_of cs) → AreApart cs
rising_apart [] rising = tt
rising_apart (c ∷ cs) rising = (lookup_lacks cs c.pid (first_apart c.pid (pids_of cs) rising), rising_apart cs (tail_rising c.pid (pids_of cs) rising))

-- what is found at a place is the context of the pid
pub lookup_at : (cs : List Context) (pid i : ℕ) (c : Context) → IsRising (pids_of cs) → IsAt (pids_of cs) pid i → slice_get cs i ≡ Some c → (lookup pid cs ≡ Some c) × (c.pid ≡ pid)
lookup_at cs pid i c rising at h =
    let e : c.pid ≡ pid = sym (pid_there cs i c h) ∙ at.is in
    (ap (λ (p : ℕ). lookup p cs) (sym e) ∙ found cs i c (rising_apart cs rising) h, e)

pub at_there : (cs : List Context) (pid i : ℕ) → IsAt (pids_of cs) pid i → (c : Context) × (slice_get cs i ≡ Some c)
at_there cs pid i at = there cs i (let lt = at.in_range in let n = length_pids cs in omega (arith, lt, n))

pub at_within : (cs : List Context) (pid i : ℕ) → IsAt (pids_of cs) pid i → i < length cs
at_within cs pid i at = let lt = at.in_range in let n = length_pids cs in omega (arith, lt, n)

pub found_there : (cs : List Context) (pid i : ℕ) → IsRising (pids_of cs) → IsAt (pids_of cs) pid i → lookup pid cs ≡ slice_get cs i
found_there cs pid i rising at = let t = at_there cs pid i at in (lookup_at cs pid i t.0 rising at t.1).0 ∙ sym t.1

pub gap_absent : (cs : List Context) (pid i : ℕ) → IsGap (pids_of cs) pid i → lookup pid cs ≡ None
gap_absent cs pid i gap = lookup_lacks cs pid (gap_lacks (pids_of cs) pid i gap)

-- ---- a search by pid

module _ (cs : List Context) (rising : IsRising (pids_of cs)) (pid : ℕ) where
  pid_is : (i : ℕ) → i < length cs → slice_index (pids_of cs) i ≡ (get_or cs i blank).pid
  pid_is i lt = get_or-map (λ (c : Context). c.pid) cs i blank 0 lt

  comparisons_rise : IsNonDecreasingBy (λ (c : Context). ordering_index (nat_cmp c.pid pid)) cs
  comparisons_rise = IsNonDecreasingBy-from_default (λ (c : Context). ordering_index (nat_cmp c.pid pid)) cs blank (λ i j le in_range.
      let n = length_pids cs in
      let pids_rise : (get_or cs i blank).pid ≤ (get_or cs j blank).pid = grind (arith, rising i j, pid_is i, pid_is j, λ (same : i ≡ j). ap (λ k. (get_or cs k blank).pid) same) in
      grind (arith, nat_tests))

  pub searched_pids : (r : Result ℕ ℕ) → IsSearchInRange r (length cs) → IsBinarySearchResult (λ (c : Context). nat_cmp c.pid pid) cs r → record { found : IfOk r (IsAt (pids_of cs) pid); absent : IfErr r (IsGap (pids_of cs) pid) }
  searched_pids (Ok at) in_range equal = record {
    found = record {
      in_range = let n = length_pids cs in omega (arith, n, in_range);
      is = pid_is at in_range ∙ ranked _ pid _ (sym (equal blank));
    };
    absent = tt;
  }
  searched_pids (Err at) in_range parted = record {
    found = tt;
    absent = record {
      in_range = let n = length_pids cs in omega (arith, n, in_range);
      below = λ j lt. let h : (get_or cs j blank).pid < pid = ranked _ pid _ (sym ((parted comparisons_rise).0 j blank (omega (arith, lt, in_range)) lt)) in subst (λ (p : ℕ). p < pid) (sym (pid_is j (omega (arith, lt, in_range)))) h;
      above = λ j le lt. let n = length_pids cs in let within : j < length cs = omega (arith, n, lt) in let h : pid < (get_or cs j blank).pid = ranked _ pid _ (sym ((parted comparisons_rise).1 j blank le within)) in subst (λ (p : ℕ). pid < p) (sym (pid_is j within)) h;
    };
  }

-- ---- pids after an edit

pub pids_insert : (cs : List Context) (i : ℕ) (c : Context) → pids_of (insert cs i c) ≡ insert (pids_of cs) i c.pid
pids_insert cs zero c = refl
pids_insert [] (suc i) c = refl
pids_insert (x ∷ cs) (suc i) c = ap (λ (ps : List ℕ). x.pid ∷ ps) (pids_insert cs i c)

pub pids_remove : (cs : List Context) (i : ℕ) → pids_of (remove cs i) ≡ remove (pids_of cs) i
pids_remove [] zero = refl
pids_remove [] (suc i) = refl
pids_remove (x ∷ cs) zero = refl
pids_remove (x ∷ cs) (suc i) = ap (λ (ps : List ℕ). x.pid ∷ ps) (pids_remove cs i)

pub pids_set : (cs : List Context) (i : ℕ) (c d : Context) → slice_get cs i ≡ Some c → d.pid ≡ c.pid → pids_of (slice_set cs i d) ≡ pids_of cs
pids_set [] i c d h e = absurd (let z : None ≡ Some c = h in cc)
pids_set (x ∷ cs) zero c d h e = let s : x ≡ c = cc in ap (λ (p : ℕ). p ∷ pids_of cs) (e ∙ sym (ap (λ (k : Context). k.pid) s))
pids_set (x ∷ cs) (suc i) c d h e = ap (λ (ps : List ℕ). x.pid ∷ ps) (pids_set cs i c d h e)

pub lookup_insert : (cs : List Context) (i : ℕ) (c : Context) → lookup c.pid cs ≡ None → (q : ℕ) → lookup q (insert cs i c) ≡ cond (q == c.pid) (Some c) (lookup q cs)
lookup_insert cs zero c none q = refl
lookup_insert [] (suc i) c none q = refl
lookup_insert (x ∷ cs) (suc i) c none q = go (c.pid == x.pid) refl none (λ h. lookup_insert cs i c h q)
  where
    go : (b : Bool) → (c.pid == x.pid) ≡ b → cond b (Some x) (lookup c.pid cs) ≡ None → (lookup c.pid cs ≡ None → lookup q (insert cs i c) ≡ cond (q == c.pid) (Some c) (lookup q cs)) → cond (q == x.pid) (Some x) (lookup q (insert cs i c)) ≡ cond (q == c.pid) (Some c) (cond (q == x.pid) (Some x) (lookup q cs))
    go true e h ih = absurd (let z : Some x ≡ None = h in cc)
    go false e h ih = both (q == x.pid) (q == c.pid) refl refl (ih h)
      where
        both : (j k : Bool) → (q == x.pid) ≡ j → (q == c.pid) ≡ k → lookup q (insert cs i c) ≡ cond k (Some c) (lookup q cs) → cond j (Some x) (lookup q (insert cs i c)) ≡ cond k (Some c) (cond j (Some x) (lookup q cs))
        both true true ej ek ih = absurd (let a : q ≡ x.pid = grind (arith, nat_tests) in let b : q ≡ c.pid = grind (arith, nat_tests) in let s : c.pid ≡ x.pid = sym b ∙ a in let z : (c.pid == x.pid) ≡ true = grind (arith, nat_tests) in let y : true ≡ false = sym z ∙ e in cc)
        both true false ej ek ih = refl
        both false true ej ek ih = ih
        both false false ej ek ih = ih

-- ---- sums

sum_set : (f : Context → ℕ) (cs : List Context) (i : ℕ) (c d : Context) → slice_get cs i ≡ Some c → sum_by f (slice_set cs i d) + f c ≡ sum_by f cs + f d
sum_set f cs i c d h = let g = get_is cs i c c h in ap (λ (x : Context). sum_by f (slice_set cs i d) + f x) (sym g.1) ∙ sum_by-set f cs i d c g.0

sum_insert : (f : Context → ℕ) (cs : List Context) (i : ℕ) (c : Context) → sum_by f (insert cs i c) ≡ sum_by f cs + f c
sum_insert f cs i c = sum_by-IsPermutation f (c ∷ cs) (insert cs i c) (IsPermutation-insert cs i c) ∙ sum_by-cons f c cs ∙ (let a : f c + sum_by f cs ≡ sum_by f cs + f c = omega arith in a)

sum_remove : (f : Context → ℕ) (cs : List Context) (i : ℕ) (c : Context) → slice_get cs i ≡ Some c → sum_by f (remove cs i) + f c ≡ sum_by f cs
sum_remove f cs i c h =
    let g = get_is cs i c c h in
    let p = sum_by-IsPermutation f cs (c ∷ remove cs i) (IsPermutation-remove cs i c g.0 (sym g.1)) in
    let q = sum_by-cons f c (remove cs i) in
    omega (arith, p, q)

pub sum_holds : (f : Context → ℕ) (cs : List Context) (i : ℕ) (c : Context) → slice_get cs i ≡ Some c → f c ≤ sum_by f cs
sum_holds f cs i c h = let r = sum_remove f cs i c h in omega (arith, r)

pub sum_bound : (cs : List Context) → All IsSmall cs → pages_here cs ≤ length cs * 2 ^ 32
sum_bound [] small = omega arith
sum_bound (c ∷ cs) small =
    let one = (All-head IsSmall c cs small).few in
    let rest = sum_bound cs (All-tail IsSmall c cs small) in
    let s = sum_by-cons pages_of c cs in
    omega (arith, one, rest, s)

-- of n contexts, of which one does not run, fewer run
ones_most : (cs : List Context) → sum_by one_if_runs cs ≤ length cs
ones_most [] = omega arith
ones_most (c ∷ cs) = let s = sum_by-cons one_if_runs c cs in let ih = ones_most cs in let o = one_most (is_running c.state) in omega (arith, s, ih, o)
  where
    one_most : (b : Bool) → one_if b ≤ 1
    one_most true = omega arith
    one_most false = omega arith

pub fewer_run : (cs : List Context) (i : ℕ) (c : Context) → slice_get cs i ≡ Some c → is_running c.state ≡ false → sum_by one_if_runs cs < length cs
fewer_run cs i c h still =
    let g = get_is cs i c c h in
    let r = sum_remove one_if_runs cs i c h in
    let m = ones_most (remove cs i) in
    let n = length-remove cs i g.0 in
    let z : one_if_runs c ≡ 0 = ap one_if still in
    omega (arith, r, m, n, z)

-- ---- the invariant

runs_cond : (b : Bool) (c d : Option Context) → cond b (runs_as c) (runs_as d) ≡ runs_as (cond b c d)
runs_cond true c d = refl
runs_cond false c d = refl

module _ (cs : List Context) (running : List ℕ) (capacity total : ℕ) (kept : IsKept cs running capacity total) where
  pub apart : AreApart cs
  apart = rising_apart cs kept.rising

  -- a member changes
  pub kept_set : (i : ℕ) (c d : Context) (new : List ℕ) (more sum : ℕ) → slice_get cs i ≡ Some c → d.pid ≡ c.pid → pages_of d < 2 ^ 32 → sum + pages_of c ≡ total + pages_of d → IsRising new → Notes c.pid (is_running d.state) running new → length new + one_if (is_running c.state) ≡ length running + one_if (is_running d.state) → capacity ≤ more → IsKept (slice_set cs i d) new more sum
  kept_set i c d new more sum h same small pages rising notes count le = record {
    rising = subst IsRising (sym (pids_set cs i c d h same)) kept.rising;
    small = All-set IsSmall cs i d (record { few = small }) kept.small;
    pages = let s = sum_set pages_of cs i c d h in let t = kept.pages in omega (arith, s, t, pages);
    runs_rising = rising;
    runs = λ q. notes.each q ∙ ap (λ (b : Bool). cond (q == c.pid) (is_running d.state) b) (kept.runs q) ∙ runs_cond (q == c.pid) (Some d) (lookup q cs) ∙ ap runs_as (sym (lookup_set cs i c d apart h same q));
    count = let s = sum_set one_if_runs cs i c d h in let t = kept.count in omega (arith, s, t, count);
    room = let n = length-set cs i d in let r = kept.room in omega (arith, n, r, le);
  }

  -- a member comes
  pub kept_insert : (i : ℕ) (c : Context) (new : List ℕ) (more sum : ℕ) → IsGap (pids_of cs) c.pid i → is_running c.state ≡ true → pages_of c < 2 ^ 32 → sum ≡ total + pages_of c → IsRising new → Notes c.pid true running new → length new ≡ length running + 1 → length cs < more → IsKept (insert cs i c) new more sum
  kept_insert i c new more sum gap runs small pages rising notes count room =
      let within : i ≤ length cs = let n = length_pids cs in let r = gap.in_range in omega (arith, n, r) in
      record {
        rising = subst IsRising (sym (pids_insert cs i c)) (rising_insert (pids_of cs) c.pid i gap kept.rising);
        small = All-permutation IsSmall (c ∷ cs) (insert cs i c) (IsPermutation-insert cs i c) (All-cons IsSmall c cs (record { few = small }) kept.small);
        pages = let s = sum_insert pages_of cs i c in let t = kept.pages in omega (arith, s, t, pages);
        runs_rising = rising;
        runs = λ q. notes.each q ∙ ap (λ (b : Bool). cond (q == c.pid) true b) (kept.runs q) ∙ ap (λ (b : Bool). cond (q == c.pid) b (runs_as (lookup q cs))) (sym runs) ∙ runs_cond (q == c.pid) (Some c) (lookup q cs) ∙ ap runs_as (sym (lookup_insert cs i c (gap_absent cs c.pid i gap) q));
        count = let s = sum_insert one_if_runs cs i c in let t = kept.count in let o : one_if_runs c ≡ 1 = ap one_if runs in omega (arith, s, t, o, count);
        room = let n = length-insert cs i c within in omega (arith, n, room);
      }

  -- a member goes
  pub kept_remove : (i : ℕ) (c : Context) (new : List ℕ) (more sum : ℕ) → slice_get cs i ≡ Some c → sum + pages_of c ≡ total → IsRising new → Notes c.pid false running new → length new + one_if (is_running c.state) ≡ length running → capacity ≤ more → IsKept (remove cs i) new more sum
  kept_remove i c new more sum h pages rising notes count le =
      let g = get_is cs i c c h in
      record {
        rising = subst IsRising (sym (pids_remove cs i)) (rising_remove (pids_of cs) i (let n = length_pids cs in let lt = g.0 in omega (arith, n, lt)) kept.rising);
        small = All-append IsSmall (take i cs) (drop (suc i) cs) (All-take IsSmall i cs kept.small) (All-drop IsSmall (suc i) cs kept.small);
        pages = let s = sum_remove pages_of cs i c h in let t = kept.pages in omega (arith, s, t, pages);
        runs_rising = rising;
        runs = λ q. notes.each q ∙ ap (λ (b : Bool). cond (q == c.pid) false b) (kept.runs q) ∙ runs_cond (q == c.pid) None (lookup q cs) ∙ ap runs_as (sym (removed cs i c apart h q));
        count = let s = sum_remove one_if_runs cs i c h in let t = kept.count in omega (arith, s, t, count);
        room = let n = length-remove cs i g.0 in let r = kept.room in omega (arith, n, r, le);
      }

  -- the sum holds each context's pages, and is far from its type's end
  pub pages_within : (i : ℕ) (c : Context) → slice_get cs i ≡ Some c → pages_of c ≤ total
  pages_within i c h = let s = sum_holds pages_of cs i c h in let t = kept.pages in omega (arith, s, t)

  pub total_small : length cs < 2 ^ 64 → total ≤ 2 ^ 96
  total_small lt = let s = sum_bound cs kept.small in let t = kept.pages in omega (arith, s, t, lt)

  -- there is room for the pid of a context that does not run
  pub room_left : (i : ℕ) (c : Context) → slice_get cs i ≡ Some c → is_running c.state ≡ false → length running < capacity
  room_left i c h still = let f = fewer_run cs i c h still in let t = kept.count in let r = kept.room in omega (arith, f, t, r)

  pub running_most : length running ≤ length cs
  running_most = let m = ones_most cs in let t = kept.count in omega (arith, m, t)
