-- Pids in rising order: what a search finds, and what an edit at that place does.
use Rattle.std.proofs.Common.{◌≡◌, ◌≢◌, inl, inr, ℕ, zero, suc, ◌+◌, ◌-◌, ◌<◌, ◌≤◌, ◌==◌, ◌||◌, cond, Bool, true, false, List, [], ◌∷◌, length, get_or, Result, Ok, Err, IfOk, IfErr, IsOk, is_ok, if◌then◌else◌, MatchResult, refl, sym, ap, ◌∙◌, subst, arith, slice_index}
use Rattle.std.specs.List.{insert, remove}
use Rattle.std.specs.List.Sorted.{IsBinarySearchResult}
use Rattle.std.specs.Ordering.{nat_cmp}
use Rattle.std.proofs.lemmas.List.Sorted.{searched}
use Rattle.std.proofs.lemmas.List.Edits.{length-insert, get_or-insert_below, get_or-insert_at, get_or-insert_above, length-remove, get_or-remove_below, get_or-remove_above}
use Rattle.std.proofs.lemmas.Bool.Decides.{nat_tests}
use Rattle.remote_ctx.specs.Hosted.{IsRising, has, IsNext, NonePasses}
use Rattle.remote_ctx.specs.Kept.{IsAt, IsGap, IsCut, Notes}

-- ---- a search

abbrev pub Sought : List ℕ → ℕ → Result ℕ ℕ → Type 0
Sought pids pid r = record { found : IfOk r (IsAt pids pid); absent : IfErr r (IsGap pids pid) }

rises : (pids : List ℕ) → IsRising pids → (i j : ℕ) → i ≤ j → j < length pids → get_or pids i 0 ≤ get_or pids j 0
rises pids rising i j le lt = grind (arith, rising i j, λ (same : i ≡ j). ap (slice_index pids) same)

sought_as : (pids : List ℕ) (pid : ℕ) (r : Result ℕ ℕ) → MatchResult r (λ i. (i < length pids) × (get_or pids i 0 ≡ pid)) (λ i. (i ≤ length pids) × ((k : ℕ) → k < i → get_or pids k 0 < pid) × ((k : ℕ) → i ≤ k → k < length pids → pid < get_or pids k 0)) → Sought pids pid r
sought_as pids pid (Ok i) h = record { found = record { in_range = h.0; is = h.1 }; absent = tt }
sought_as pids pid (Err i) h = record { found = tt; absent = record { in_range = h.0; below = h.1; above = h.2 } }

pub sought : (pids : List ℕ) (pid : ℕ) (r : Result ℕ ℕ) → IsRising pids → IsBinarySearchResult (λ y. nat_cmp y pid) pids r → Sought pids pid r
sought pids pid r rising found = sought_as pids pid r (searched pids pid r found (rises pids rising))

-- ---- members

pub has_at : (pids : List ℕ) (i : ℕ) → i < length pids → has (slice_index pids i) pids ≡ true
has_at [] i lt = absurd (omega arith)
has_at (x ∷ xs) zero lt = grind (arith, nat_tests)
has_at (x ∷ xs) (suc i) lt = grind (arith, nat_tests, has_at xs i (omega arith))

-- a pid that no place has is no member
lacks : (pids : List ℕ) (q : ℕ) → ((j : ℕ) → j < length pids → slice_index pids j ≢ q) → has q pids ≡ false
lacks [] q none = refl
lacks (x ∷ xs) q none = grind (arith, nat_tests, none 0 (omega arith), lacks xs q (λ j lt. none (suc j) (omega arith)))

pub gap_lacks : (pids : List ℕ) (pid i : ℕ) → IsGap pids pid i → has pid pids ≡ false
gap_lacks pids pid i gap = lacks pids pid (λ j lt same. grind (arith, gap.below j, gap.above j))

pub at_has : (pids : List ℕ) (pid i : ℕ) → IsAt pids pid i → has pid pids ≡ true
at_has pids pid i at = subst (λ (p : ℕ). has p pids ≡ true) at.is (has_at pids i at.in_range)

-- and each member has a place
pub place_in : (pids : List ℕ) (q : ℕ) → has q pids ≡ true → (i : ℕ) × (i < length pids) × (slice_index pids i ≡ q)
place_in [] q h = absurd (let z : false ≡ true = h in cc)
place_in (x ∷ xs) q h = go (q == x) refl h (place_in xs q)
  where
    go : (b : Bool) → (q == x) ≡ b → (b || has q xs) ≡ true → (has q xs ≡ true → (i : ℕ) × (i < length xs) × (slice_index xs i ≡ q)) → (i : ℕ) × (i < length (x ∷ xs)) × (slice_index (x ∷ xs) i ≡ q)
    go true e h ih = (0, omega arith, grind (arith, nat_tests))
    go false e h ih = let r = ih h in (suc r.0, (let lt = r.1 in omega (arith, lt)), r.2)

-- ---- a pid more

has_insert : (pids : List ℕ) (i p : ℕ) (q : ℕ) → has q (insert pids i p) ≡ ((q == p) || has q pids)
has_insert xs zero p q = refl
has_insert [] (suc i) p q = refl
has_insert (x ∷ xs) (suc i) p q = go (q == x) (q == p) (has_insert xs i p q)
  where
    go : (a b : Bool) → has q (insert xs i p) ≡ (b || has q xs) → (a || has q (insert xs i p)) ≡ (b || (a || has q xs))
    go true true h = refl
    go true false h = refl
    go false true h = h
    go false false h = h

or_cond : (a b : Bool) → (a || b) ≡ cond a true b
or_cond true b = refl
or_cond false b = refl

pub notes_insert : (pids : List ℕ) (i p : ℕ) → Notes p true pids (insert pids i p)
notes_insert pids i p = record { each = λ q. has_insert pids i p q ∙ or_cond (q == p) (has q pids) }

pub rising_insert : (pids : List ℕ) (pid at : ℕ) → IsGap pids pid at → IsRising pids → IsRising (insert pids at pid)
rising_insert l k at gap rising i j lt in_range =
    let new = insert l at k in
    let length_new = length-insert l at k gap.in_range in
    let below : (i : ℕ) → i < at → slice_index new i ≡ slice_index l i = λ i below. get_or-insert_below l at k 0 i below gap.in_range in
    let here : (i : ℕ) → i ≡ at → slice_index new i ≡ k = λ i here. rw here (get_or-insert_at l at k 0 gap.in_range) in
    let above : (i : ℕ) → at < i → slice_index new i ≡ slice_index l (i - 1) = λ i above. subst (λ q. slice_index new q ≡ slice_index l (i - 1)) {x = i - 1 + 1} (omega arith) (get_or-insert_above l at k 0 (i - 1) (omega arith) gap.in_range) in
    grind (arith, below i, here i, above i, below j, here j, above j, rising i j, rising i (j - 1), rising (i - 1) (j - 1), gap.below i, gap.above (j - 1))

-- ---- a pid less

pub rising_remove : (pids : List ℕ) (at : ℕ) → at < length pids → IsRising pids → IsRising (remove pids at)
rising_remove l at within rising i j lt in_range =
    let new = remove l at in
    let length_new = length-remove l at within in
    let below : (i : ℕ) → i < at → slice_index new i ≡ slice_index l i = λ i below. get_or-remove_below l at 0 i below within in
    let above : (i : ℕ) → at ≤ i → slice_index new i ≡ slice_index l (i + 1) = λ i above. get_or-remove_above l at 0 i above within in
    grind (arith, below i, above i, below j, above j, rising i j, rising i (j + 1), rising (i + 1) (j + 1))

pub tail_rising : (x : ℕ) (xs : List ℕ) → IsRising (x ∷ xs) → IsRising xs
tail_rising x xs rising i j lt in_range = rising (suc i) (suc j) (omega arith) (omega arith)

-- the first is no member of the rest
pub first_apart : (x : ℕ) (xs : List ℕ) → IsRising (x ∷ xs) → has x xs ≡ false
first_apart x xs rising = lacks xs x (λ j lt same. let r : x < slice_index xs j = rising 0 (suc j) (omega arith) (omega arith) in omega (arith, r, same))

has_remove : (pids : List ℕ) (i : ℕ) → i < length pids → IsRising pids → (q : ℕ) → has q (remove pids i) ≡ cond (q == slice_index pids i) false (has q pids)
has_remove [] i lt rising q = absurd (omega arith)
has_remove (x ∷ xs) zero lt rising q = go (q == x) refl
  where
    go : (b : Bool) → (q == x) ≡ b → has q xs ≡ cond b false (b || has q xs)
    go true e = let same : q ≡ x = grind (arith, nat_tests) in ap (λ (p : ℕ). has p xs) same ∙ first_apart x xs rising
    go false e = refl
has_remove (x ∷ xs) (suc i) lt rising q = go (q == x) (q == slice_index xs i) refl refl (has_remove xs i (omega arith) (tail_rising x xs rising) q)
  where
    other : x < slice_index xs i
    other = rising 0 (suc i) (omega arith) lt

    go : (a b : Bool) → (q == x) ≡ a → (q == slice_index xs i) ≡ b → has q (remove xs i) ≡ cond b false (has q xs) → (a || has q (remove xs i)) ≡ cond b false (a || has q xs)
    go true true ea eb h = absurd (let a : q ≡ x = grind (arith, nat_tests) in let b : q ≡ slice_index xs i = grind (arith, nat_tests) in omega (arith, a, b, other))
    go true false ea eb h = refl
    go false true ea eb h = h
    go false false ea eb h = h

pub notes_remove : (pids : List ℕ) (pid i : ℕ) → IsAt pids pid i → IsRising pids → Notes pid false pids (remove pids i)
notes_remove pids pid i at rising = record { each = λ q. has_remove pids i at.in_range rising q ∙ ap (λ (p : ℕ). cond (q == p) false (has q pids)) at.is }

-- ---- a pid that is told as it is

pub notes_same : (pids : List ℕ) (pid : ℕ) (b : Bool) → has pid pids ≡ b → Notes pid b pids pids
notes_same pids pid b h = record { each = λ q. go q (q == pid) refl }
  where
    go : (q : ℕ) (e : Bool) → (q == pid) ≡ e → has q pids ≡ cond e b (has q pids)
    go q true e = let same : q ≡ pid = grind (arith, nat_tests) in ap (λ (p : ℕ). has p pids) same ∙ h
    go q false e = refl

-- ---- the next

pub cut_at : (pids : List ℕ) (after i : ℕ) → IsRising pids → IsAt pids after i → IsCut pids after (i + 1)
cut_at pids after i rising at = record {
  in_range = let lt = at.in_range in omega (arith, lt);
  below = λ j lt. grind (arith, rising j i, at.is, at.in_range, λ (same : j ≡ i). ap (slice_index pids) same);
  above = λ j le lt. grind (arith, rising i j, at.is);
}

pub cut_gap : (pids : List ℕ) (after i : ℕ) → IsGap pids after i → IsCut pids after i
cut_gap pids after i gap = record {
  in_range = gap.in_range;
  below = λ j lt. let h = gap.below j lt in omega (arith, h);
  above = gap.above;
}

next_above : (pids : List ℕ) (after i p : ℕ) → IsRising pids → IsCut pids after i → i < length pids → slice_index pids i ≡ p → (q : ℕ) → has q pids ≡ true → after < q → p ≤ q
next_above pids after i p rising at lt is q h above =
    let r = place_in pids q h in
    grind (arith, at.below r.0, rises pids rising i r.0, r.1, r.2, is)

pub next_cut : (pids : List ℕ) (after i p : ℕ) → IsRising pids → IsCut pids after i → i < length pids → slice_index pids i ≡ p → IsNext (λ q. has q pids) after p
next_cut pids after i p rising at lt is = record {
  is = subst (λ (x : ℕ). has x pids ≡ true) is (has_at pids i lt);
  least = inl (subst (λ (x : ℕ). after < x) is (at.above i (omega arith) lt), next_above pids after i p rising at lt is);
}

pub next_first : (pids : List ℕ) (after i p : ℕ) → IsRising pids → IsCut pids after i → length pids ≤ i → 0 < length pids → slice_index pids 0 ≡ p → IsNext (λ q. has q pids) after p
next_first pids after i p rising at past some is = record {
  is = subst (λ (x : ℕ). has x pids ≡ true) is (has_at pids 0 some);
  least = inr (
    (λ q h. let r = place_in pids q h in grind (arith, at.below r.0, r.1, r.2)),
    (λ q h. let r = place_in pids q h in grind (arith, rises pids rising 0 r.0, r.1, r.2, is)),
  );
}

pub next_none : (pids : List ℕ) → length pids ≡ 0 → NonePasses (λ q. has q pids)
next_none [] h = record { none = λ q. refl }
next_none (x ∷ xs) h = absurd (omega arith)

-- ---- what is not both

pub not_both : (b : Bool) → b ≡ true → b ≡ false → ⊥
not_both b h k = let z : true ≡ false = sym h ∙ k in cc

-- what was inserted, where that cannot fail
pub inserted : {A B X : Type 0} (r : Result A B) (new old more : List X) → IsOk r → new ≡ (if is_ok r then more else old) → new ≡ more
inserted (Ok x) new old more h e = e
inserted (Err x) new old more h e = absurd (let z : false ≡ true = h in cc)

pub some_of : (n : ℕ) (b : Bool) → b ≡ (n == 0) → b ≡ false → 0 < n
some_of zero b e h = absurd (let z : true ≡ false = sym e ∙ h in cc)
some_of (suc n) b e h = omega arith

pub none_of : (n : ℕ) (b : Bool) → b ≡ (n == 0) → b ≡ true → n ≡ 0
none_of zero b e h = refl
none_of (suc n) b e h = grind (arith, nat_tests)
