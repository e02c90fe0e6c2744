-- The map of a function, and how many pages it has.
use Rattle.std.proofs.Common.{◌≡◌, ◌≢◌, ◌⊎◌, inl, inr, ℕ, zero, suc, ◌+◌, ◌-◌, ◌*◌, ◌^◌, ◌<◌, ◌≤◌, List, [], ◌∷◌, refl, ap, ◌∙◌, sym, arith, Bool, cond, true, false, Option, Some, None, is_some, length, slice_index, get_or}
use Rattle.std.specs.Ordering.{nat_cmp}
use Rattle.std.specs.Cmp.{nat_cmp_total}
use Rattle.std.specs.FinMap as map
use Rattle.std.proofs.lemmas.Bool.Decides.{nat_tests, eqb_tells}
use Rattle.page_set.specs.Pages.{Page, PageMap}
use Rattle.elf_load.specs.Image.{with_some_page, pages_below, tabulated}

-- the key of an insertion, and the other keys
pub get_inserted : (m : PageMap) (k : ℕ) (p : Page) → map.get (map.insert m k p) k ≡ Some p
get_inserted m k p = map.get-insert nat_cmp_total m k p k ∙ grind (arith, nat_tests)

pub get_inserted_other : (m : PageMap) (k q : ℕ) (p : Page) → q ≢ k → map.get (map.insert m k p) q ≡ map.get m q
get_inserted_other m k q p h = map.get-insert nat_cmp_total m k p q ∙ grind (arith, nat_tests)

get_removed : (m : PageMap) (k : ℕ) → map.get (map.remove m k) k ≡ None
get_removed m k = map.get-remove nat_cmp_total m k k ∙ grind (arith, nat_tests)

get_removed_other : (m : PageMap) (k q : ℕ) → q ≢ k → map.get (map.remove m k) q ≡ map.get m q
get_removed_other m k q h = map.get-remove nat_cmp_total m k q ∙ grind (arith, nat_tests)

get_some_page : (m : PageMap) (k : ℕ) (o : Option Page) → map.get m k ≡ None → map.get (with_some_page m k o) k ≡ o
get_some_page m k None h = h
get_some_page m k (Some p) h = get_inserted m k p

get_some_other : (m : PageMap) (k q : ℕ) (o : Option Page) → q ≢ k → map.get (with_some_page m k o) q ≡ map.get m q
get_some_other m k q None h = refl
get_some_other m k q (Some p) h = get_inserted_other m k q p h

-- none from n on
pub get_above : (f : ℕ → Option Page) (n q : ℕ) → n ≤ q → map.get (pages_below f n) q ≡ None
unfolding pages_below
get_above f zero q h = map.get-empty nat_cmp q
get_above f (suc n) q h = get_some_other (pages_below f n) n q (f n) (omega arith) ∙ get_above f n q (omega arith)

-- the function's value below n
pub get_below : (f : ℕ → Option Page) (n q : ℕ) → q < n → map.get (pages_below f n) q ≡ f q
unfolding pages_below
get_below f zero q h = absurd (omega arith)
get_below f (suc n) q h =
    elim (eqb_tells q n) as (λ _. map.get (with_some_page (pages_below f n) n (f n)) q ≡ f q) [
      | inl e ↦ ap (map.get (with_some_page (pages_below f n) n (f n))) e.1 ∙ get_some_page (pages_below f n) n (f n) (get_above f n n (omega arith)) ∙ ap f (sym e.1)
      | inr e ↦ get_some_other (pages_below f n) n q (f n) e.1 ∙ get_below f n q (omega arith)
    ]

-- ---- how many

pub len_inserted : (m : PageMap) (k : ℕ) (p : Page) → map.get m k ≡ None → map.len (map.insert m k p) ≡ map.len m + 1
len_inserted m k p none = map.len-insert nat_cmp_total m k p ∙ ap (λ o. cond (is_some o) (map.len m) (map.len m + 1)) none

len_some_page : (m : PageMap) (k : ℕ) (o : Option Page) → map.get m k ≡ None → map.len (with_some_page m k o) ≡ cond (is_some o) (map.len m + 1) (map.len m)
len_some_page m k None none = refl
len_some_page m k (Some p) none = len_inserted m k p none

len_removed : (m : PageMap) (k : ℕ) (o : Option Page) → map.get m k ≡ o → map.len m ≤ cond (is_some o) (map.len (map.remove m k) + 1) (map.len (map.remove m k))
len_removed m k None is = omega (arith, map.len-remove nat_cmp_total m k ∙ ap (λ o. cond (is_some o) (map.len m - 1) (map.len m)) is)
len_removed m k (Some p) is = omega (arith, map.len-remove nat_cmp_total m k ∙ ap (λ o. cond (is_some o) (map.len m - 1) (map.len m)) is)

-- pages are those of a function below n, or not there
pub record IsSome_of (f : ℕ → Option Page) (n : ℕ) (m : PageMap) : Type 0 where
  pub each : (q : ℕ) → (map.get m q ≡ None) ⊎ ((q < n) × (map.get m q ≡ f q))

no_pages : PageMap
no_pages = map.empty

get_nowhere : (q : ℕ) → map.get no_pages q ≡ None
unfolding no_pages
get_nowhere q = map.get-empty nat_cmp q

len_nowhere : map.len no_pages ≡ 0
unfolding no_pages
len_nowhere = map.len-empty nat_cmp Page

none_at : (f : ℕ → Option Page) (m : PageMap) (q : ℕ) → (map.get m q ≡ None) ⊎ ((q < 0) × (map.get m q ≡ f q)) → map.get m q ≡ None
none_at f m q (inl e) = e
none_at f m q (inr e) = let no = e.0 in absurd (omega arith)

none_there : (f : ℕ → Option Page) (m : PageMap) → IsSome_of f 0 m → map.len m ≡ 0
none_there f m h =
    ap map.len (map.same_map nat_cmp_total map.nat_cmp-IsAntisymmetric m no_pages (λ q. none_at f m q (h.each q) ∙ sym (get_nowhere q))) ∙ len_nowhere

one_less : (f : ℕ → Option Page) (n : ℕ) (m : PageMap) → IsSome_of f (suc n) m → IsSome_of f n (map.remove m n)
one_less f n m h = record {
  each = λ q. elim (eqb_tells q n) as (λ _. (map.get (map.remove m n) q ≡ None) ⊎ ((q < n) × (map.get (map.remove m n) q ≡ f q))) [
    | inl e ↦ inl (ap (map.get (map.remove m n)) e.1 ∙ get_removed m n)
    | inr e ↦ elim (h.each q) as (λ _. (map.get (map.remove m n) q ≡ None) ⊎ ((q < n) × (map.get (map.remove m n) q ≡ f q))) [
      | inl none ↦ inl (get_removed_other m n q e.1 ∙ none)
      | inr some ↦ let other = e.1 in let below = some.0 in let lt : q < n = omega arith in inr (lt, get_removed_other m n q e.1 ∙ some.1)
    ]
  ];
}

false_true : false ≡ true → ⊥
false_true e = cc

counted : (b c : Bool) (m rest below : ℕ) → (b ≡ true → c ≡ true) → m ≤ cond b (rest + 1) rest → rest ≤ below → m ≤ cond c (below + 1) below
counted true true m rest below i h k = omega arith
counted true false m rest below i h k = absurd (false_true (i refl))
counted false true m rest below i h k = omega arith
counted false false m rest below i h k = omega arith

some_too : (o p : Option Page) (lt : Type 0) → (o ≡ None) ⊎ (lt × (o ≡ p)) → is_some o ≡ true → is_some p ≡ true
some_too o p lt (inl e) h = absurd (false_true (sym (ap is_some e) ∙ h))
some_too o p lt (inr e) h = sym (ap is_some e.1) ∙ h

pub part_len : (f : ℕ → Option Page) (n : ℕ) (m : PageMap) → IsSome_of f n m → map.len m ≤ map.len (pages_below f n)
unfolding pages_below
part_len f zero m h = omega (arith, none_there f m h)
part_len f (suc n) m h =
    let rest = part_len f n (map.remove m n) (one_less f n m h) in
    let removed = len_removed m n (map.get m n) refl in
    let more = len_some_page (pages_below f n) n (f n) (get_above f n n (omega arith)) in
    let both = counted (is_some (map.get m n)) (is_some (f n)) (map.len m) (map.len (map.remove m n)) (map.len (pages_below f n)) (some_too (map.get m n) (f n) (n < suc n) (h.each n)) removed rest in
    omega (arith, more, both)

-- ---- the bytes of a page

tabulated_suc : (f : ℕ → ℕ) (at n : ℕ) → tabulated f at (suc n) ≡ f at ∷ tabulated f (at + 1) n
unfolding tabulated
tabulated_suc f at n = refl

tabulated_zero : (f : ℕ → ℕ) (at : ℕ) → [] ≡ tabulated f at 0
unfolding tabulated
tabulated_zero f at = refl

pub tabulated_is : (f : ℕ → ℕ) (at n : ℕ) (xs : List ℕ) → length xs ≡ n → ((k : ℕ) → k < n → slice_index xs k ≡ f (at + k)) → xs ≡ tabulated f at n
tabulated_is f at zero [] e h = tabulated_zero f at
tabulated_is f at zero (x ∷ xs) e h = absurd (omega arith)
tabulated_is f at (suc n) [] e h = absurd (omega arith)
tabulated_is f at (suc n) (x ∷ xs) e h =
    let here : at + 0 ≡ at = omega arith in
    ap (λ y. y ∷ xs) (h 0 (omega arith) ∙ ap f here)
    ∙ ap (λ ys. f at ∷ ys) (tabulated_is f (at + 1) n xs (omega arith) (λ k lt. let place : at + suc k ≡ (at + 1) + k = omega arith in h (suc k) (omega arith) ∙ ap f place))
    ∙ sym (tabulated_suc f at n)
