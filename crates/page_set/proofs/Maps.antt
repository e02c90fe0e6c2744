-- The map of a function below a number.
use Rattle.std.proofs.Common.{◌≡◌, ◌≢◌, ◌⊎◌, inl, inr, ℕ, zero, suc, ◌+◌, ◌^◌, ◌<◌, ◌≤◌, refl, ap, ◌∙◌, sym, arith, Bool, cond, true, false, Option, Some, None}
use Rattle.std.specs.Option.{option_map}
use Rattle.std.specs.Ordering.{nat_cmp}
use Rattle.std.specs.Cmp.{nat_cmp_total}
use Rattle.std.specs.FinMap as map
use Rattle.std.proofs.lemmas.Bool.Decides.{nat_tests, eqb_tells}
use Rattle.page_set.specs.Pages.{Page, PageMap, put_page}
use Rattle.page_set.specs.declared.frame.Frame.{Frame}
use Rattle.page_set.specs.Tree.{Tree, frame_at, page_at, page_of, with_page, map_below, pages_of, pages_by, IsEdited}

-- the key of an insertion, and the other keys
pub get_inserted : (m : PageMap) (k : ℕ) (p : Page) → map.get (map.insert m k p) k ≡ Some p
get_inserted m k p = map.get-insert nat_cmp_total m k p k ∙ grind (arith, nat_tests)

pub get_inserted_other : (m : PageMap) (k q : ℕ) (p : Page) → q ≢ k → map.get (map.insert m k p) q ≡ map.get m q
get_inserted_other m k q p h = map.get-insert nat_cmp_total m k p q ∙ grind (arith, nat_tests)

pub get_removed : (m : PageMap) (k : ℕ) → map.get (map.remove m k) k ≡ None
get_removed m k = map.get-remove nat_cmp_total m k k ∙ grind (arith, nat_tests)

pub get_removed_other : (m : PageMap) (k q : ℕ) → q ≢ k → map.get (map.remove m k) q ≡ map.get m q
get_removed_other m k q h = map.get-remove nat_cmp_total m k q ∙ grind (arith, nat_tests)

get_with_page : (m : PageMap) (k : ℕ) (o : Option Page) → map.get m k ≡ None → map.get (with_page m k o) k ≡ o
get_with_page m k None h = h
get_with_page m k (Some p) h = get_inserted m k p

get_with_page_other : (m : PageMap) (k q : ℕ) (o : Option Page) → q ≢ k → map.get (with_page m k o) q ≡ map.get m q
get_with_page_other m k q None h = refl
get_with_page_other m k q (Some p) h = get_inserted_other m k q p h

-- none from n on
pub get_above : (f : ℕ → Option Page) (n q : ℕ) → n ≤ q → map.get (map_below f n) q ≡ None
unfolding map_below
get_above f zero q h = map.get-empty nat_cmp q
get_above f (suc n) q h = get_with_page_other (map_below f n) n q (f n) (omega arith) ∙ get_above f n q (omega arith)

-- the function's value below n
pub get_below : (f : ℕ → Option Page) (n q : ℕ) → q < n → map.get (map_below f n) q ≡ f q
unfolding map_below
get_below f zero q h = absurd (omega arith)
get_below f (suc n) q h =
    elim (eqb_tells q n) as (λ _. map.get (with_page (map_below f n) n (f n)) q ≡ f q) [
      | inl e ↦ ap (map.get (with_page (map_below f n) n (f n))) e.1 ∙ get_with_page (map_below f n) n (f n) (get_above f n n (omega arith)) ∙ ap f (sym e.1)
      | inr e ↦ get_with_page_other (map_below f n) n q (f n) e.1 ∙ get_below f n q (omega arith)
    ]

pub get_pages_by : (frames : ℕ → Option Frame) (page : ℕ) → page < 2 ^ 20 → map.get (pages_by frames) page ≡ option_map page_of (frames page)
get_pages_by frames page h = get_below (λ n. option_map page_of (frames n)) (2 ^ 20) page h

pub get_pages_of : (tree : Tree) (page : ℕ) → page < 2 ^ 20 → map.get (pages_of tree) page ≡ option_map page_of (frame_at tree page)
get_pages_of tree page h = get_below (page_at tree) (2 ^ 20) page h

get_put : (m : PageMap) (k : ℕ) (o : Option Page) → map.get (put_page m k o) k ≡ o
get_put m k None = get_removed m k
get_put m k (Some p) = get_inserted m k p

get_put_other : (m : PageMap) (k q : ℕ) (o : Option Page) → q ≢ k → map.get (put_page m k o) q ≡ map.get m q
get_put_other m k q None h = get_removed_other m k q h
get_put_other m k q (Some p) h = get_inserted_other m k q p h

lt_or_le : (q n : ℕ) → (q < n) ⊎ (n ≤ q)
lt_or_le q n = grind arith

below_other : (f g : ℕ → Option Page) (n k q : ℕ) (o : Option Page) → q ≢ k → ((q : ℕ) → q ≢ k → g q ≡ f q) → map.get (map_below g n) q ≡ map.get (put_page (map_below f n) k o) q
below_other f g n k q o ne others =
    elim (lt_or_le q n) as (λ _. map.get (map_below g n) q ≡ map.get (put_page (map_below f n) k o) q) [
      | inl lt ↦ get_below g n q lt ∙ others q ne ∙ sym (get_put_other (map_below f n) k q o ne ∙ get_below f n q lt)
      | inr le ↦ get_above g n q le ∙ sym (get_put_other (map_below f n) k q o ne ∙ get_above f n q le)
    ]

-- functions that differ at k alone make maps that differ there
pub below_put : (f g : ℕ → Option Page) (n k : ℕ) (o : Option Page) → k < n → g k ≡ o → ((q : ℕ) → q ≢ k → g q ≡ f q) → map_below g n ≡ put_page (map_below f n) k o
below_put f g n k o lt here others = map.same_map nat_cmp_total map.nat_cmp-IsAntisymmetric _ _ (λ q.
    elim (eqb_tells q k) as (λ _. map.get (map_below g n) q ≡ map.get (put_page (map_below f n) k o) q) [
      | inl e ↦ ap (map.get (map_below g n)) e.1 ∙ get_below g n k lt ∙ here ∙ sym (get_put (map_below f n) k o) ∙ ap (map.get (put_page (map_below f n) k o)) (sym e.1)
      | inr e ↦ below_other f g n k q o e.1 others
    ])

pub pages_edited : (old new : Tree) (page : ℕ) (frame : _) → page < 2 ^ 20 → IsEdited old new page frame → pages_of new ≡ put_page (pages_of old) page (option_map page_of frame)
pages_edited old new page frame lt e = below_put (page_at old) (page_at new) (2 ^ 20) page (option_map page_of frame) lt (ap (option_map page_of) e.here) (λ q ne. ap (option_map page_of) (e.others q ne))

-- equal functions
pub below_same : (f g : ℕ → Option Page) (n : ℕ) → ((q : ℕ) → g q ≡ f q) → map_below g n ≡ map_below f n
unfolding map_below
below_same f g zero h = refl
below_same f g (suc n) h = ap (λ o. with_page (map_below g n) n o) (h n) ∙ ap (λ m. with_page m n (f n)) (below_same f g n h)

-- functions that are equal below n
pub below_alike : (f g : ℕ → Option Page) (n : ℕ) → ((q : ℕ) → q < n → g q ≡ f q) → map_below g n ≡ map_below f n
unfolding map_below
below_alike f g zero h = refl
below_alike f g (suc n) h = ap (λ o. with_page (map_below g n) n o) (h n (omega arith)) ∙ ap (λ m. with_page m n (f n)) (below_alike f g n (λ q lt. h q (omega (arith, lt))))

pub alike_pages : (old new : ℕ → Option Frame) → ((q : ℕ) → q < 2 ^ 20 → new q ≡ old q) → pages_by new ≡ pages_by old
alike_pages old new h = below_alike (λ n. option_map page_of (old n)) (λ n. option_map page_of (new n)) (2 ^ 20) (λ q lt. ap (option_map page_of) (h q lt))

pub same_pages : (old new : Tree) → ((q : ℕ) → frame_at new q ≡ frame_at old q) → pages_of new ≡ pages_of old
same_pages old new h = below_same (page_at old) (page_at new) (2 ^ 20) (λ q. ap (option_map page_of) (h q))

-- ---- how many there are

at_most_one_more : (b : Bool) (n k : ℕ) → k ≡ cond b n (n + 1) → k ≤ n + 1
at_most_one_more true n k e = omega arith
at_most_one_more false n k e = omega arith

len_with_page : (m : PageMap) (k : ℕ) (o : Option Page) → map.len (with_page m k o) ≤ map.len m + 1
len_with_page m k None = omega arith
len_with_page m k (Some p) = at_most_one_more (map.contains_key m k) (map.len m) _ (map.len-insert nat_cmp_total m k p)

pub len_below : (f : ℕ → Option Page) (n : ℕ) → map.len (map_below f n) ≤ n
unfolding map_below
len_below f zero = omega (arith, map.len-empty nat_cmp Page)
len_below f (suc n) = omega (arith, len_with_page (map_below f n) n (f n), len_below f n)

pub len_pages_of : (tree : Tree) → map.len (pages_of tree) ≤ 1048576
len_pages_of tree = len_below (page_at tree) (2 ^ 20)
