-- Pages by their numbers.
use Rattle.std.proofs.Common.{◌≡◌, ◌≢◌, ◌⊎◌, inl, inr, ℕ, zero, suc, ◌+◌, ◌<◌, ◌≤◌, refl, ap, ◌∙◌, sym, arith, Bool, cond, true, false, Option, Some, None, is_some, is_none, ◌||◌}
use Rattle.std.specs.Cmp.{nat_cmp_total}
use Rattle.std.specs.FinMap as map
use Rattle.std.proofs.lemmas.Bool.Decides.{eqb_tells}
use Rattle.page_set.proofs.Maps.{get_inserted, get_inserted_other, get_removed, get_removed_other}
use Rattle.page_set.specs.Pages.{Page, PageMap, zero_page, page_with_rights, changed_page}
use Rattle.user_spec.specs.Request.{without_pages, with_heap_page, with_heap_pages, lacks_page}
use Rattle.user_ctx.specs.Heap.{with_zeros, with_lacking}

pub same : (a b : PageMap) → ((q : ℕ) → map.get a q ≡ map.get b q) → a ≡ b
same a b h = map.same_map nat_cmp_total map.nat_cmp-IsAntisymmetric a b h

pub lt_or_le : (q n : ℕ) → (q < n) ⊎ (n ≤ q)
lt_or_le q n = grind arith

-- ---- a range without pages

pub without_out : (n : ℕ) (m : PageMap) (p q : ℕ) → (q < p) ⊎ (p + n ≤ q) → map.get (without_pages m p n) q ≡ map.get m q
unfolding without_pages
without_out zero m p q h = refl
without_out (suc n) m p q h = without_out n (map.remove m p) (p + 1) q (grind arith) ∙ get_removed_other m p q (grind arith)

pub without_in : (n : ℕ) (m : PageMap) (p q : ℕ) → p ≤ q → q < p + n → map.get (without_pages m p n) q ≡ None
unfolding without_pages
without_in zero m p q low high = absurd (omega arith)
without_in (suc n) m p q low high =
    elim (eqb_tells q p) as (λ _. map.get (without_pages (map.remove m p) (p + 1) n) q ≡ None) [
      | inl e ↦ without_out n (map.remove m p) (p + 1) q (inl (omega arith)) ∙ ap (map.get (map.remove m p)) e.1 ∙ get_removed m p
      | inr e ↦ without_in n (map.remove m p) (p + 1) q (grind arith) (omega arith)
    ]

pub without_more : (n : ℕ) (m : PageMap) (p : ℕ) → without_pages m p (n + 1) ≡ map.remove (without_pages m p n) (p + n)
unfolding without_pages
without_more zero m p = let e : p ≡ p + 0 = omega arith in ap (map.remove m) e
without_more (suc n) m p =
    let e : suc n + 1 ≡ suc (n + 1) = omega arith in
    let f : p + 1 + n ≡ p + suc n = omega arith in
    ap (without_pages m p) e ∙ without_more n (map.remove m p) (p + 1) ∙ ap (map.remove (without_pages (map.remove m p) (p + 1) n)) f

-- ---- a range of heap pages

abbrev pub heap_page : Option Page → Page
heap_page None = zero_page 6
heap_page (Some page) = page_with_rights 6 page

heap_page_at : (m : PageMap) (k : ℕ) (o : Option Page) → cond (is_some o) (changed_page m k (page_with_rights 6) o) (map.insert m k (zero_page 6)) ≡ map.insert m k (heap_page o)
heap_page_at m k None = refl
heap_page_at m k (Some p) = refl

pub heap_page_is : (m : PageMap) (k : ℕ) → with_heap_page m k ≡ map.insert m k (heap_page (map.get m k))
heap_page_is m k = heap_page_at m k (map.get m k)

heap_here : (m : PageMap) (k : ℕ) → map.get (with_heap_page m k) k ≡ Some (heap_page (map.get m k))
heap_here m k = ap (λ x. map.get x k) (heap_page_is m k) ∙ get_inserted m k (heap_page (map.get m k))

pub heap_other : (m : PageMap) (k q : ℕ) → q ≢ k → map.get (with_heap_page m k) q ≡ map.get m q
heap_other m k q h = ap (λ x. map.get x q) (heap_page_is m k) ∙ get_inserted_other m k q (heap_page (map.get m k)) h

pub heap_out : (n : ℕ) (m : PageMap) (p q : ℕ) → (q < p) ⊎ (p + n ≤ q) → map.get (with_heap_pages m p n) q ≡ map.get m q
unfolding with_heap_pages
heap_out zero m p q h = refl
heap_out (suc n) m p q h = heap_out n (with_heap_page m p) (p + 1) q (grind arith) ∙ heap_other m p q (grind arith)

pub heap_in : (n : ℕ) (m : PageMap) (p q : ℕ) → p ≤ q → q < p + n → map.get (with_heap_pages m p n) q ≡ Some (heap_page (map.get m q))
unfolding with_heap_pages
heap_in zero m p q low high = absurd (omega arith)
heap_in (suc n) m p q low high =
    elim (eqb_tells q p) as (λ _. map.get (with_heap_pages (with_heap_page m p) (p + 1) n) q ≡ Some (heap_page (map.get m q))) [
      | inl e ↦ heap_out n (with_heap_page m p) (p + 1) q (inl (omega arith)) ∙ ap (map.get (with_heap_page m p)) e.1 ∙ heap_here m p ∙ ap (λ k. Some (heap_page (map.get m k))) (sym e.1)
      | inr e ↦ heap_in n (with_heap_page m p) (p + 1) q (grind arith) (omega arith) ∙ ap (λ o. Some (heap_page o)) (heap_other m p q e.1)
    ]

pub heap_more : (n : ℕ) (m : PageMap) (p : ℕ) → with_heap_pages m p (n + 1) ≡ with_heap_page (with_heap_pages m p n) (p + n)
unfolding with_heap_pages
heap_more zero m p = let e : p ≡ p + 0 = omega arith in ap (with_heap_page m) e
heap_more (suc n) m p =
    let e : suc n + 1 ≡ suc (n + 1) = omega arith in
    let f : p + 1 + n ≡ p + suc n = omega arith in
    ap (with_heap_pages m p) e ∙ heap_more n (with_heap_page m p) (p + 1) ∙ ap (with_heap_page (with_heap_pages (with_heap_page m p) (p + 1) n)) f

-- ---- a range whose lacking pages are mapped

abbrev pub page_or_zeros : Option Page → Page
page_or_zeros None = zero_page 6
page_or_zeros (Some page) = page

zeros_here_at : (m : PageMap) (k : ℕ) (o : Option Page) → map.get m k ≡ o → map.get (cond (is_some o) m (map.insert m k (zero_page 6))) k ≡ Some (page_or_zeros o)
zeros_here_at m k None e = get_inserted m k (zero_page 6)
zeros_here_at m k (Some p) e = e

zeros_here : (m : PageMap) (k : ℕ) → map.get (with_zeros m k) k ≡ Some (page_or_zeros (map.get m k))
zeros_here m k = zeros_here_at m k (map.get m k) refl

zeros_other_at : (m : PageMap) (k q : ℕ) (b : Bool) → q ≢ k → map.get (cond b m (map.insert m k (zero_page 6))) q ≡ map.get m q
zeros_other_at m k q true h = refl
zeros_other_at m k q false h = get_inserted_other m k q (zero_page 6) h

zeros_other : (m : PageMap) (k q : ℕ) → q ≢ k → map.get (with_zeros m k) q ≡ map.get m q
zeros_other m k q h = zeros_other_at m k q (is_some (map.get m k)) h

pub lacking_out : (n : ℕ) (m : PageMap) (p q : ℕ) → (q < p) ⊎ (p + n ≤ q) → map.get (with_lacking m p n) q ≡ map.get m q
unfolding with_lacking
lacking_out zero m p q h = refl
lacking_out (suc n) m p q h = lacking_out n (with_zeros m p) (p + 1) q (grind arith) ∙ zeros_other m p q (grind arith)

pub lacking_in : (n : ℕ) (m : PageMap) (p q : ℕ) → p ≤ q → q < p + n → map.get (with_lacking m p n) q ≡ Some (page_or_zeros (map.get m q))
unfolding with_lacking
lacking_in zero m p q low high = absurd (omega arith)
lacking_in (suc n) m p q low high =
    elim (eqb_tells q p) as (λ _. map.get (with_lacking (with_zeros m p) (p + 1) n) q ≡ Some (page_or_zeros (map.get m q))) [
      | inl e ↦ lacking_out n (with_zeros m p) (p + 1) q (inl (omega arith)) ∙ ap (map.get (with_zeros m p)) e.1 ∙ zeros_here m p ∙ ap (λ k. Some (page_or_zeros (map.get m k))) (sym e.1)
      | inr e ↦ lacking_in n (with_zeros m p) (p + 1) q (grind arith) (omega arith) ∙ ap (λ o. Some (page_or_zeros o)) (zeros_other m p q e.1)
    ]

-- ---- whether a page lacks, by its number

or_none : (o : Option Page) (b : Bool) → (is_none o || b) ≡ false → (is_some o ≡ true) × (b ≡ false)
or_none None b h = absurd (let e : true ≡ false = h in cc)
or_none (Some p) b h = (refl, h)

pub there : (n : ℕ) (m : PageMap) (p q : ℕ) → lacks_page m p n ≡ false → p ≤ q → q < p + n → is_some (map.get m q) ≡ true
unfolding lacks_page
there zero m p q h low high = absurd (omega arith)
there (suc n) m p q h low high =
    elim (eqb_tells q p) as (λ _. is_some (map.get m q) ≡ true) [
      | inl e ↦ ap (λ k. is_some (map.get m k)) e.1 ∙ (or_none (map.get m p) (lacks_page m (p + 1) n) h).0
      | inr e ↦ there n m (p + 1) q (or_none (map.get m p) (lacks_page m (p + 1) n) h).1 (grind arith) (omega arith)
    ]

none_lacks : (o : Option Page) (b : Bool) → is_some o ≡ true → b ≡ false → (is_none o || b) ≡ false
none_lacks None b h e = absurd (let f : false ≡ true = h in cc)
none_lacks (Some p) b h e = e

pub all_there : (n : ℕ) (m : PageMap) (p : ℕ) → ((q : ℕ) → p ≤ q → q < p + n → is_some (map.get m q) ≡ true) → lacks_page m p n ≡ false
unfolding lacks_page
all_there zero m p h = refl
all_there (suc n) m p h = none_lacks (map.get m p) (lacks_page m (p + 1) n) (h p (omega arith) (omega arith)) (all_there n m (p + 1) (λ q low high. h q (omega arith) (omega arith)))
