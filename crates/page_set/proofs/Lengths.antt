-- How many pages there are after several were mapped or unmapped. No function here needs it: it is for the crates above.
use Rattle.std.proofs.Common.{◌≡◌, ℕ, zero, suc, ◌+◌, ◌-◌, ◌<◌, ◌≤◌, inl, refl, ap, ◌∙◌, sym, arith, cond, Option, Some, None, is_some}
use Rattle.std.specs.Cmp.{nat_cmp_total}
use Rattle.std.specs.FinMap as map
use Rattle.page_set.specs.Pages.{Page, PageMap, mapped_page, with_mapped, with_mapped_pages, without_pages, count_of, mapped_count}
use Rattle.page_set.proofs.Maps.{get_inserted_other, get_removed_other}
use Rattle.page_set.proofs.Kept.{filled, above_none}
use Rattle.page_set.proofs.Ranges.{count_more, count_nothing, on_more, on_none, get_other, removes}

-- equal at each of these pages
pub count_same : (n : ℕ) (a b : PageMap) (p : ℕ) → ((q : ℕ) → p ≤ q → q < p + n → map.get a q ≡ map.get b q) → mapped_count a p n ≡ mapped_count b p n
count_same zero a b p h = count_nothing a p ∙ sym (count_nothing b p)
count_same (suc n) a b p h =
    count_more a p (suc n) n refl
    ∙ ap (λ o. count_of o + mapped_count a (p + 1) n) (h p (omega arith) (omega arith))
    ∙ ap (λ c. count_of (map.get b p) + c) (count_same n a b (p + 1) (λ q le lt. h q (omega arith) (omega arith)))
    ∙ sym (count_more b p (suc n) n refl)

-- and so where other pages were unmapped or mapped
pub count_without : (n : ℕ) (m : PageMap) (p q k : ℕ) → q + k ≤ p → mapped_count (without_pages m p n) q k ≡ mapped_count m q k
count_without n m p q k le = count_same k (without_pages m p n) m q (λ x ge lt. get_other map.remove (λ _. None) removes m p n x (inl (omega (arith, lt))))

len_removed_at : (m : PageMap) (k : ℕ) (o : Option Page) → map.get m k ≡ o → map.len (map.remove m k) + count_of o ≡ map.len m
len_removed_at m k None e =
    let less : map.len (map.remove m k) ≡ map.len m = map.len-remove nat_cmp_total m k ∙ ap (λ o. cond (is_some o) (map.len m - 1) (map.len m)) e in
    omega (arith, less)
len_removed_at m k (Some p) e =
    let less : map.len (map.remove m k) ≡ map.len m - 1 = map.len-remove nat_cmp_total m k ∙ ap (λ o. cond (is_some o) (map.len m - 1) (map.len m)) e in
    omega (arith, less, above_none (map.len m) (filled m k (ap is_some e)))

len_mapped_at : (rights : ℕ) (m : PageMap) (k : ℕ) (o : Option Page) → map.get m k ≡ o → map.len (with_mapped rights m k) + count_of o ≡ map.len m + 1
len_mapped_at rights m k None e =
    let more : map.len (with_mapped rights m k) ≡ map.len m + 1 = map.len-insert nat_cmp_total m k (mapped_page rights (map.get m k)) ∙ ap (λ o. cond (is_some o) (map.len m) (map.len m + 1)) e in
    omega (arith, more)
len_mapped_at rights m k (Some p) e =
    let more : map.len (with_mapped rights m k) ≡ map.len m = map.len-insert nat_cmp_total m k (mapped_page rights (map.get m k)) ∙ ap (λ o. cond (is_some o) (map.len m) (map.len m + 1)) e in
    omega (arith, more)

-- what is left and what was there before are all
pub len_without : (n : ℕ) (m : PageMap) (p : ℕ) → map.len (without_pages m p n) + mapped_count m p n ≡ map.len m
len_without zero m p =
    let all : map.len (without_pages m p 0) ≡ map.len m = ap map.len (on_none map.remove m p 0 refl) in
    omega (arith, all, count_nothing m p)
len_without (suc n) m p =
    let first = map.remove m p in
    let more : map.len (without_pages m p (suc n)) ≡ map.len (without_pages first (p + 1) n) = ap map.len (on_more map.remove m p (suc n) n refl) in
    let same : mapped_count first (p + 1) n ≡ mapped_count m (p + 1) n = count_same n first m (p + 1) (λ q le lt. get_removed_other m p q (λ e. absurd (let w : q ≡ p = e in omega arith))) in
    omega (arith, more, same, len_without n first (p + 1), len_removed_at m p (map.get m p) refl, count_more m p (suc n) n refl)

-- each of the n pages is there afterwards
pub len_mapped : (n : ℕ) (rights : ℕ) (m : PageMap) (p : ℕ) → map.len (with_mapped_pages rights m p n) + mapped_count m p n ≡ map.len m + n
len_mapped zero rights m p =
    let all : map.len (with_mapped_pages rights m p 0) ≡ map.len m = ap map.len (on_none (with_mapped rights) m p 0 refl) in
    omega (arith, all, count_nothing m p)
len_mapped (suc n) rights m p =
    let first = with_mapped rights m p in
    let more : map.len (with_mapped_pages rights m p (suc n)) ≡ map.len (with_mapped_pages rights first (p + 1) n) = ap map.len (on_more (with_mapped rights) m p (suc n) n refl) in
    let same : mapped_count first (p + 1) n ≡ mapped_count m (p + 1) n = count_same n first m (p + 1) (λ q le lt. get_inserted_other m p q (mapped_page rights (map.get m p)) (λ e. absurd (let w : q ≡ p = e in omega arith))) in
    omega (arith, more, same, len_mapped n rights first (p + 1), len_mapped_at rights m p (map.get m p) refl, count_more m p (suc n) n refl)
