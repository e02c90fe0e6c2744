-- What a break does to the pages, and to their number.
use Rattle.std.proofs.Common.{◌≡◌, ◌⊎◌, inl, inr, ℕ, zero, suc, ◌+◌, ◌-◌, ◌/◌, ◌<◌, ◌≤◌, refl, ap, ◌∙◌, sym, arith, Bool, cond, true, false, Option, Some, None, is_some, is_none, ◌||◌}
use Rattle.std.specs.Ordering.{nat_cmp}
use Rattle.std.specs.Cmp.{nat_cmp_total}
use Rattle.std.specs.FinMap as map
use Rattle.std.proofs.lemmas.Bool.Decides.{eqb_tells}
use Rattle.page_set.specs.Pages.{Page, PageMap, zero_page, changed_page, page_with_rights}
use Rattle.user_spec.specs.Request.{page_above, without_pages, with_heap_page, with_heap_pages, lacks_page, pages_with_break}
use Rattle.user_ctx.specs.Heap.{one_if_mapped, mapped_in, with_zeros, with_lacking, broken}
use Rattle.page_set.proofs.Maps.{get_removed, get_removed_other, get_inserted_other}
use Rattle.user_ctx.proofs.Maps.{lt_or_le, same, heap_page, page_or_zeros, heap_page_is, heap_other, without_in, without_out, without_more, heap_in, heap_out, heap_more, lacking_in, lacking_out, there, all_there}

-- ---- how many of a range are mapped

pub mapped_same : (n : ℕ) (a b : PageMap) (p : ℕ) → ((q : ℕ) → p ≤ q → q < p + n → map.get a q ≡ map.get b q) → mapped_in a p n ≡ mapped_in b p n
unfolding mapped_in
mapped_same zero a b p h = refl
mapped_same (suc n) a b p h =
    ap (λ o. cond (is_some o) 1 0 + mapped_in a (p + 1) n) (h p (omega arith) (omega arith))
    ∙ ap (λ k. one_if_mapped b p + k) (mapped_same n a b (p + 1) (λ q low high. h q (omega arith) (omega arith)))

one_at_most : (b : Bool) → cond b 1 0 ≤ 1
one_at_most true = omega arith
one_at_most false = omega arith

pub mapped_most : (n : ℕ) (m : PageMap) (p : ℕ) → mapped_in m p n ≤ n
unfolding mapped_in
mapped_most zero m p = omega arith
mapped_most (suc n) m p = omega (arith, mapped_most n m (p + 1), one_at_most (is_some (map.get m p)))

pub mapped_more : (n : ℕ) (m : PageMap) (p : ℕ) → mapped_in m p (n + 1) ≡ mapped_in m p n + one_if_mapped m (p + n)
unfolding mapped_in
mapped_more zero m p =
    let e : p ≡ p + 0 = omega arith in
    let f : one_if_mapped m p + 0 ≡ 0 + one_if_mapped m p = omega arith in
    f ∙ ap (λ k. 0 + one_if_mapped m k) e
mapped_more (suc n) m p =
    let e : suc n + 1 ≡ suc (n + 1) = omega arith in
    let f : p + 1 + n ≡ p + suc n = omega arith in
    let g : one_if_mapped m p + (mapped_in m (p + 1) n + one_if_mapped m (p + 1 + n)) ≡ one_if_mapped m p + mapped_in m (p + 1) n + one_if_mapped m (p + 1 + n) = omega arith in
    ap (mapped_in m p) e ∙ ap (λ k. one_if_mapped m p + k) (mapped_more n m (p + 1)) ∙ g ∙ ap (λ k. one_if_mapped m p + mapped_in m (p + 1) n + one_if_mapped m k) f

lacks_at : (o : Option Page) (b : Bool) (k n : ℕ) → k ≤ n → ((b ≡ true) × (k < n)) ⊎ ((b ≡ false) × (k ≡ n)) → (((is_none o || b) ≡ true) × (cond (is_some o) 1 0 + k < suc n)) ⊎ (((is_none o || b) ≡ false) × (cond (is_some o) 1 0 + k ≡ suc n))
lacks_at None b k n le h = inl (refl, omega arith)
lacks_at (Some p) b k n le (inl h) = inl (h.0, omega arith)
lacks_at (Some p) b k n le (inr h) = inr (h.0, omega arith)

-- a page of a range lacks where not all are mapped
pub lacks_tells : (n : ℕ) (m : PageMap) (p : ℕ) → ((lacks_page m p n ≡ true) × (mapped_in m p n < n)) ⊎ ((lacks_page m p n ≡ false) × (mapped_in m p n ≡ n))
unfolding mapped_in lacks_page
lacks_tells zero m p = inr (refl, refl)
lacks_tells (suc n) m p = lacks_at (map.get m p) (lacks_page m (p + 1) n) (mapped_in m (p + 1) n) n (mapped_most n m (p + 1)) (lacks_tells n m (p + 1))

-- ---- how many pages there are

true_false : true ≡ false → ⊥
true_false e = cc

filled : (m : PageMap) (k : ℕ) → is_some (map.get m k) ≡ true → map.len m ≡ 0 → ⊥
filled m k some none = true_false (sym some ∙ ap (λ m. is_some (map.get m k)) (map.empty_of_len m none) ∙ ap is_some (map.get-empty nat_cmp k))

above_none : (n : ℕ) → (n ≡ 0 → ⊥) → 1 ≤ n
above_none zero h = absurd (h refl)
above_none (suc n) h = omega arith

less_one : (b : Bool) (n l : ℕ) → l ≡ cond b (n - 1) n → (b ≡ true → 1 ≤ n) → l + cond b 1 0 ≡ n
less_one true n l e h = omega (arith, h refl)
less_one false n l e h = omega arith

len_removed : (m : PageMap) (k : ℕ) → map.len (map.remove m k) + one_if_mapped m k ≡ map.len m
len_removed m k = less_one (is_some (map.get m k)) (map.len m) (map.len (map.remove m k)) (map.len-remove nat_cmp_total m k) (λ some. above_none (map.len m) (filled m k some))

more_one : (b : Bool) (n l : ℕ) → l ≡ cond b n (n + 1) → l + cond b 1 0 ≡ n + 1
more_one true n l e = omega arith
more_one false n l e = omega arith

len_heap_page : (m : PageMap) (k : ℕ) → map.len (with_heap_page m k) + one_if_mapped m k ≡ map.len m + 1
len_heap_page m k = more_one (is_some (map.get m k)) (map.len m) (map.len (with_heap_page m k)) (ap map.len (heap_page_is m k) ∙ map.len-insert nat_cmp_total m k (heap_page (map.get m k)))

pub len_without : (n : ℕ) (m : PageMap) (p : ℕ) → map.len (without_pages m p n) + mapped_in m p n ≡ map.len m
unfolding without_pages mapped_in
len_without zero m p = omega arith
len_without (suc n) m p =
    let e : mapped_in (map.remove m p) (p + 1) n ≡ mapped_in m (p + 1) n = mapped_same n (map.remove m p) m (p + 1) (λ q low high. get_removed_other m p q (grind arith)) in
    omega (arith, e, len_without n (map.remove m p) (p + 1), len_removed m p)

-- no more than the range has, and than there are
pub mapped_bounds : (m : PageMap) (k from n : ℕ) → k ≡ mapped_in m from n → (k ≤ n) × (k ≤ map.len m)
mapped_bounds m k from n e = (omega (arith, mapped_most n m from), omega (arith, len_without n m from))

pub len_heap : (n : ℕ) (m : PageMap) (p : ℕ) → map.len (with_heap_pages m p n) + mapped_in m p n ≡ map.len m + n
unfolding with_heap_pages mapped_in
len_heap zero m p = omega arith
len_heap (suc n) m p =
    let e : mapped_in (with_heap_page m p) (p + 1) n ≡ mapped_in m (p + 1) n = mapped_same n (with_heap_page m p) m (p + 1) (λ q low high. heap_other m p q (grind arith)) in
    omega (arith, e, len_heap n (with_heap_page m p) (p + 1), len_heap_page m p)

-- the pages after a break, by those that are mapped before
pub break_len : (m : PageMap) (base a first end : ℕ) → first ≡ base / 4096 → end ≡ page_above a → first ≤ end → end ≤ 0x70000 → map.len (pages_with_break m base a) + mapped_in m end (0x70000 - end) + mapped_in m first (end - first) ≡ map.len m + (end - first)
break_len m base a first end f e low high =
    let w : PageMap = without_pages m end (0x70000 - end) in
    let s : mapped_in w first (end - first) ≡ mapped_in m first (end - first) = mapped_same (end - first) w m first (λ q l h. without_out (0x70000 - end) m end q (inl (omega arith))) in
    let k : map.len (with_heap_pages w first (end - first)) + mapped_in m end (0x70000 - end) + mapped_in m first (end - first) ≡ map.len m + (end - first) = omega (arith, s, len_heap (end - first) w first, len_without (0x70000 - end) m end) in
    ap (λ x. map.len (with_heap_pages (without_pages m x (0x70000 - x)) (base / 4096) (x - base / 4096)) + mapped_in m end (0x70000 - end) + mapped_in m first (end - first)) (sym e)
    ∙ ap (λ x. map.len (with_heap_pages w x (end - x)) + mapped_in m end (0x70000 - end) + mapped_in m first (end - first)) (sym f)
    ∙ k

-- ---- the loops

pub unmap_more : (start m new : PageMap) (from page : ℕ) → from ≤ page → m ≡ without_pages start from (page - from) → new ≡ map.remove m page → new ≡ without_pages start from (page + 1 - from)
unmap_more start m new from page le is e =
    let a : from + (page - from) ≡ page = omega arith in
    let b : page - from + 1 ≡ page + 1 - from = omega arith in
    e ∙ ap (λ x. map.remove x page) is ∙ ap (map.remove (without_pages start from (page - from))) (sym a) ∙ sym (without_more (page - from) start from) ∙ ap (without_pages start from) b

pub unmap_none : (start : PageMap) (from page : ℕ) → page ≡ from → start ≡ without_pages start from (page - from)
unfolding without_pages
unmap_none start from page e = let z : 0 ≡ page - from = omega arith in ap (without_pages start from) z

pub count_more : (m : PageMap) (n one from page : ℕ) → from ≤ page → one ≡ one_if_mapped m page → n ≡ mapped_in m from (page - from) → n + one ≡ mapped_in m from (page + 1 - from)
count_more m n one from page le e is =
    let a : page ≡ from + (page - from) = omega arith in
    let b : page - from + 1 ≡ page + 1 - from = omega arith in
    ap (λ x. n + x) e ∙ ap (λ x. x + one_if_mapped m page) is ∙ ap (λ k. mapped_in m from (page - from) + one_if_mapped m k) a ∙ sym (mapped_more (page - from) m from) ∙ ap (mapped_in m from) b

pub count_none : (m : PageMap) (from page : ℕ) → page ≡ from → 0 ≡ mapped_in m from (page - from)
unfolding mapped_in
count_none m from page e = let z : 0 ≡ page - from = omega arith in ap (mapped_in m from) z

pub heap_none : (start : PageMap) (from page : ℕ) → page ≡ from → start ≡ with_heap_pages start from (page - from)
unfolding with_heap_pages
heap_none start from page e = let z : 0 ≡ page - from = omega arith in ap (with_heap_pages start from) z

pub rights_mapped : (start m : PageMap) (from page to : ℕ) → from ≤ page → page < to → lacks_page start from (to - from) ≡ false → m ≡ with_heap_pages start from (page - from) → is_some (map.get m page) ≡ true
rights_mapped start m from page to le lt h is =
    ap (λ x. is_some (map.get x page)) is
    ∙ ap is_some (heap_out (page - from) start from page (inr (omega arith)))
    ∙ there (to - from) start from page h le (omega arith)

pub rights_more : (start m new : PageMap) (from page to : ℕ) → from ≤ page → page < to → lacks_page start from (to - from) ≡ false → m ≡ with_heap_pages start from (page - from) → new ≡ changed_page m page (page_with_rights 6) (map.get m page) → new ≡ with_heap_pages start from (page + 1 - from)
rights_more start m new from page to le lt h is e =
    let a : from + (page - from) ≡ page = omega arith in
    let b : page - from + 1 ≡ page + 1 - from = omega arith in
    let here : is_some (map.get m page) ≡ true = rights_mapped start m from page to le lt h is in
    let step : with_heap_page m page ≡ changed_page m page (page_with_rights 6) (map.get m page) = ap (λ t. cond t (changed_page m page (page_with_rights 6) (map.get m page)) (map.insert m page (zero_page 6))) here in
    e ∙ sym step ∙ ap (λ x. with_heap_page x page) is ∙ ap (with_heap_page (with_heap_pages start from (page - from))) (sym a) ∙ sym (heap_more (page - from) start from) ∙ ap (with_heap_pages start from) b

pub kept_there : (m : PageMap) (first end k : ℕ) → lacks_page m first (end - first) ≡ false → lacks_page (without_pages m end k) first (end - first) ≡ false
kept_there m first end k h = all_there (end - first) (without_pages m end k) first (λ q low high.
    ap is_some (without_out k m end q (inl (omega arith))) ∙ there (end - first) m first q h low high)

-- ---- mapping before the break

pub lacking_done : (m : PageMap) (from to : ℕ) → from ≡ to → m ≡ with_lacking m from (to - from)
unfolding with_lacking
lacking_done m from to e = let z : 0 ≡ to - from = omega arith in ap (with_lacking m from) z

pub lacking_next : (m : PageMap) (from to : ℕ) → from < to → with_lacking (with_zeros m from) (from + 1) (to - (from + 1)) ≡ with_lacking m from (to - from)
unfolding with_lacking
lacking_next m from to lt = let z : suc (to - (from + 1)) ≡ to - from = omega arith in ap (with_lacking m from) z

pub lacking_mapped : (m new : PageMap) (from to : ℕ) → from < to → is_some (map.get m from) ≡ true → new ≡ with_lacking m (from + 1) (to - (from + 1)) → new ≡ with_lacking m from (to - from)
lacking_mapped m new from to lt some e =
    e ∙ ap (λ t. with_lacking (cond t m (map.insert m from (zero_page 6))) (from + 1) (to - (from + 1))) (sym some) ∙ lacking_next m from to lt

pub lacking_more : (m one new : PageMap) (from to : ℕ) → from < to → is_some (map.get m from) ≡ false → one ≡ map.insert m from (zero_page 6) → new ≡ with_lacking one (from + 1) (to - (from + 1)) → new ≡ with_lacking m from (to - from)
lacking_more m one new from to lt none is e =
    e ∙ ap (λ x. with_lacking x (from + 1) (to - (from + 1))) is ∙ ap (λ t. with_lacking (cond t m (map.insert m from (zero_page 6))) (from + 1) (to - (from + 1))) (sym none) ∙ lacking_next m from to lt

none_is : (o : Option Page) → is_some o ≡ false → o ≡ None
none_is None e = refl
none_is (Some p) e = absurd (true_false e)

pub lacks_is_none : (m : PageMap) (k : ℕ) → is_some (map.get m k) ≡ false → map.get m k ≡ None
lacks_is_none m k e = none_is (map.get m k) e

pub undone : (m one two new : PageMap) (k : ℕ) (p : Page) → is_some (map.get m k) ≡ false → one ≡ map.insert m k p → two ≡ one → new ≡ map.remove two k → new ≡ m
undone m one two new k p none is eq e = e ∙ ap (λ x. map.remove x k) (eq ∙ is) ∙ same (map.remove (map.insert m k p) k) m (λ q.
    elim (eqb_tells q k) as (λ _. map.get (map.remove (map.insert m k p) k) q ≡ map.get m q) [
      | inl h ↦ ap (map.get (map.remove (map.insert m k p) k)) h.1 ∙ get_removed (map.insert m k p) k ∙ sym (ap (map.get m) h.1 ∙ none_is (map.get m k) none)
      | inr h ↦ get_removed_other (map.insert m k p) k q h.1 ∙ get_inserted_other m k q p h.1
    ])

pub lacking_all : (m : PageMap) (first n : ℕ) → lacks_page (with_lacking m first n) first n ≡ false
lacking_all m first n = all_there n (with_lacking m first n) first (λ q low high. ap is_some (lacking_in n m first q low high))

heap_zeros : (o : Option Page) → heap_page (Some (page_or_zeros o)) ≡ heap_page o
heap_zeros None = refl
heap_zeros (Some p) = refl

pub broken_below : (m : PageMap) (first end q : ℕ) → first ≤ end → q < first → map.get (broken m first end) q ≡ map.get m q
broken_below m first end q le lt = heap_out (end - first) (without_pages m end (0x70000 - end)) first q (inl lt) ∙ without_out (0x70000 - end) m end q (inl (omega arith))

pub broken_in : (m : PageMap) (first end q : ℕ) → first ≤ q → q < end → map.get (broken m first end) q ≡ Some (heap_page (map.get m q))
broken_in m first end q low high = heap_in (end - first) (without_pages m end (0x70000 - end)) first q low (omega arith) ∙ ap (λ o. Some (heap_page o)) (without_out (0x70000 - end) m end q (inl high))

pub broken_above : (m : PageMap) (first end q : ℕ) → first ≤ end → end ≤ q → q < 0x70000 → map.get (broken m first end) q ≡ None
broken_above m first end q le low high = heap_out (end - first) (without_pages m end (0x70000 - end)) first q (inr (omega arith)) ∙ without_in (0x70000 - end) m end q low (omega arith)

pub broken_far : (m : PageMap) (first end q : ℕ) → first ≤ end → end ≤ 0x70000 → 0x70000 ≤ q → map.get (broken m first end) q ≡ map.get m q
broken_far m first end q le lim low = heap_out (end - first) (without_pages m end (0x70000 - end)) first q (inr (omega arith)) ∙ without_out (0x70000 - end) m end q (inr (omega arith))

-- the break is the same where the lacking pages are mapped first
pub broken_same : (m : PageMap) (first end : ℕ) → first ≤ end → end ≤ 0x70000 → broken (with_lacking m first (end - first)) first end ≡ broken m first end
broken_same m first end le lim =
    let l : PageMap = with_lacking m first (end - first) in
    same (broken l first end) (broken m first end) (λ q.
    elim (lt_or_le q first) as (λ _. map.get (broken l first end) q ≡ map.get (broken m first end) q) [
      | inl a ↦ broken_below l first end q le a ∙ lacking_out (end - first) m first q (inl a) ∙ sym (broken_below m first end q le a)
      | inr a ↦ elim (lt_or_le q end) as (λ _. map.get (broken l first end) q ≡ map.get (broken m first end) q) [
        | inl b ↦ broken_in l first end q a b ∙ ap (λ o. Some (heap_page o)) (lacking_in (end - first) m first q a (omega arith)) ∙ ap (λ (p : Page). Some p) (heap_zeros (map.get m q)) ∙ sym (broken_in m first end q a b)
        | inr b ↦ elim (lt_or_le q 0x70000) as (λ _. map.get (broken l first end) q ≡ map.get (broken m first end) q) [
          | inl d ↦ broken_above l first end q le b d ∙ sym (broken_above m first end q le b d)
          | inr d ↦ broken_far l first end q le lim d ∙ lacking_out (end - first) m first q (inr (omega arith)) ∙ sym (broken_far m first end q le lim d)
        ]
      ]
    ])

-- a range is at most as long as the pages are many, once it is heap
pub len_at_least : (n : ℕ) (m : PageMap) (p : ℕ) → n ≤ map.len (with_heap_pages m p n)
len_at_least n m p = omega (arith, len_heap n m p, len_without n m p)

-- ---- parts of a range

pub mapped_split : (a b : ℕ) (m : PageMap) (p : ℕ) → mapped_in m p (a + b) ≡ mapped_in m p a + mapped_in m (p + a) b
unfolding mapped_in
mapped_split zero b m p =
    let e : 0 + b ≡ b = omega arith in
    let f : p ≡ p + 0 = omega arith in
    let g : mapped_in m (p + 0) b ≡ 0 + mapped_in m (p + 0) b = omega arith in
    ap (mapped_in m p) e ∙ ap (λ k. mapped_in m k b) f ∙ g
mapped_split (suc a) b m p =
    let e : suc a + b ≡ suc (a + b) = omega arith in
    let f : p + 1 + a ≡ p + suc a = omega arith in
    let g : one_if_mapped m p + (mapped_in m (p + 1) a + mapped_in m (p + 1 + a) b) ≡ one_if_mapped m p + mapped_in m (p + 1) a + mapped_in m (p + 1 + a) b = omega arith in
    ap (mapped_in m p) e ∙ ap (λ k. one_if_mapped m p + k) (mapped_split a b m (p + 1)) ∙ g ∙ ap (λ k. one_if_mapped m p + mapped_in m (p + 1) a + mapped_in m k b) f

pub mapped_full : (n : ℕ) (m : PageMap) (p : ℕ) → ((q : ℕ) → p ≤ q → q < p + n → is_some (map.get m q) ≡ true) → mapped_in m p n ≡ n
unfolding mapped_in
mapped_full zero m p h = refl
mapped_full (suc n) m p h =
    let e : mapped_in m (p + 1) n ≡ n = mapped_full n m (p + 1) (λ q low high. h q (omega arith) (omega arith)) in
    let f : one_if_mapped m p ≡ 1 = ap (λ t. cond t 1 0) (h p (omega arith) (omega arith)) in
    omega (arith, e, f)

pub mapped_free : (n : ℕ) (m : PageMap) (p : ℕ) → ((q : ℕ) → p ≤ q → q < p + n → map.get m q ≡ None) → mapped_in m p n ≡ 0
unfolding mapped_in
mapped_free zero m p h = refl
mapped_free (suc n) m p h =
    let e : mapped_in m (p + 1) n ≡ 0 = mapped_free n m (p + 1) (λ q low high. h q (omega arith) (omega arith)) in
    let f : one_if_mapped m p ≡ 0 = ap (λ o. cond (is_some o) 1 0) (h p (omega arith) (omega arith)) in
    omega (arith, e, f)
