-- Several pages, one after another.
use Rattle.std.proofs.Common.{◌≡◌, ◌≢◌, ◌⊎◌, inl, inr, ℕ, zero, suc, ◌+◌, ◌-◌, ◌*◌, ◌/◌, ◌%◌, ◌^◌, ◌<◌, ◌≤◌, List, [], ◌∷◌, ◌++◌, refl, ap, ◌∙◌, sym, arith, true, false, Option, Some, None, IsSome, is_some, length}
use Rattle.std.specs.Option.{option_map}
use Rattle.std.specs.Cmp.{nat_cmp_total}
use Rattle.std.specs.FinMap as map
use Rattle.std.specs.Int.Bits.{or_self}
use Rattle.std.proofs.lemmas.Bool.Decides.{eqb_tells}
use Rattle.page_set.specs.Pages.{Page, PageMap, zero_page, page_with_rights, mapped_page, with_mapped, with_mapped_pages, without_pages, on_pages, count_of, mapped_count, changed_page, NoneFrom, IsNext}
use Rattle.page_set.specs.Tree.{Tree, without_all, filled_page, with_filled, pages_of, page_of, page_at, leaf_at, frame_at, frame_in, content_of, NoFrameFrom, IsNextFrame, NoPageIn}
use Rattle.page_set.specs.declared.frame.Frame.{Frame}
use Rattle.page_set.specs.declared.frame.Leaf.{Leaf}
use Rattle.std.proofs.lemmas.Option.{slice_get_past}
use Rattle.page_set.proofs.Maps.{get_pages_of, get_above, get_inserted, get_inserted_other, get_removed, get_removed_other}
use Rattle.page_set.proofs.Writes.{removed_none}

false_true : false ≡ true → ⊥
false_true e = cc

no_frame_there : (let o : Option Frame = None in IsSome o) → ⊥
no_frame_there h = cc

lt_or_le : (q n : ℕ) → (q < n) ⊎ (n ≤ q)
lt_or_le q n = grind arith

none_some : (let o : Option Page = None in IsSome o) → ⊥
none_some h = cc

pub count_more : (m : PageMap) (p n k : ℕ) → n ≡ suc k → mapped_count m p n ≡ count_of (map.get m p) + mapped_count m (p + 1) k
unfolding mapped_count
count_more m p n k e = ap (mapped_count m p) e

pub count_nothing : (m : PageMap) (p : ℕ) → mapped_count m p 0 ≡ 0
unfolding mapped_count
count_nothing m p = refl

-- a step changes one page alone
pub record IsStep (step : PageMap → ℕ → PageMap) (change : Option Page → Option Page) : Type 0 where
  pub here : (m : PageMap) (k : ℕ) → map.get (step m k) k ≡ change (map.get m k)
  pub others : (m : PageMap) (k q : ℕ) → q ≢ k → map.get (step m k) q ≡ map.get m q

pub get_other : (step : PageMap → ℕ → PageMap) (change : Option Page → Option Page) → IsStep step change → (m : PageMap) (p n q : ℕ) → (q < p) ⊎ (p + n ≤ q) → map.get (on_pages step m p n) q ≡ map.get m q
unfolding on_pages
get_other step change is m p zero q h = refl
get_other step change is m p (suc n) q (inl h) = get_other step change is (step m p) (p + 1) n q (inl (omega arith)) ∙ is.others m p q (λ e. absurd (let w : q ≡ p = e in omega arith))
get_other step change is m p (suc n) q (inr h) = get_other step change is (step m p) (p + 1) n q (inr (omega arith)) ∙ is.others m p q (λ e. absurd (let w : q ≡ p = e in omega arith))

pub get_in : (step : PageMap → ℕ → PageMap) (change : Option Page → Option Page) → IsStep step change → (m : PageMap) (p n q : ℕ) → p ≤ q → q < p + n → map.get (on_pages step m p n) q ≡ change (map.get m q)
unfolding on_pages
get_in step change is m p zero q le lt = absurd (omega arith)
get_in step change is m p (suc n) q le lt = elim (eqb_tells q p) as (λ _. map.get (on_pages step (step m p) (p + 1) n) q ≡ change (map.get m q)) [
  | inl e ↦ get_other step change is (step m p) (p + 1) n q (inl (let w : q ≡ p = e.1 in omega arith)) ∙ ap (map.get (step m p)) e.1 ∙ is.here m p ∙ ap (λ k. change (map.get m k)) (sym e.1)
  | inr e ↦ get_in step change is (step m p) (p + 1) n q (let w : q ≢ p = e.1 in omega arith) (omega arith) ∙ ap change (is.others m p q e.1)
]

pub removes : IsStep map.remove (λ _. None)
removes = record { here = get_removed; others = get_removed_other }

pub maps : (rights : ℕ) → IsStep (with_mapped rights) (λ o. Some (mapped_page rights o))
maps rights = record {
  here = λ m k. get_inserted m k (mapped_page rights (map.get m k));
  others = λ m k q ne. get_inserted_other m k q (mapped_page rights (map.get m k)) ne;
}

abbrev or_zeros : ℕ → Option Page → Option Page
or_zeros rights None = Some (zero_page rights)
or_zeros rights (Some page) = Some page

fills_here : (rights : ℕ) (m : PageMap) (k : ℕ) (o : Option Page) → map.get m k ≡ o → map.get (filled_page rights m k o) k ≡ or_zeros rights o
fills_here rights m k None e = get_inserted m k (zero_page rights)
fills_here rights m k (Some p) e = e

fills_others : (rights : ℕ) (m : PageMap) (k q : ℕ) (o : Option Page) → q ≢ k → map.get (filled_page rights m k o) q ≡ map.get m q
fills_others rights m k q None ne = get_inserted_other m k q (zero_page rights) ne
fills_others rights m k q (Some p) ne = refl

pub fills : (rights : ℕ) → IsStep (with_filled rights) (or_zeros rights)
fills rights = record {
  here = λ m k. fills_here rights m k (map.get m k) refl;
  others = λ m k q ne. fills_others rights m k q (map.get m k) ne;
}

-- ---- one step more, and the end

pub on_more : (step : PageMap → ℕ → PageMap) (m : PageMap) (p n k : ℕ) → n ≡ suc k → on_pages step m p n ≡ on_pages step (step m p) (p + 1) k
unfolding on_pages
on_more step m p n k e = ap (on_pages step m p) e

pub on_none : (step : PageMap → ℕ → PageMap) (m : PageMap) (p n : ℕ) → n ≡ 0 → on_pages step m p n ≡ m
unfolding on_pages
on_none step m p n e = ap (on_pages step m p) e

in_or_out : (p n q : ℕ) → ((p ≤ q) × (q < p + n)) ⊎ ((q < p) ⊎ (p + n ≤ q))
in_or_out p n q = grind arith

-- ---- filled, and then mapped

rights_self : (bytes : List ℕ) (rights : ℕ) → page_with_rights rights (record { bytes = bytes; rights = rights }) ≡ record { bytes = bytes; rights = rights }
rights_self bytes rights = let P : ℕ → Page = λ r. record { bytes = bytes; rights = r } in ap P (or_self rights)

or_zeros_some : (rights : ℕ) (o : Option Page) → IsSome (or_zeros rights o)
or_zeros_some rights None = refl
or_zeros_some rights (Some p) = refl

mapped_zeros_at : (rights : ℕ) (o : Option Page) → mapped_page rights (or_zeros rights o) ≡ mapped_page rights o
mapped_zeros_at rights None = rights_self (zero_page rights).bytes rights
mapped_zeros_at rights (Some p) = refl

pub filled_there : (rights : ℕ) (m : PageMap) (p n q : ℕ) → p ≤ q → q < p + n → IsSome (map.get (on_pages (with_filled rights) m p n) q)
filled_there rights m p n q le lt = rw (get_in (with_filled rights) (or_zeros rights) (fills rights) m p n q le lt) (or_zeros_some rights (map.get m q))

pub mapped_filled : (rights : ℕ) (m : PageMap) (p n : ℕ) → with_mapped_pages rights (on_pages (with_filled rights) m p n) p n ≡ with_mapped_pages rights m p n
mapped_filled rights m p n = map.same_map nat_cmp_total map.nat_cmp-IsAntisymmetric _ _ (λ q.
    let between = on_pages (with_filled rights) m p n in
    elim (in_or_out p n q) as (λ _. map.get (with_mapped_pages rights between p n) q ≡ map.get (with_mapped_pages rights m p n) q) [
      | inl i ↦
          get_in (with_mapped rights) (λ o. Some (mapped_page rights o)) (maps rights) between p n q i.0 i.1
          ∙ ap (λ o. Some (mapped_page rights o)) (get_in (with_filled rights) (or_zeros rights) (fills rights) m p n q i.0 i.1)
          ∙ ap (λ (x : Page). Some x) (mapped_zeros_at rights (map.get m q))
          ∙ sym (get_in (with_mapped rights) (λ o. Some (mapped_page rights o)) (maps rights) m p n q i.0 i.1)
      | inr out ↦
          get_other (with_mapped rights) (λ o. Some (mapped_page rights o)) (maps rights) between p n q out
          ∙ get_other (with_filled rights) (or_zeros rights) (fills rights) m p n q out
          ∙ sym (get_other (with_mapped rights) (λ o. Some (mapped_page rights o)) (maps rights) m p n q out)
    ])

-- a mapped page is given rights
righted_at : (rights : ℕ) (m : PageMap) (k : ℕ) (o : Option Page) → map.get m k ≡ o → IsSome o → changed_page m k (page_with_rights rights) o ≡ map.insert m k (mapped_page rights o)
righted_at rights m k None e h = absurd (none_some h)
righted_at rights m k (Some p) e h = refl

pub righted : (rights : ℕ) (m : PageMap) (k : ℕ) → IsSome (map.get m k) → changed_page m k (page_with_rights rights) (map.get m k) ≡ with_mapped rights m k
righted rights m k h = righted_at rights m k (map.get m k) refl h

pub righted_others : (rights : ℕ) (m : PageMap) (k q : ℕ) → IsSome (map.get m k) → q ≢ k → map.get (changed_page m k (page_with_rights rights) (map.get m k)) q ≡ map.get m q
righted_others rights m k q h ne = ap (λ m. map.get m q) (righted rights m k h) ∙ (maps rights).others m k q ne

-- ---- what was filled is undone

pub without_last : (xs : List ℕ) (m : PageMap) (p : ℕ) → without_all m (xs ++ p ∷ []) ≡ without_all (map.remove m p) xs
without_last [] m p = refl
without_last (x ∷ xs) m p = ap (λ m. map.remove m x) (without_last xs m p)

pub without_nothing : (xs : List ℕ) (m : PageMap) → length xs ≡ 0 → without_all m xs ≡ m
without_nothing [] m e = refl
without_nothing (x ∷ xs) m e = absurd (omega arith)

removed_inserted : (m : PageMap) (k : ℕ) (p : Page) → map.get m k ≡ None → map.remove (map.insert m k p) k ≡ m
removed_inserted m k p none = map.same_map nat_cmp_total map.nat_cmp-IsAntisymmetric _ _ (λ q.
    elim (eqb_tells q k) as (λ _. map.get (map.remove (map.insert m k p) k) q ≡ map.get m q) [
      | inl e ↦ ap (map.get (map.remove (map.insert m k p) k)) e.1 ∙ get_removed (map.insert m k p) k ∙ sym (ap (map.get m) e.1 ∙ none)
      | inr e ↦ get_removed_other (map.insert m k p) k q e.1 ∙ get_inserted_other m k q p e.1
    ])

pub undone_inserted : (m new : PageMap) (xs after : List ℕ) (k : ℕ) (p : Page) → map.get m k ≡ None → new ≡ map.insert m k p → after ≡ xs ++ k ∷ [] → without_all new after ≡ without_all m xs
undone_inserted m new xs after k p none e a = ap (without_all new) a ∙ ap (λ m. without_all m (xs ++ k ∷ [])) e ∙ without_last xs (map.insert m k p) k ∙ ap (λ m. without_all m xs) (removed_inserted m k p none)

pub undone_same : (m new : PageMap) (xs after : List ℕ) (k : ℕ) → map.get m k ≡ None → new ≡ m → after ≡ xs ++ k ∷ [] → without_all new after ≡ without_all m xs
undone_same m new xs after k none e a = ap (without_all new) a ∙ ap (λ m. without_all m (xs ++ k ∷ [])) e ∙ without_last xs m k ∙ ap (λ m. without_all m xs) (removed_none m k none)

pub filled_none : (rights : ℕ) (m : PageMap) (k : ℕ) → map.get m k ≡ None → with_filled rights m k ≡ map.insert m k (zero_page rights)
filled_none rights m k e = ap (filled_page rights m k) e

filled_some_at : (rights : ℕ) (m : PageMap) (k : ℕ) (o : Option Page) → is_some o ≡ true → filled_page rights m k o ≡ m
filled_some_at rights m k None h = absurd (false_true h)
filled_some_at rights m k (Some p) h = refl

pub filled_some : (rights : ℕ) (m : PageMap) (k : ℕ) → is_some (map.get m k) ≡ true → with_filled rights m k ≡ m
filled_some rights m k h = filled_some_at rights m k (map.get m k) h

-- ---- unmapped from one mapped page to the next

-- what is left where all from one page on are taken out, and those before it were not there
removed_at : (m : PageMap) (page q : ℕ) → (q ≡ page) ⊎ (map.get m q ≡ None) → map.get (map.remove m page) q ≡ None
removed_at m page q (inl e) = ap (map.get (map.remove m page)) e ∙ get_removed m page
removed_at m page q (inr none) = elim (eqb_tells q page) as (λ _. map.get (map.remove m page) q ≡ None) [
  | inl e ↦ ap (map.get (map.remove m page)) e.1 ∙ get_removed m page
  | inr e ↦ get_removed_other m page q e.1 ∙ none
]

below_or : (page q : ℕ) → (q < page) ⊎ ((q ≡ page) ⊎ (page + 1 ≤ q))
below_or page q = grind arith

removed_in : (m : PageMap) (from page k q : ℕ) → IsNext m from page → from ≤ q → q < page + 1 + k → map.get (without_pages (map.remove m page) (page + 1) k) q ≡ None
removed_in m from page k q next le lt = elim (below_or page q) as (λ _. map.get (without_pages (map.remove m page) (page + 1) k) q ≡ None) [
  | inl below ↦ get_other map.remove (λ _. None) removes (map.remove m page) (page + 1) k q (inl (omega (arith, below))) ∙ removed_at m page q (inr (next.between q le below))
  | inr (inl same) ↦ get_other map.remove (λ _. None) removes (map.remove m page) (page + 1) k q (inl (omega (arith, same))) ∙ removed_at m page q (inl same)
  | inr (inr above) ↦ get_in map.remove (λ _. None) removes (map.remove m page) (page + 1) k q above lt
]

beyond : (from n page k q : ℕ) → from + n ≡ page + 1 + k → from ≤ page → (q < from) ⊎ (from + n ≤ q) → (q < page) ⊎ (page + 1 + k ≤ q)
beyond from n page k q e le (inl lt) = inl (omega arith)
beyond from n page k q e le (inr ge) = inr (omega arith)

removed_out : (m : PageMap) (from page k q : ℕ) → IsNext m from page → (q < page) ⊎ (page + 1 + k ≤ q) → map.get (without_pages (map.remove m page) (page + 1) k) q ≡ map.get m q
removed_out m from page k q next (inl lt) = get_other map.remove (λ _. None) removes (map.remove m page) (page + 1) k q (inl (omega arith)) ∙ get_removed_other m page q (λ e. absurd (let w : q ≡ page = e in omega arith))
removed_out m from page k q next (inr le) = get_other map.remove (λ _. None) removes (map.remove m page) (page + 1) k q (inr le) ∙ get_removed_other m page q (λ e. absurd (let w : q ≡ page = e in omega arith))

removed_skip : (m : PageMap) (from page n k : ℕ) → IsNext m from page → from + n ≡ page + 1 + k → without_pages m from n ≡ without_pages (map.remove m page) (page + 1) k
removed_skip m from page n k next e = map.same_map nat_cmp_total map.nat_cmp-IsAntisymmetric _ _ (λ q.
    elim (in_or_out from n q) as (λ _. map.get (without_pages m from n) q ≡ map.get (without_pages (map.remove m page) (page + 1) k) q) [
      | inl i ↦ get_in map.remove (λ _. None) removes m from n q i.0 i.1 ∙ sym (removed_in m from page k q next i.0 (omega (arith, i.1)))
      | inr out ↦ get_other map.remove (λ _. None) removes m from n q out ∙ sym (removed_out m from page k q next (beyond from n page k q e next.above out))
    ])

pub unmapped_next : (m new : PageMap) (from page end : ℕ) → IsNext m from page → page < end → new ≡ map.remove m page → without_pages new (page + 1) (end - (page + 1)) ≡ without_pages m from (end - from)
unmapped_next m new from page end next lt e =
    ap (λ m. without_pages m (page + 1) (end - (page + 1))) e
    ∙ sym (removed_skip m from page (end - from) (end - (page + 1)) next (omega (arith, next.above)))

pub none_unmapped : (m : PageMap) (from end : ℕ) → ((q : ℕ) → from ≤ q → q < end → map.get m q ≡ None) → without_pages m from (end - from) ≡ m
none_unmapped m from end none = map.same_map nat_cmp_total map.nat_cmp-IsAntisymmetric _ _ (λ q.
    elim (in_or_out from (end - from) q) as (λ _. map.get (without_pages m from (end - from)) q ≡ map.get m q) [
      | inl i ↦ get_in map.remove (λ _. None) removes m from (end - from) q i.0 i.1 ∙ sym (none q i.0 (omega (arith, i.1, i.0)))
      | inr out ↦ get_other map.remove (λ _. None) removes m from (end - from) q out
    ])

-- ---- counted from one mapped page to the next

zero_add : (n : ℕ) → count_of None + n ≡ n
zero_add n = let z : 0 + n ≡ n = omega arith in z

count_skip : (k : ℕ) (m : PageMap) (from n total at : ℕ) → total ≡ k + n → at ≡ from + k → ((q : ℕ) → from ≤ q → q < from + k → map.get m q ≡ None) → mapped_count m from total ≡ mapped_count m at n
count_skip zero m from n total at et ea none =
    let t : total ≡ n = omega arith in
    let a : from ≡ at = omega arith in
    ap (mapped_count m from) t ∙ ap (λ p. mapped_count m p n) a
count_skip (suc k) m from n total at et ea none =
    let t : total ≡ suc (k + n) = omega arith in
    count_more m from total (k + n) t
    ∙ ap (λ o. count_of o + mapped_count m (from + 1) (k + n)) (none from (omega arith) (omega arith))
    ∙ zero_add (mapped_count m (from + 1) (k + n))
    ∙ count_skip k m (from + 1) n (k + n) at refl (omega arith) (λ q le lt. none q (omega arith) (omega arith))

count_some : (o : Option Page) → IsSome o → count_of o ≡ 1
count_some None h = absurd (none_some h)
count_some (Some p) h = refl

pub counted_next : (m : PageMap) (from page end : ℕ) → IsNext m from page → page < end → mapped_count m from (end - from) ≡ 1 + mapped_count m (page + 1) (end - (page + 1))
counted_next m from page end next lt =
    count_skip (page - from) m from (end - page) (end - from) page (omega (arith, next.above)) (omega (arith, next.above)) (λ q le below. next.between q le (omega (arith, below, next.above)))
    ∙ count_more m page (end - page) (end - (page + 1)) (omega arith)
    ∙ ap (λ c. c + mapped_count m (page + 1) (end - (page + 1))) (count_some (map.get m page) next.mapped)

pub none_counted : (m : PageMap) (from end : ℕ) → ((q : ℕ) → from ≤ q → q < end → map.get m q ≡ None) → mapped_count m from (end - from) ≡ 0
none_counted m from end none =
    count_skip (end - from) m from 0 (end - from) (from + (end - from)) (omega arith) refl (λ q le lt. none q le (omega (arith, le, lt)))
    ∙ count_nothing m (from + (end - from))

-- ---- the next mapped page

pub next_more : (m : PageMap) (from at page : ℕ) → from ≤ at → NoPageIn m from at → IsNext m at page → IsNext m from page
next_more m from at page le none next = record {
  above = omega (arith, le, next.above);
  mapped = next.mapped;
  between = λ q ge lt. elim (lt_or_le q at) as (λ _. map.get m q ≡ None) [
    | inl below ↦ none.none q ge below
    | inr above ↦ next.between q above lt
  ];
}

pub none_more : (m : PageMap) (from at end : ℕ) → NoPageIn m from at → NoPageIn m at end → NoPageIn m from end
none_more m from at end before after = record {
  none = λ q ge lt. elim (lt_or_le q at) as (λ _. map.get m q ≡ None) [
    | inl below ↦ before.none q ge below
    | inr above ↦ after.none q above lt
  ];
}

pub none_from : (tree : Tree) (from at : ℕ) → 2 ^ 20 ≤ at → NoPageIn (pages_of tree) from at → NoneFrom (pages_of tree) from
none_from tree from at le before = record {
  none = λ q ge. elim (lt_or_le q at) as (λ _. map.get (pages_of tree) q ≡ None) [
    | inl below ↦ before.none q ge below
    | inr above ↦ get_above (page_at tree) (2 ^ 20) q (omega (arith, above))
  ];
}

-- the page of a leaf that is not there, or of a place where no frame is
in_leaf : (tree : Tree) (q : ℕ) → frame_at tree q ≡ None → (q < 2 ^ 20) ⊎ (2 ^ 20 ≤ q) → map.get (pages_of tree) q ≡ None
in_leaf tree q e (inl lt) = get_pages_of tree q lt ∙ ap (option_map page_of) e
in_leaf tree q e (inr le) = get_above (page_at tree) (2 ^ 20) q le

same_leaf : (at q : ℕ) → at ≤ q → q < (at / 1024 + 1) * 1024 → q / 1024 ≡ at / 1024
same_leaf at q le lt = omega arith

pub no_leaf : (tree : Tree) (at : ℕ) → leaf_at tree (at / 1024) ≡ None → NoPageIn (pages_of tree) at ((at / 1024 + 1) * 1024)
no_leaf tree at e = record {
  none = λ q le lt. in_leaf tree q (ap (λ k. frame_in (leaf_at tree k) (q % 1024)) (same_leaf at q le lt) ∙ ap (λ l. frame_in l (q % 1024)) e) (lt_or_le q (2 ^ 20));
}

pub no_frame : (tree : Tree) (at : ℕ) (leaf : Leaf) → leaf_at tree (at / 1024) ≡ Some leaf → NoFrameFrom leaf (at % 1024) → NoPageIn (pages_of tree) at ((at / 1024 + 1) * 1024)
no_frame tree at leaf e none = record {
  none = λ q le lt. in_leaf tree q (ap (λ k. frame_in (leaf_at tree k) (q % 1024)) (same_leaf at q le lt) ∙ ap (λ l. frame_in l (q % 1024)) e ∙ none.none (q % 1024) (omega arith)) (lt_or_le q (2 ^ 20));
}

frame_here : (tree : Tree) (at place : ℕ) (leaf : Leaf) → leaf_at tree (at / 1024) ≡ Some leaf → place < 1024 → frame_at tree (at / 1024 * 1024 + place) ≡ frame_in (Some leaf) place
frame_here tree at place leaf e lt =
    let high : (at / 1024 * 1024 + place) / 1024 ≡ at / 1024 = omega arith in
    let low : (at / 1024 * 1024 + place) % 1024 ≡ place = omega arith in
    ap (λ k. frame_in (leaf_at tree k) ((at / 1024 * 1024 + place) % 1024)) high ∙ ap (frame_in (leaf_at tree (at / 1024))) low ∙ ap (λ l. frame_in l place) e

some_map : (o : Option Frame) → IsSome o → IsSome (option_map page_of o)
some_map None h = absurd (no_frame_there h)
some_map (Some f) h = refl

pub next_frame : (tree : Tree) (at place : ℕ) (leaf : Leaf) → at < 2 ^ 20 → leaf_at tree (at / 1024) ≡ Some leaf → IsNextFrame leaf (at % 1024) place → IsNext (pages_of tree) at (at / 1024 * 1024 + place)
next_frame tree at place leaf lt e next =
    let page = at / 1024 * 1024 + place in
    record {
      above = omega (arith, next.above);
      mapped = rw (get_pages_of tree page (omega (arith, next.inside)) ∙ ap (option_map page_of) (frame_here tree at place leaf e next.inside)) (some_map (frame_in (Some leaf) place) next.there);
      between = λ q le below. in_leaf tree q (ap (λ k. frame_in (leaf_at tree k) (q % 1024)) (same_leaf at q le (omega (arith, below, next.inside))) ∙ ap (λ l. frame_in l (q % 1024)) e ∙ next.between (q % 1024) (omega arith) (omega (arith, below, next.inside))) (lt_or_le q (2 ^ 20));
    }

-- ---- the next frame of a leaf

frame_or_none : (leaf : Leaf) (from j : ℕ) → length leaf.frames ≡ 1024 → ((j : ℕ) → from ≤ j → j < 1024 → frame_in (Some leaf) j ≡ None) → from ≤ j → (j < 1024) ⊎ (1024 ≤ j) → frame_in (Some leaf) j ≡ None
frame_or_none leaf from j long none le (inl lt) = none j le lt
frame_or_none leaf from j long none le (inr ge) = ap content_of (slice_get_past leaf.frames j (omega (arith, long)))

pub no_frame_from : (leaf : Leaf) (from end : ℕ) → length leaf.frames ≡ 1024 → 1024 ≤ end → ((j : ℕ) → from ≤ j → j < end → frame_in (Some leaf) j ≡ None) → NoFrameFrom leaf from
no_frame_from leaf from end long le none = record { none = λ j ge. frame_or_none leaf from j long (λ k a b. none k a (omega (arith, b, le))) ge (lt_or_le j 1024) }
