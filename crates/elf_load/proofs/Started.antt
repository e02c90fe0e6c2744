-- Pages that are mapped one after another with what they start from.
use Rattle.std.proofs.Common.{◌≡◌, ◌≢◌, ◌⊎◌, inl, inr, ℕ, zero, suc, ◌+◌, ◌-◌, ◌*◌, ◌/◌, ◌^◌, ◌<◌, ◌≤◌, List, [], ◌∷◌, ◌++◌, refl, ap, ◌∙◌, sym, arith, Bool, cond, true, false, Option, Some, None, is_some, IsSome, length, replicate, take, drop, slice_index, subst}
use Rattle.std.specs.Cmp.{nat_cmp_total}
use Rattle.std.proofs.lemmas.Bool.Decides.{eqb_tells, nat_tests}
use Rattle.std.specs.FinMap as map
use Rattle.std.proofs.lemmas.List.{append-nil, drop_all, length-replicate}
use Rattle.call_table.specs.declared.limit.TheConstants.{PAGES}
use Rattle.page_set.specs.Pages.{Page, PageMap, zero_page, changed_page, page_with_part, with_part}
use Rattle.elf_load.specs.Image.{pages_below, is_start_page, start_page, placed_byte, page_rights, stack_rights, tabulated}
use Rattle.elf_load.specs.declared.image.Header.{Header}
use Rattle.elf_load.specs.Parts.{from_to, is_page, IsPart, Added, IsWhole}
use Rattle.elf_load.proofs.Maps.{get_inserted, get_inserted_other, len_inserted, part_len, tabulated_is}

inserted_twice : (m : PageMap) (k : ℕ) (a b : Page) → map.insert (map.insert m k a) k b ≡ map.insert m k b
inserted_twice m k a b = map.same_map nat_cmp_total map.nat_cmp-IsAntisymmetric _ _ (λ q.
    elim (eqb_tells q k) as (λ _. map.get (map.insert (map.insert m k a) k b) q ≡ map.get (map.insert m k b) q) [
      | inl e ↦ ap (map.get (map.insert (map.insert m k a) k b)) e.1 ∙ get_inserted (map.insert m k a) k b ∙ sym (ap (map.get (map.insert m k b)) e.1 ∙ get_inserted m k b)
      | inr e ↦ get_inserted_other (map.insert m k a) k q b e.1 ∙ get_inserted_other m k q a e.1 ∙ sym (get_inserted_other m k q b e.1)
    ])

whole_part : (bytes zeros : List ℕ) → length zeros ≤ 0 + length bytes → with_part 0 bytes zeros ≡ bytes
whole_part bytes zeros le = ap (λ xs. bytes ++ xs) (drop_all (0 + length bytes) zeros le) ∙ append-nil bytes

-- a page of zeros, then filled
pub put_is : (old mid new : PageMap) (page rights : ℕ) (bytes : List ℕ) → length bytes ≡ 4096 → mid ≡ map.insert old page (zero_page rights) → new ≡ changed_page mid page (page_with_part 0 bytes) (map.get mid page) → new ≡ map.insert old page (record { bytes = bytes; rights = rights })
put_is old mid new page rights bytes len m n =
    let zeros = replicate 4096 0 in
    n
    ∙ ap (λ x. changed_page x page (page_with_part 0 bytes) (map.get x page)) m
    ∙ ap (changed_page (map.insert old page (zero_page rights)) page (page_with_part 0 bytes)) (get_inserted old page (zero_page rights))
    ∙ inserted_twice old page (zero_page rights) (page_with_part 0 bytes (zero_page rights))
    ∙ ap (λ xs. map.insert old page (record { bytes = xs; rights = rights })) (whole_part bytes zeros (omega (arith, len, length-replicate {A = ℕ} 4096 0)))

pub is_mapped : (old mid : PageMap) (page : ℕ) (p : Page) → mid ≡ map.insert old page p → IsSome (map.get mid page)
is_mapped old mid page p m = ap is_some (ap (λ x. map.get x page) m ∙ get_inserted old page p)

-- ---- what one more page keeps

abbrev Fine : (ℕ → Option Page) → PageMap → ℕ → Type 0
Fine f m q = (map.get m q ≡ None) ⊎ ((q < 2 ^ 20) × (map.get m q ≡ f q))

false_true : false ≡ true → ⊥
false_true e = cc

is_there : (o p : Option Page) (lt : Type 0) → (o ≡ None) ⊎ (lt × (o ≡ p)) → is_some o ≡ true → o ≡ p
is_there o p lt (inl e) h = absurd (false_true (sym (ap is_some e) ∙ h))
is_there o p lt (inr e) h = e.1

same_page : (page q : ℕ) → is_page page q ≡ true → q ≡ page
same_page page q h = elim (eqb_tells q page) as (λ _. q ≡ page) [ inl e ↦ e.1 | inr e ↦ absurd (false_true (sym e.0 ∙ h)) ]

-- it was mapped already
pub added_before : (f : ℕ → Option Page) (m : PageMap) (page : ℕ) → IsPart f m → is_some (map.get m page) ≡ true → Added f (is_page page) m m
added_before f m page part h = record {
  part = part;
  done = λ q is. let e = same_page page q is in ap (map.get m) e ∙ is_there (map.get m page) (f page) (page < 2 ^ 20) (part.each page) h ∙ ap f (sym e);
  kept = λ q is. is;
}

fine_inserted : (f : ℕ → Option Page) (m : PageMap) (page : ℕ) (p : Page) → page < 2 ^ 20 → f page ≡ Some p → ((q : ℕ) → Fine f m q) → (q : ℕ) → Fine f (map.insert m page p) q
fine_inserted f m page p lt is fine q =
    elim (eqb_tells q page) as (λ _. Fine f (map.insert m page p) q) [
      | inl e ↦ let same = e.1 in let below : q < 2 ^ 20 = omega arith in inr (below, ap (map.get (map.insert m page p)) e.1 ∙ get_inserted m page p ∙ sym is ∙ ap f (sym e.1))
      | inr e ↦ elim (fine q) as (λ _. Fine f (map.insert m page p) q) [
        | inl none ↦ inl (get_inserted_other m page q p e.1 ∙ none)
        | inr some ↦ inr (some.0, get_inserted_other m page q p e.1 ∙ some.1)
      ]
    ]

-- it is mapped now
pub added_now : (f : ℕ → Option Page) (old new : PageMap) (page : ℕ) (p : Page) → IsPart f old → page < 2 ^ 20 → map.get old page ≡ None → map.len old < PAGES → f page ≡ Some p → new ≡ map.insert old page p → Added f (is_page page) old new
added_now f old new page p part lt none few is e = subst (Added f (is_page page) old) (sym e) (record {
  part = record {
    each = fine_inserted f old page p lt is part.each;
    few = omega (arith, len_inserted old page p none);
  };
  done = λ q same. let s = same_page page q same in ap (map.get (map.insert old page p)) s ∙ get_inserted old page p ∙ sym is ∙ ap f (sym s);
  kept = λ q was. elim (eqb_tells q page) as (λ _. map.get (map.insert old page p) q ≡ f q) [
    | inl s ↦ ap (map.get (map.insert old page p)) s.1 ∙ get_inserted old page p ∙ sym is ∙ ap f (sym s.1)
    | inr s ↦ get_inserted_other old page q p s.1 ∙ was
  ];
})

-- there is no room for it
pub full_now : (f : ℕ → Option Page) (m : PageMap) (page : ℕ) (p : Page) → IsPart f m → page < 2 ^ 20 → map.get m page ≡ None → PAGES ≤ map.len m → f page ≡ Some p → PAGES < map.len (pages_below f (2 ^ 20))
full_now f m page p part lt none full is =
    let more = len_inserted m page p none in
    let within = part_len f (2 ^ 20) (map.insert m page p) (record { each = fine_inserted f m page p lt is part.each }) in
    omega (arith, more, within)

-- what a start page is
pub start_page_is : (file : List ℕ) (headers : List Header) (before : ℕ → ℕ) (page rights : ℕ) (bytes : List ℕ) → is_start_page headers page ≡ true → length bytes ≡ 4096 → ((k : ℕ) → k < 4096 → slice_index bytes k ≡ placed_byte file headers (page * 4096 + k) (before (page * 4096 + k))) → rights ≡ page_rights headers page (stack_rights page) → start_page file headers before page ≡ Some (record { bytes = bytes; rights = rights })
start_page_is file headers before page rights bytes is len each r =
    let f : ℕ → ℕ = λ addr. placed_byte file headers addr (before addr) in
    ap (λ b. cond b (Some (record { bytes = tabulated f (page * 4096) 4096; rights = page_rights headers page (stack_rights page) })) None) is
    ∙ ap (λ xs. Some (record { bytes = xs; rights = page_rights headers page (stack_rights page) })) (sym (tabulated_is f (page * 4096) 4096 bytes len each))
    ∙ ap (λ r. Some (record { bytes = bytes; rights = r })) (sym r)

-- ---- many pages

nothing : (first q : ℕ) → from_to first first q ≡ true → ⊥
nothing first q h = grind (arith, nat_tests)

earlier : (first i q : ℕ) → q ≢ i → from_to first (i + 1) q ≡ true → from_to first i q ≡ true
earlier first i q ne h = grind (arith, nat_tests)

wider : (first end last q : ℕ) → end ≤ last → from_to first end q ≡ true → from_to first last q ≡ true
wider first end last q le h = grind (arith, nat_tests)

pub added_none : (f : ℕ → Option Page) (m : PageMap) (first : ℕ) → IsPart f m → Added f (from_to first first) m m
added_none f m first part = record {
  part = part;
  done = λ q is. absurd (nothing first q is);
  kept = λ q is. is;
}

-- one more page
pub added_more : (f : ℕ → Option Page) (old mid new : PageMap) (first i : ℕ) → Added f (from_to first i) old mid → Added f (is_page i) mid new → Added f (from_to first (i + 1)) old new
added_more f old mid new first i a b = record {
  part = b.part;
  done = λ q is. elim (eqb_tells q i) as (λ _. map.get new q ≡ f q) [
    | inl e ↦ b.done q e.0
    | inr e ↦ b.kept q (a.done q (earlier first i q e.1 is))
  ];
  kept = λ q is. b.kept q (a.kept q is);
}

-- pages of fewer numbers
pub added_fewer : (f : ℕ → Option Page) (old new : PageMap) (first end last : ℕ) → end ≤ last → Added f (from_to first last) old new → Added f (from_to first end) old new
added_fewer f old new first end last le a = record {
  part = a.part;
  done = λ q is. a.done q (wider first end last q le is);
  kept = a.kept;
}
