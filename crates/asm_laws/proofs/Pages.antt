-- The pages of a file are those of its text.
use Rattle.std.proofs.Common.{◌≡◌, ◌⊎◌, inl, inr, ℕ, zero, suc, ◌+◌, ◌-◌, ◌*◌, ◌%◌, ◌^◌, ◌<◌, ◌≤◌, min, List, [], ◌∷◌, length, refl, ap, sym, ◌∙◌, arith, Bool, true, false, cond, ◌&&◌, ◌||◌, nat_lt, nat_le, Option, Some, None, is_some, bit_or}
use Rattle.std.specs.FinMap as map
use Rattle.std.specs.Ordering.{nat_cmp}
use Rattle.std.proofs.lemmas.Bool.{cases_Bool}
use Rattle.std.proofs.lemmas.Bool.Decides.{nat_tests, leb_tells}
use Rattle.page_set.specs.Pages.{Page, PageMap}
use Rattle.elf_load.specs.Image.{touches, touched, is_stack_page, tabulated, placed_byte, start_page, stack_byte, start_size, with_some_page, pages_below}
use Rattle.user_spec.specs.Request.{page_above}
use Rattle.elf_load.specs.declared.image.Header.{Header}
use Rattle.rv_asm.specs.File.{file_of}
use Rattle.elf_load.proofs.Maps.{get_above, len_inserted}
use Rattle.asm_laws.specs.Loaded.{text_byte, is_text_page, text_page}
use Rattle.asm_laws.proofs.Fields.{sized}
use Rattle.asm_laws.proofs.Bytes.{tabulated_same, stack_is_far, placed_is, placed_outside}

-- ---- which pages

first_no : (a b : Bool) → a ≡ false → (a && b) ≡ true → ⊥
first_no true b e h = cc
first_no false b e h = cc

second_no : (a b : Bool) → b ≡ false → (a && b) ≡ true → ⊥
second_no true b e h = cc
second_no false b e h = cc

in_between : (a b q : ℕ) → (nat_le a q && nat_lt q b) ≡ true → (a ≤ q) × (q < b)
in_between a b q e =
    elim (leb_tells a q) as (λ _. (a ≤ q) × (q < b)) [
      | inl low ↦ elim (leb_tells (suc q) b) as (λ _. (a ≤ q) × (q < b)) [
        | inl high ↦ (low.1, high.1)
        | inr high ↦ absurd (second_no (nat_le a q) (nat_lt q b) high.0 e)
      ]
      | inr low ↦ absurd (first_no (nat_le a q) (nat_lt q b) low.0 e)
    ]

pub text_page_within : (size q : ℕ) → size ≤ 1008 * 4096 → is_text_page size q ≡ true → (16 ≤ q) × (q < 1024)
text_page_within size q h e =
    let at = in_between 16 (page_above (0x10000 + size)) q e in
    let low = at.0 in
    let high = at.1 in
    let most : page_above (0x10000 + size) ≤ 1024 = omega arith in
    (low, omega arith)

pub stack_page_within : (q : ℕ) → is_stack_page q ≡ true → (0x7FFF0 ≤ q) × (q < 0x80000)
stack_page_within q e = in_between 0x7FFF0 0x80000 q e

no_stack_page : (q : ℕ) → q < 1024 → is_stack_page q ≡ false
no_stack_page q h = grind (arith, nat_tests)

no_page_above : (q : ℕ) → (nat_le 16 q && nat_lt q 16) ≡ false
no_page_above q = grind (arith, nat_tests)

-- the segment touches the text's pages, also where it has no byte
and_true : (a b : Bool) → a ≡ true → (a && b) ≡ b
and_true true b e = refl
and_true false b e = cc

and_false : (a b : Bool) → b ≡ false → (a && b) ≡ b
and_false true b e = refl
and_false false b e = sym e

touch_some : (size q end : ℕ) → (nat_lt 0 size ≡ true) ⊎ (end ≡ 16) → (nat_lt 0 size && (nat_le 16 q && nat_lt q end)) ≡ (nat_le 16 q && nat_lt q end)
touch_some size q end (inl some) = and_true (nat_lt 0 size) _ some
touch_some size q end (inr none) = and_false (nat_lt 0 size) (nat_le 16 q && nat_lt q end) (ap (λ n. nat_le 16 q && nat_lt q n) none ∙ no_page_above q)

some_or_none : (size : ℕ) → (nat_lt 0 size ≡ true) ⊎ (page_above (0x10000 + size) ≡ 16)
some_or_none size =
    elim (leb_tells 1 size) as (λ _. (nat_lt 0 size ≡ true) ⊎ (page_above (0x10000 + size) ≡ 16)) [
      | inl some ↦ inl some.0
      | inr none ↦ let lt = none.1 in inr (omega arith)
    ]

pub touches_is : (f size q : ℕ) → touches (sized f size) q ≡ is_text_page size q
touches_is f size q = touch_some size q (page_above (0x10000 + size)) (some_or_none size)

-- ---- each page

or_false : (a : Bool) → (a || false) ≡ a
or_false true = refl
or_false false = refl

-- a page with these bytes
abbrev filled : (ℕ → ℕ) → ℕ → ℕ → Option Page
filled f page rights = Some (record { bytes = tabulated f (page * 4096) 4096; rights = rights })

filled_same : (f g : ℕ → ℕ) (page r s : ℕ) → r ≡ s → ((k : ℕ) → k < 4096 → f (page * 4096 + k) ≡ g (page * 4096 + k)) → filled f page r ≡ filled g page s
filled_same f g page r s e h =
    ap (λ n. filled f page n) e ∙ ap (λ bs. Some (record { bytes = bs; rights = s })) (tabulated_same f g (page * 4096) 4096 h)

module _ (bytes : List ℕ) (bss : ℕ) (words : List (List ℕ)) (fits : length bytes + bss ≤ 1008 * 4096) (few : start_size words ≤ 8192) where
  abbrev size : ℕ
  size = length bytes + bss

  abbrev segments : List Header
  segments = sized (length bytes) size ∷ []

  abbrev placed : ℕ → ℕ
  placed addr = placed_byte (file_of bytes bss) segments addr (stack_byte words addr)

  touched_is : (q : ℕ) → touched segments q ≡ is_text_page size q
  touched_is q = or_false (touches (sized (length bytes) size) q) ∙ touches_is (length bytes) size q

  -- the rights of a page, by whether the segment touches it
  abbrev rights_by : Bool → ℕ → ℕ
  rights_by b rights = cond b (bit_or rights (7 % 8)) rights

  -- both kinds of page, by the two tests
  abbrev by_tests : Bool → Bool → Bool → ℕ → Option Page
  by_tests stack text touch q = cond (stack || text) (filled placed q (rights_by touch (cond stack 6 0))) None

  text_case : (q : ℕ) → is_text_page size q ≡ true → by_tests (is_stack_page q) (is_text_page size q) (is_text_page size q) q ≡ text_page bytes size words q
  text_case q text =
      let within = text_page_within size q fits text in
      let low = within.0 in
      let high = within.1 in
      let here : by_tests (is_stack_page q) (is_text_page size q) (is_text_page size q) q ≡ filled placed q 7 =
      ap (λ b. by_tests b (is_text_page size q) (is_text_page size q) q) (no_stack_page q high) ∙ ap (λ b. by_tests false b b q) text in
      let there : filled (text_byte bytes) q 7 ≡ text_page bytes size words q =
      sym (ap (λ b. cond b (filled (text_byte bytes) q 7) (cond (is_stack_page q) (filled (stack_byte words) q 6) None)) text) in
      here
      ∙ filled_same placed (text_byte bytes) q 7 7 refl (λ k lt.
      let above : 0x10000 ≤ q * 4096 + k = omega arith in
      let below : q * 4096 + k < 0x7FFF0000 = omega arith in
      placed_is bytes bss (q * 4096 + k) (stack_byte words (q * 4096 + k)) above (stack_is_far words (q * 4096 + k) few below))
      ∙ there

  stack_case : (q : ℕ) → (b : Bool) → is_stack_page q ≡ b → by_tests b false false q ≡ cond b (filled (stack_byte words) q 6) None
  stack_case q true e =
      let within = stack_page_within q e in
      let low = within.0 in
      filled_same placed (stack_byte words) q 6 6 refl (λ k lt.
      let above : 0x10000 + size ≤ q * 4096 + k = omega arith in
      placed_outside (file_of bytes bss) (length bytes) size (q * 4096 + k) (stack_byte words (q * 4096 + k)) above)
  stack_case q false e = refl

  other_case : (q : ℕ) → is_text_page size q ≡ false → by_tests (is_stack_page q) (is_text_page size q) (is_text_page size q) q ≡ text_page bytes size words q
  other_case q other =
      ap (λ b. by_tests (is_stack_page q) b b q) other
      ∙ stack_case q (is_stack_page q) refl
      ∙ sym (ap (λ b. cond b (filled (text_byte bytes) q 7) (cond (is_stack_page q) (filled (stack_byte words) q 6) None)) other)

  pub page_is : (q : ℕ) → start_page (file_of bytes bss) segments (stack_byte words) q ≡ text_page bytes size words q
  page_is q =
      let tested : start_page (file_of bytes bss) segments (stack_byte words) q ≡ by_tests (is_stack_page q) (is_text_page size q) (is_text_page size q) q =
      ap (λ b. by_tests (is_stack_page q) b (touches (sized (length bytes) size) q) q) (touched_is q)
      ∙ ap (λ b. by_tests (is_stack_page q) (is_text_page size q) b q) (touches_is (length bytes) size q) in
      tested ∙ elim (cases_Bool (is_text_page size q)) as (λ _. by_tests (is_stack_page q) (is_text_page size q) (is_text_page size q) q ≡ text_page bytes size words q) [
        | inl text ↦ text_case q text
        | inr other ↦ other_case q other
      ]

-- ---- the map of a function

pub below_same : (f g : ℕ → Option Page) (n : ℕ) → ((q : ℕ) → f q ≡ g q) → pages_below f n ≡ pages_below g n
unfolding pages_below
below_same f g zero h = refl
below_same f g (suc n) h = ap (λ o. with_some_page (pages_below f n) n o) (h n) ∙ ap (λ m. with_some_page m n (g n)) (below_same f g n h)

-- ---- how many pages

-- where a function may have a page: from a to b, and from c to d
abbrev Lies : ℕ → ℕ → ℕ → ℕ → ℕ → Type 0
Lies a b c d q = ((a ≤ q) × (q < b)) ⊎ ((c ≤ q) × (q < d))

one_more : (m : PageMap) (k : ℕ) (o : Option Page) → map.get m k ≡ None → map.len (with_some_page m k o) ≡ cond (is_some o) (map.len m + 1) (map.len m)
one_more m k None none = refl
one_more m k (Some p) none = len_inserted m k p none

-- the count of the numbers below n that lie there
abbrev most : ℕ → ℕ → ℕ → ℕ → ℕ → ℕ
most a b c d n = min (n - a) (b - a) + min (n - c) (d - c)

counted : (a b c d n len more : ℕ) (some : Bool) → a ≤ b → b ≤ c → c ≤ d → (some ≡ true → Lies a b c d n) → more ≡ cond some (len + 1) len → len ≤ most a b c d n → more ≤ most a b c d (suc n)
counted a b c d n len more true p q r h e le =
    elim (h refl) as (λ _. more ≤ most a b c d (suc n)) [
      | inl first ↦ let low = first.0 in let high = first.1 in omega arith
      | inr second ↦ let low = second.0 in let high = second.1 in omega arith
    ]
counted a b c d n len more false p q r h e le = omega arith

pub few_below : (f : ℕ → Option Page) (a b c d n : ℕ) → a ≤ b → b ≤ c → c ≤ d → ((q : ℕ) → is_some (f q) ≡ true → Lies a b c d q) → map.len (pages_below f n) ≤ most a b c d n
unfolding pages_below
few_below f a b c d zero p q r h = omega (arith, map.len-empty nat_cmp Page)
few_below f a b c d (suc n) p q r h =
    counted a b c d n (map.len (pages_below f n)) (map.len (with_some_page (pages_below f n) n (f n))) (is_some (f n)) p q r (h n) (one_more (pages_below f n) n (f n) (get_above f n n (omega arith))) (few_below f a b c d n p q r h)

some_of : (text stack : Bool) (p o : Page) → is_some (cond text (Some p) (cond stack (Some o) None)) ≡ true → (text ≡ true) ⊎ (stack ≡ true)
some_of true stack p o e = inl refl
some_of false true p o e = inr refl
some_of false false p o e = cc

pub few_pages : (bytes : List ℕ) (size : ℕ) (words : List (List ℕ)) → size ≤ 1008 * 4096 → map.len (pages_below (text_page bytes size words) (2 ^ 20)) ≤ 1024
few_pages bytes size words fits =
    let few = few_below (text_page bytes size words) 16 1024 0x7FFF0 0x80000 (2 ^ 20) (omega arith) (omega arith) (omega arith) (λ q e.
    elim (some_of (is_text_page size q) (is_stack_page q) _ _ e) as (λ _. Lies 16 1024 0x7FFF0 0x80000 q) [
      | inl text ↦ inl (text_page_within size q fits text)
      | inr stack ↦ inr (stack_page_within q stack)
    ]) in
    omega (arith, few)
