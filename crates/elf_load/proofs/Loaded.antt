-- From the parts of a load to its answer.
use Rattle.std.proofs.Common.{◌≡◌, ◌≢◌, ◌⊎◌, inl, inr, ℕ, zero, suc, ◌+◌, ◌-◌, ◌*◌, ◌/◌, ◌%◌, ◌^◌, ◌<◌, ◌≤◌, List, [], ◌∷◌, ◌++◌, refl, ap, ◌∙◌, sym, arith, Bool, cond, true, false, not, nat_le, nat_lt, Option, Some, None, Result, Ok, Err, length, slice_index, get_or, replicate, length-append, bit_and, ◌||◌, subst, ◌==◌}
use mathlib.Core.Path.{fun_ext}
use Rattle.std.specs.Int.{w32, to_le_bytes}
use Rattle.std.specs.Option.{option_map, option_or}
use Rattle.std.specs.FinMap as map
use Rattle.std.proofs.lemmas.Bool.Decides.{leb_tells, nat_tests}
use Rattle.std.proofs.lemmas.List.{length-replicate, get_or_append_left, get_or-append_right, get_or_past, get_or-replicate}
use Rattle.page_set.specs.Pages.{Page, PageMap}
use Rattle.elf_load.specs.Image.{words_bytes, words_start, address_table, table_start, stack_byte, start_size, grants_execute, is_bad_entry, image_or}
use Rattle.user_spec.specs.User.{UserState}
use Rattle.elf_load.specs.declared.fault.LoadError.{LoadError}
use Rattle.elf_load.specs.Faults.{Loads}
use Rattle.elf_load.specs.Parts.{byte_from, stack_bytes}
use Rattle.elf_load.proofs.Stacks.{size_is}

-- ---- the stack

length_table : (addr : ℕ) (ws : List (List ℕ)) → length (address_table addr ws) ≡ 4 * (length ws + 1)
length_table addr [] = refl
length_table addr (w ∷ ws) = omega (arith, length-append (to_le_bytes w32 addr) (address_table (addr + length w + 1) ws), length_table (addr + length w + 1) ws)

chosen : (b : Bool) (x y z : ℕ) → b ≡ true → x ≡ z → cond b x y ≡ z
chosen b x y z e h = ap (λ c. cond c x y) e ∙ h

passed : (b : Bool) (x y z : ℕ) → b ≡ false → y ≡ z → cond b x y ≡ z
passed b x y z e h = ap (λ c. cond c x y) e ∙ h

in_last : (a w : List ℕ) (gap start table addr : ℕ) → start ≡ table + length a + gap → start ≤ addr → slice_index (a ++ (replicate gap 0 ++ w)) (addr - table) ≡ slice_index w (addr - start)
in_last a w gap start table addr e le =
    let first : length a ≤ addr - table = omega arith in
    let second : gap ≤ addr - table - length a = omega arith in
    let place : addr - table - length a - gap ≡ addr - start = omega arith in
    get_or-append_right a (replicate gap 0 ++ w) (length a) (addr - table) 0 refl first
    ∙ get_or-append_right (replicate gap 0) w gap (addr - table - length a) 0 (length-replicate gap 0) second
    ∙ ap (slice_index w) place

lt_or_le : (a b : ℕ) → (a < b) ⊎ (b ≤ a)
lt_or_le a b = grind arith

in_first : (a w : List ℕ) (gap k : ℕ) → k < length a + gap → slice_index (a ++ (replicate gap 0 ++ w)) k ≡ slice_index a k
in_first a w gap k lt =
    elim (lt_or_le k (length a)) as (λ _. slice_index (a ++ (replicate gap 0 ++ w)) k ≡ slice_index a k) [
      | inl low ↦ get_or_append_left a (replicate gap 0 ++ w) 0 k low
      | inr le ↦
          let inside : k - length a < gap = omega arith in
          let within : k - length a < length (replicate {A = ℕ} gap 0) = omega (arith, length-replicate {A = ℕ} gap 0) in
          get_or-append_right a (replicate gap 0 ++ w) (length a) k 0 refl le
          ∙ get_or_append_left (replicate gap 0) w 0 (k - length a) within
          ∙ get_or-replicate gap (k - length a) 0 0 inside
          ∙ sym (get_or_past a k 0 le)
    ]

-- three lists one after another, the middle one of zeros
three : (a w : List ℕ) (gap start table addr : ℕ) → start ≡ table + length a + gap → cond (nat_le table addr) (slice_index (a ++ (replicate gap 0 ++ w)) (addr - table)) 0 ≡ cond (nat_le start addr) (slice_index w (addr - start)) (cond (nat_le table addr) (slice_index a (addr - table)) 0)
three a w gap start table addr e =
    let all = slice_index (a ++ (replicate gap 0 ++ w)) (addr - table) in
    let last = slice_index w (addr - start) in
    let first = slice_index a (addr - table) in
    elim (leb_tells start addr) as (λ _. cond (nat_le table addr) all 0 ≡ cond (nat_le start addr) last (cond (nat_le table addr) first 0)) [
      | inl s ↦
          let le = s.1 in
          let low : nat_le table addr ≡ true = grind (arith, nat_tests) in
          chosen (nat_le table addr) all 0 last low (in_last a w gap start table addr e le) ∙ sym (chosen (nat_le start addr) last (cond (nat_le table addr) first 0) last s.0 refl)
      | inr s ↦
          let lt = s.1 in
          elim (leb_tells table addr) as (λ _. cond (nat_le table addr) all 0 ≡ cond (nat_le start addr) last (cond (nat_le table addr) first 0)) [
            | inl t ↦
                let le = t.1 in
                let k : addr - table < length a + gap = omega arith in
                chosen (nat_le table addr) all 0 first t.0 (in_first a w gap (addr - table) k)
                ∙ sym (passed (nat_le start addr) last (cond (nat_le table addr) first 0) first s.0 (chosen (nat_le table addr) first 0 first t.0 refl))
            | inr t ↦
                passed (nat_le table addr) all 0 0 t.0 refl
                ∙ sym (passed (nat_le start addr) last (cond (nat_le table addr) first 0) 0 s.0 (passed (nat_le table addr) first 0 0 t.0 refl))
          ]
    ]

stack_at : (words : List (List ℕ)) (addr : ℕ) → start_size words ≤ 8192 → byte_from (table_start words) (stack_bytes words) addr ≡ stack_byte words addr
stack_at words addr h =
    let size = size_is words in
    let start : words_start words ≡ table_start words + length (address_table (words_start words) words) + words_start words % 4 = omega (arith, length_table (words_start words) words) in
    three (address_table (words_start words) words) (words_bytes words) (words_start words % 4) (words_start words) (table_start words) addr start

pub stack_is : (words : List (List ℕ)) (stack : List ℕ) (table : ℕ) → start_size words ≤ 8192 → stack ≡ stack_bytes words → table ≡ table_start words → byte_from table stack ≡ stack_byte words
stack_is words stack table h s t = ap (λ x. byte_from x stack) t ∙ ap (byte_from (table_start words)) s ∙ fun_ext (λ addr. stack_at words addr h)

-- ---- the entry

some_none : (n : ℕ) → Some n ≡ None → ⊥
some_none n e = cc

some_some : (a b : ℕ) → Some a ≡ Some b → a ≡ b
some_some a b e = cc

not_granted : (o : Option Page) → option_map (λ (p : Page). p.rights) o ≡ None → grants_execute o ≡ false
not_granted None e = refl
not_granted (Some p) e = absurd (some_none p.rights e)

granted : (o : Option Page) (rights : ℕ) → option_map (λ (p : Page). p.rights) o ≡ Some rights → grants_execute o ≡ (bit_and rights 1 == 1)
granted None rights e = absurd (some_none rights (sym e))
granted (Some p) rights e = ap (λ r. bit_and r 1 == 1) (some_some p.rights rights e)

or_true : (a b : Bool) → b ≡ true → (a || b) ≡ true
or_true true b e = refl
or_true false b e = e

zero_test : (n : ℕ) → n ≡ 0 → not (n == 0) ≡ false
zero_test n e = grind (arith, nat_tests)

pub not_mapped : (entry : ℕ) (pages : PageMap) → option_map (λ (p : Page). p.rights) (map.get pages (entry / 4096)) ≡ None → is_bad_entry entry pages ≡ true
not_mapped entry pages e = or_true (not (entry % 4 == 0)) _ (ap not (not_granted (map.get pages (entry / 4096)) e))

pub mapped : (entry rights : ℕ) (pages : PageMap) → option_map (λ (p : Page). p.rights) (map.get pages (entry / 4096)) ≡ Some rights → entry % 4 ≡ 0 → is_bad_entry entry pages ≡ not (bit_and rights 1 == 1)
mapped entry rights pages e m =
    ap (λ b. b || not (grants_execute (map.get pages (entry / 4096)))) (zero_test (entry % 4) m)
    ∙ ap not (granted (map.get pages (entry / 4096)) rights e)

-- ---- the answer

-- no fault was found before
pub loads_on : (r : Result UserState LoadError) (first : Option ℕ) (rest : Option ℕ) (u : UserState) → first ≡ None → Loads r (image_or rest u) → Loads r (image_or (option_or first rest) u)
loads_on r first rest u e h = let P : Option ℕ → Type 0 = λ o. Loads r (image_or (option_or o rest) u) in subst P (sym e) h
