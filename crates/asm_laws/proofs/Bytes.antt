-- The byte that the file's one segment places at an address is that of the text.
use Rattle.std.proofs.Common.{◌≡◌, inl, inr, ℕ, zero, suc, ◌+◌, ◌-◌, ◌<◌, ◌≤◌, List, [], ◌∷◌, ◌++◌, length, refl, ap, sym, ◌∙◌, arith, true, false, cond, nat_lt, nat_le, slice_index}
use Rattle.std.proofs.lemmas.Bool.{cases_lt}
use Rattle.std.proofs.lemmas.Bool.Decides.{nat_tests}
use Rattle.std.proofs.lemmas.List.{get_or-append_right, get_or_past}
use Rattle.elf_load.specs.Image.{tabulated, contains, segment_byte, placed_byte, words_bytes, words_start, address_table, table_start, stack_byte, start_size}
use Rattle.rv_asm.specs.File.{elf_header, program_header, file_of}
use Rattle.elf_load.proofs.Stacks.{size_is}
use Rattle.asm_laws.specs.Loaded.{text_byte}
use Rattle.asm_laws.proofs.Fields.{sized}

-- ---- the same bytes at each place

tabulated_none : (f g : ℕ → ℕ) (at : ℕ) → tabulated f at 0 ≡ tabulated g at 0
unfolding tabulated
tabulated_none f g at = refl

tabulated_suc : (f : ℕ → ℕ) (at n : ℕ) → tabulated f at (suc n) ≡ f at ∷ tabulated f (at + 1) n
unfolding tabulated
tabulated_suc f at n = refl

pub tabulated_same : (f g : ℕ → ℕ) (at n : ℕ) → ((k : ℕ) → k < n → f (at + k) ≡ g (at + k)) → tabulated f at n ≡ tabulated g at n
tabulated_same f g at zero h = tabulated_none f g at
tabulated_same f g at (suc n) h =
    let here : at + 0 ≡ at = omega arith in
    let first : f at ≡ g at = ap f (sym here) ∙ h 0 (omega arith) ∙ ap g here in
    tabulated_suc f at n ∙ ap (λ b. b ∷ tabulated f (at + 1) n) first
    ∙ ap (λ bs. g at ∷ bs) (tabulated_same f g (at + 1) n (λ k lt. let place : (at + 1) + k ≡ at + suc k = omega arith in ap f place ∙ h (suc k) (omega arith) ∙ ap g (sym place)))
    ∙ sym (tabulated_suc g at n)

-- ---- the words on the stack lie far above

not_yet : (low addr : ℕ) → addr < low → nat_le low addr ≡ false
not_yet low addr h = grind (arith, nat_tests)

pub stack_is_far : (words : List (List ℕ)) (addr : ℕ) → start_size words ≤ 8192 → addr < 0x7FFF0000 → stack_byte words addr ≡ 0
stack_is_far words addr h lt =
    let size = size_is words in
    let above_words : addr < words_start words = omega arith in
    let above_table : addr < table_start words = omega arith in
    let inner = cond (nat_le (table_start words) addr) (slice_index (address_table (words_start words) words) (addr - table_start words)) 0 in
    ap (λ b. cond b (slice_index (words_bytes words) (addr - words_start words)) inner) (not_yet (words_start words) addr above_words)
    ∙ ap (λ b. cond b (slice_index (address_table (words_start words) words) (addr - table_start words)) 0) (not_yet (table_start words) addr above_table)

-- ---- the segment

-- a byte behind the headers
behind_headers : (bytes : List ℕ) (bss k : ℕ) → slice_index (file_of bytes bss) (84 + k) ≡ slice_index bytes k
behind_headers bytes bss k =
    let front = elf_header ++ program_header (length bytes) (length bytes + bss) in
    let least : 84 ≤ 84 + k = omega arith in
    let place : 84 + k - 84 ≡ k = omega arith in
    get_or-append_right front bytes 84 (84 + k) 0 refl least ∙ ap (slice_index bytes) place

is_below : (a b : ℕ) → a < b → nat_lt a b ≡ true
is_below a b h = grind (arith, nat_tests)

not_below : (a b : ℕ) → b ≤ a → nat_lt a b ≡ false
not_below a b h = grind (arith, nat_tests)

-- the file's byte, or zero
pub segment_is : (bytes : List ℕ) (bss memory addr : ℕ) → segment_byte (file_of bytes bss) (sized (length bytes) memory) addr ≡ text_byte bytes addr
segment_is bytes bss memory addr =
    let k = addr - 0x10000 in
    elim (cases_lt k (length bytes)) as (λ _. cond (nat_lt k (length bytes)) (slice_index (file_of bytes bss) (84 + k)) 0 ≡ slice_index bytes k) [
      | inl lt ↦ ap (λ b. cond b (slice_index (file_of bytes bss) (84 + k)) 0) (is_below k (length bytes) lt) ∙ behind_headers bytes bss k
      | inr le ↦ ap (λ b. cond b (slice_index (file_of bytes bss) (84 + k)) 0) (not_below k (length bytes) le) ∙ sym (get_or_past bytes k 0 le)
    ]

inside : (f m addr : ℕ) → 0x10000 ≤ addr → addr < 0x10000 + m → contains (sized f m) addr ≡ true
inside f m addr low high = grind (arith, nat_tests)

pub outside : (f m addr : ℕ) → 0x10000 + m ≤ addr → contains (sized f m) addr ≡ false
outside f m addr h = grind (arith, nat_tests)

pub placed_inside : (bytes : List ℕ) (bss addr before : ℕ) → 0x10000 ≤ addr → addr < 0x10000 + (length bytes + bss) → placed_byte (file_of bytes bss) (sized (length bytes) (length bytes + bss) ∷ []) addr before ≡ text_byte bytes addr
placed_inside bytes bss addr before low high =
    let memory = length bytes + bss in
    ap (λ b. cond b (segment_byte (file_of bytes bss) (sized (length bytes) memory) addr) before) (inside (length bytes) memory addr low high)
    ∙ segment_is bytes bss memory addr

pub placed_outside : (file : List ℕ) (f m addr before : ℕ) → 0x10000 + m ≤ addr → placed_byte file (sized f m ∷ []) addr before ≡ before
placed_outside file f m addr before h = ap (λ b. cond b (segment_byte file (sized f m) addr) before) (outside f m addr h)

-- on a page of the text, what stood there before is zero
pub placed_is : (bytes : List ℕ) (bss addr before : ℕ) → 0x10000 ≤ addr → before ≡ 0 → placed_byte (file_of bytes bss) (sized (length bytes) (length bytes + bss) ∷ []) addr before ≡ text_byte bytes addr
placed_is bytes bss addr before low none =
    let memory = length bytes + bss in
    let file = file_of bytes bss in
    elim (cases_lt addr (0x10000 + memory)) as (λ _. placed_byte file (sized (length bytes) memory ∷ []) addr before ≡ text_byte bytes addr) [
      | inl lt ↦ placed_inside bytes bss addr before low lt
      | inr le ↦
          let past : length bytes ≤ addr - 0x10000 = omega arith in
          placed_outside file (length bytes) memory addr before le ∙ none ∙ sym (get_or_past bytes (addr - 0x10000) 0 past)
    ]
