-- What the headers of a file tell.
use Rattle.std.proofs.Common.{◌≡◌, ℕ, ◌+◌, ◌^◌, ◌<◌, ◌≤◌, List, [], ◌∷◌, length, refl, ap, ◌∙◌, arith, None, false, nat_lt}
use Rattle.std.proofs.lemmas.Bool.Decides.{nat_tests}
use Rattle.page_set.specs.Pages.{little}
use Rattle.elf_load.specs.Image.{entry_of, headers_from, headers_of, is_out_of_file, is_out_of_range, header_fault, segment_fault}
use Rattle.elf_load.specs.declared.image.Header.{Header}
use Rattle.rv_asm.specs.File.{word, file_of}

little_word : (n : ℕ) → n < 2 ^ 32 → little (word n) ≡ n
little_word n h = omega arith

-- the one program header
abbrev pub sized : ℕ → ℕ → Header
sized file memory = record { kind = 1; offset = 84; addr = 0x10000; file_size = file; memory_size = memory; flags = 7 }

pub file_long : (bytes : List ℕ) (bss : ℕ) → length (file_of bytes bss) ≡ 84 + length bytes
file_long bytes bss = omega arith

pub entry_is : (bytes : List ℕ) (bss : ℕ) → entry_of (file_of bytes bss) ≡ 0x10000
entry_is bytes bss = refl

two_sizes : (f m g n : ℕ) → f ≡ g → m ≡ n → sized f m ∷ [] ≡ sized g n ∷ []
two_sizes f m g n d e = ap (λ x. sized x m ∷ []) d ∙ ap (λ x. sized g x ∷ []) e

written_headers : (bytes : List ℕ) (bss : ℕ) → headers_of (file_of bytes bss) ≡ sized (little (word (length bytes))) (little (word (length bytes + bss))) ∷ []
unfolding headers_from
written_headers bytes bss = refl

pub headers_are : (bytes : List ℕ) (bss : ℕ) → length bytes + bss < 2 ^ 32 → headers_of (file_of bytes bss) ≡ sized (length bytes) (length bytes + bss) ∷ []
headers_are bytes bss h =
    let low : length bytes < 2 ^ 32 = omega arith in
    written_headers bytes bss ∙ two_sizes _ _ _ _ (little_word (length bytes) low) (little_word (length bytes + bss) h)

not_short : (n least : ℕ) → least ≤ n → nat_lt n least ≡ false
not_short n least h = grind (arith, nat_tests)

pub no_header_fault : (bytes : List ℕ) (bss : ℕ) → header_fault (file_of bytes bss) ≡ None
no_header_fault bytes bss =
    let long = file_long bytes bss in
    let header : nat_lt (length (file_of bytes bss)) 52 ≡ false = not_short (length (file_of bytes bss)) 52 (omega arith) in
    let table : nat_lt (length (file_of bytes bss)) 84 ≡ false = not_short (length (file_of bytes bss)) 84 (omega arith) in
    rw (header, table) refl

in_file : (file : List ℕ) (f m : ℕ) → f ≤ m → 84 + f ≤ length file → is_out_of_file file (sized f m) ≡ false
in_file file f m le long = grind (arith, nat_tests)

in_range : (f m : ℕ) → 0x10000 + m ≤ 0x70000000 → is_out_of_range (sized f m) ≡ false
in_range f m h = grind (arith, nat_tests)

pub no_segment_fault : (file : List ℕ) (f m : ℕ) → f ≤ m → 84 + f ≤ length file → 0x10000 + m ≤ 0x70000000 → segment_fault file (sized f m ∷ []) ≡ None
no_segment_fault file f m le long h =
    let out = in_file file f m le long in
    let far = in_range f m h in
    rw (out, far) refl
