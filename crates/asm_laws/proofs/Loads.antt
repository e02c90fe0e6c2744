-- A file loads to the state of its text.
use Rattle.std.proofs.Common.{◌≡◌, inl, inr, ℕ, ◌+◌, ◌*◌, ◌^◌, ◌<◌, ◌≤◌, List, [], ◌∷◌, length, refl, ap, sym, ◌∙◌, arith, Bool, true, false, cond, not, eqb, nat_lt, Option, Some, None, Result, Ok, Err, map, max}
use Rattle.std.specs.List.{slice_split}
use Rattle.std.specs.Option.{option_or}
use Rattle.std.specs.FinMap as maps
use Rattle.std.proofs.lemmas.Bool.Decides.{nat_tests, eqb_tells}
use Rattle.call_table.specs.declared.limit.TheConstants.{PAGES}
use Rattle.page_set.specs.Pages.{Page, PageMap}
use Rattle.user_spec.specs.User.{UserState}
use Rattle.user_spec.specs.Request.{page_above}
use Rattle.elf_load.specs.declared.image.Header.{Header}
use Rattle.elf_load.specs.Image.{entry_of, headers_of, base_of, tabulated, start_page, stack_byte, start_size, start_registers, start_pages, pages_below, grants_execute, is_bad_entry, segment_fault, header_fault, start_user, image_or, image_of}
use Rattle.rv_asm.specs.File.{file_of}
use Rattle.rv_asm.specs.Layout.{start, defined_from}
use Rattle.rv_asm.specs.Lines.{line_of, lines_of}
use Rattle.rv_asm.specs.Assembly.{bss_of_all, in_file, assembled_lines, assembled, text_limit}
use Rattle.rv_asm.specs.declared.fault.Fault.{Fault}
use Rattle.elf_load.proofs.Maps.{get_below}
use Rattle.asm_laws.specs.Loaded.{bytes_of, text_byte, is_text_page, text_page, text_image, started, started_lines, LoadsAs}
use Rattle.asm_laws.proofs.Sizes.{ends_within}
use Rattle.asm_laws.proofs.Fields.{sized, file_long, entry_is, headers_are, no_header_fault, no_segment_fault}
use Rattle.asm_laws.proofs.Pages.{page_is, below_same, few_pages}

-- ---- the entry

-- the first page, where there is one
first_page : (size : ℕ) → (is_text_page size 16 ≡ not (eqb size 0))
first_page size =
    elim (eqb_tells size 0) as (λ _. is_text_page size 16 ≡ not (eqb size 0)) [
      | inl none ↦ grind (arith, nat_tests)
      | inr some ↦ grind (arith, nat_tests)
    ]

granted : (none : Bool) (p : Page) → p.rights ≡ 7 → grants_execute (cond (not none) (Some p) None) ≡ not none
granted true p h = refl
granted false p h = rw h refl

twice : (b : Bool) → not (not b) ≡ b
twice true = refl
twice false = refl

bad_entry : (bytes : List ℕ) (size : ℕ) (words : List (List ℕ)) → is_bad_entry 0x10000 (pages_below (text_page bytes size words) (2 ^ 20)) ≡ eqb size 0
bad_entry bytes size words =
    let page : Page = record { bytes = tabulated (text_byte bytes) 0x10000 4096; rights = 7 } in
    ap (λ o. not (grants_execute o)) (get_below (text_page bytes size words) (2 ^ 20) 16 (omega arith))
    ∙ ap (λ b. not (grants_execute (cond b (Some page) None))) (first_page size)
    ∙ ap not (granted (eqb size 0) page refl)
    ∙ twice (eqb size 0)

-- ---- the parts of an image

abbrev of_parts : Option ℕ → Option ℕ → ℕ → Bool → UserState → Result UserState ℕ
of_parts header segment len bad u = image_or (option_or header (option_or segment (cond (nat_lt PAGES len) (Some 10) (cond bad (Some 11) None)))) u

not_many : (len : ℕ) → len ≤ PAGES → nat_lt PAGES len ≡ false
not_many len h = grind (arith, nat_tests)

by_size : (none : Bool) (u v : UserState) → (none ≡ false → u ≡ v) → image_or (cond none (Some 11) None) u ≡ cond none (Err 11) (Ok v)
by_size true u v h = refl
by_size false u v h = ap Ok (h refl)

parts_load : (header segment : Option ℕ) (len : ℕ) (bad none : Bool) (u v : UserState) → header ≡ None → segment ≡ None → len ≤ PAGES → bad ≡ none → (none ≡ false → u ≡ v) → of_parts header segment len bad u ≡ cond none (Err 11) (Ok v)
parts_load header segment len bad none u v h s few b same =
    ap (λ o. of_parts o segment len bad u) h
    ∙ ap (λ o. of_parts None o len bad u) s
    ∙ ap (λ t. image_or (cond t (Some 10) (cond bad (Some 11) None)) u) (not_many len few)
    ∙ ap (λ t. image_or (cond t (Some 11) None) u) b
    ∙ by_size none u v same

-- a process before its first step
abbrev fresh : ℕ → List (List ℕ) → PageMap → ℕ → UserState
fresh pc words pages base = record { pc = pc; registers = start_registers words; pages = pages; base = base; brk = base; pid = 0; count = 0 }

module _ (file : List ℕ) (words : List (List ℕ)) (h : Header) (g : ℕ → Option Page) (none : Bool) (base : ℕ) where
  abbrev pages : PageMap
  pages = pages_below g (2 ^ 20)

  loads : header_fault file ≡ None → headers_of file ≡ h ∷ [] → segment_fault file (h ∷ []) ≡ None → entry_of file ≡ 0x10000 → ((q : ℕ) → start_page file (h ∷ []) (stack_byte words) q ≡ g q) → maps.len pages ≤ PAGES → is_bad_entry 0x10000 pages ≡ none → (none ≡ false → base_of (h ∷ []) ≡ base) → image_of file words ≡ cond none (Err 11) (Ok (fresh 0x10000 words pages base))
  loads no_header headers no_segment entry each few bad based =
      let mapped : start_pages file words ≡ pages =
      ap (λ hs. pages_below (start_page file hs (stack_byte words)) (2 ^ 20)) headers ∙ below_same (start_page file (h ∷ []) (stack_byte words)) g (2 ^ 20) each in
      parts_load (header_fault file) (segment_fault file (headers_of file)) (maps.len (start_pages file words)) (is_bad_entry (entry_of file) (start_pages file words)) none (start_user file words) (fresh 0x10000 words pages base)
      no_header
      (ap (segment_fault file) headers ∙ no_segment)
      (omega (arith, few, ap maps.len mapped))
      (ap (λ e. is_bad_entry e (start_pages file words)) entry ∙ ap (is_bad_entry 0x10000) mapped ∙ bad)
      (λ some.
      ap (λ e. fresh e words (start_pages file words) (base_of (headers_of file))) entry
      ∙ ap (λ m. fresh 0x10000 words m (base_of (headers_of file))) mapped
      ∙ ap (λ b. fresh 0x10000 words pages b) (ap base_of headers ∙ based some))

-- ---- a file

positive : (m : ℕ) → eqb m 0 ≡ false → nat_lt 0 m ≡ true
positive m e = grind (arith, nat_tests)

base_is : (f m : ℕ) → eqb m 0 ≡ false → base_of (sized f m ∷ []) ≡ page_above (0x10000 + m) * 4096
base_is f m e =
    let most : max 0 (0x10000 + m) ≡ 0x10000 + m = omega arith in
    ap (λ b. page_above (cond b (max 0 (0x10000 + m)) 0) * 4096) (positive m e) ∙ ap (λ n. page_above n * 4096) most

file_loads : (bytes : List ℕ) (bss : ℕ) (words : List (List ℕ)) → length bytes + bss ≤ 1008 * 4096 → start_size words ≤ 8192 → image_of (file_of bytes bss) words ≡ text_image bytes (length bytes + bss) words
file_loads bytes bss words fits few =
    let size = length bytes + bss in
    let small : size < 2 ^ 32 = omega arith in
    let less : length bytes ≤ size = omega arith in
    let long : 84 + length bytes ≤ length (file_of bytes bss) = omega (arith, file_long bytes bss) in
    let end : 0x10000 + size ≤ 0x70000000 = omega arith in
    loads (file_of bytes bss) words (sized (length bytes) size) (text_page bytes size words) (eqb size 0) (page_above (0x10000 + size) * 4096)
    (no_header_fault bytes bss) (headers_are bytes bss small) (no_segment_fault (file_of bytes bss) (length bytes) size less long end) (entry_is bytes bss)
    (page_is bytes bss words fits few) (few_pages bytes size words fits) (bad_entry bytes size words) (base_is (length bytes) size)

-- ---- a text

abbrev refused : Fault → Result (List ℕ) Fault
refused f = Err f

no_file : (f : Fault) (file : List ℕ) → refused f ≡ Ok file → ⊥
no_file f file e = cc

not_too_long : (long : Bool) (f : Fault) (r : Result (List ℕ) Fault) (file : List ℕ) → cond long (Err f) r ≡ Ok file → r ≡ Ok file
not_too_long true f r file e = absurd (no_file f file e)
not_too_long false f r file e = e

-- the bytes of a file
record Holds (bss : ℕ) (r : Result (List ℕ) Fault) (file : List ℕ) : Type 0 where
  bytes : List ℕ
  bytes_are : r ≡ Ok bytes
  file_is : file ≡ file_of bytes bss

bytes_in : (bss : ℕ) (r : Result (List ℕ) Fault) (file : List ℕ) → in_file bss r ≡ Ok file → Holds bss r file
bytes_in bss (Err f) file e = absurd (no_file f file e)
bytes_in bss (Ok bytes) file e = record { bytes = bytes; bytes_are = refl; file_is = cc }

lines_load : (pieces : List (List ℕ)) (file : List ℕ) (words : List (List ℕ)) → start_size words ≤ 8192 → assembled_lines (map line_of pieces) ≡ Ok file → image_of file words ≡ started_lines (map line_of pieces) words
lines_load pieces file words few e =
    let lines = map line_of pieces in
    let bss = bss_of_all lines in
    let p = bytes_in bss (bytes_of lines) file e in
    let end = ends_within (defined_from 1 start lines) 1 start pieces p.bytes (omega arith) p.bytes_are in
    let fits : length p.bytes + bss ≤ 1008 * 4096 = omega arith in
    ap (λ f. image_of f words) p.file_is ∙ file_loads p.bytes bss words fits few ∙ sym (ap (λ r. started bss r words) p.bytes_are)

pub text_loads : (text file : List ℕ) → assembled text ≡ Ok file → LoadsAs text file
text_loads text file e words few =
    lines_load (slice_split (λ b. eqb b 10) text) file words few (not_too_long (nat_lt text_limit (length text)) _ (assembled_lines (lines_of text)) file e)
