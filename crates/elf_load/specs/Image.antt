-- The process that an executable file and the words of its line make: an ELF32 file for RISC-V, little endian.
-- System V ABI, 'Object Files', the ELF header and the program header.
use Rattle.std.specs.Prelude.{ℕ, zero, suc, ◌+◌, ◌-◌, ◌*◌, ◌/◌, ◌%◌, ◌^◌, List, [], ◌∷◌, ◌++◌, length, drop, take, Bool, false, not, ◌&&◌, ◌||◌, ◌==◌, nat_le, nat_lt, nat_eq, if◌then◌else◌, slice_index, Option, Some, None, Result, Ok, Err, replicate, slice_set, bit_and, bit_or, max}
use Rattle.std.specs.List.{starts_with, list_any}
use Rattle.std.specs.Option.{option_or}
use Rattle.std.specs.Int.{w32, to_le_bytes}
use Rattle.std.specs.FinMap as map
use Rattle.call_table.specs.declared.limit.TheConstants.{PAGES}
use Rattle.page_set.specs.Pages.{PageMap, Page, little}
use Rattle.user_spec.specs.User.{UserState}
use Rattle.user_spec.specs.Request.{page_above}
use Rattle.elf_load.specs.declared.image.Header.{Header}

-- ---- the fields of the file

-- the number in the n bytes at a place, the lowest byte first
abbrev pub number_at : ℕ → List ℕ → ℕ → ℕ
number_at n file at = little (take n (drop at file))

-- 7F 'E' 'L' 'F', 32 bits, little endian, version 1
abbrev pub magic : List ℕ
magic = 0x7F ∷ 0x45 ∷ 0x4C ∷ 0x46 ∷ 1 ∷ 1 ∷ 1 ∷ []

abbrev pub entry_of : List ℕ → ℕ
entry_of file = number_at 4 file 24

abbrev pub table_at : List ℕ → ℕ
table_at file = number_at 4 file 28

abbrev pub header_count : List ℕ → ℕ
header_count file = number_at 2 file 44

abbrev pub header_at : List ℕ → ℕ → Header
header_at file at = record {
  kind = number_at 4 file at;
  offset = number_at 4 file (at + 4);
  addr = number_at 4 file (at + 8);
  file_size = number_at 4 file (at + 16);
  memory_size = number_at 4 file (at + 20);
  flags = number_at 4 file (at + 24);
}

-- n headers from a place on, in table order
unfoldable pub headers_from : List ℕ → ℕ → ℕ → List Header
headers_from file at zero = []
headers_from file at (suc n) = header_at file at ∷ headers_from file (at + 32) n

abbrev pub headers_of : List ℕ → List Header
headers_of file = headers_from file (table_at file) (header_count file)

-- PT_LOAD is 1, PT_DYNAMIC 2, PT_INTERP 3; a header of another type is passed over
abbrev pub is_load : Header → Bool
is_load h = h.kind == 1

abbrev pub is_dynamic : Header → Bool
is_dynamic h = (h.kind == 2) || (h.kind == 3)

-- a segment with at least one byte
abbrev pub is_segment : Header → Bool
is_segment h = is_load h && nat_lt 0 h.memory_size

-- the address after a segment's last byte
abbrev pub end_of : Header → ℕ
end_of h = h.addr + h.memory_size

-- ---- what the segments place

abbrev pub contains : Header → ℕ → Bool
contains h addr = is_load h && (nat_le h.addr addr && nat_lt addr (end_of h))

-- the pages from that of the first byte to that of the last
abbrev pub touches : Header → ℕ → Bool
touches h page = is_segment h && (nat_le (h.addr / 4096) page && nat_lt page (page_above (end_of h)))

-- the file's byte, or zero past the file's part
abbrev pub segment_byte : List ℕ → Header → ℕ → ℕ
segment_byte file h addr = if nat_lt (addr - h.addr) h.file_size then slice_index file (h.offset + (addr - h.addr)) else 0

-- the byte at an address after the segments are placed in table order over what was there
abbrev pub placed_byte : List ℕ → List Header → ℕ → ℕ → ℕ
placed_byte file [] addr before = before
placed_byte file (h ∷ hs) addr before = placed_byte file hs addr (if contains h addr then segment_byte file h addr else before)

-- the rights of a page after those of the segments that touch it are added: execute 1, write 2, read 4
abbrev pub page_rights : List Header → ℕ → ℕ → ℕ
page_rights [] page rights = rights
page_rights (h ∷ hs) page rights = page_rights hs page (if touches h page then bit_or rights (h.flags % 8) else rights)

-- the greatest end of a segment
abbrev pub greatest_end : List Header → ℕ → ℕ
greatest_end [] most = most
greatest_end (h ∷ hs) most = greatest_end hs (if is_segment h then max most (end_of h) else most)

-- where the heap begins
abbrev pub base_of : List Header → ℕ
base_of headers = page_above (greatest_end headers 0) * 4096

-- ---- the start stack: the words, each with a zero byte behind it, end at 0x80000000; below them stands a table of their addresses

abbrev pub words_bytes : List (List ℕ) → List ℕ
words_bytes [] = []
words_bytes (w ∷ ws) = w ++ 0 ∷ [] ++ words_bytes ws

abbrev pub words_start : List (List ℕ) → ℕ
words_start words = 2 ^ 31 - length (words_bytes words)

-- the addresses of the words from one at an address on, and a zero word
abbrev pub address_table : ℕ → List (List ℕ) → List ℕ
address_table addr [] = to_le_bytes w32 0
address_table addr (w ∷ ws) = to_le_bytes w32 addr ++ address_table (addr + length w + 1) ws

abbrev pub table_start : List (List ℕ) → ℕ
table_start words = words_start words / 4 * 4 - 4 * (length words + 1)

-- zero where neither stands
abbrev pub stack_byte : List (List ℕ) → ℕ → ℕ
stack_byte words addr =
    if nat_le (words_start words) addr then slice_index (words_bytes words) (addr - words_start words) else
    (if nat_le (table_start words) addr then slice_index (address_table (words_start words) words) (addr - table_start words) else 0)

-- the bytes that words and table take: each word's, its zero byte and its address, and the zero word
abbrev pub start_size : List (List ℕ) → ℕ
start_size [] = 4
start_size (w ∷ ws) = length w + 5 + start_size ws

-- ---- the pages: those that a segment touches, and the 16 of the stack, to be read and written

abbrev pub is_stack_page : ℕ → Bool
is_stack_page page = nat_le 0x7FFF0 page && nat_lt page 0x80000

abbrev pub stack_rights : ℕ → ℕ
stack_rights page = if is_stack_page page then 6 else 0

abbrev pub touched : List Header → ℕ → Bool
touched headers page = list_any (λ h. touches h page) headers

abbrev pub is_start_page : List Header → ℕ → Bool
is_start_page headers page = is_stack_page page || touched headers page

-- n values of f from a place on
unfoldable pub tabulated : (ℕ → ℕ) → ℕ → ℕ → List ℕ
tabulated f at zero = []
tabulated f at (suc n) = f at ∷ tabulated f (at + 1) n

-- a page, where a function gives the byte at each address before the segments are placed
abbrev pub start_page : List ℕ → List Header → (ℕ → ℕ) → ℕ → Option Page
start_page file headers before page =
    if is_start_page headers page
    then Some (record { bytes = tabulated (λ addr. placed_byte file headers addr (before addr)) (page * 4096) 4096; rights = page_rights headers page (stack_rights page) })
    else None

-- the map of a function on the numbers below n
abbrev pub with_some_page : PageMap → ℕ → Option Page → PageMap
with_some_page pages n None = pages
with_some_page pages n (Some page) = map.insert pages n page

unfoldable pub pages_below : (ℕ → Option Page) → ℕ → PageMap
pages_below f zero = map.empty
pages_below f (suc n) = with_some_page (pages_below f n) n (f n)

abbrev pub start_pages : List ℕ → List (List ℕ) → PageMap
start_pages file words = pages_below (start_page file (headers_of file) (stack_byte words)) (2 ^ 20)

-- ---- the faults

abbrev pub is_bad_table : List ℕ → Bool
is_bad_table file =
    nat_lt 0 (header_count file) && (not (number_at 2 file 42 == 32) || nat_lt (length file) (table_at file + 32 * header_count file))

abbrev pub is_elf : List ℕ → Bool
is_elf file = starts_with nat_eq file magic && (number_at 4 file 20 == 1)

-- by the type, the machine, the flags and the table of an ELF file
abbrev pub field_fault : List ℕ → Option ℕ
field_fault file =
    if not (number_at 2 file 16 == 2) then Some 3 else
    (if not (number_at 2 file 18 == 243) then Some 4 else
    (if not (number_at 4 file 36 % 16 == 0) then Some 5 else
    (if is_bad_table file then Some 6 else None)))

-- the first of the faults that the file's own header shows
abbrev pub header_fault : List ℕ → Option ℕ
header_fault file =
    if nat_lt (length file) 52 then Some 1 else
    (if not (is_elf file) then Some 2 else field_fault file)

abbrev pub is_out_of_file : List ℕ → Header → Bool
is_out_of_file file h = is_load h && (nat_lt h.memory_size h.file_size || (nat_lt 0 h.file_size && nat_lt (length file) (h.offset + h.file_size)))

-- a segment lies from 0x1000 to 0x70000000
abbrev pub is_out_of_range : Header → Bool
is_out_of_range h = is_segment h && (nat_lt h.addr 0x1000 || nat_lt 0x70000000 (end_of h))

-- the first of the faults that the program headers show
abbrev pub segment_fault : List ℕ → List Header → Option ℕ
segment_fault file headers =
    if list_any is_dynamic headers then Some 7 else
    (if list_any (is_out_of_file file) headers then Some 8 else
    (if list_any is_out_of_range headers then Some 9 else None))

abbrev pub grants_execute : Option Page → Bool
grants_execute None = false
grants_execute (Some page) = bit_and page.rights 1 == 1

abbrev pub is_bad_entry : ℕ → PageMap → Bool
is_bad_entry entry pages = not (entry % 4 == 0) || not (grants_execute (map.get pages (entry / 4096)))

-- the first of the faults that the pages show
abbrev pub page_fault : List ℕ → PageMap → Option ℕ
page_fault file pages =
    if nat_lt PAGES (map.len pages) then Some 10 else
    (if is_bad_entry (entry_of file) pages then Some 11 else None)

-- the first of the eleven that applies
abbrev pub image_fault : List ℕ → List (List ℕ) → Option ℕ
image_fault file words =
    option_or (header_fault file) (option_or (segment_fault file (headers_of file)) (page_fault file (start_pages file words)))

-- ---- the start

abbrev pub start_registers : List (List ℕ) → List ℕ
start_registers words = slice_set (slice_set (slice_set (replicate 31 0) 1 (table_start words / 16 * 16)) 9 (length words)) 10 (table_start words)

abbrev pub start_user : List ℕ → List (List ℕ) → UserState
start_user file words = record {
  pc = entry_of file;
  registers = start_registers words;
  pages = start_pages file words;
  base = base_of (headers_of file);
  brk = base_of (headers_of file);
  pid = 0;
  count = 0;
}

abbrev pub image_or : Option ℕ → UserState → Result UserState ℕ
image_or None u = Ok u
image_or (Some fault) u = Err fault

-- a process, or the number of the first fault
abbrev pub image_of : List ℕ → List (List ℕ) → Result UserState ℕ
image_of file words = image_or (image_fault file words) (start_user file words)
