-- Pages with rights, as a map from page numbers. A page has 4,096 bytes, and there are 2 ^ 20 of them in the 2 ^ 32 addresses.
use Rattle.std.specs.Prelude.{ℕ, zero, suc, ◌+◌, ◌*◌, ◌/◌, ◌%◌, ◌^◌, ◌<◌, ◌≤◌, ◌≡◌, IsSome, List, [], ◌∷◌, ◌++◌, Option, Some, None, Result, Ok, Err, ◌==◌, if◌then◌else◌, slice_index, slice_set, bit_and, bit_or, length, replicate, take, drop, refl}
use Rattle.std.specs.Option.{option_map}
use Rattle.std.specs.Coded.{Coded, code_by, coded×, coded_ℕ, coded_list}
use Rattle.std.specs.Ordering.{nat_cmp}
use Rattle.std.specs.FinMap as map

-- 4,096 bytes, and rights as a sum: 4 to read, 2 to write, 1 to execute
pub record Page : Type 0 where
  pub bytes : List ℕ
  pub rights : ℕ

abbrev pub PageMap : Type 0
PageMap = map.FinMap nat_cmp Page

-- ---- reading

-- the byte of a page, where the page is there and has the right
abbrev pub byte_of : ℕ → ℕ → Option Page → Option ℕ
byte_of right offset None = None
byte_of right offset (Some page) = if bit_and page.rights right == right then Some (slice_index page.bytes offset) else None

-- the byte at an address, where it has the right
abbrev pub byte_at : PageMap → ℕ → ℕ → Option ℕ
byte_at pages right addr = byte_of right (addr % 4096) (map.get pages (addr / 4096))

-- a byte in front of those after it, or the address where it lacks its right
abbrev pub with_front : Option ℕ → ℕ → Result (List ℕ) ℕ → Result (List ℕ) ℕ
with_front None addr rest = Err addr
with_front (Some b) addr (Ok bytes) = Ok (b ∷ bytes)
with_front (Some b) addr (Err first) = Err first

-- n bytes from an address on, or the first address without the right, where a function gives the address after each
abbrev pub bytes_along : (ℕ → ℕ) → PageMap → ℕ → ℕ → ℕ → Result (List ℕ) ℕ
bytes_along next pages right addr zero = Ok []
bytes_along next pages right addr (suc n) = with_front (byte_at pages right addr) addr (bytes_along next pages right (next addr) n)

-- n bytes from an address on, modulo 2 ^ 32
abbrev pub bytes_at : PageMap → ℕ → ℕ → ℕ → Result (List ℕ) ℕ
bytes_at = bytes_along (λ addr. (addr + 1) % 2 ^ 32)

-- n bytes from an address on without wrapping: no page lies at 2 ^ 32 or above
abbrev pub flat_at : PageMap → ℕ → ℕ → ℕ → Result (List ℕ) ℕ
flat_at = bytes_along (λ addr. addr + 1)

-- bytes in front of what is read after them
abbrev pub behind : List ℕ → Result (List ℕ) ℕ → Result (List ℕ) ℕ
behind front (Ok bytes) = Ok (front ++ bytes)
behind front (Err addr) = Err addr

-- a number of some bytes, the lowest first
abbrev pub little : List ℕ → ℕ
little [] = 0
little (b ∷ bs) = b + 256 * little bs

abbrev pub number_of : Result (List ℕ) ℕ → Result ℕ ℕ
number_of (Ok bytes) = Ok (little bytes)
number_of (Err addr) = Err addr

-- what a load of so many bytes gives, or the first address without the right
abbrev pub loaded : PageMap → ℕ → ℕ → ℕ → Result ℕ ℕ
loaded pages addr width right = number_of (bytes_at pages right addr width)

-- the first address without the right, modulo 2 ^ 32
abbrev pub refusal : Result (List ℕ) ℕ → Option ℕ
refusal (Ok bytes) = None
refusal (Err addr) = Some (addr % 2 ^ 32)

-- an address of a refusal modulo 2 ^ 32
abbrev pub wrapped : Result (List ℕ) ℕ → Result (List ℕ) ℕ
wrapped (Ok bytes) = Ok bytes
wrapped (Err addr) = Err (addr % 2 ^ 32)

-- what a copy of n bytes out of the pages gives, or the first address without the right to read
abbrev pub copied_out : PageMap → ℕ → ℕ → Result (List ℕ) ℕ
copied_out pages addr n = wrapped (flat_at pages 4 addr n)

-- the byte at an address, whatever the rights
abbrev pub plain_byte : PageMap → ℕ → Option ℕ
plain_byte pages addr = option_map (λ page. slice_index page.bytes (addr % 4096)) (map.get pages (addr / 4096))

-- ---- writing

abbrev pub zero_page : ℕ → Page
zero_page rights = record { bytes = replicate 4096 0; rights = rights }

-- the pages with another one at a number, or with none there
abbrev pub put_page : PageMap → ℕ → Option Page → PageMap
put_page pages n None = map.remove pages n
put_page pages n (Some page) = map.insert pages n page

abbrev pub page_with_byte : ℕ → ℕ → Page → Page
page_with_byte offset b page = record page { bytes = slice_set page.bytes offset b }

-- a list with others in its place from an offset on
abbrev pub with_part : ℕ → List ℕ → List ℕ → List ℕ
with_part offset part bytes = take offset bytes ++ (part ++ drop (offset + length part) bytes)

abbrev pub page_with_part : ℕ → List ℕ → Page → Page
page_with_part offset part page = record page { bytes = with_part offset part page.bytes }

-- a page whose rights are the union with others
abbrev pub page_with_rights : ℕ → Page → Page
page_with_rights rights page = record page { rights = bit_or page.rights rights }

-- one page changed, where it is mapped
abbrev pub changed_page : PageMap → ℕ → (Page → Page) → Option Page → PageMap
changed_page pages n edit None = pages
changed_page pages n edit (Some page) = map.insert pages n (edit page)

-- a byte written, whatever the rights, where its page is mapped
abbrev pub with_byte : PageMap → ℕ → ℕ → PageMap
with_byte pages addr b = changed_page pages (addr / 4096) (page_with_byte (addr % 4096) b) (map.get pages (addr / 4096))

-- bytes written from an address on, modulo 2 ^ 32
abbrev pub with_bytes : PageMap → ℕ → List ℕ → PageMap
with_bytes pages addr [] = pages
with_bytes pages addr (b ∷ bs) = with_bytes (with_byte pages addr b) ((addr + 1) % 2 ^ 32) bs

abbrev pub where_granted : Result (List ℕ) ℕ → PageMap → Result PageMap ℕ
where_granted (Ok _) new = Ok new
where_granted (Err addr) new = Err addr

-- the pages after a store of some bytes, or the first address without the right to write
abbrev pub stored : PageMap → ℕ → List ℕ → Result PageMap ℕ
stored pages addr bytes = where_granted (bytes_at pages 2 addr (length bytes)) (with_bytes pages addr bytes)

-- the pages after a copy of some bytes into them, or the first address without the right to write
abbrev pub copied_in : PageMap → ℕ → List ℕ → Result PageMap ℕ
copied_in pages addr bytes = where_granted (wrapped (flat_at pages 2 addr (length bytes))) (with_bytes pages addr bytes)

-- the low bytes of a number, the lowest first
abbrev pub bytes_1 : ℕ → List ℕ
bytes_1 v = v % 2 ^ 8 ∷ []

abbrev pub bytes_2 : ℕ → List ℕ
bytes_2 v = v % 2 ^ 8 ∷ v / 2 ^ 8 % 2 ^ 8 ∷ []

abbrev pub bytes_4 : ℕ → List ℕ
bytes_4 v = v % 2 ^ 8 ∷ v / 2 ^ 8 % 2 ^ 8 ∷ v / 2 ^ 16 % 2 ^ 8 ∷ v / 2 ^ 24 % 2 ^ 8 ∷ []

-- so many of them, four at most
abbrev pub low_bytes : ℕ → ℕ → List ℕ
low_bytes width v = take width (bytes_4 v)

-- ---- several pages

-- what a step makes of the pages at each of n pages from one on
unfoldable pub on_pages : (PageMap → ℕ → PageMap) → PageMap → ℕ → ℕ → PageMap
on_pages step pages page zero = pages
on_pages step pages page (suc n) = on_pages step (step pages page) (page + 1) n

abbrev pub without_pages : PageMap → ℕ → ℕ → PageMap
without_pages = on_pages map.remove

-- a page of zeros, or the page that is there with more rights
abbrev pub mapped_page : ℕ → Option Page → Page
mapped_page rights None = zero_page rights
mapped_page rights (Some page) = page_with_rights rights page

abbrev pub with_mapped : ℕ → PageMap → ℕ → PageMap
with_mapped rights pages page = map.insert pages page (mapped_page rights (map.get pages page))

abbrev pub with_mapped_pages : ℕ → PageMap → ℕ → ℕ → PageMap
with_mapped_pages rights = on_pages (with_mapped rights)

-- 1 for a page that is there
abbrev pub count_of : Option Page → ℕ
count_of None = 0
count_of (Some page) = 1

-- how many of n pages from one on are mapped
unfoldable pub mapped_count : PageMap → ℕ → ℕ → ℕ
mapped_count pages page zero = 0
mapped_count pages page (suc n) = count_of (map.get pages page) + mapped_count pages (page + 1) n

-- no page from one on is mapped
pub record NoneFrom (pages : PageMap) (from : ℕ) : Type 0 where
  pub none : (q : ℕ) → from ≤ q → map.get pages q ≡ None

-- the least page from one on that is mapped
pub record IsNext (pages : PageMap) (from page : ℕ) : Type 0 where
  pub above : from ≤ page
  pub mapped : IsSome (map.get pages page)
  pub between : (q : ℕ) → from ≤ q → q < page → map.get pages q ≡ None

-- ---- what holds of every set of pages

pub record IsPage (n : ℕ) (page : Page) : Type 0 where
  pub number : n < 2 ^ 20
  pub size : length page.bytes ≡ 4096
  pub rights : page.rights < 8

pub record WellFormed (pages : PageMap) : Type 0 where
  pub each : (n : ℕ) (page : Page) → map.get pages n ≡ Some page → IsPage n page

-- ---- how pages are told apart

abbrev pub coded_page : Coded Page
coded_page = code_by (List ℕ × ℕ) (coded× (coded_list coded_ℕ) coded_ℕ) (λ p. (p.bytes, p.rights)) (λ p. record { bytes = p.0; rights = p.1 }) (λ _. refl)

abbrev pub coded_pages : Coded PageMap
coded_pages = map.code coded_ℕ coded_page
