-- The pages of the heap, by their numbers.
use Rattle.std.specs.Prelude.{ℕ, zero, suc, ◌+◌, ◌-◌, ◌/◌, ◌%◌, ◌<◌, ◌≤◌, ◌≡◌, Bool, true, false, if◌then◌else◌, is_some, Option, Some, None, ◌==◌, bit_and}
use Rattle.std.specs.Option.{option_map}
use Rattle.std.specs.FinMap as map
use Rattle.page_set.specs.Pages.{PageMap, zero_page}
use Rattle.user_spec.specs.User.{UserState}
use Rattle.user_spec.specs.Request.{page_above, without_pages, with_heap_pages}

-- how many of n pages from a page on are mapped
abbrev pub one_if_mapped : PageMap → ℕ → ℕ
one_if_mapped pages page = if is_some (map.get pages page) then 1 else 0

unfoldable pub mapped_in : PageMap → ℕ → ℕ → ℕ
mapped_in pages page zero = 0
mapped_in pages page (suc n) = one_if_mapped pages page + mapped_in pages (page + 1) n

-- the lacking ones of n pages from a page on are mapped
abbrev pub with_zeros : PageMap → ℕ → PageMap
with_zeros pages page = if is_some (map.get pages page) then pages else map.insert pages page (zero_page 6)

unfoldable pub with_lacking : PageMap → ℕ → ℕ → PageMap
with_lacking pages page zero = pages
with_lacking pages page (suc n) = with_lacking (with_zeros pages page) (page + 1) n

-- the pages after a break: those from the first of the heap up to its end
abbrev pub broken : PageMap → ℕ → ℕ → PageMap
broken pages first end = with_heap_pages (without_pages pages end (0x70000 - end)) first (end - first)

-- the process with the pages that a break wants
abbrev pub mapped_for : UserState → ℕ → UserState
mapped_for u a = record u { pages = with_lacking u.pages (u.base / 4096) (page_above a - u.base / 4096) }

-- ---- what is known of them

-- the rights of a page, none where it is not mapped
abbrev pub rights_at : PageMap → ℕ → Option ℕ
rights_at pages page = option_map (λ p. p.rights) (map.get pages page)

-- mapped to be read and written
abbrev pub is_heap_page : Option ℕ → Bool
is_heap_page None = false
is_heap_page (Some rights) = bit_and rights 6 == 6

-- the pages of the heap below a number are mapped, and from another one on none is
pub record IsHeap (base brk full bare : ℕ) (pages : PageMap) : Type 0 where
  pub aligned : base % 4096 ≡ 0
  pub low : base ≤ brk
  pub high : brk ≤ 0x70000000
  pub first : base / 4096 ≤ full
  pub full_most : full ≤ 0x70000
  pub bare_most : bare ≤ 0x70000
  pub mapped : (page : ℕ) → base / 4096 ≤ page → page < full → is_heap_page (rights_at pages page) ≡ true
  pub free : (page : ℕ) → bare ≤ page → page < 0x70000 → rights_at pages page ≡ None
