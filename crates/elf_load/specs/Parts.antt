-- The parts that the loader works with.
use Rattle.std.specs.Prelude.{ℕ, ◌+◌, ◌-◌, ◌*◌, ◌<◌, ◌≤◌, ◌≡◌, ◌⊎◌, ◌%◌, ◌^◌, List, ◌++◌, length, drop, Bool, true, nat_le, nat_lt, ◌==◌, ◌&&◌, if◌then◌else◌, slice_index, replicate, Option, None}
use Rattle.std.specs.FinMap as map
use Rattle.call_table.specs.declared.limit.TheConstants.{PAGES}
use Rattle.page_set.specs.Pages.{PageMap, Page}
use Rattle.elf_load.specs.Image.{is_load, end_of, placed_byte, words_start, address_table, words_bytes, pages_below}
use Rattle.elf_load.specs.declared.image.Header.{Header}
use Rattle.elf_load.specs.declared.fault.ImageFault.TheVariants.{TooManyPages}
use Rattle.elf_load.specs.declared.fault.LoadError.{LoadError}
use Rattle.elf_load.specs.declared.fault.LoadError.TheVariants.{Image, NoMemory}

-- the byte at an address, where bytes stand from a place on
abbrev pub byte_from : ℕ → List ℕ → ℕ → ℕ
byte_from start bytes addr = if nat_le start addr then slice_index bytes (addr - start) else 0

-- the start stack from its table on: the table, zeros up to the words, the words
abbrev pub stack_bytes : List (List ℕ) → List ℕ
stack_bytes words = address_table (words_start words) words ++ (replicate (words_start words % 4) 0 ++ words_bytes words)

-- the byte at k after bytes were written from a place on, zeros behind them up to the end
abbrev pub after_write : List ℕ → ℕ → ℕ → List ℕ → ℕ → ℕ
after_write old at end bytes k = if nat_le at k && nat_lt k end then slice_index bytes (k - at) else slice_index old k

-- no segment before one shows on a page
pub record IsSeenFrom (headers : List Header) (page first : ℕ) : Type 0 where
  pub within : first ≤ length headers
  pub same : (file : List ℕ) (k b : ℕ) → k < 4096 → placed_byte file (drop first headers) (page * 4096 + k) b ≡ placed_byte file headers (page * 4096 + k) b

abbrev pub covers : Header → ℕ → Bool
covers h page = is_load h && (nat_le h.addr (page * 4096) && nat_le (page * 4096 + 4096) (end_of h))

-- ---- which pages are mapped

abbrev pub from_to : ℕ → ℕ → ℕ → Bool
from_to first end page = nat_le first page && nat_lt page end

abbrev pub is_page : ℕ → ℕ → Bool
is_page page q = q == page

-- pages that are those of a function, where they are mapped, and no more than a process may have
pub record IsPart (f : ℕ → Option Page) (pages : PageMap) : Type 0 where
  pub each : (q : ℕ) → (map.get pages q ≡ None) ⊎ ((q < 2 ^ 20) × (map.get pages q ≡ f q))
  pub few : map.len pages ≤ PAGES

-- the pages of a test were mapped, and those that stood there stay
pub record Added (f : ℕ → Option Page) (test : ℕ → Bool) (old new : PageMap) : Type 0 where
  pub part : IsPart f new
  pub done : (q : ℕ) → test q ≡ true → map.get new q ≡ f q
  pub kept : (q : ℕ) → map.get old q ≡ f q → map.get new q ≡ f q

-- too many pages, or want of memory
abbrev pub IsFull : (ℕ → Option Page) → LoadError → Type 0
IsFull f (Image fault) = (fault ≡ TooManyPages) × (PAGES < map.len (pages_below f (2 ^ 20)))
IsFull f NoMemory = Unit {0}

-- all pages of a function, and no more than a process may have
pub record IsWhole (f : ℕ → Option Page) (pages : PageMap) : Type 0 where
  pub whole : pages ≡ pages_below f (2 ^ 20)
  pub few : map.len pages ≤ PAGES
