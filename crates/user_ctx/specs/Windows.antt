-- Pages whose words are made ready, and which words a store leaves as they were.
use Rattle.std.specs.Prelude.{ℕ, ◌+◌, ◌*◌, ◌/◌, ◌%◌, ◌^◌, ◌<◌, ◌≤◌, ◌≡◌, ◌≢◌, List, length, Option, Some, None}
use Rattle.std.specs.List.{slice_get}
use Rattle.page_set.specs.Pages.{PageMap, loaded}
use Rattle.user_ctx.specs.declared.op.Op.{Op}
use Rattle.user_ctx.specs.declared.op.Op.TheVariants.{Unknown}
use Rattle.user_ctx.specs.declared.window.Window.{Window}
use Rattle.user_ctx.specs.declared.windows.Windows.{Windows}
use Rattle.user_ctx.specs.Ops.{IsOp}

-- the address of the word that an address lies in
abbrev pub word_of : ℕ → ℕ
word_of addr = addr / 4 * 4

-- ---- which words are the same

-- the words from an address on up to another one are as they were
pub record SameWords (low end : ℕ) (old new : PageMap) : Type 0 where
  pub each : (at : ℕ) → at % 4 ≡ 0 → low ≤ at → at < end → loaded new at 4 1 ≡ loaded old at 4 1

-- so are those that four bytes from an address on do not touch
pub record SameBut (addr low end : ℕ) (old new : PageMap) : Type 0 where
  pub each : (at : ℕ) → at % 4 ≡ 0 → low ≤ at → at < end → at ≢ word_of addr → at ≢ word_of ((addr + 3) % 2 ^ 32) → loaded new at 4 1 ≡ loaded old at 4 1

-- what an instruction left, which stored at an address or nowhere
abbrev pub Stored : Option ℕ → PageMap → PageMap → Type 0
Stored None old new = new ≡ old
Stored (Some addr) old new = SameBut addr 0 (2 ^ 32) old new

-- four bytes from an address on touch no word from one on up to another
pub record IsClear (addr low end : ℕ) : Type 0 where
  pub range : addr < 2 ^ 32
  pub each : (at : ℕ) → low ≤ at → at < end → at % 4 ≡ 0 → (at ≢ word_of addr) × (at ≢ word_of ((addr + 3) % 2 ^ 32))

-- ---- a page

-- the words of the page from an address on are as its operations say, and nothing is ready behind them
pub record IsWindow (pages : PageMap) (base : ℕ) (ops : List Op) : Type 0 where
  pub aligned : base % 4096 ≡ 0
  pub range : base + 4096 < 2 ^ 32
  pub long : length ops ≡ 1025
  pub last : slice_get ops 1024 ≡ Some Unknown
  pub each : (i : ℕ) (op : Op) → i < 1024 → slice_get ops i ≡ Some op → IsOp pages (base + 4 * i) op

-- so are those that four bytes from an address on do not touch
pub record IsWindowBut (addr : ℕ) (pages : PageMap) (base : ℕ) (ops : List Op) : Type 0 where
  pub aligned : base % 4096 ≡ 0
  pub range : base + 4096 < 2 ^ 32
  pub long : length ops ≡ 1025
  pub last : slice_get ops 1024 ≡ Some Unknown
  pub each : (i : ℕ) (op : Op) → i < 1024 → slice_get ops i ≡ Some op → base + 4 * i ≢ word_of addr → base + 4 * i ≢ word_of ((addr + 3) % 2 ^ 32) → IsOp pages (base + 4 * i) op

-- operations of which one word is not ready
pub record Forgets (word base : ℕ) (old new : List Op) : Type 0 where
  pub long : length new ≡ length old
  pub last : slice_get new 1024 ≡ slice_get old 1024
  pub each : (pages : PageMap) (i : ℕ) (op : Op) → i < 1024 → slice_get new i ≡ Some op → (base + 4 * i ≢ word → slice_get old i ≡ Some op) × (base + 4 * i ≡ word → IsOp pages (base + 4 * i) op)

-- a page among these
pub record IsOneOf (window : Window) (slots : List Window) : Type 0 where
  pub slot : ℕ
  pub there : slice_get slots slot ≡ Some window

-- ---- several pages, which lie from an address on up to another one

pub record IsWatched (pages : PageMap) (low end : ℕ) (window : Window) : Type 0 where
  pub page : IsWindow pages window.base window.ops
  pub above : low ≤ window.base
  pub below : window.base + 4096 ≤ end

pub record IsWatchedBut (addr : ℕ) (pages : PageMap) (low end : ℕ) (window : Window) : Type 0 where
  pub page : IsWindowBut addr pages window.base window.ops
  pub above : low ≤ window.base
  pub below : window.base + 4096 ≤ end

pub record IsReady (pages : PageMap) (low end : ℕ) (slots : List Window) : Type 0 where
  pub each : (s : ℕ) (w : Window) → slice_get slots s ≡ Some w → IsWatched pages low end w

pub record IsReadyBut (addr : ℕ) (pages : PageMap) (low end : ℕ) (slots : List Window) : Type 0 where
  pub each : (s : ℕ) (w : Window) → slice_get slots s ≡ Some w → IsWatchedBut addr pages low end w

-- the pages that are ready, and where they lie
pub record AreReady (pages : PageMap) (windows : Windows) : Type 0 where
  pub ready : IsReady pages windows.low windows.end windows.slots
  pub end : windows.end < 0xFFFFF001
  pub next : windows.next < 4
