-- The process that a text starts: its bytes stand from 0x10000 on, and zeros behind them.
use Rattle.std.specs.Prelude.{◌≡◌, ◌≤◌, ℕ, ◌+◌, ◌-◌, ◌*◌, ◌^◌, List, length, slice_index, Bool, ◌&&◌, ◌==◌, nat_le, nat_lt, if◌then◌else◌, Option, Some, None, Result, Ok, Err}
use Rattle.page_set.specs.Pages.{Page}
use Rattle.user_spec.specs.User.{UserState}
use Rattle.user_spec.specs.Request.{page_above}
use Rattle.elf_load.specs.Image.{tabulated, pages_below, is_stack_page, stack_byte, start_registers, start_size, image_of}
use Rattle.rv_asm.specs.Layout.{start, defined_from}
use Rattle.rv_asm.specs.Lines.{lines_of}
use Rattle.rv_asm.specs.Assembly.{bytes_from, bss_of_all}
use Rattle.rv_asm.specs.declared.fault.Fault.{Fault}
use Rattle.rv_asm.specs.declared.line.Line.{Line}

-- the bytes that lines give, or the first fault
abbrev pub bytes_of : List Line → Result (List ℕ) Fault
bytes_of lines = bytes_from (defined_from 1 start lines) 1 start lines

-- the byte at an address: one of these, or zero behind them
abbrev pub text_byte : List ℕ → ℕ → ℕ
text_byte bytes addr = slice_index bytes (addr - 0x10000)

-- the pages that have one of so many addresses from 0x10000 on
abbrev pub is_text_page : ℕ → ℕ → Bool
is_text_page size page = nat_le 16 page && nat_lt page (page_above (0x10000 + size))

-- the text's pages have all rights, and those of the stack can be read and written
abbrev pub text_page : List ℕ → ℕ → List (List ℕ) → ℕ → Option Page
text_page bytes size words page =
    if is_text_page size page then Some (record { bytes = tabulated (text_byte bytes) (page * 4096) 4096; rights = 7 }) else
    (if is_stack_page page then Some (record { bytes = tabulated (stack_byte words) (page * 4096) 4096; rights = 6 }) else None)

-- these bytes in a memory of this size, with the words of its line on the stack
abbrev pub text_user : List ℕ → ℕ → List (List ℕ) → UserState
text_user bytes size words = record {
  pc = 0x10000;
  registers = start_registers words;
  pages = pages_below (text_page bytes size words) (2 ^ 20);
  base = page_above (0x10000 + size) * 4096;
  brk = page_above (0x10000 + size) * 4096;
  pid = 0;
  count = 0;
}

-- fault 11, 'no page to start at', where it takes no memory
abbrev pub text_image : List ℕ → ℕ → List (List ℕ) → Result UserState ℕ
text_image bytes size words = if size == 0 then Err 11 else Ok (text_user bytes size words)

-- a text that is refused has no process, and its 0 is the number of no fault
abbrev pub started : ℕ → Result (List ℕ) Fault → List (List ℕ) → Result UserState ℕ
started bss (Ok bytes) words = text_image bytes (length bytes + bss) words
started bss (Err fault) words = Err 0

abbrev pub started_lines : List Line → List (List ℕ) → Result UserState ℕ
started_lines lines words = started (bss_of_all lines) (bytes_of lines) words

abbrev pub loaded_text : List ℕ → List (List ℕ) → Result UserState ℕ
loaded_text text words = started_lines (lines_of text) words

-- whatever the words of its line, a file loads to the state of a text: the loader takes words of at most 8,192 bytes, their addresses counted
abbrev pub LoadsAs : List ℕ → List ℕ → Type 0
LoadsAs text file = (words : List (List ℕ)) → start_size words ≤ 8192 → image_of file words ≡ loaded_text text words
