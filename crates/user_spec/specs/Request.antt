-- What a process asks at a call, which calls end where it runs, and the return.
use Rattle.std.specs.Prelude.{ℕ, zero, suc, ◌+◌, ◌-◌, ◌*◌, ◌/◌, ◌%◌, ◌^◌, List, [], ◌∷◌, ◌++◌, Option, Some, None, Result, Ok, Err, ◌==◌, ◌&&◌, ◌||◌, not, if◌then◌else◌, slice_index, slice_set, min, length, ℤ, Bool, true, false, nat_le, nat_lt, is_some, is_ok, is_none}
use Rattle.std.specs.Result.{result_unwrap_or}
use Rattle.std.specs.Int.{w32, cast_unsigned}
use Rattle.std.specs.FinMap as map
use Rattle.call_table.specs.Calls.{need_of, is_site_local}
use Rattle.call_table.specs.declared.request.Request.{Request}
use Rattle.call_table.specs.declared.request.Answer.{Answer}
use Rattle.call_table.specs.declared.request.Need.{Need}
use Rattle.call_table.specs.declared.request.Kind.{Kind}
use Rattle.call_table.specs.declared.request.Kind.TheVariants.{Plain, Fork, Return}
use Rattle.page_set.specs.Pages.{PageMap, flat_at, loaded, bytes_4, with_bytes, zero_page, page_with_rights, changed_page}
use Rattle.call_table.specs.declared.call.TheConstants.{GETPID, SIGRETURN, BRK}
use Rattle.call_table.specs.declared.error.TheConstants.{ENOSYS, EFAULT}
use Rattle.call_table.specs.declared.limit.TheConstants.{PAGES}
use Rattle.call_table.specs.declared.table.TheConstants.{RIGHT_READ, RIGHT_WRITE, FRAME_SIZE}
use Rattle.user_spec.specs.Words.{sum_of}
use Rattle.user_spec.specs.User.{UserState, with_register}

-- the number of a call stands in x17, its arguments in x10 to x15, the stack pointer in x2
abbrev pub number_of : UserState → ℕ
number_of u = slice_index u.registers 16

abbrev pub args_of : UserState → List ℕ
args_of u = slice_index u.registers 9 ∷ slice_index u.registers 10 ∷ slice_index u.registers 11 ∷ slice_index u.registers 12 ∷ slice_index u.registers 13 ∷ slice_index u.registers 14 ∷ []

abbrev pub stack_pointer : UserState → ℕ
stack_pointer u = slice_index u.registers 1

abbrev pub buffer_of : UserState → Option Need
buffer_of u = need_of (number_of u) (args_of u) (stack_pointer u)

-- ---- the buffer

-- the bytes of a buffer, or the first address without its right
abbrev pub buffer_bytes : PageMap → Option Need → Result (List ℕ) ℕ
buffer_bytes pages None = Ok []
buffer_bytes pages (Some need) = flat_at pages need.right need.addr need.len

abbrev pub has_buffer : UserState → Bool
has_buffer u = is_ok (buffer_bytes u.pages (buffer_of u))

abbrev pub is_read : Option Need → Bool
is_read None = false
is_read (Some need) = need.right == RIGHT_READ

-- what the kernel is handed: a buffer that is read, but for sigreturn's
abbrev pub handed_bytes : UserState → List ℕ
handed_bytes u = if is_read (buffer_of u) && not (number_of u == SIGRETURN) then result_unwrap_or (buffer_bytes u.pages (buffer_of u)) [] else []

-- ---- the frame of a signal: pc, x1 to x31 and the mask, 132 bytes below the stack pointer, at a multiple of 16

abbrev pub frame_at : ℕ → ℕ
frame_at sp = sum_of sp (2 ^ 32 - FRAME_SIZE) / 16 * 16

unfoldable pub has_frame_room : PageMap → ℕ → Bool
has_frame_room pages sp = is_ok (flat_at pages RIGHT_WRITE (frame_at sp) FRAME_SIZE)

-- word i of the frame at an address
abbrev pub frame_word : PageMap → ℕ → ℕ → ℕ
frame_word pages at i = result_unwrap_or (loaded pages (sum_of at (4 * i)) 4 RIGHT_READ) 0

-- the registers that a frame holds, from x(i) on
unfoldable pub frame_registers : PageMap → ℕ → ℕ → ℕ → List ℕ
frame_registers pages at i zero = []
frame_registers pages at i (suc n) = frame_word pages at i ∷ frame_registers pages at (i + 1) n

-- the stack pointer that stands after the return
abbrev pub returned_pointer : UserState → ℕ
returned_pointer u = if number_of u == SIGRETURN then frame_word u.pages (stack_pointer u) 2 else stack_pointer u

-- sigreturn's first argument is the mask that its frame holds
abbrev pub asked_args : UserState → List ℕ
asked_args u = if number_of u == SIGRETURN then slice_set (args_of u) 0 (frame_word u.pages (stack_pointer u) 32) else args_of u

-- the words that are pushed: pc, x1 to x31, and the mask that stood
abbrev pub frame_words : UserState → ℕ → List ℕ
frame_words u mask = u.pc ∷ (u.registers ++ mask ∷ [])

-- words written one after the other, modulo 2 ^ 32
unfoldable pub with_words : PageMap → ℕ → List ℕ → PageMap
with_words pages addr [] = pages
with_words pages addr (w ∷ ws) = with_words (with_bytes pages addr (bytes_4 w)) (sum_of addr 4) ws

-- the process at a handler, with its frame pushed
abbrev pub entered : UserState → ℕ → ℕ → ℕ → ℕ → UserState
entered u signal handler restorer mask = record u {
  pc = handler;
  registers = with_register (with_register (with_register u.registers 1 restorer) 2 (frame_at (stack_pointer u))) 10 signal;
  pages = with_words u.pages (frame_at (stack_pointer u)) (frame_words u mask);
}

-- ---- what is asked

abbrev pub call_request : UserState → Request
call_request u = record {
  number = number_of u;
  args = asked_args u;
  bytes = handed_bytes u;
  room = has_frame_room u.pages (returned_pointer u);
}

-- a fault asks for its signal
abbrev pub fault_request : ℕ → Request
fault_request signal = record { number = 0; args = signal ∷ 0 ∷ 0 ∷ 0 ∷ 0 ∷ 0 ∷ []; bytes = []; room = false }

-- ---- the return

-- where the answer's bytes go
abbrev pub buffer_address : Option Need → ℕ
buffer_address None = 0
buffer_address (Some need) = need.addr

abbrev pub returned_as : Kind → UserState → Answer → UserState
returned_as Plain u answer = record u {
  pages = with_bytes u.pages (buffer_address (buffer_of u)) answer.bytes;
  registers = with_register u.registers 10 (cast_unsigned w32 answer.value);
  pc = sum_of u.pc 4;
}
returned_as Fork u answer = record u {
  registers = with_register u.registers 10 (cast_unsigned w32 answer.value);
  pc = sum_of u.pc 4;
}
returned_as Return u answer = record u {
  pc = frame_word u.pages (stack_pointer u) 0;
  registers = frame_registers u.pages (stack_pointer u) 1 31;
}

-- the process after its call's return
abbrev pub returned : UserState → Answer → UserState
returned u answer = returned_as answer.kind u answer

-- the child of a process at a fork
abbrev pub forked : UserState → ℕ → UserState
forked u child = record u { registers = with_register u.registers 10 0; pc = sum_of u.pc 4; pid = child }

-- ---- brk, which ends where the process runs

-- the first page at or above an address
abbrev pub page_above : ℕ → ℕ
page_above addr = (addr + 4095) / 4096

-- n pages from one on are unmapped
unfoldable pub without_pages : PageMap → ℕ → ℕ → PageMap
without_pages pages page zero = pages
without_pages pages page (suc n) = without_pages (map.remove pages page) (page + 1) n

-- a page is mapped to be read and written, a new one with zeros
abbrev pub with_heap_page : PageMap → ℕ → PageMap
with_heap_page pages page = if is_some (map.get pages page) then changed_page pages page (page_with_rights 6) (map.get pages page) else map.insert pages page (zero_page 6)

-- so are n pages from one on
unfoldable pub with_heap_pages : PageMap → ℕ → ℕ → PageMap
with_heap_pages pages page zero = pages
with_heap_pages pages page (suc n) = with_heap_pages (with_heap_page pages page) (page + 1) n

-- the heap goes from base up to a break; no other page below 0x70000000 lies above it
abbrev pub pages_with_break : PageMap → ℕ → ℕ → PageMap
pages_with_break pages base a =
    with_heap_pages (without_pages pages (page_above a) (0x70000 - page_above a)) (base / 4096) (page_above a - base / 4096)

-- a break that can be had: a process has not more pages than it may
abbrev pub is_break : UserState → ℕ → Bool
is_break u a =
    not (a == 0) && (nat_le u.base a && (nat_le a 0x70000000 && nat_le (map.len (pages_with_break u.pages u.base a)) PAGES))

abbrev pub with_break : UserState → ℕ → UserState
with_break u a = if is_break u a then record u { pages = pages_with_break u.pages u.base a; brk = a } else u

-- whether one of n pages from a page on is not mapped
unfoldable pub lacks_page : PageMap → ℕ → ℕ → Bool
lacks_page pages page zero = false
lacks_page pages page (suc n) = is_none (map.get pages page) || lacks_page pages (page + 1) n

abbrev pub break_maps : UserState → ℕ → Bool
break_maps u a = is_break u a && lacks_page u.pages (u.base / 4096) (page_above a - u.base / 4096)

-- ---- the calls that end where the process runs

-- getpid, brk, a number that no call has, and a call whose buffer lacks its right
abbrev pub is_local_call : UserState → Bool
is_local_call u = is_site_local (number_of u) || not (has_buffer u)

-- the process after such a call, its value in a0
abbrev pub with_value : UserState → ℕ → UserState
with_value u value = record u { registers = with_register u.registers 10 value; pc = sum_of u.pc 4 }

abbrev pub with_brk : UserState → UserState
with_brk u = with_value u u.brk

abbrev pub local_call : UserState → UserState
local_call u =
    if number_of u == GETPID then with_value u u.pid else
    (if number_of u == BRK then with_brk (with_break u (slice_index (args_of u) 0)) else
    (if is_site_local (number_of u) then with_value u (cast_unsigned w32 ENOSYS) else with_value u (cast_unsigned w32 EFAULT)))
