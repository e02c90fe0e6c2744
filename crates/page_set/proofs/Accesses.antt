-- Bytes of one page.
use Rattle.std.proofs.Common.{◌≡◌, ℕ, zero, suc, ◌+◌, ◌/◌, ◌%◌, ◌^◌, ◌<◌, ◌≤◌, [], refl, ap, ◌∙◌, sym, arith, true, false, Option, Some, None, Ok, Err, slice_index, is_some}
use Rattle.std.specs.Option.{option_map}
use Rattle.std.specs.FinMap as map
use Rattle.std.specs.Int.Bits.{and_zero_r}
use Rattle.page_set.specs.Pages.{byte_at, byte_of, bytes_at, with_front, loaded, number_of, little}
use Rattle.page_set.specs.declared.frame.Frame.{Frame}
use Rattle.page_set.specs.Tree.{Tree, frame_at, page_at, page_of, pages_of, pages_by, grants, has_right, part}
use Rattle.page_set.proofs.Maps.{get_pages_of, get_pages_by, get_above}

pub byte_at_tree : (tree : Tree) (right addr : ℕ) → addr < 2 ^ 32 → byte_at (pages_of tree) right addr ≡ byte_of right (addr % 4096) (option_map page_of (frame_at tree (addr / 4096)))
byte_at_tree tree right addr h = ap (byte_of right (addr % 4096)) (get_pages_of tree (addr / 4096) (omega arith))

pub byte_at_above : (tree : Tree) (right addr : ℕ) → 2 ^ 32 ≤ addr → byte_at (pages_of tree) right addr ≡ None
byte_at_above tree right addr h = ap (byte_of right (addr % 4096)) (get_above (page_at tree) (2 ^ 20) (addr / 4096) (omega arith))

refused_of : (right offset : ℕ) (o : Option Frame) → has_right right o ≡ false → byte_of right offset (option_map page_of o) ≡ None
refused_of right offset None h = refl
refused_of right offset (Some f) h = rw h refl

granted_of : (right offset : ℕ) (f : Frame) → grants right f ≡ true → byte_of right offset (option_map page_of (Some f)) ≡ Some (slice_index f.bytes offset)
granted_of right offset f h = rw h refl

pub byte_refused : (tree : Tree) (right addr : ℕ) → addr < 2 ^ 32 → has_right right (frame_at tree (addr / 4096)) ≡ false → byte_at (pages_of tree) right addr ≡ None
byte_refused tree right addr lt h = byte_at_tree tree right addr lt ∙ refused_of right (addr % 4096) (frame_at tree (addr / 4096)) h

-- the first byte is refused
pub reads_none : (tree : Tree) (right addr n : ℕ) → addr < 2 ^ 32 → has_right right (frame_at tree (addr / 4096)) ≡ false → bytes_at (pages_of tree) right addr (suc n) ≡ Err addr
reads_none tree right addr n lt h = ap (λ o. with_front o addr (bytes_at (pages_of tree) right ((addr + 1) % 2 ^ 32) n)) (byte_refused tree right addr lt h)

byte_at_by : (frames : ℕ → Option Frame) (right addr : ℕ) → addr < 2 ^ 32 → byte_at (pages_by frames) right addr ≡ byte_of right (addr % 4096) (option_map page_of (frames (addr / 4096)))
byte_at_by frames right addr h = ap (byte_of right (addr % 4096)) (get_pages_by frames (addr / 4096) (omega arith))

byte_granted_by : (frames : ℕ → Option Frame) (right addr : ℕ) (f : Frame) → addr < 2 ^ 32 → frames (addr / 4096) ≡ Some f → grants right f ≡ true → byte_at (pages_by frames) right addr ≡ Some (slice_index f.bytes (addr % 4096))
byte_granted_by frames right addr f lt is g =
    byte_at_by frames right addr lt ∙ ap (λ o. byte_of right (addr % 4096) (option_map page_of o)) is ∙ granted_of right (addr % 4096) f g

pub byte_granted : (tree : Tree) (right addr : ℕ) (f : Frame) → addr < 2 ^ 32 → frame_at tree (addr / 4096) ≡ Some f → grants right f ≡ true → byte_at (pages_of tree) right addr ≡ Some (slice_index f.bytes (addr % 4096))
byte_granted tree right addr f lt is g = byte_granted_by (frame_at tree) right addr f lt is g

-- ---- the next byte of a page

pub next_page : (addr n : ℕ) → addr % 4096 + suc (suc n) ≤ 4096 → (addr + 1) / 4096 ≡ addr / 4096
next_page addr n h = omega arith

pub next_at : (addr n : ℕ) → addr % 4096 + suc (suc n) ≤ 4096 → (addr + 1) % 4096 ≡ addr % 4096 + 1
next_at addr n h = omega arith

pub next_addr : (addr n : ℕ) → addr < 2 ^ 32 → addr % 4096 + suc (suc n) ≤ 4096 → (addr + 1) % 2 ^ 32 ≡ addr + 1
next_addr addr n lt h = omega arith

-- bytes of one page that has the right
pub reads_by : (n : ℕ) (frames : ℕ → Option Frame) (right addr : ℕ) (f : Frame) → frames (addr / 4096) ≡ Some f → grants right f ≡ true → addr < 2 ^ 32 → addr % 4096 + n ≤ 4096 → bytes_at (pages_by frames) right addr n ≡ Ok (part n f.bytes (addr % 4096))
reads_by zero frames right addr f is g lt h = refl
reads_by (suc zero) frames right addr f is g lt h = ap (λ o. with_front o addr (Ok [])) (byte_granted_by frames right addr f lt is g)
reads_by (suc (suc n)) frames right addr f is g lt h =
    ap (λ o. with_front o addr (bytes_at (pages_by frames) right ((addr + 1) % 2 ^ 32) (suc n))) (byte_granted_by frames right addr f lt is g)
    ∙ ap (λ a. with_front (Some (slice_index f.bytes (addr % 4096))) addr (bytes_at (pages_by frames) right a (suc n))) (next_addr addr n lt h)
    ∙ ap (with_front (Some (slice_index f.bytes (addr % 4096))) addr) (reads_by (suc n) frames right (addr + 1) f (ap frames (next_page addr n h) ∙ is) g (omega arith) (omega arith)
    ∙ ap (λ at. Ok (part (suc n) f.bytes at)) (next_at addr n h))

pub reads : (n : ℕ) (tree : Tree) (right addr : ℕ) (f : Frame) → frame_at tree (addr / 4096) ≡ Some f → grants right f ≡ true → addr < 2 ^ 32 → addr % 4096 + n ≤ 4096 → bytes_at (pages_of tree) right addr n ≡ Ok (part n f.bytes (addr % 4096))
reads n tree right addr f is g lt h = reads_by n (frame_at tree) right addr f is g lt h

pub loads_by : (n : ℕ) (frames : ℕ → Option Frame) (right addr : ℕ) (f : Frame) (w : ℕ) → frames (addr / 4096) ≡ Some f → grants right f ≡ true → addr < 2 ^ 32 → addr % 4096 + n ≤ 4096 → w ≡ little (part n f.bytes (addr % 4096)) → loaded (pages_by frames) addr n right ≡ Ok w
loads_by n frames right addr f w is g lt h e = ap number_of (reads_by n frames right addr f is g lt h) ∙ ap (λ (x : ℕ). Ok x) (sym e)

pub loads : (n : ℕ) (tree : Tree) (right addr : ℕ) (f : Frame) (w : ℕ) → frame_at tree (addr / 4096) ≡ Some f → grants right f ≡ true → addr < 2 ^ 32 → addr % 4096 + n ≤ 4096 → w ≡ little (part n f.bytes (addr % 4096)) → loaded (pages_of tree) addr n right ≡ Ok w
loads n tree right addr f w is g lt h e = loads_by n (frame_at tree) right addr f w is g lt h e

byte_alike : (old new : ℕ → Option Frame) (right addr : ℕ) → addr < 2 ^ 32 → new (addr / 4096) ≡ old (addr / 4096) → byte_at (pages_by new) right addr ≡ byte_at (pages_by old) right addr
byte_alike old new right addr lt e = byte_at_by new right addr lt ∙ ap (λ o. byte_of right (addr % 4096) (option_map page_of o)) e ∙ sym (byte_at_by old right addr lt)

-- bytes of one page, where another set has the same
bytes_alike : (n : ℕ) (old new : ℕ → Option Frame) (right addr : ℕ) → addr < 2 ^ 32 → addr % 4096 + n ≤ 4096 → new (addr / 4096) ≡ old (addr / 4096) → bytes_at (pages_by new) right addr n ≡ bytes_at (pages_by old) right addr n
bytes_alike zero old new right addr lt h e = refl
bytes_alike (suc zero) old new right addr lt h e = ap (λ o. with_front o addr (Ok [])) (byte_alike old new right addr lt e)
bytes_alike (suc (suc n)) old new right addr lt h e =
    ap (λ o. with_front o addr (bytes_at (pages_by new) right ((addr + 1) % 2 ^ 32) (suc n))) (byte_alike old new right addr lt e)
    ∙ ap (λ a. with_front (byte_at (pages_by old) right addr) addr (bytes_at (pages_by new) right a (suc n))) (next_addr addr n lt h)
    ∙ ap (with_front (byte_at (pages_by old) right addr) addr) (bytes_alike (suc n) old new right (addr + 1) (omega arith) (omega arith) (ap new (next_page addr n h) ∙ e ∙ sym (ap old (next_page addr n h))))
    ∙ sym (ap (λ a. with_front (byte_at (pages_by old) right addr) addr (bytes_at (pages_by old) right a (suc n))) (next_addr addr n lt h))

pub loads_alike : (n : ℕ) (old new : ℕ → Option Frame) (right addr : ℕ) → addr < 2 ^ 32 → addr % 4096 + n ≤ 4096 → new (addr / 4096) ≡ old (addr / 4096) → loaded (pages_by new) addr n right ≡ loaded (pages_by old) addr n right
loads_alike n old new right addr lt h e = ap number_of (bytes_alike n old new right addr lt h e)

pub loads_none : (n : ℕ) (tree : Tree) (right addr : ℕ) → 0 < n → addr < 2 ^ 32 → has_right right (frame_at tree (addr / 4096)) ≡ false → loaded (pages_of tree) addr n right ≡ Err addr
loads_none zero tree right addr p lt h = absurd (omega arith)
loads_none (suc n) tree right addr p lt h = ap number_of (reads_none tree right addr n lt h)

-- every frame has no right at all
pub grants_0 : (f : Frame) → grants 0 f ≡ true
grants_0 f = rw (and_zero_r f.rights) refl

pub has_right_0 : (o : Option Frame) → has_right 0 o ≡ is_some (option_map page_of o)
has_right_0 None = refl
has_right_0 (Some f) = grants_0 f

pub is_mapped : (tree : Tree) (addr : ℕ) → addr < 2 ^ 32 → has_right 0 (frame_at tree (addr / 4096)) ≡ is_some (map.get (pages_of tree) (addr / 4096))
is_mapped tree addr lt = has_right_0 (frame_at tree (addr / 4096)) ∙ sym (ap is_some (get_pages_of tree (addr / 4096) (omega arith)))
