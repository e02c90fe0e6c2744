-- What segments and stack place on a page.
use Rattle.std.proofs.Common.{◌≡◌, ◌≢◌, ℕ, zero, suc, ◌+◌, ◌-◌, ◌*◌, ◌/◌, ◌%◌, ◌^◌, ◌<◌, ◌≤◌, List, [], ◌∷◌, ◌++◌, refl, ap, ◌∙◌, sym, arith, length, take, drop, get_or, slice_index, Bool, true, false, cond, nat_lt, nat_le, ◌&&◌, min, max, bit_or, replicate}
use Rattle.std.proofs.lemmas.List.{at_drop_more, at_drop_all, get_or-drop}
use Rattle.std.proofs.lemmas.Nat.{or_lt}
use Rattle.std.proofs.lemmas.Bool.Decides.{nat_tests}
use Rattle.elf_load.specs.declared.image.Header.{Header}
use Rattle.elf_load.specs.Image.{is_load, end_of, contains, segment_byte, placed_byte, touches, page_rights}
use Rattle.elf_load.specs.Parts.{after_write, byte_from}
use Rattle.elf_load.proofs.Runs.{part_byte, cond_same}

pub segment_not_load : (file old : List ℕ) (h : Header) (addr k : ℕ) → is_load h ≡ false → slice_index old k ≡ cond (contains h addr) (segment_byte file h addr) (slice_index old k)
segment_not_load file old h addr k e = sym (ap (λ b. cond (b && (nat_le h.addr addr && nat_lt addr (end_of h))) (segment_byte file h addr) (slice_index old k)) e)

outside : (first k addr stop start end : ℕ) → start ≡ max first addr → end ≡ min stop (first + 4096) → end ≤ start → k < 4096 → (nat_le addr (first + k) && nat_lt (first + k) stop) ≡ false
outside first k addr stop start end s e le lt = grind (arith, nat_tests)

and_false : (a b : Bool) → b ≡ false → (a && b) ≡ false
and_false true b e = e
and_false false b e = refl

pub segment_elsewhere : (file old : List ℕ) (h : Header) (first k start end : ℕ) → start ≡ max first h.addr → end ≡ min (end_of h) (first + 4096) → end ≤ start → k < 4096 → slice_index old k ≡ cond (contains h (first + k)) (segment_byte file h (first + k)) (slice_index old k)
segment_elsewhere file old h first k start end s e le lt =
    sym (ap (λ b. cond b (segment_byte file h (first + k)) (slice_index old k)) (and_false (is_load h) _ (outside first k h.addr (end_of h) start end s e le lt)))

run_test : (first k addr stop start end : ℕ) → start ≡ max first addr → end ≡ min stop (first + 4096) → start < end → k < 4096 → (nat_le (start - first) k && nat_lt k (end - first)) ≡ (nat_le addr (first + k) && nat_lt (first + k) stop)
run_test first k addr stop start end s e le lt = grind (arith, nat_tests)

and_left : (a b : Bool) → (a && b) ≡ true → a ≡ true
and_left true b e = refl
and_left false b e = e

le_true : (a b : ℕ) → nat_le a b ≡ true → a ≤ b
le_true a b e = grind (arith, nat_tests)

limit_test : (addr size start place i : ℕ) → addr ≤ start → place ≡ start + i → nat_lt i (size - (start - addr)) ≡ nat_lt (place - addr) size
limit_test addr size start place i le e = grind (arith, nat_tests)

-- a byte of the part of the file that stands from an address on
part_at : (file : List ℕ) (offset addr size start place i : ℕ) → addr ≤ start → place ≡ start + i → slice_index (take (size - (start - addr)) (drop (offset + (start - addr)) file)) i ≡ cond (nat_lt (place - addr) size) (slice_index file (offset + (place - addr))) 0
part_at file offset addr size start place i le e =
    let at : (offset + (start - addr)) + i ≡ offset + (place - addr) = omega arith in
    part_byte (size - (start - addr)) (drop (offset + (start - addr)) file) i
    ∙ ap (λ x. cond (nat_lt i (size - (start - addr))) x 0) (get_or-drop (offset + (start - addr)) file i 0 ∙ ap (slice_index file) at)
    ∙ ap (λ b. cond b (slice_index file (offset + (place - addr))) 0) (limit_test addr size start place i le e)

pub segment_written : (file old : List ℕ) (h : Header) (first k start end : ℕ) → is_load h ≡ true → start ≡ max first h.addr → end ≡ min (end_of h) (first + 4096) → start < end → k < 4096 → after_write old (start - first) (end - first) (take (h.file_size - (start - h.addr)) (drop (h.offset + (start - h.addr)) file)) k ≡ cond (contains h (first + k)) (segment_byte file h (first + k)) (slice_index old k)
segment_written file old h first k start end load s e le lt =
    let test = run_test first k h.addr (end_of h) start end s e le lt ∙ sym (ap (λ b. b && (nat_le h.addr (first + k) && nat_lt (first + k) (end_of h))) load) in
    cond_same (nat_le (start - first) k && nat_lt k (end - first)) (contains h (first + k)) _ _ (slice_index old k) test (λ t.
    let from : start - first ≤ k = le_true (start - first) k (and_left _ _ t) in
    let low : h.addr ≤ start = omega arith in
    let place : first + k ≡ start + (k - (start - first)) = omega arith in
    part_at file h.offset h.addr h.file_size start (first + k) (k - (start - first)) low place)

pub placed_more : (file : List ℕ) (hs : List Header) (addr b i : ℕ) (d : Header) → i < length hs → placed_byte file (drop i hs) addr b ≡ placed_byte file (drop (i + 1) hs) addr (cond (contains (get_or hs i d) addr) (segment_byte file (get_or hs i d) addr) b)
placed_more file hs addr b i d h = at_drop_more (λ l. placed_byte file l addr b) hs i d h

pub placed_all : (file : List ℕ) (hs : List Header) (addr b i : ℕ) → length hs ≤ i → placed_byte file (drop i hs) addr b ≡ b
placed_all file hs addr b i h = at_drop_all (λ l. placed_byte file l addr b) hs i h

zero_at : (n k : ℕ) → slice_index (replicate n 0) k ≡ 0
zero_at zero k = refl
zero_at (suc n) zero = refl
zero_at (suc n) (suc k) = zero_at n k

below_table : (first k start table : ℕ) → start ≡ max first table → first + 4096 ≤ start → k < 4096 → nat_le table (first + k) ≡ false
below_table first k start table s le lt = grind (arith, nat_tests)

pub stack_above : (stack : List ℕ) (first k start table : ℕ) → start ≡ max first table → first + 4096 ≤ start → k < 4096 → slice_index (replicate 4096 0) k ≡ byte_from table stack (first + k)
stack_above stack first k start table s le lt = zero_at 4096 k ∙ sym (ap (λ b. cond b (slice_index stack (first + k - table)) 0) (below_table first k start table s le lt))

stack_test : (first k start table : ℕ) → start ≡ max first table → start < first + 4096 → k < 4096 → (nat_le (start - first) k && nat_lt k 4096) ≡ nat_le table (first + k)
stack_test first k start table s le lt = grind (arith, nat_tests)

in_page : (i k : ℕ) → i ≤ k → k < 4096 → nat_lt i 4096 ≡ true
in_page i k le lt = grind (arith, nat_tests)

pub stack_written : (stack : List ℕ) (first k start table : ℕ) → start ≡ max first table → start < first + 4096 → k < 4096 → after_write (replicate 4096 0) (start - first) 4096 (take 4096 (drop (start - table) stack)) k ≡ byte_from table stack (first + k)
stack_written stack first k start table s le lt =
    cond_same _ _ _ _ _ (stack_test first k start table s le lt) (λ t.
    let from : start - first ≤ k = le_true (start - first) k (and_left _ _ t) in
    let i = k - (start - first) in
    let at : (start - table) + i ≡ first + k - table = omega arith in
    part_byte 4096 (drop (start - table) stack) i
    ∙ ap (λ b. cond b (slice_index (drop (start - table) stack) i) 0) (in_page i k (omega arith) lt)
    ∙ get_or-drop (start - table) stack i 0 ∙ ap (slice_index stack) at)
    ∙ ap (λ z. cond (nat_le table (first + k)) (slice_index stack (first + k - table)) z) (zero_at 4096 k)

pub rights_more : (hs : List Header) (page rights i : ℕ) (d : Header) → i < length hs → page_rights (drop i hs) page rights ≡ page_rights (drop (i + 1) hs) page (cond (touches (get_or hs i d) page) (bit_or rights ((get_or hs i d).flags % 8)) rights)
rights_more hs page rights i d h = at_drop_more (λ l. page_rights l page rights) hs i d h

pub rights_all : (hs : List Header) (page rights i : ℕ) → length hs ≤ i → page_rights (drop i hs) page rights ≡ rights
rights_all hs page rights i h = at_drop_all (λ l. page_rights l page rights) hs i h

pub rights_small : (rights flags : ℕ) → rights < 8 → bit_or rights (flags % 8) < 8
rights_small rights flags h = let few : flags % 8 < 2 ^ 3 = omega arith in or_lt 3 rights (flags % 8) h few
