-- Parts of a file's blocks.
use Rattle.std.proofs.Common.{◌≡◌, ℕ, zero, suc, ◌+◌, ◌*◌, ◌-◌, ◌/◌, ◌%◌, ◌<◌, ◌≤◌, List, [], ◌∷◌, ◌++◌, length, take, drop, set, get_or, slice_range, replicate, refl, sym, ap, ◌∙◌, arith, append_assoc, length-append, length-drop, length-take}
use Rattle.std.proofs.lemmas.List.{append-nil, take-append-drop, length-take-le, take_all, take-take, take_at, take-append-le, drop-drop, drop_at, drop-append-le, drop-take, drop_all, length-replicate, replicate-append-replicate}
use Rattle.std.proofs.lemmas.Slice.{between_is}
use Rattle.std.specs.declared.boxed.Box.{Box}
use Rattle.std.specs.declared.alloc.Global.{Global}
use Rattle.fs_memory.specs.declared.block.Block.{Block}
use Rattle.fs_memory.specs.Blocks.{Blocks, flat, spliced, zeros, IsGrown}

pub length-flat : (blocks : Blocks) → length (flat blocks) ≡ 4096 * length blocks
length-flat [] = refl
length-flat (b ∷ blocks) = omega (arith, length-append b.value.bytes (flat blocks), b.value.whole, length-flat blocks)

-- past the items before
drop_past : (xs ys : List ℕ) (n : ℕ) → drop (length xs + n) (xs ++ ys) ≡ drop n ys
drop_past xs ys n = sym (drop-drop n (length xs) (xs ++ ys)) ∙ ap (drop n) (drop_at xs ys (length xs) refl)

take_past : (xs ys : List ℕ) (n : ℕ) → take (length xs + n) (xs ++ ys) ≡ xs ++ take n ys
take_past [] ys n = ap (λ k. take k ys) (omega arith)
take_past (x ∷ xs) ys n = let e : suc (length xs) + n ≡ suc (length xs + n) = omega arith in rw e (ap (λ zs. x ∷ zs) (take_past xs ys n))

pub take_more_items : (xs : List ℕ) (n m : ℕ) → take n xs ++ take m (drop n xs) ≡ take (n + m) xs
take_more_items xs n m =
    ap (λ ys. ys ++ take m (drop n xs)) (sym (take-take n (n + m) xs (omega arith)))
    ∙ ap (λ ys. take n (take (n + m) xs) ++ ys) (sym (drop-take n m xs))
    ∙ take-append-drop n (take (n + m) xs)

-- ---- lists with a part written over

pub length-spliced : (xs part : List ℕ) (at : ℕ) → at + length part ≤ length xs → length (spliced xs at part) ≡ length xs
length-spliced xs part at h = simp (length-append, length-take, length-drop) (omega arith)

pub spliced-nil : (xs : List ℕ) (at : ℕ) → spliced xs at [] ≡ xs
spliced-nil xs at = ap (λ n. take at xs ++ drop n xs) (omega arith) ∙ take-append-drop at xs

spliced-append_left : (xs ys part : List ℕ) (at : ℕ) → at + length part ≤ length xs → spliced (xs ++ ys) at part ≡ spliced xs at part ++ ys
spliced-append_left xs ys part at h =
    let le : at ≤ length xs = omega arith in
    rw (take-append-le at xs ys le, drop-append-le (at + length part) xs ys h) (simp append_assoc)

spliced-append_right : (xs ys part : List ℕ) (at : ℕ) → spliced (xs ++ ys) (length xs + at) part ≡ xs ++ spliced ys at part
spliced-append_right xs ys part at =
    let e : length xs + at + length part ≡ length xs + (at + length part) = omega arith in
    rw (take_past xs ys at, e, drop_past xs ys (at + length part)) (simp append_assoc)

pub spliced-spliced : (xs p q : List ℕ) (at : ℕ) → at ≤ length xs → spliced (spliced xs at p) (at + length p) q ≡ spliced xs at (p ++ q)
spliced-spliced xs p q at le =
    let front = take at xs in
    let n : length front ≡ at = length-take-le at xs le in
    let rest = drop (at + length p) xs in
    let place : at + length p ≡ length (front ++ p) + 0 = omega (arith, length-append front p, n) in
    let past : at + length p + length q ≡ length (front ++ p) + length q = omega (arith, length-append front p, n) in
    let whole : spliced xs at p ≡ (front ++ p) ++ rest = sym (append_assoc front p rest) in
    let last : at + length (p ++ q) ≡ (at + length p) + length q = omega (arith, length-append p q) in
    ap (λ ys. spliced ys (at + length p) q) whole
    ∙ ap (λ k. take k ((front ++ p) ++ rest) ++ (q ++ drop (at + length p + length q) ((front ++ p) ++ rest))) place
    ∙ ap (λ ys. ys ++ (q ++ drop (at + length p + length q) ((front ++ p) ++ rest))) (take_past (front ++ p) rest 0 ∙ append-nil (front ++ p))
    ∙ ap (λ k. (front ++ p) ++ (q ++ drop k ((front ++ p) ++ rest))) past
    ∙ ap (λ ys. (front ++ p) ++ (q ++ ys)) (drop_past (front ++ p) rest (length q) ∙ drop-drop (length q) (at + length p) xs)
    ∙ simp append_assoc (ap (λ k. front ++ (p ++ (q ++ drop k xs))) (sym last))

-- ---- one block among them

pub read_block : (blocks : Blocks) (k off n : ℕ) (b : Box Block Global) → k < length blocks → off + n ≤ 4096 → b ≡ get_or blocks k b → take n (drop off b.value.bytes) ≡ take n (drop (4096 * k + off) (flat blocks))
read_block [] k off n b h le is = absurd (omega arith)
read_block (x ∷ blocks) zero off n b h le is =
    let l : n ≤ length (drop off x.value.bytes) = omega (arith, length-drop off x.value.bytes, x.value.whole) in
    let o : off ≤ length x.value.bytes = omega (arith, x.value.whole) in
    ap (λ (y : Box Block Global). take n (drop off y.value.bytes)) is
    ∙ sym (ap (λ k. take n (drop k (x.value.bytes ++ flat blocks))) (omega arith) ∙ ap (take n) (drop-append-le off x.value.bytes (flat blocks) o) ∙ take-append-le n (drop off x.value.bytes) (flat blocks) l)
read_block (x ∷ blocks) (suc k) off n b h le is =
    read_block blocks k off n b (omega arith) le is
    ∙ sym (ap (λ j. take n (drop j (x.value.bytes ++ flat blocks))) (omega (arith, x.value.whole)) ∙ ap (take n) (drop_past x.value.bytes (flat blocks) (4096 * k + off)))

pub write_block : (blocks : Blocks) (k off : ℕ) (part : List ℕ) (b new : Box Block Global) → k < length blocks → off + length part ≤ 4096 → b ≡ get_or blocks k b → new.value.bytes ≡ spliced b.value.bytes off part → flat (set blocks k new) ≡ spliced (flat blocks) (4096 * k + off) part
write_block [] k off part b new h le is w = absurd (omega arith)
write_block (x ∷ blocks) zero off part b new h le is w =
    ap (λ ys. ys ++ flat blocks) (w ∙ ap (λ (y : Box Block Global). spliced y.value.bytes off part) is)
    ∙ sym (spliced-append_left x.value.bytes (flat blocks) part off (omega (arith, x.value.whole)))
    ∙ ap (λ k. spliced (x.value.bytes ++ flat blocks) k part) (omega arith)
write_block (x ∷ blocks) (suc k) off part b new h le is w =
    ap (λ ys. x.value.bytes ++ ys) (write_block blocks k off part b new (omega arith) le is w)
    ∙ sym (spliced-append_right x.value.bytes (flat blocks) part (4096 * k + off))
    ∙ ap (λ j. spliced (x.value.bytes ++ flat blocks) j part) (omega (arith, x.value.whole))

-- ---- at a place

pub place_is : (place : ℕ) → 4096 * (place / 4096) + place % 4096 ≡ place
place_is place = omega arith

pub read_at_place : (blocks : Blocks) (place n : ℕ) (b : Box Block Global) (part : List ℕ) → place / 4096 < length blocks → place % 4096 + n ≤ 4096 → b ≡ get_or blocks (place / 4096) b → part ≡ slice_range b.value.bytes (place % 4096) (place % 4096 + n) → part ≡ take n (drop place (flat blocks))
read_at_place blocks place n b part h le is e =
    e ∙ ap (λ k. take k (drop (place % 4096) b.value.bytes)) (omega arith) ∙ read_block blocks (place / 4096) (place % 4096) n b h le is ∙ ap (λ k. take n (drop k (flat blocks))) (place_is place)

pub write_at_place : (blocks : Blocks) (place : ℕ) (part : List ℕ) (b new : Box Block Global) → place / 4096 < length blocks → place % 4096 + length part ≤ 4096 → b ≡ get_or blocks (place / 4096) b → new.value.bytes ≡ spliced b.value.bytes (place % 4096) part → flat (set blocks (place / 4096) new) ≡ spliced (flat blocks) place part
write_at_place blocks place part b new h le is w = write_block blocks (place / 4096) (place % 4096) part b new h le is w ∙ ap (λ k. spliced (flat blocks) k part) (place_is place)

pub next_part : (old mid new : Blocks) (bytes part : List ℕ) (at done count : ℕ) → at + length bytes ≤ length (flat old) → done + count ≤ length bytes → flat mid ≡ spliced (flat old) at (take done bytes) → part ≡ slice_range bytes done (done + count) → flat new ≡ spliced (flat mid) (at + done) part → flat new ≡ spliced (flat old) at (take (done + count) bytes)
next_part old mid new bytes part at done count fits le m p n =
    let d : length (take done bytes) ≡ done = length-take-le done bytes (omega arith) in
    let k : done + count - done ≡ count = omega arith in
    n ∙ ap (λ xs. spliced xs (at + done) part) m
    ∙ ap (λ i. spliced (spliced (flat old) at (take done bytes)) (at + i) part) (sym d)
    ∙ spliced-spliced (flat old) (take done bytes) part at (omega arith)
    ∙ ap (λ xs. spliced (flat old) at (take done bytes ++ xs)) (p ∙ ap (λ i. take i (drop done bytes)) k)
    ∙ ap (spliced (flat old) at) (take_more_items bytes done count)

pub next_read : (blocks : Blocks) (out part : List ℕ) (at done count : ℕ) → out ≡ take done (drop at (flat blocks)) → part ≡ out ++ take count (drop (at + done) (flat blocks)) → part ≡ take (done + count) (drop at (flat blocks))
next_read blocks out part at done count o p =
    p ∙ ap (λ xs. xs ++ take count (drop (at + done) (flat blocks))) o
    ∙ ap (λ xs. take done (drop at (flat blocks)) ++ take count xs) (sym (drop-drop done at (flat blocks)))
    ∙ take_more_items (drop at (flat blocks)) done count

-- ---- blocks of zeros

flat-push : (blocks : Blocks) (b : Box Block Global) → flat (blocks ++ b ∷ []) ≡ flat blocks ++ b.value.bytes
flat-push [] b = append-nil b.value.bytes
flat-push (x ∷ blocks) b = ap (λ ys. x.value.bytes ++ ys) (flat-push blocks b) ∙ sym (append_assoc x.value.bytes (flat blocks) b.value.bytes)

pub grown_none : (blocks : Blocks) → IsGrown blocks blocks
grown_none blocks =
    let e : length (flat blocks) - length (flat blocks) ≡ 0 = omega arith in
    record { more = omega arith; is = rw e (sym (append-nil (flat blocks))) }

pub grown_more : (old mid new : Blocks) (b : Box Block Global) → IsGrown old mid → b.value.bytes ≡ zeros 4096 → new ≡ mid ++ b ∷ [] → IsGrown old new
grown_more old mid new b g z n =
    let f : flat new ≡ flat mid ++ zeros 4096 = ap flat n ∙ flat-push mid b ∙ ap (λ ys. flat mid ++ ys) z in
    let l : length (flat new) ≡ length (flat mid) + 4096 = ap length f ∙ length-append (flat mid) (zeros 4096) ∙ ap (λ k. length (flat mid) + k) (length-replicate {A = ℕ} 4096 0) in
    let m : length new ≡ length mid + 1 = ap length n ∙ length-append mid (b ∷ []) in
    let more : length (flat old) ≤ length (flat mid) = omega (arith, length-flat old, length-flat mid, g.more) in
    record {
      more = omega (arith, g.more);
      is = f ∙ ap (λ xs. xs ++ zeros 4096) g.is ∙ append_assoc (flat old) (zeros (length (flat mid) - length (flat old))) (zeros 4096)
          ∙ ap (λ ys. flat old ++ ys) (replicate-append-replicate (length (flat mid) - length (flat old)) 4096 0 ∙ ap zeros (omega arith));
    }
