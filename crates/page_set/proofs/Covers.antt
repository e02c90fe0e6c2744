-- Bytes page by page, without wrapping.
use Rattle.std.proofs.Common.{◌≡◌, ◌⊎◌, inl, inr, ℕ, zero, suc, ◌+◌, ◌-◌, ◌/◌, ◌%◌, ◌^◌, ◌<◌, ◌≤◌, List, [], ◌∷◌, ◌++◌, refl, ap, ◌∙◌, sym, arith, Bool, true, false, Option, Some, None, Result, Ok, Err, length, slice_index, take, append_assoc}
use borrow.Rule.Slice.PartMut.{put_mid}
use Rattle.std.proofs.lemmas.Slice.{take-put_mid}
use Rattle.page_set.proofs.Parts.{length-part}
use Rattle.page_set.specs.Pages.{PageMap, byte_at, flat_at, behind, with_front, refusal}
use Rattle.page_set.specs.declared.frame.Frame.{Frame}
use Rattle.page_set.specs.Tree.{Tree, frame_at, pages_of, grants, has_right, part}
use Rattle.page_set.proofs.Accesses.{byte_at_above, byte_refused, byte_granted, next_page, next_at}

false_true : false ≡ true → ⊥
false_true e = cc

behind_nothing : (r : Result (List ℕ) ℕ) → r ≡ behind [] r
behind_nothing (Ok bytes) = refl
behind_nothing (Err addr) = refl

behind_front : (b at : ℕ) (front : List ℕ) (r : Result (List ℕ) ℕ) → with_front (Some b) at (behind front r) ≡ behind (b ∷ front) r
behind_front b at front (Ok bytes) = refl
behind_front b at front (Err addr) = refl

behind_behind : (xs ys : List ℕ) (r : Result (List ℕ) ℕ) → behind xs (behind ys r) ≡ behind (xs ++ ys) r
behind_behind xs ys (Ok bytes) = ap (λ (zs : List ℕ). Ok zs) (sym (append_assoc xs ys bytes))
behind_behind xs ys (Err addr) = refl

refusal_behind : (xs : List ℕ) (r : Result (List ℕ) ℕ) → refusal (behind xs r) ≡ refusal r
refusal_behind xs (Ok bytes) = refl
refusal_behind xs (Err addr) = refl

flat_zero : (pages : PageMap) (right addr at n rest : ℕ) → n ≡ rest → at ≡ addr → flat_at pages right addr n ≡ behind [] (flat_at pages right at rest)
flat_zero pages right addr at n rest en ea =
    ap (flat_at pages right addr) en ∙ ap (λ a. flat_at pages right a rest) (sym ea) ∙ behind_nothing (flat_at pages right at rest)

flat_byte : (pages : PageMap) (right addr n k b : ℕ) → n ≡ suc k → byte_at pages right addr ≡ Some b → flat_at pages right addr n ≡ with_front (Some b) addr (flat_at pages right (addr + 1) k)
flat_byte pages right addr n k b e h = ap (flat_at pages right addr) e ∙ ap (λ o. with_front o addr (flat_at pages right (addr + 1) k)) h

-- the first k of n bytes lie in one page that has the right
pub flat_piece : (k n rest at : ℕ) (tree : Tree) (right addr : ℕ) (f : Frame) → n ≡ k + rest → at ≡ addr + k → frame_at tree (addr / 4096) ≡ Some f → grants right f ≡ true → addr < 2 ^ 32 → addr % 4096 + k ≤ 4096 → flat_at (pages_of tree) right addr n ≡ behind (part k f.bytes (addr % 4096)) (flat_at (pages_of tree) right at rest)
flat_piece zero n rest at tree right addr f en ea is g lt h = flat_zero (pages_of tree) right addr at n rest (omega arith) (omega arith)
flat_piece (suc zero) n rest at tree right addr f en ea is g lt h =
    let b = slice_index f.bytes (addr % 4096) in
    flat_byte (pages_of tree) right addr n rest b (omega arith) (byte_granted tree right addr f lt is g)
    ∙ ap (with_front (Some b) addr) (flat_zero (pages_of tree) right (addr + 1) at rest rest refl (omega arith))
    ∙ behind_front b addr [] (flat_at (pages_of tree) right at rest)
flat_piece (suc (suc k)) n rest at tree right addr f en ea is g lt h =
    let b = slice_index f.bytes (addr % 4096) in
    flat_byte (pages_of tree) right addr n (suc k + rest) b (omega arith) (byte_granted tree right addr f lt is g)
    ∙ ap (with_front (Some b) addr) (flat_piece (suc k) (suc k + rest) rest at tree right (addr + 1) f refl (omega arith) (ap (frame_at tree) (next_page addr k h) ∙ is) g (omega arith) (omega arith))
    ∙ behind_front b addr (part (suc k) f.bytes ((addr + 1) % 4096)) (flat_at (pages_of tree) right at rest)
    ∙ ap (λ p. behind (b ∷ part (suc k) f.bytes p) (flat_at (pages_of tree) right at rest)) (next_at addr k h)

-- ---- whether bytes are covered

refused_byte : (pages : PageMap) (right at n : ℕ) → 0 < n → byte_at pages right at ≡ None → refusal (flat_at pages right at n) ≡ Some (at % 2 ^ 32)
refused_byte pages right at zero lt h = absurd (omega arith)
refused_byte pages right at (suc n) lt h = ap (λ o. refusal (with_front o at (flat_at pages right (at + 1) n))) h

pub refused_above : (tree : Tree) (right at left : ℕ) → 0 < left → 2 ^ 32 ≤ at → refusal (flat_at (pages_of tree) right at left) ≡ Some (at % 2 ^ 32)
refused_above tree right at left some h = refused_byte (pages_of tree) right at left some (byte_at_above tree right at h)

pub refused_here : (tree : Tree) (right at left : ℕ) → 0 < left → at < 2 ^ 32 → has_right right (frame_at tree (at / 4096)) ≡ false → refusal (flat_at (pages_of tree) right at left) ≡ Some (at % 2 ^ 32)
refused_here tree right at left some below h = refused_byte (pages_of tree) right at left some (byte_refused tree right at below h)

covered_at : (tree : Tree) (right at next left rest count : ℕ) (o : Option Frame) → left ≡ count + rest → next ≡ at + count → frame_at tree (at / 4096) ≡ o → at < 2 ^ 32 → at % 4096 + count ≤ 4096 → has_right right o ≡ true → refusal (flat_at (pages_of tree) right at left) ≡ refusal (flat_at (pages_of tree) right next rest)
covered_at tree right at next left rest count None el en is below fits h = absurd (false_true h)
covered_at tree right at next left rest count (Some f) el en is below fits h =
    ap refusal (flat_piece count left rest next tree right at f el en is h below fits) ∙ refusal_behind (part count f.bytes (at % 4096)) (flat_at (pages_of tree) right next rest)

-- bytes of a page that has the right are passed over
pub page_covered : (tree : Tree) (right at next left rest count : ℕ) → left ≡ count + rest → next ≡ at + count → at < 2 ^ 32 → at % 4096 + count ≤ 4096 → has_right right (frame_at tree (at / 4096)) ≡ true → refusal (flat_at (pages_of tree) right at left) ≡ refusal (flat_at (pages_of tree) right next rest)
page_covered tree right at next left rest count el en below fits h = covered_at tree right at next left rest count (frame_at tree (at / 4096)) el en refl below fits h

true_or_false : (b : Bool) → (b ≡ true) ⊎ (b ≡ false)
true_or_false true = inl refl
true_or_false false = inr refl

lt_or_le : (q n : ℕ) → (q < n) ⊎ (n ≤ q)
lt_or_le q n = grind arith

-- ---- reading what is covered

none_some : (a : ℕ) → (let o : Option ℕ = None in o ≡ Some a) → ⊥
none_some a e = cc

-- the first byte of what is covered lies in a page that has the right
pub covered_page : (tree : Tree) (right at n : ℕ) (o : Option Frame) → frame_at tree (at / 4096) ≡ o → 0 < n → at < 2 ^ 32 → refusal (flat_at (pages_of tree) right at n) ≡ None → has_right right o ≡ true
covered_page tree right at n o is some lt h = elim (true_or_false (has_right right o)) as (λ _. has_right right o ≡ true) [
  | inl has ↦ has
  | inr lacks ↦ absurd (none_some (at % 2 ^ 32) (sym h ∙ refused_byte (pages_of tree) right at n some (byte_refused tree right at lt (ap (has_right right) is ∙ lacks))))
]

pub covered_below : (tree : Tree) (right at n : ℕ) → 0 < n → refusal (flat_at (pages_of tree) right at n) ≡ None → at < 2 ^ 32
covered_below tree right at n some h = elim (lt_or_le at (2 ^ 32)) as (λ _. at < 2 ^ 32) [
  | inl lt ↦ lt
  | inr le ↦ absurd (none_some (at % 2 ^ 32) (sym h ∙ refused_byte (pages_of tree) right at n some (byte_at_above tree right at le)))
]

-- a page that is not there has no right
pub not_covered : (tree : Tree) (right at n : ℕ) → 0 < n → at < 2 ^ 32 → refusal (flat_at (pages_of tree) right at n) ≡ None → frame_at tree (at / 4096) ≡ None → ⊥
not_covered tree right at n some lt h none = false_true (covered_page tree right at n None none some lt h)

granted_piece : (tree : Tree) (right at n count : ℕ) (f : Frame) → frame_at tree (at / 4096) ≡ Some f → count ≤ n → 0 < n → at < 2 ^ 32 → at % 4096 + count ≤ 4096 → refusal (flat_at (pages_of tree) right at n) ≡ None → flat_at (pages_of tree) right at n ≡ behind (part count f.bytes (at % 4096)) (flat_at (pages_of tree) right (at + count) (n - count))
granted_piece tree right at n count f is le some lt h covered =
    flat_piece count n (n - count) (at + count) tree right at f (omega arith) refl is (covered_page tree right at n (Some f) is some lt covered) lt h

-- what is left after a piece is covered
pub left_more : (tree : Tree) (right at n left count : ℕ) (f : Frame) → left ≡ n - count → frame_at tree (at / 4096) ≡ Some f → count ≤ n → 0 < n → at < 2 ^ 32 → at % 4096 + count ≤ 4096 → refusal (flat_at (pages_of tree) right at n) ≡ None → refusal (flat_at (pages_of tree) right (at + count) left) ≡ None
left_more tree right at n left count f e is le some lt h covered =
    ap (λ k. refusal (flat_at (pages_of tree) right (at + count) k)) e
    ∙ sym (refusal_behind (part count f.bytes (at % 4096)) (flat_at (pages_of tree) right (at + count) (n - count)))
    ∙ ap refusal (sym (granted_piece tree right at n count f is le some lt h covered))
    ∙ covered

-- and the piece stands behind what was read before
pub read_more : (tree : Tree) (right at n left count done k : ℕ) (f : Frame) (into piece : List ℕ) → left ≡ n - count → frame_at tree (at / 4096) ≡ Some f → count ≤ n → 0 < n → at < 2 ^ 32 → at % 4096 + count ≤ 4096 → done ≤ length into → piece ≡ part count f.bytes (at % 4096) → refusal (flat_at (pages_of tree) right at n) ≡ None → behind (take done into) (flat_at (pages_of tree) right at n) ≡ behind (take (done + count) (put_mid done k into piece)) (flat_at (pages_of tree) right (at + count) left)
read_more tree right at n left count done k f into piece e is le some lt h within here covered =
    let long : length piece ≡ count = ap length here ∙ length-part count f.bytes (at % 4096) in
    ap (behind (take done into)) (granted_piece tree right at n count f is le some lt h covered ∙ ap (λ i. behind (part count f.bytes (at % 4096)) (flat_at (pages_of tree) right (at + count) i)) (sym e))
    ∙ behind_behind (take done into) (part count f.bytes (at % 4096)) (flat_at (pages_of tree) right (at + count) left)
    ∙ ap (λ xs. behind (take done into ++ xs) (flat_at (pages_of tree) right (at + count) left)) (sym here)
    ∙ ap (λ xs. behind xs (flat_at (pages_of tree) right (at + count) left)) (sym (take-put_mid done k into piece (done + count) (omega (arith, long)) within))
