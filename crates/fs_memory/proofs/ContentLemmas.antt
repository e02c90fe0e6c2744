-- A file's bytes in its blocks, read and written.
use Rattle.std.proofs.Common.{◌≡◌, ◌⊎◌, inl, inr, ℕ, zero, suc, ◌+◌, ◌*◌, ◌-◌, ◌<◌, ◌≤◌, min, max, List, [], ◌∷◌, ◌++◌, length, take, drop, replicate, refl, sym, ap, ◌∙◌, arith, append_assoc, length-append, length-drop, length-take}
use Rattle.std.proofs.lemmas.Bool.{cases_lt}
use Rattle.std.proofs.lemmas.List.{append-nil, take-append-drop, length-take-le, take_all, take-take, take_at, take-append-le, drop_at, drop-take, length-replicate, replicate-append-replicate, drop-replicate}
use Rattle.fs_memory.specs.Blocks.{Blocks, flat, spliced, zeros, written, IsContent, IsGrown}
use Rattle.fs_memory.proofs.BlockLemmas.{length-flat, length-spliced}

-- ---- reading

pub read_fits : (blocks : Blocks) (len at want count : ℕ) → IsContent blocks len → at < len → count ≡ min want (len - at) → at + count ≤ 4096 * length blocks
read_fits blocks len at want count c h e = omega (arith, c.fits, length-flat blocks)

pub read_is : (blocks : Blocks) (len at want count : ℕ) → at < len → count ≡ min want (len - at) → take count (drop at (flat blocks)) ≡ take want (drop at (take len (flat blocks)))
read_is blocks len at want count h e =
    let rest = drop at (flat blocks) in
    let l : at + (len - at) ≡ len = omega arith in
    let d : drop at (take len (flat blocks)) ≡ take (len - at) rest = ap (λ k. drop at (take k (flat blocks))) (sym l) ∙ drop-take at (len - at) (flat blocks) in
    elim (cases_lt (len - at) want) [
      | inl lt ↦
          let few : length (take (len - at) rest) ≤ want = omega (arith, length-take (len - at) rest) in
          ap (λ k. take k rest) (omega arith) ∙ sym (ap (take want) d ∙ take_all want (take (len - at) rest) few)
      | inr le ↦ ap (λ k. take k rest) (omega arith) ∙ sym (ap (take want) d ∙ take-take want (len - at) rest le)
    ]

-- ---- writing

drop-zeros : (n : ℕ) (xs : List ℕ) (r : ℕ) → drop n (xs ++ zeros r) ≡ drop n xs ++ zeros (r - (n - length xs))
drop-zeros zero xs r = ap (λ k. xs ++ zeros k) (omega arith)
drop-zeros (suc n) [] r = drop-replicate (suc n) r 0 ∙ ap zeros (omega arith)
drop-zeros (suc n) (x ∷ xs) r = drop-zeros n xs r ∙ ap (λ k. drop n xs ++ zeros k) (omega arith)

spliced-zeros : (xs part : List ℕ) (at r : ℕ) → at ≤ length xs → spliced (xs ++ zeros r) at part ≡ spliced xs at part ++ zeros (r - (at + length part - length xs))
spliced-zeros xs part at r le =
    rw (take-append-le at xs (zeros r) le, drop-zeros (at + length part) xs r) (simp append_assoc)

size-spliced : (xs part : List ℕ) (at : ℕ) → at ≤ length xs → length (spliced xs at part) ≡ max (length xs) (at + length part)
size-spliced xs part at le = simp (length-append, length-take, length-drop) (omega arith)

-- the blocks after a write are the file's new bytes and zeros
record Written (blocks : Blocks) (len : ℕ) (bytes : List ℕ) : Type 0 where
  rest : ℕ
  is : flat blocks ≡ bytes ++ zeros rest
  len_is : len ≡ length bytes

written_content : (blocks : Blocks) (len : ℕ) (bytes : List ℕ) → Written blocks len bytes → IsContent blocks len × (take len (flat blocks) ≡ bytes)
written_content blocks len bytes w =
    let l : length (flat blocks) ≡ length bytes + w.rest = ap length w.is ∙ length-append bytes (zeros w.rest) ∙ ap (λ k. length bytes + k) (length-replicate {A = ℕ} w.rest 0) in
    let r : length (flat blocks) - len ≡ w.rest = omega (arith, w.len_is) in (
      record {
        fits = omega (arith, w.len_is);
        clear = ap (drop len) w.is ∙ drop_at bytes (zeros w.rest) len (sym w.len_is) ∙ ap zeros (sym r);
      },
      ap (take len) w.is ∙ take_at bytes (zeros w.rest) len (sym w.len_is),
    )

-- the blocks before it, once blocks were added
grown_content : (old mid : Blocks) (len : ℕ) → IsContent old len → IsGrown old mid → Written mid len (take len (flat old))
grown_content old mid len c g =
    let n : length (take len (flat old)) ≡ len = length-take-le len (flat old) c.fits in
    record {
      rest = (length (flat old) - len) + (length (flat mid) - length (flat old));
      is = g.is
          ∙ ap (λ xs. xs ++ zeros (length (flat mid) - length (flat old))) (sym (take-append-drop len (flat old)) ∙ ap (λ xs. take len (flat old) ++ xs) c.clear)
          ∙ append_assoc (take len (flat old)) (zeros (length (flat old) - len)) (zeros (length (flat mid) - length (flat old)))
          ∙ ap (λ xs. take len (flat old) ++ xs) (replicate-append-replicate (length (flat old) - len) (length (flat mid) - length (flat old)) 0);
      len_is = sym n;
    }

write_content : (mid new : Blocks) (len now : ℕ) (bytes part : List ℕ) (at : ℕ) → Written mid len bytes → flat new ≡ spliced (flat mid) at part → at + length part ≤ length (flat mid) → now ≡ max len (at + length part) → Written new now (spliced (bytes ++ zeros (at - length bytes)) at part)
write_content mid new len now bytes part at w is fits m =
    let l : length (flat mid) ≡ length bytes + w.rest = ap length w.is ∙ length-append bytes (zeros w.rest) ∙ ap (λ k. length bytes + k) (length-replicate {A = ℕ} w.rest 0) in
    let wide = bytes ++ zeros (at - length bytes) in
    let wide_len : length wide ≡ length bytes + (at - length bytes) = length-append bytes (zeros (at - length bytes)) ∙ ap (λ k. length bytes + k) (length-replicate {A = ℕ} (at - length bytes) 0) in
    let left = w.rest - (at - length bytes) in
    let sum : w.rest ≡ (at - length bytes) + left = omega arith in
    let split : flat mid ≡ wide ++ zeros left =
    w.is ∙ ap (λ k. bytes ++ zeros k) sum ∙ ap (λ xs. bytes ++ xs) (sym (replicate-append-replicate (at - length bytes) left 0)) ∙ sym (append_assoc bytes (zeros (at - length bytes)) (zeros left)) in
    let size = size-spliced wide part at (omega (arith, wide_len)) in
    record {
      rest = left - (at + length part - length wide);
      is = is ∙ ap (λ xs. spliced xs at part) split ∙ spliced-zeros wide part at left (omega (arith, wide_len));
      len_is = omega (arith, m, size, wide_len, w.len_is);
    }

written_is : (bytes part : List ℕ) (at : ℕ) → 0 < length part → written bytes at part ≡ spliced (bytes ++ zeros (at - length bytes)) at part
written_is bytes [] at h = absurd (omega arith)
written_is bytes (b ∷ part) at h = refl

pub after_write : (old mid new : Blocks) (len now at : ℕ) (part : List ℕ) → IsContent old len → IsGrown old mid → at + length part ≤ 4096 * length mid → flat new ≡ spliced (flat mid) at part → now ≡ max len (at + length part) → 0 < length part → IsContent new now × (take now (flat new) ≡ written (take len (flat old)) at part)
after_write old mid new len now at part c g fits is m some =
    let w = write_content mid new len now (take len (flat old)) part at (grown_content old mid len c g) is (omega (arith, length-flat mid)) m in
    let p = written_content new now (spliced (take len (flat old) ++ zeros (at - length (take len (flat old)))) at part) w in
    (p.0, p.1 ∙ sym (written_is (take len (flat old)) part at some))
