-- Bytes of a process, and the frame of a signal.
use Rattle.std.proofs.Common.{◌≡◌, ℕ, zero, suc, ◌+◌, ◌-◌, ◌%◌, ◌<◌, ◌≤◌, ◌^◌, List, [], ◌∷◌, ◌++◌, refl, ap, ◌∙◌, sym, arith, Option, Some, None, Result, Ok, Err, true, false, length, take, drop}
use Rattle.std.specs.Prelude.{is_ok, slice_set, slice_index}
use Rattle.std.specs.Result.{result_unwrap_or}
use Rattle.std.proofs.lemmas.List.{take_more_set, take_all}
use Rattle.std.proofs.Math.ListN.{get_or-append, length-append}
use Rattle.std.proofs.Math.Seq.{get_or-append_seam, drop-cons}
use Rattle.page_set.specs.Pages.{PageMap, refusal, wrapped, with_bytes, bytes_4}
use Rattle.user_spec.specs.Words.{sum_of}
use Rattle.user_spec.specs.Request.{frame_word, frame_registers, with_words}

none_some : (a : ℕ) → (let o : Option ℕ = None in o ≡ Some a) → ⊥
none_some a e = cc

pub refused_is : (r : Result (List ℕ) ℕ) (addr : ℕ) → refusal r ≡ Some addr → false ≡ is_ok r
refused_is (Ok bytes) addr e = absurd (none_some addr e)
refused_is (Err a) addr e = refl

pub granted_is : (r : Result (List ℕ) ℕ) → refusal r ≡ None → true ≡ is_ok r
granted_is (Ok bytes) e = refl
granted_is (Err a) e = absurd (none_some (a % 2 ^ 32) (sym e))

pub read_is : (r : Result (List ℕ) ℕ) (bytes : List ℕ) → wrapped r ≡ Ok bytes → bytes ≡ result_unwrap_or r []
read_is (Ok b) bytes e = cc
read_is (Err a) bytes e = absurd (let f : (let x : Result (List ℕ) ℕ = Err (a % 2 ^ 32) in x ≡ Ok bytes) = e in cc)

pub unread_is : (r : Result (List ℕ) ℕ) (addr : ℕ) → wrapped r ≡ Err addr → [] ≡ result_unwrap_or r []
unread_is (Ok b) addr e = absurd (let f : (let x : Result (List ℕ) ℕ = Ok b in x ≡ Err addr) = e in cc)
unread_is (Err a) addr e = refl

-- ---- the registers of a frame

frame_more : (n : ℕ) (pages : PageMap) (at i : ℕ) → frame_registers pages at i (n + 1) ≡ frame_registers pages at i n ++ frame_word pages at (i + n) ∷ []
unfolding frame_registers
frame_more zero pages at i = let e : i ≡ i + 0 = omega arith in ap (λ k. frame_word pages at k ∷ []) e
frame_more (suc n) pages at i =
    let e : suc n + 1 ≡ suc (n + 1) = omega arith in
    let f : i + 1 + n ≡ i + suc n = omega arith in
    ap (frame_registers pages at i) e ∙ ap (λ xs. frame_word pages at i ∷ xs) (frame_more n pages at (i + 1)) ∙ ap (λ k. frame_word pages at i ∷ (frame_registers pages at (i + 1) n ++ frame_word pages at k ∷ [])) f

pub loaded_none : (x : List ℕ) (pages : PageMap) (at i : ℕ) → x ≡ 0 ∷ drop 1 x → i ≡ 1 → take i x ≡ 0 ∷ frame_registers pages at 1 (i - 1)
unfolding frame_registers
loaded_none x pages at i e is = ap (λ n. take n x) is ∙ ap (take 1) e ∙ ap (λ n. 0 ∷ frame_registers pages at 1 (n - 1)) (sym is)

pub loaded_one : (x new : List ℕ) (pages : PageMap) (at i v : ℕ) → 1 ≤ i → i < length x → take i x ≡ 0 ∷ frame_registers pages at 1 (i - 1) → v ≡ frame_word pages at i → new ≡ slice_set x i v → take (i + 1) new ≡ 0 ∷ frame_registers pages at 1 (i + 1 - 1)
loaded_one x new pages at i v low lt h is e =
    let a : 1 + (i - 1) ≡ i = omega arith in
    let b : i - 1 + 1 ≡ i + 1 - 1 = omega arith in
    ap (take (i + 1)) e
    ∙ take_more_set x i v lt
    ∙ ap (λ xs. xs ++ v ∷ []) h
    ∙ ap (λ w. 0 ∷ (frame_registers pages at 1 (i - 1) ++ w ∷ [])) (is ∙ ap (frame_word pages at) (sym a))
    ∙ ap (λ xs. 0 ∷ xs) (sym (frame_more (i - 1) pages at 1) ∙ ap (frame_registers pages at 1) b)

pub loaded_all : (x : List ℕ) (pages : PageMap) (at i : ℕ) → i ≡ 32 → length x ≡ 32 → take i x ≡ 0 ∷ frame_registers pages at 1 (i - 1) → x ≡ 0 ∷ frame_registers pages at 1 31
loaded_all x pages at i is len h =
    let e : i - 1 ≡ 31 = omega arith in
    sym (take_all i x (omega arith)) ∙ h ∙ ap (λ n. 0 ∷ frame_registers pages at 1 n) e

-- ---- the words of a frame that is pushed

pub first_word : (pc i mask : ℕ) (x : List ℕ) → i ≡ 0 → pc ≡ slice_index (pc ∷ (drop 1 x ++ mask ∷ [])) i
first_word pc i mask x e = ap (slice_index (pc ∷ (drop 1 x ++ mask ∷ []))) (sym e)

tail_at : (y : ℕ) (ys : List ℕ) (i : ℕ) → 0 < i → (pc : ℕ) → slice_index (y ∷ ys) i ≡ slice_index (pc ∷ ys) i
tail_at y ys zero h pc = absurd (omega arith)
tail_at y ys (suc i) h pc = refl

middle : (pc i mask : ℕ) (y : ℕ) (ys : List ℕ) → 0 < i → i < suc (length ys) → slice_index (y ∷ ys) i ≡ slice_index (pc ∷ (ys ++ mask ∷ [])) i
middle pc zero mask y ys low lt = absurd (omega arith)
middle pc (suc i) mask y ys low lt = sym (get_or-append ys (mask ∷ []) 0 i (omega arith))

pub middle_word : (pc i mask : ℕ) (x : List ℕ) → 0 < i → i < length x → slice_index x i ≡ slice_index (pc ∷ (drop 1 x ++ mask ∷ [])) i
middle_word pc i mask [] low lt = absurd (omega arith)
middle_word pc i mask (y ∷ ys) low lt = middle pc i mask y ys low lt

last_at : (pc mask : ℕ) (ys : List ℕ) (n : ℕ) → n ≡ length ys → mask ≡ slice_index (pc ∷ (ys ++ mask ∷ [])) (suc n)
last_at pc mask ys n e = sym (ap (λ k. slice_index (ys ++ mask ∷ []) k) e ∙ get_or-append_seam ys mask [] 0)

pub last_word : (pc i mask : ℕ) (x : List ℕ) → i ≡ 32 → length x ≡ 32 → mask ≡ slice_index (pc ∷ (drop 1 x ++ mask ∷ [])) i
last_word pc i mask [] e len = absurd (omega arith)
last_word pc i mask (y ∷ ys) e len = last_at pc mask ys 31 (omega arith) ∙ ap (slice_index (pc ∷ (ys ++ mask ∷ []))) (sym e)

words_len : (pc mask : ℕ) (x : List ℕ) → length x ≡ 32 → length (pc ∷ (drop 1 x ++ mask ∷ [])) ≡ 33
words_len pc mask [] len = absurd (omega arith)
words_len pc mask (y ∷ ys) len = let e : length (ys ++ mask ∷ []) ≡ length ys + 1 = length-append ys (mask ∷ []) in omega (arith, e)

drop_all : (ws : List ℕ) → drop (length ws) ws ≡ []
drop_all [] = refl
drop_all (w ∷ ws) = drop_all ws

pub words_all : (start m : PageMap) (at place i pc mask : ℕ) (x : List ℕ) → 33 ≤ i → i ≤ 33 → length x ≡ 32 → with_words m place (drop i (pc ∷ (drop 1 x ++ mask ∷ []))) ≡ with_words start at (pc ∷ (drop 1 x ++ mask ∷ [])) → m ≡ with_words start at (pc ∷ (drop 1 x ++ mask ∷ []))
unfolding with_words
words_all start m at place i pc mask x low high len h =
    let ws : List ℕ = pc ∷ (drop 1 x ++ mask ∷ []) in
    let n : i ≡ length ws = omega (arith, words_len pc mask x len) in
    let d : drop i ws ≡ [] = ap (λ k. drop k ws) n ∙ drop_all ws in
    sym (ap (with_words m place) d) ∙ h

words_next : (start m new : PageMap) (at place i w : ℕ) (ws : List ℕ) → i < length ws → w ≡ slice_index ws i → new ≡ with_bytes m place (bytes_4 w) → with_words m place (drop i ws) ≡ with_words start at ws → with_words new (sum_of place 4) (drop (i + 1) ws) ≡ with_words start at ws
unfolding with_words
words_next start m new at place i w ws lt is e h =
    let s : i + 1 ≡ suc i = omega arith in
    ap (λ k. with_words new (sum_of place 4) (drop k ws)) s
    ∙ ap (λ x. with_words x (sum_of place 4) (drop (suc i) ws)) (e ∙ ap (λ v. with_bytes m place (bytes_4 v)) is)
    ∙ sym (ap (with_words m place) (drop-cons ws i 0 lt))
    ∙ h

pub words_one : (start m new : PageMap) (at place i w pc mask : ℕ) (x : List ℕ) → i < 33 → length x ≡ 32 → w ≡ slice_index (pc ∷ (drop 1 x ++ mask ∷ [])) i → new ≡ with_bytes m place (bytes_4 w) → with_words m place (drop i (pc ∷ (drop 1 x ++ mask ∷ []))) ≡ with_words start at (pc ∷ (drop 1 x ++ mask ∷ [])) → with_words new (sum_of place 4) (drop (i + 1) (pc ∷ (drop 1 x ++ mask ∷ []))) ≡ with_words start at (pc ∷ (drop 1 x ++ mask ∷ []))
words_one start m new at place i w pc mask x lt len is e h = words_next start m new at place i w (pc ∷ (drop 1 x ++ mask ∷ [])) (omega (arith, words_len pc mask x len)) is e h
