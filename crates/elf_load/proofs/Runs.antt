-- A run of bytes written to a page.
use Rattle.std.proofs.Common.{◌≡◌, ◌≢◌, ◌⊎◌, inl, inr, ℕ, zero, suc, ◌+◌, ◌-◌, ◌<◌, ◌≤◌, List, [], ◌∷◌, ◌++◌, refl, ap, ◌∙◌, sym, arith, length, take, drop, get_or, slice_index, Bool, true, false, cond, nat_lt, nat_le, ◌&&◌, replicate, min}
use Rattle.std.proofs.lemmas.List.{get_or-take, get_or-drop, get_or_past, length-take, length-replicate, get_or-append_right, get_or_append_left, get_or-replicate, take_min, drop_min, length-take-le, length-append}
use Rattle.std.proofs.lemmas.Bool.Decides.{nat_tests, leb_tells}
use borrow.Rule.Slice.PartMut.{put_mid}
use Rattle.elf_load.specs.Parts.{after_write}

pub part_is : (file : List ℕ) (from limit : ℕ) → take (min limit (length (drop (min from (length file)) file))) (drop (min from (length file)) file) ≡ take limit (drop from file)
part_is file from limit = take_min limit (drop (min from (length file)) file) ∙ ap (take limit) (drop_min from file)

-- a byte of the first n
pub part_byte : (n : ℕ) (xs : List ℕ) (i : ℕ) → slice_index (take n xs) i ≡ cond (nat_lt i n) (slice_index xs i) 0
part_byte n xs i =
    elim (leb_tells (suc i) n) as (λ _. slice_index (take n xs) i ≡ cond (nat_lt i n) (slice_index xs i) 0) [
      | inl e ↦ let lt = e.1 in get_or-take n xs i 0 lt ∙ sym (ap (λ b. cond b (slice_index xs i) 0) e.0)
      | inr e ↦ let le : length (take n xs) ≤ i = omega (arith, length-take n xs, e.1) in get_or_past (take n xs) i 0 le ∙ sym (ap (λ b. cond b (slice_index xs i) 0) e.0)
    ]

pub cond_same : (a b : Bool) (x y z : ℕ) → a ≡ b → (a ≡ true → x ≡ y) → cond a x z ≡ cond b y z
cond_same true b x y z e h = h refl ∙ ap (λ c. cond c y z) e
cond_same false b x y z e h = ap (λ c. cond c y z) e

-- an element below, within and above a part that was written
put_below : (a k : ℕ) (xs ys : List ℕ) (i : ℕ) → i < a → a ≤ length xs → slice_index (put_mid a k xs ys) i ≡ slice_index xs i
put_below a k xs ys i lt le =
    let within : i < length (take a xs) = omega (arith, length-take a xs) in
    get_or_append_left (take a xs) (ys ++ drop k (drop a xs)) 0 i within ∙ get_or-take a xs i 0 lt

put_within : (a k : ℕ) (xs ys : List ℕ) (i : ℕ) → a ≤ i → i < a + length ys → a ≤ length xs → slice_index (put_mid a k xs ys) i ≡ slice_index ys (i - a)
put_within a k xs ys i from lt le =
    let inside : i - a < length ys = omega arith in
    get_or-append_right (take a xs) (ys ++ drop k (drop a xs)) a i 0 (length-take-le a xs le) from ∙ get_or_append_left ys (drop k (drop a xs)) 0 (i - a) inside

put_above : (a k : ℕ) (xs ys : List ℕ) (i : ℕ) → a + k ≤ i → length ys ≡ k → a ≤ length xs → slice_index (put_mid a k xs ys) i ≡ slice_index xs i
put_above a k xs ys i from len le =
    let first : a ≤ i = omega arith in
    let second : k ≤ i - a = omega arith in
    let place : a + (k + ((i - a) - k)) ≡ i = omega arith in
    get_or-append_right (take a xs) (ys ++ drop k (drop a xs)) a i 0 (length-take-le a xs le) first
    ∙ get_or-append_right ys (drop k (drop a xs)) k (i - a) 0 len second
    ∙ get_or-drop k (drop a xs) ((i - a) - k) 0 ∙ get_or-drop a xs (k + ((i - a) - k)) 0 ∙ ap (slice_index xs) place

length_put : (a k : ℕ) (xs ys : List ℕ) → a ≤ length xs → a + length ys ≤ length (put_mid a k xs ys)
length_put a k xs ys le = omega (arith, length-append (take a xs) (ys ++ drop k (drop a xs)), length-append ys (drop k (drop a xs)), length-take-le a xs le)

chosen : (b : Bool) (x y : ℕ) → b ≡ true → x ≡ cond b x y
chosen b x y e = sym (ap (λ c. cond c x y) e)

passed : (b : Bool) (x y : ℕ) → b ≡ false → y ≡ cond b x y
passed b x y e = sym (ap (λ c. cond c x y) e)

not_yet : (at end k : ℕ) → k < at → (nat_le at k && nat_lt k end) ≡ false
not_yet at end k h = grind (arith, nat_tests)

no_more : (at end k : ℕ) → end ≤ k → (nat_le at k && nat_lt k end) ≡ false
no_more at end k h = grind (arith, nat_tests)

now_in : (at end k : ℕ) → at ≤ k → k < end → (nat_le at k && nat_lt k end) ≡ true
now_in at end k h e = grind (arith, nat_tests)

lt_or_le : (a b : ℕ) → (a < b) ⊎ (b ≤ a)
lt_or_le a b = grind arith

-- zeros behind a run of bytes that was written
zeros_behind : (old once source : List ℕ) (at end len k : ℕ) → at + len ≤ length once → (len ≤ end - at) → (at + len < end → len ≡ length source)
    → (k < at → slice_index once k ≡ slice_index old k) → (at ≤ k → k < at + len → slice_index once k ≡ slice_index source (k - at)) → (at + len ≤ k → slice_index once k ≡ slice_index old k)
    → at ≤ end → slice_index (put_mid (at + len) (end - (at + len)) once (replicate (end - (at + len)) 0)) k ≡ after_write old at end source k
zeros_behind old once source at end len k room fits all below within above order =
    let n = end - (at + len) in
    let zeros : List ℕ = replicate n 0 in
    let long : length zeros ≡ n = length-replicate n 0 in
    let test = nat_le at k && nat_lt k end in
    elim (lt_or_le k at) as (λ _. slice_index (put_mid (at + len) n once zeros) k ≡ after_write old at end source k) [
      | inl lt ↦
          let before : k < at + len = omega arith in
          put_below (at + len) n once zeros k before room ∙ below lt ∙ passed test (slice_index source (k - at)) (slice_index old k) (not_yet at end k lt)
      | inr from ↦ elim (lt_or_le k (at + len)) as (λ _. slice_index (put_mid (at + len) n once zeros) k ≡ after_write old at end source k) [
        | inl lt ↦
            let before : k < end = omega arith in
            put_below (at + len) n once zeros k lt room ∙ within from lt ∙ chosen test (slice_index source (k - at)) (slice_index old k) (now_in at end k from before)
        | inr over ↦ elim (lt_or_le k end) as (λ _. slice_index (put_mid (at + len) n once zeros) k ≡ after_write old at end source k) [
          | inl lt ↦
              let inside : k < (at + len) + length zeros = omega (arith, long) in
              let index : k - (at + len) < n = omega arith in
              let some : at + len < end = omega arith in
              let past : length source ≤ k - at = omega (arith, all some) in
              put_within (at + len) n once zeros k over inside room ∙ get_or-replicate n (k - (at + len)) 0 0 index ∙ sym (get_or_past source (k - at) 0 past)
              ∙ chosen test (slice_index source (k - at)) (slice_index old k) (now_in at end k from lt)
          | inr beyond ↦
              let rest : (at + len) + n ≤ k = omega arith in
              put_above (at + len) n once zeros k rest long room ∙ above over ∙ passed test (slice_index source (k - at)) (slice_index old k) (no_more at end k beyond)
        ]
      ]
    ]

-- a run of bytes, and zeros behind it
put_twice : (old source : List ℕ) (at end len k : ℕ) → at ≤ end → end ≤ length old → len ≡ min (length source) (end - at) → slice_index (put_mid (at + len) (end - (at + len)) (put_mid at len old (take len source)) (replicate (end - (at + len)) 0)) k ≡ after_write old at end source k
put_twice old source at end len k order e is =
    let few : len ≤ length source = omega arith in
    let part : length (take len source) ≡ len = length-take-le len source few in
    let low : at ≤ length old = omega arith in
    let room : at + len ≤ length (put_mid at len old (take len source)) = omega (arith, length_put at len old (take len source) low, part) in
    let fits : len ≤ end - at = omega arith in
    zeros_behind old (put_mid at len old (take len source)) source at end len k room fits (λ some. omega arith) (λ lt. put_below at len old (take len source) k lt low)
    (λ from lt. let inside : k < at + length (take len source) = omega (arith, part) in let short : k - at < len = omega arith in put_within at len old (take len source) k from inside low ∙ get_or-take len source (k - at) 0 short)
    (λ over. put_above at len old (take len source) k over part low) order

pub run_is : (old new source : List ℕ) (at end len k : ℕ) → at ≤ end → end ≤ length old → len ≡ min (length source) (end - at) → new ≡ put_mid (at + len) (end - (at + len)) (put_mid at (at + len - at) old (take len source)) (replicate (end - (at + len)) 0) → slice_index new k ≡ after_write old at end source k
run_is old new source at end len k order e is h =
    let size : at + len - at ≡ len = omega arith in
    ap (λ xs. slice_index xs k) h
    ∙ ap (λ n. slice_index (put_mid (at + len) (end - (at + len)) (put_mid at n old (take len source)) (replicate (end - (at + len)) 0)) k) size
    ∙ put_twice old source at end len k order e is
