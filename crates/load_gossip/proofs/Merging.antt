-- What stands where after a merge.
use Rattle.std.proofs.Common.{◌≡◌, ℕ, zero, suc, ◌+◌, ◌*◌, ◌<◌, List, [], ◌∷◌, Option, length, take, slice_get, refl, ap, ◌∙◌, arith}
use Rattle.call_table.specs.declared.process.Entry.{Entry}
use Rattle.load_gossip.specs.Vectors.{merged}

twice_suc : (i : ℕ) → 2 * suc i ≡ suc (suc (2 * i))
twice_suc i = omega arith

pub merged_own : (xs ys : List (Option Entry)) (i : ℕ) → i < length xs → i < length ys → slice_get (merged xs ys) (2 * i) ≡ slice_get xs i
merged_own [] ys i h g = absurd (omega arith)
merged_own (x ∷ xs) [] i h g = absurd (omega arith)
merged_own (x ∷ xs) (y ∷ ys) zero h g = refl
merged_own (x ∷ xs) (y ∷ ys) (suc i) h g = ap (slice_get (x ∷ y ∷ merged xs ys)) (twice_suc i) ∙ merged_own xs ys i (omega arith) (omega arith)

pub merged_told : (xs ys : List (Option Entry)) (i : ℕ) → i < length xs → i < length ys → slice_get (merged xs ys) (2 * i + 1) ≡ slice_get ys i
merged_told [] ys i h g = absurd (omega arith)
merged_told (x ∷ xs) [] i h g = absurd (omega arith)
merged_told (x ∷ xs) (y ∷ ys) zero h g = refl
merged_told (x ∷ xs) (y ∷ ys) (suc i) h g =
    let e : 2 * suc i + 1 ≡ suc (suc (2 * i + 1)) = omega arith in
    ap (slice_get (x ∷ y ∷ merged xs ys)) e ∙ merged_told xs ys i (omega arith) (omega arith)

pub get_taken : (n : ℕ) (xs : List (Option Entry)) (i : ℕ) → i < n → slice_get (take n xs) i ≡ slice_get xs i
get_taken zero xs i h = absurd (omega arith)
get_taken (suc n) [] i h = refl
get_taken (suc n) (x ∷ xs) zero h = refl
get_taken (suc n) (x ∷ xs) (suc i) h = get_taken n xs i (omega arith)

pub hear_own : (old half told new : List (Option Entry)) → half ≡ take 4 old → new ≡ merged half told → length half ≡ 4 → length told ≡ 4 → (i : ℕ) → i < 4 → slice_get new (2 * i) ≡ slice_get old i
hear_own old half told new e f l m i h =
    ap (λ (w : List (Option Entry)). slice_get w (2 * i)) f ∙ (merged_own half told i (omega arith) (omega arith) ∙ (ap (λ (w : List (Option Entry)). slice_get w i) e ∙ get_taken 4 old i h))

pub hear_told : (half told new : List (Option Entry)) → new ≡ merged half told → length half ≡ 4 → length told ≡ 4 → (i : ℕ) → i < 4 → slice_get new (2 * i + 1) ≡ slice_get told i
hear_told half told new f l m i h = ap (λ (w : List (Option Entry)). slice_get w (2 * i + 1)) f ∙ merged_told half told i (omega arith) (omega arith)
