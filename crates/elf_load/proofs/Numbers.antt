-- Numbers in the file.
use Rattle.std.proofs.Common.{◌≡◌, ℕ, zero, suc, ◌+◌, ◌*◌, ◌<◌, ◌≤◌, List, [], ◌∷◌, refl, ap, ◌∙◌, sym, arith, length, take, drop, get_or, drop-cons, slice_index}
use Rattle.page_set.specs.Pages.{little}
use Rattle.byteorder.specs.Endian.{little_from, little_number}
use Rattle.elf_load.specs.Image.{number_at}

-- the number in the n bytes from place i
little_is : (n i : ℕ) (xs : List ℕ) → i + n ≤ length xs → little_from i n xs ≡ little (take n (drop i xs))
little_is zero i xs h = refl
little_is (suc n) i xs h =
    let lt : i < length xs = omega arith in
    ap (λ x. slice_index xs i + 256 * x) (little_is n (suc i) xs (omega arith))
    ∙ sym (ap (λ l. little (take (suc n) l)) (drop-cons xs i 0 lt))

pub number_is : (n at : ℕ) (file : List ℕ) → n ≤ length (drop at file) → little_number n (drop at file) ≡ number_at n file at
number_is n at file h = little_is n 0 (drop at file) (omega arith)
